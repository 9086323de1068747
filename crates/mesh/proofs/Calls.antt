-- The mesh call and the loops call, where the grid check refuses and where it accepts.
use Rattle.std.specs.Prelude.{Ok, Err}
use Prim.Native.Nat.{ℕ}
use mathlib.Core.Path.{◌≡◌, refl, ap, ap₂, ◌∙◌}
use mathlib.Core.Bool.{true, false}
use mathlib.Core.List.{List}
use lib.ListN.{length}
use Rattle.answer.specs.Refusal.{refusal_numbers}
use Rattle.answer.specs.declared.Refusal.{Refusal}
use Rattle.counting.specs.Stored.{stored_in}
use Rattle.cell.specs.Words.{all_words}
use Rattle.grid.specs.Grid.{Grid}
use Rattle.slots.specs.Limits.{most_slots}
use Rattle.slots.specs.work.Limits.{most_edges}
use Rattle.grid.specs.Check.{check_numbers}
use Rattle.grid.specs.Rows.{grid_answer, accepts}
use Rattle.grid.specs.work.Tables.{Laid}
use Rattle.grid.proofs.Filled.{refused_keeps, told_accepts, told_sound}
use Rattle.mesh.specs.Mesh.{mesh_words}
use Rattle.mesh.specs.work.Drawn.{table_loop, Drawn}
use Rattle.mesh.specs.Room.{room_answer}
use Rattle.mesh.specs.Answer.{mesh_answer, mesh_area, loops_answer}
use Rattle.mesh.specs.Done.{Done}
use Rattle.mesh.proofs.Demand.{demand3}
use Rattle.mesh.proofs.Tables.{Tabled, tabled, triangles_are, splits_are, loop_is}

module _ (G : Grid) where
  module _ (r : Refusal) (q : check_numbers (Err r) ≡ grid_answer G) where
    keeps : accepts G ≡ false
    keeps = refused_keeps G r q

    pub refused_done : (area : List ℕ) → Done G area area (refusal_numbers r)
    unfolding mesh_answer mesh_area
    refused_done area = record { answered = rw keeps q; area = rw keeps; demand = demand3 }

    pub refused_loops : (c k : ℕ) → refusal_numbers r ≡ loops_answer G c k
    unfolding loops_answer
    refused_loops c k = rw keeps q

  module _ (n : ℕ) (q : check_numbers (Ok n) ≡ grid_answer G) (names₀ sides₀ names sides : List ℕ) (ln : length names₀ ≡ most_slots) (ls : length sides₀ ≡ most_edges)
      (o : Laid G names₀ sides₀ names sides) where
    accepted : accepts G ≡ true
    accepted = told_accepts G (Ok n) n refl q

    tables : Tabled G names sides
    tables = tabled G names₀ sides₀ names sides (told_sound G (Ok n) n refl q) accepted ln ls o

    pub drawn_done : (before after answer : List ℕ) → Drawn G.cells G.counts names sides G.starts before after answer → Done G before after answer
    unfolding mesh_answer mesh_area mesh_words
    drawn_done before after answer d = record {
      answered = rw accepted (d.answered ∙ ap₂ (λ m n. room_answer m n (length before)) (triangles_are tables) (splits_are tables));
      area = rw accepted (d.area ∙ ap (λ m. stored_in before 0 (all_words m)) (triangles_are tables));
      demand = demand3;
    }

    pub told_loops : (c k : ℕ) → table_loop G.cells G.counts names sides G.starts c k ≡ loops_answer G c k
    unfolding loops_answer
    told_loops c k = rw accepted (loop_is tables c k)

-- The numbers tell the answer; segments could alternate; the splits are few; the loops of a cell are ordered by p0.
use Rattle.std.specs.Prelude.{Option, Some, None, Result, Ok, Err}
use Prim.Native.Nat.{ℕ, ◌*◌}
use mathlib.Core.Path.{◌≡◌, sym, ap, ap₂, ◌∙◌}
use mathlib.Core.List.{List, [], ◌∷◌}
use lib.Dec.{ltb, leb}
use lib.ListN.{length, drop}
use Rattle.answer.specs.Answer.{result_of, refusal}
use Rattle.answer.specs.declared.Refusal.{Refusal}
use Rattle.answer.proofs.Answer.{no_nil, pick_some}
use Rattle.answer.proofs.Numbers.{row_not, refusal_tells, answer_tells}
use Rattle.face.proofs.Rim.{alternating}
use Rattle.cell.specs.declared.Cell.{Cell}
use Rattle.cell.specs.declared.Loop.{Loop}
use Rattle.cell.specs.Of.{edges_of}
use Rattle.cell.specs.Loop.{leasts, loop_told, loop_answer}
use Rattle.cell.proofs.Claims.{one_to_one, ordered}
use Rattle.cell.specs.declared.Triangle.{Triangle}
use Rattle.cell.specs.Words.{word_count}
use Rattle.grid.specs.Grid.{Grid, cell_count}
use Rattle.grid.specs.Rows.{accepts, grid_answer}
use Rattle.grid.proofs.Accepts.{acceptance_yields}
use Rattle.grid.proofs.Claims.{never_empty}
use Rattle.split.proofs.Claims.{splits_few, drawn_ordered}
use Rattle.mesh.specs.declared.sizes.Mesh.{Mesh}
use Rattle.mesh.specs.Mesh.{grid_cell, mesh_triangles, mesh_splits}
use Rattle.mesh.specs.Room.{room_answer}
use Rattle.mesh.specs.Asked.{cell_loop, asked_loop}
use Rattle.mesh.specs.Answer.{mesh_answer, loops_answer}
use Rattle.mesh.specs.Numbers.{mesh_numbers, loops_numbers}
use Rattle.mesh.specs.claims.Claims.{MeshTold, LoopsTold, CanAlternate, FewSplits, LoopsOrdered, PartsOrdered}
use Rattle.mesh.proofs.Complex.{separate, fit}

-- there is always an answer
module _ (G : Grid) where
  pub mesh_some : (room : ℕ) → [] ≡ mesh_answer G room → ⊥
  unfolding mesh_answer room_answer
  mesh_some room =
      pick_some (accepts G) (room_answer mesh (mesh_splits G) room) (grid_answer G)
      (pick_some (leb (word_count * length mesh) room) (result_of (length mesh ∷ mesh_splits G ∷ [])) (refusal 12 (length mesh)) no_nil no_nil)
      (never_empty G)
    where
      mesh : List Triangle
      mesh = mesh_triangles G

  loop_some : (c : Cell) (k : ℕ) → [] ≡ cell_loop c k → ⊥
  unfolding loop_answer loop_told
  loop_some c k = go (drop k (leasts (edges_of c)))
    where
      go : (l : List ℕ) → [] ≡ loop_told (edges_of c) c.nodes l → ⊥
      go [] q = no_nil q
      go (p ∷ l) q = no_nil q

  pub loops_some : (c k : ℕ) → [] ≡ loops_answer G c k → ⊥
  unfolding loops_answer asked_loop
  loops_some c k =
      pick_some (accepts G) (asked_loop (grid_cell G) (cell_count G.cells) c k) (grid_answer G)
      (pick_some (ltb c (cell_count G.cells)) (cell_loop (grid_cell G c) k) (refusal 11 c) (loop_some (grid_cell G c) k) no_nil)
      (never_empty G)

-- two answers with one reading
module _ (answer : List ℕ) where
  sized : ℕ → ℕ → Mesh
  sized t s = record { triangles = t; splits = s }

  same : (m n : Mesh) → m.triangles ∷ m.splits ∷ [] ≡ n.triangles ∷ n.splits ∷ [] → m ≡ n
  unfolding sized
  same m n e =
      let t : m.triangles ≡ n.triangles = cc in
      let s : m.splits ≡ n.splits = cc in
      ap₂ sized t s

  pub mesh_tells : (r s : Result Mesh Refusal) → mesh_numbers r ≡ answer → mesh_numbers s ≡ answer → r ≡ s
  mesh_tells r s a b = answer_tells (λ m. m.triangles ∷ m.splits ∷ []) same r s (a ∙ sym b)

pub mesh_told : MeshTold
mesh_told G room = mesh_tells (mesh_answer G room)

pub loops_told : LoopsTold
loops_told G c k r s a b = loops_tell r s (a ∙ sym b)
  where
    loops_tell : (r s : Result (Option Loop) Refusal) → loops_numbers r ≡ loops_numbers s → r ≡ s
    loops_tell (Ok l) (Ok m) e = ap Ok (one_to_one.loops l m e)
    loops_tell (Ok (Some l)) (Err r) e = absurd (row_not r.row cc)
    loops_tell (Ok None) (Err r) e = absurd (row_not r.row cc)
    loops_tell (Err r) (Ok (Some l)) e = absurd (row_not r.row cc)
    loops_tell (Err r) (Ok None) e = absurd (row_not r.row cc)
    loops_tell (Err r) (Err s) e = ap Err (refusal_tells r s e)

pub can_alternate : CanAlternate
can_alternate = alternating

pub few_splits : FewSplits
unfolding mesh_splits
few_splits G = splits_few.sum (cell_count G.cells) (grid_cell G)

pub loops_ordered : LoopsOrdered
loops_ordered G total e c l =
    ordered (edges_of (grid_cell G c)) (separate G (acceptance_yields G (total ∷ []) e).sound c l)

pub parts_ordered : PartsOrdered
parts_ordered G total e c x lc lx = drawn_ordered (grid_cell G c) (fit G (acceptance_yields G (total ∷ []) e).sound c lc) x lx

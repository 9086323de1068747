-- One run is drawn into the area in its own names, which are then put over.
use Prim.Native.Nat.{ℕ, ◌+◌, ◌-◌, ◌*◌, ◌≤◌}
use mathlib.Core.Path.{◌≡◌, sym, ap, ◌∙◌}
use mathlib.Core.List.{List}
use native.Mathlib.Omega.{arith}
use lib.ListN.{length, get_or, take, drop, length-map}
use lib.Seq.{sets, length-sets}
use Rattle.counting.specs.Stored.{stored_in}
use Rattle.counting.specs.work.Stored.{Stored}
use Rattle.counting.proofs.Stored.{stored_room}
use Rattle.counting.proofs.Stores.{get_or_sets_in, sets_again}
use Rattle.cell.specs.Renaming.{Renaming, renamed}
use Rattle.cell.specs.Words.{word_count, all_words}
use Rattle.cell.proofs.Storing.{length_all}
use Rattle.grid.specs.Grid.{Grid}
use Rattle.split.specs.work.Table.{table_drawn}
use Rattle.layers.specs.Runs.{keep_inner, into_whole, crossing_in_whole, run_triangles, run_renamed}
use Rattle.layers.specs.work.Work.{RunLaid, CrossingsNumbered, triangles_over, table_names, table_over, JoinableRun}
use Rattle.layers.proofs.Laying.{table_renamed, part-triangles}
use Rattle.layers.proofs.Over.{list_over, run_over}

module _ {G : Grid} {names sides : List ℕ} {from size m at room : ℕ} {u : List ℕ} (J : JoinableRun G names sides from size m at room u) {names' sides' starts' used : List ℕ}
    (L : RunLaid G.counts names sides from size m names' sides' starts' used) (area : List ℕ) (lr : length area ≡ room) where
  abbrev drawn : ℕ
  drawn = length (run_triangles G from size)

  long : length (all_words (run_triangles G from size)) ≡ word_count * drawn
  long = length_all (run_triangles G from size)

  room_for : at + length (all_words (run_triangles G from size)) ≤ length area
  room_for = omega (arith, J.fits, long)

  module _ {t : ℕ} {mid : List ℕ} (te : t ≡ length (table_drawn (take (4 * from + 4 * size - 4 * from) (drop (4 * from) G.cells)) G.counts names' sides' starts'))
      (me : mid ≡ stored_in area at (all_words (table_drawn (take (4 * from + 4 * size - 4 * from) (drop (4 * from) G.cells)) G.counts names' sides' starts'))) where
    pub many : t ≡ drawn
    many = te ∙ ap length (part-triangles J.run_of L)

    mid_is : mid ≡ sets area at (all_words (run_triangles G from size))
    mid_is = me ∙ ap (λ l. stored_in area at (all_words l)) (part-triangles J.run_of L) ∙ (stored_room area at (all_words (run_triangles G from size)) room_for).area

    pub put_room : at + word_count * t ≤ length mid
    put_room = omega (arith, J.fits, many, ap length mid_is, length-sets area at (all_words (run_triangles G from size)))

    same_long : length (all_words (run_renamed G from size)) ≡ length (all_words (run_triangles G from size))
    unfolding run_renamed
    same_long =
        length_all (run_renamed G from size) ∙ ap (λ n. word_count * n) (length-map (run_triangles G from size) (renamed (keep_inner (into_whole G from size)))) ∙ sym long

    module _ {table : List ℕ} (O : CrossingsNumbered (crossing_in_whole G from size) G.counts sides from (6 * size) starts' table) where
      abbrev into : Renaming
      into = table_over names table from

      words_over : triangles_over into mid at t ≡ all_words (run_renamed G from size)
      words_over =
          ap (triangles_over into mid at) many
          ∙ list_over into mid (run_triangles G from size) at
          (λ j h. ap (λ l. get_or l (at + j) 0) mid_is ∙ get_or_sets_in (all_words (run_triangles G from size)) area at j 0 (omega (arith, long)) room_for)
          ∙ run_over G from size J.run_of.tables.sound J.run_of.run (table_names names table from) (λ c l. table_renamed J.run_of.tables from size J.run_of.run L table O c l)

      pub run_joined : {after : List ℕ} → after ≡ sets mid at (triangles_over (table_over names table from) mid at t) → Stored area at (all_words (run_renamed G from size)) after (at + word_count * t)
      run_joined {after} e = record {
        area =
            e ∙ ap (sets mid at) words_over ∙ ap (λ (l : List ℕ). sets l at (all_words (run_renamed G from size))) mid_is
            ∙ sets_again (all_words (run_renamed G from size)) (all_words (run_triangles G from size)) area at same_long room_for;
        after = omega (arith, same_long, long, many);
      }

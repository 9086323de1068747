-- Rows 15 to 17, as the code judges them.
use Rattle.std.specs.Prelude.{Option, Some, None}
use Prim.Native.Nat.{ℕ, suc, ◌*◌, ◌≤◌, ◌<◌}
use mathlib.Core.Path.{◌≡◌, sym, ap, ◌∙◌}
use mathlib.Core.Bool.{Bool, true, false}
use mathlib.Core.List.{List, [], ◌∷◌}
use native.Mathlib.Omega.{arith}
use lib.Dec.{ltb}
use lib.ListN.{length}
use lib.Ieee.{Float}
use borrow.Author.Tests.{lt-ltb, le-ltb, eq-eqb, ne_eqb}
use Rattle.answer.specs.Answer.{result_of, refusal}
use Rattle.answer.proofs.Rows.{row_passes, row_refuses, row_found, row_clear, rows_end, whole_fault, whole_fine}
use Rattle.counting.specs.Pick.{pick}
use Rattle.counting.specs.Search.{last}
use Rattle.counting.specs.work.Search.{found}
use Rattle.slots.specs.Limits.{highest_node}
use Rattle.grid.specs.Grid.{crossings}
use Rattle.place.specs.Place.{coordinates}
use Rattle.places.specs.Rows.{highest, node_end, bad_place_lists, bad_number, bad_fraction}
use Rattle.places.specs.Answer.{place_rows, rows_answer}
use Rattle.places.specs.work.Work.{NodesMarked, is_marked, bad_marked, Reaching, Judgeable}
use Rattle.places.proofs.Nodes.{highest_small}
use Rattle.places.proofs.Marks.{end_is, row_16_is}

module _ (cells counts : List ℕ) (nodes fractions : List Float) (needed room : ℕ) where
  abbrev answer : List ℕ
  answer = rows_answer cells counts nodes fractions needed room

  abbrev Bad : Bool → Type 0
  Bad b = bad_place_lists cells counts nodes fractions needed room ≡ b

  -- row 15: one of three lengths
  module _ (end n : ℕ) (e : end ≡ node_end cells) (c : n ≡ crossings counts) where
    nodes_bad : length nodes < coordinates * end → Bad true
    unfolding bad_place_lists
    nodes_bad h = rw (lt-ltb (length nodes) (coordinates * node_end cells) (omega (arith, e)))

    module _ (a : coordinates * end ≤ length nodes) where
      fractions_bad : (length fractions ≡ n → ⊥) → Bad true
      unfolding bad_place_lists
      fractions_bad h = rw (le-ltb (length nodes) (coordinates * node_end cells) (omega (arith, e)), ne_eqb (length fractions) (crossings counts) (λ q. h (q ∙ sym c)))

      module _ (b : length fractions ≡ n) where
        area_bad : room < coordinates * needed → Bad true
        unfolding bad_place_lists
        area_bad h = rw (le-ltb (length nodes) (coordinates * node_end cells) (omega (arith, e)), eq-eqb (length fractions) (crossings counts) (b ∙ c), lt-ltb room (coordinates * needed) h)

        lists_good : coordinates * needed ≤ room → Bad false
        unfolding bad_place_lists
        lists_good h = rw (le-ltb (length nodes) (coordinates * node_end cells) (omega (arith, e)), eq-eqb (length fractions) (crossings counts) (b ∙ c), le-ltb room (coordinates * needed) h)

  row_15 : Bad true → refusal 15 0 ≡ answer
  unfolding rows_answer place_rows
  row_15 h = row_refuses _ _ _ 0 (whole_fault _ h) (omega arith)

  module _ (g : Bad false) where
    row_16 : (i : ℕ) → Some i ≡ found (bad_number cells nodes) (coordinates * node_end cells) → refusal 16 i ≡ answer
    unfolding rows_answer place_rows
    row_16 i e = row_found _ _ _ i e ∙ row_passes _ _ _ 1 (whole_fine _ g) (omega arith)

    module _ (e : None ≡ found (bad_number cells nodes) (coordinates * node_end cells)) where
      row_17 : (x : ℕ) → Some x ≡ found (bad_fraction counts fractions) (crossings counts) → refusal 17 x ≡ answer
      unfolding rows_answer place_rows
      row_17 x f = row_found _ _ _ x f ∙ row_clear _ _ _ e ∙ row_passes _ _ _ 1 (whole_fine _ g) (omega arith)

      no_row : None ≡ found (bad_fraction counts fractions) (crossings counts) → result_of (needed ∷ []) ≡ answer
      unfolding rows_answer place_rows
      no_row f = rows_end _ ∙ row_clear _ _ _ f ∙ row_clear _ _ _ e ∙ row_passes _ _ _ 1 (whole_fine _ g) (omega arith)

-- the highest node, by the table
module _ (cells counts : List ℕ) (n : ℕ) (J : Judgeable cells counts n) (used : List ℕ) (M : NodesMarked cells used) (end : ℕ) (e : end ≡ last (is_marked used) (length used)) where
  highest_fits : highest cells ≤ highest_node
  highest_fits = highest_small cells highest_node J.nodes

  end_known : end ≡ node_end cells
  end_known = e ∙ end_is cells used M J.fours J.some highest_fits

  pub end_small : end ≤ suc highest_node
  end_small = omega (arith, end_known, highest_fits)

  pub table_reaches : (nodes : List Float) → coordinates * end ≤ length nodes → Reaching used nodes end
  table_reaches nodes h = record { table = omega (arith, end_small, M.long); list = h }

  -- the code's cases
  module _ (nodes fractions : List Float) (needed room : ℕ) where
    pub short_nodes : length nodes < coordinates * end → refusal 15 0 ≡ rows_answer cells counts nodes fractions needed room
    short_nodes h = row_15 cells counts nodes fractions needed room (nodes_bad cells counts nodes fractions needed room end n end_known J.all h)

    module _ (a : coordinates * end ≤ length nodes) where
      pub other_fractions : (length fractions ≡ n → ⊥) → refusal 15 0 ≡ rows_answer cells counts nodes fractions needed room
      other_fractions h = row_15 cells counts nodes fractions needed room (fractions_bad cells counts nodes fractions needed room end n end_known J.all a h)

      module _ (b : length fractions ≡ n) where
        pub short_area : room < coordinates * needed → refusal 15 0 ≡ rows_answer cells counts nodes fractions needed room
        short_area h = row_15 cells counts nodes fractions needed room (area_bad cells counts nodes fractions needed room end n end_known J.all a b h)

        module _ (d : coordinates * needed ≤ room) where
          good : bad_place_lists cells counts nodes fractions needed room ≡ false
          good = lists_good cells counts nodes fractions needed room end n end_known J.all a b d

          -- what is found by the table
          number_known : {r : Option ℕ} → r ≡ found (bad_marked used nodes) (coordinates * end) → r ≡ found (bad_number cells nodes) (coordinates * node_end cells)
          unfolding found
          number_known f = f ∙ ap (λ x. pick (ltb x (coordinates * end)) (Some x) None) (row_16_is cells used M nodes end end_small) ∙ ap (λ k. found (bad_number cells nodes) (coordinates * k)) end_known

          pub bad_number_found : (i : ℕ) → Some i ≡ found (bad_marked used nodes) (coordinates * end) → refusal 16 i ≡ rows_answer cells counts nodes fractions needed room
          bad_number_found i f = row_16 cells counts nodes fractions needed room good i (number_known f)

          module _ (f : None ≡ found (bad_marked used nodes) (coordinates * end)) where
            pub bad_fraction_found : (x : ℕ) → Some x ≡ found (bad_fraction counts fractions) (crossings counts) → refusal 17 x ≡ rows_answer cells counts nodes fractions needed room
            bad_fraction_found x q = row_17 cells counts nodes fractions needed room good (number_known f) x q

            pub none_found : None ≡ found (bad_fraction counts fractions) (crossings counts) → result_of (needed ∷ []) ≡ rows_answer cells counts nodes fractions needed room
            none_found q = no_row cells counts nodes fractions needed room good (number_known f) q

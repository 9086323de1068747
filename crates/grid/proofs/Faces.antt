-- The faces of the cells by their keys: row 5, and the slots across.
use Prim.Native.Nat.{ℕ, ◌%◌, ◌*◌, ◌+◌, ◌-◌, ◌/◌, ◌<◌, ◌≤◌}
use mathlib.Core.Path.{◌∙◌, ◌≡◌, ap, sym}
use mathlib.Core.Logic.{◌≢◌}
use mathlib.Core.Bool.{Bool, true}
use mathlib.Core.List.{List}
use native.Mathlib.Omega.{arith}
use lib.Dec.{eqb, ltb}
use lib.ListN.{get_or, length}
use borrow.Author.Tests.{eq-eqb, eqb-true, ne_eqb}
use Rattle.counting.specs.Search.{count, first, some}
use Rattle.counting.proofs.Search.{AtMostOne, count_blocks, count_ext, count_none, count_plus, first_blocks, first_ext, some_ext}
use Rattle.grid.specs.Grid.{cell_count, has_face, same_face}
use Rattle.grid.specs.Rows.{crowded}
use Rattle.grid.specs.work.Work.{Across, Mates, Neighbours, RisingCells, third_at}
use Rattle.counting.specs.work.Tables.{same_key}
use Rattle.grid.specs.work.Walks.{SameFrom, Slots}
use Rattle.grid.proofs.Packed.{face_eqb, one_slot}

module _ (cells : List ℕ) (good : RisingCells cells) (keys : List ℕ) (w : Slots (cell_count cells) (SameFrom 0 cells) keys) where
  -- equal keys are one face
  pub keys_face : (d t c s : ℕ) → d < cell_count cells → t < 4 → c < cell_count cells → s < 4
      → same_face cells d t c s ≡ eqb (get_or keys (4 * d + t) 0) (get_or keys (4 * c + s) 0)
  keys_face = face_eqb cells keys (cell_count cells) w

  -- two slots of a cell have different keys
  apart : (c t s : ℕ) → c < cell_count cells → t < 4 → s < 4 → get_or keys (4 * c + t) 0 ≡ get_or keys (4 * c + s) 0 → t ≡ s
  apart c t s h lt ls e = one_slot cells good c t s h lt ls (keys_face c t c s h lt h ls ∙ eq-eqb _ _ e)

  module _ (c : ℕ) (h : c < cell_count cells) where
    abbrev T : ℕ → ℕ → Bool
    T s x = eqb (get_or keys x 0) (get_or keys (4 * c + s) 0)

    slot : (s : ℕ) → s < 4 → ltb 1 (count (has_face cells c s) c) ≡ third_at keys (4 * c + s)
    unfolding third_at same_key has_face
    slot s hs =
        ap (ltb 1) (count_ext (λ d. some (λ t. same_face cells d t c s) 4) (λ d. some (λ t. T s (4 * d + t)) 4) c
        (λ d l. some_ext (λ t. same_face cells d t c s) (λ t. T s (4 * d + t)) 4 (λ t m. keys_face d t c s (omega arith) m h hs))
        ∙ sym (count_blocks (T s) 4 c once) ∙ sym above)
      where
        once : (d : ℕ) → d < c → AtMostOne (λ t. T s (4 * d + t)) 4
        once d l i j a b p q = omega (arith, apart d i j (omega arith) (omega arith) b (eqb-true _ _ p ∙ sym (eqb-true _ _ q)))

        above : count (T s) (4 * c + s) ≡ count (T s) (4 * c)
        above =
            count_plus (T s) (4 * c) s
            ∙ rw (count_none (λ i. T s (4 * c + i)) s (λ i l. ne_eqb (get_or keys (4 * c + i) 0) (get_or keys (4 * c + s) 0) (λ q. omega (arith, apart c i s h (omega arith) hs q)))) (omega arith)

    third_keys : crowded cells c ≡ some (λ s. third_at keys (4 * c + s)) 4
    unfolding crowded
    third_keys = some_ext (λ s. ltb 1 (count (has_face cells c s) c)) (λ s. third_at keys (4 * c + s)) 4 slot

  -- what `row_5` answers
  pub third_first : first (third_at keys) (4 * cell_count cells) / 4 ≡ first (crowded cells) (cell_count cells)
  third_first =
      first_blocks (third_at keys) 4 (cell_count cells) (omega arith)
      ∙ sym (first_ext (crowded cells) (λ c. some (λ s. third_at keys (4 * c + s)) 4) (cell_count cells) third_keys)

  pub mates_near : (near : List ℕ) → 4 * cell_count cells ≤ length near → Mates keys (4 * cell_count cells) near → Neighbours cells near
  mates_near near room M = record { room = room; pair = across; all = both }
    where
      split_slot : (j : ℕ) → 4 * (j / 4) + j % 4 ≡ j
      split_slot j = omega arith

      across : (j : ℕ) → j < 4 * cell_count cells → 0 < get_or near j 0 → Across cells near j
      across j l p =
          let g = M.pair j l p in
          let x = get_or near j 0 - 1 in
          let xl : x < 4 * cell_count cells = omega (arith, g.lt, p) in
          let k : get_or keys (4 * (x / 4) + x % 4) 0 ≡ get_or keys (4 * (j / 4) + j % 4) 0 = rw (split_slot x, split_slot j) g.same in
          record {
            lt = g.lt;
            other = λ q. (
                let f : get_or keys (4 * (j / 4) + x % 4) 0 ≡ get_or keys (4 * (j / 4) + j % 4) 0 = rw q at k in
                let r = apart (j / 4) (x % 4) (j % 4) (omega arith) (omega arith) (omega arith) f in
                g.ne (omega (arith, q)));
            same = keys_face (x / 4) (x % 4) (j / 4) (j % 4) (omega arith) (omega arith) (omega arith) (omega arith) ∙ eq-eqb _ _ k;
            back = g.back;
          }

      both : (d t c s : ℕ) → d < cell_count cells → t < 4 → c < cell_count cells → s < 4 → d ≢ c → same_face cells d t c s ≡ true
          → get_or near (4 * c + s) 0 ≡ 4 * d + t + 1
      both d t c s hd ht hc hs ne e =
          M.all (4 * c + s) (4 * d + t) (omega arith) (omega arith) (λ q. ne (omega arith)) (eqb-true _ _ (sym (keys_face d t c s hd ht hc hs) ∙ e))
      -- what `row_5` leaves

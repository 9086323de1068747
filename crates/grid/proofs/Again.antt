-- Row 4 where row 5 has found nothing: a cell that equals an earlier one is across its slot 0.
use Prim.Native.Nat.{ℕ, ◌%◌, ◌*◌, ◌+◌, ◌-◌, ◌/◌, ◌<◌, ◌≤◌}
use mathlib.Core.Path.{◌∙◌, ◌≡◌, refl}
use mathlib.Core.Logic.{◌≢◌}
use mathlib.Core.Bool.{Bool, ◌&&◌, false, true}
use mathlib.Core.List.{List}
use native.Mathlib.Decide.{ℕ_discrete}
use native.Mathlib.Omega.{arith}
use lib.Dec.{eqb, ltb}
use lib.ListN.{get_or}
use borrow.Author.Tests.{eq-eqb, eqb-true, le-ltb, lt-ltb, ltb-true, ne_eqb}
use Rattle.counting.specs.Search.{every}
use Rattle.counting.proofs.Bools.{and_left, and_right, bool_same}
use Rattle.counting.proofs.Search.{every_is, is_every, some_found, some_is}
use Rattle.slots.specs.Slots.{position}
use Rattle.grid.specs.Grid.{cell_count, node, same_face}
use Rattle.grid.specs.Rows.{repeats, same_cell}
use Rattle.grid.specs.work.Work.{Neighbours, again_at}
use Rattle.grid.proofs.Packed.{same_true, true_same}
use Rattle.grid.proofs.Tellings.{position_above, position_lt}

module _ (cells near : List ℕ) (N : Neighbours cells near) (c : ℕ) (h : c < cell_count cells) where
  -- an earlier cell that is the same stands across slot 0
  to_again : repeats cells c ≡ true → again_at cells near c ≡ true
  unfolding repeats same_cell again_at
  to_again r =
      let w = some_is (λ d. every (λ i. eqb (node cells d i) (node cells c i)) 4) c r in
      let d = w.0 in
      let same : (i : ℕ) → i < 4 → node cells d i ≡ node cells c i = (λ i l. eqb-true (node cells d i) (node cells c i) (every_is (λ i. eqb (node cells d i) (node cells c i)) 4 w.2 i l)) in
      let f : same_face cells d 0 c 0 ≡ true = true_same cells d 0 c 0 (λ i l. same (position 0 i) (position_lt 0 i l)) in
      let z : 4 * c + 0 ≡ 4 * c = omega arith in
      let e : get_or near (4 * c) 0 ≡ 4 * d + 0 + 1 = rw z at (N.all d 0 c 0 (omega (arith, w.1)) (omega arith) h (omega arith) (λ q. omega (arith, w.1)) f) in
      let m : (4 * d + 0 + 1) % 4 ≡ 1 = omega arith in
      let q : (4 * d + 0 + 1) / 4 ≡ d = omega arith in
      rw (e, m, q, lt-ltb d c w.1, eq-eqb (node cells d 0) (node cells c 0) (same 0 (omega arith)))

  from_again : again_at cells near c ≡ true → repeats cells c ≡ true
  unfolding repeats same_cell again_at
  from_again a =
      let y = get_or near (4 * c) 0 in
      let p2 = and_left (eqb (y % 4) 1) (ltb (y / 4) c && eqb (node cells (y / 4) 0) (node cells c 0)) a in
      let r2 = and_right (eqb (y % 4) 1) (ltb (y / 4) c && eqb (node cells (y / 4) 0) (node cells c 0)) a in
      let p3 = and_left (ltb (y / 4) c) (eqb (node cells (y / 4) 0) (node cells c 0)) r2 in
      let p4 = and_right (ltb (y / 4) c) (eqb (node cells (y / 4) 0) (node cells c 0)) r2 in
      let o : y % 4 ≡ 1 = eqb-true (y % 4) 1 p2 in
      let s = (N.pair (4 * c) (omega arith) (omega arith)).same in
      let m : (y - 1) % 4 ≡ 0 = omega arith in
      let k : (y - 1) / 4 ≡ y / 4 = omega arith in
      let u : 4 * c / 4 ≡ c = omega arith in
      let v : 4 * c % 4 ≡ 0 = omega arith in
      let face = same_true cells (y / 4) 0 c 0 (rw (m, k, u, v) at s) in
      some_found (λ d. every (λ i. eqb (node cells d i) (node cells c i)) 4) c (y / 4) (ltb-true (y / 4) c p3)
      (is_every (λ i. eqb (node cells (y / 4) i) (node cells c i)) 4 (λ i l. elim (ℕ_discrete i 0) [
        | yes q ↦ rw q p4
        | no q ↦
            let k : i - 1 + 1 ≡ i = omega arith in
            let o = position_above 0 (i - 1) (omega arith) in
            eq-eqb _ _ (rw (o, k) at (face (i - 1) (omega arith)))
      ]))

  -- what the loop of `row_4` asks of a cell
  pub repeats_again : repeats cells c ≡ again_at cells near c
  repeats_again = bool_same (repeats cells c) (again_at cells near c) to_again from_again

  -- the cases of `again`
  module _ {x : ℕ} (e : x ≡ get_or near (4 * c) 0) where
    pub again_other : x % 4 ≢ 1 → false ≡ again_at cells near c
    unfolding again_at
    again_other n = rw (← e, ne_eqb (x % 4) 1 n)

    pub again_later : c ≤ x / 4 → false ≡ again_at cells near c
    unfolding again_at
    again_later l = rw (← e, le-ltb (x / 4) c l) (go (eqb (x % 4) 1))
      where
        go : (b : Bool) → false ≡ b && false
        go true = refl
        go false = refl

    pub again_across : x % 4 ≡ 1 → x / 4 < c → (b : Bool) → b ≡ eqb (node cells (x / 4) 0) (node cells c 0) → b ≡ again_at cells near c
    unfolding again_at
    again_across n l b q = q ∙ rw (← e, eq-eqb (x % 4) 1 n, lt-ltb (x / 4) c l)

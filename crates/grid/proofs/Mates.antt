-- The other place with the same key, where no key stands at three.
use Prim.Native.Nat.{ℕ, ◌+◌, ◌-◌, ◌<◌, ◌≤◌}
use mathlib.Core.Path.{◌∙◌, ◌≡◌, ap, sym}
use mathlib.Core.Logic.{◌≢◌, ◌⊎◌, inl, inr, ⊎_elim}
use mathlib.Core.Bool.{false, true}
use mathlib.Core.List.{List}
use native.Mathlib.Nat.{eq-or-lt_of_le, not-suc-le-zero}
use native.Mathlib.Decide.{dec_lt, ℕ_discrete}
use native.Mathlib.Omega.{arith}
use lib.ListN.{get_or, length, length-set, set}
use lib.Seq.{get_or-set_other, get_or-set_same}
use borrow.Author.Tests.{eq-eqb, eqb-false, eqb-true, le-ltb, lt-ltb}
use Rattle.counting.specs.Search.{count, last, some}
use Rattle.counting.proofs.Bools.{one_le}
use Rattle.counting.proofs.Search.{AtMostOne, count_one, count_two_of, count_zero, last_above, last_is, last_le}
use Rattle.grid.specs.work.Work.{Mate, Mates, third_at}
use Rattle.counting.specs.work.Tables.{same_key}

pub mates_none : (keys near : List ℕ) → ((i : ℕ) → get_or near i 0 ≡ 0) → Mates keys 0 near
mates_none keys near z = record { pair = λ i h. absurd (not-suc-le-zero h); all = λ i x h. absurd (not-suc-le-zero h); rest = λ i h. z i }

module _ {keys : List ℕ} {m : ℕ} {near : List ℕ} (w : Mates keys m near) where
  up_to : {i : ℕ} → i < m + 1 → (i ≡ m) ⊎ (i < m)
  up_to h = eq-or-lt_of_le (omega arith)

  -- no earlier place has the key at m
  pub third_none : 0 ≡ last (same_key keys (get_or keys m 0)) m → third_at keys m ≡ false
  unfolding third_at
  third_none z = count_zero (same_key keys (get_or keys m 0)) m (sym z)

  pub mates_alone : 0 ≡ last (same_key keys (get_or keys m 0)) m → Mates keys (m + 1) near
  unfolding same_key
  mates_alone z =
      record {
        pair = λ i h q. ⊎_elim (λ (u : i ≡ m). absurd (omega (arith, w.rest i (omega arith))))
            (λ (u : i < m). (let g = w.pair i u q in record { lt = omega (arith, g.lt); ne = g.ne; same = g.same; back = g.back })) (up_to h);
        all = λ i x h l d k. ⊎_elim
            (λ (u : i ≡ m). ⊎_elim (λ (v : x ≡ m). absurd (d (omega arith))) (λ (v : x < m). absurd (none x v (rw (← u) k))) (up_to l))
            (λ (u : i < m). ⊎_elim (λ (v : x ≡ m). absurd (none i u (sym (rw v at k)))) (λ (v : x < m). w.all i x u v d k) (up_to l))
            (up_to h);
        rest = λ i h. w.rest i (omega arith);
      }
    where
      none : (x : ℕ) → x < m → get_or keys x 0 ≡ get_or keys m 0 → ⊥
      none x v k = eqb-false (get_or keys x 0) (get_or keys m 0) (last_above (same_key keys (get_or keys m 0)) m x (omega (arith, z)) v) k

  -- p is the last earlier place with the key
  module _ (p : ℕ) (e : p + 1 ≡ last (same_key keys (get_or keys m 0)) m) where
    q_lt : p < m
    q_lt = omega (arith, e, last_le (same_key keys (get_or keys m 0)) m)

    q_key : get_or keys p 0 ≡ get_or keys m 0
    unfolding same_key
    q_key =
        let z : last (same_key keys (get_or keys m 0)) m - 1 ≡ p = omega (arith, e) in
        eqb-true (get_or keys p 0) (get_or keys m 0) (rw z at (last_is (same_key keys (get_or keys m 0)) m (omega (arith, e))))

    -- where that place has a mate, the key comes a third time
    pub third_there : 0 < get_or near p 0 → third_at keys m ≡ true
    unfolding third_at same_key
    third_there h =
        lt-ltb 1 (count (same_key keys (get_or keys m 0)) m)
        (⊎_elim (λ (f : x ≡ p). absurd (g.ne f)) (λ (l : x < p). two x p l q_lt x_key q_key) (eq-or-lt_of_le below))
      where
        g : Mate keys near m p
        g = w.pair p q_lt h

        x : ℕ
        x = get_or near p 0 - 1

        x_lt : x < m
        x_lt = omega (arith, g.lt, h)

        x_key : get_or keys x 0 ≡ get_or keys m 0
        x_key = g.same ∙ q_key

        below : x ≤ p
        below = elim (dec_lt p x) [
          | yes q ↦ absurd (eqb-false (get_or keys x 0) (get_or keys m 0) (last_above (same_key keys (get_or keys m 0)) m x (omega (arith, e)) x_lt) x_key)
          | no q ↦ omega arith
        ]

        two : (i j : ℕ) → i < j → j < m → get_or keys i 0 ≡ get_or keys m 0 → get_or keys j 0 ≡ get_or keys m 0 → 1 < count (same_key keys (get_or keys m 0)) m
        two i j a b k l = count_two_of (same_key keys (get_or keys m 0)) m i j a b (eq-eqb _ _ k) (eq-eqb _ _ l)

    module _ (fresh : get_or near p 0 ≡ 0) (room : m < length near) where
      is_q : (i : ℕ) → (i ≡ p) ⊎ (i ≢ p)
      is_q i = elim (ℕ_discrete i p) [ yes f ↦ inl f | no f ↦ inr f ]

      -- no other place below m has the key
      only : (x : ℕ) → x < m → get_or keys x 0 ≡ get_or keys m 0 → x ≡ p
      only x l k = ⊎_elim (λ f. f) (λ (f : x ≢ p). absurd (omega (arith, fresh, w.all p x q_lt l f (k ∙ sym q_key)))) (is_q x)

      pub third_not : third_at keys m ≡ false
      unfolding third_at same_key
      third_not =
          le-ltb 1 (count (same_key keys (get_or keys m 0)) m)
          (rw (count_one (same_key keys (get_or keys m 0)) m once) (one_le (some (same_key keys (get_or keys m 0)) m)))
        where
          once : AtMostOne (same_key keys (get_or keys m 0)) m
          once i j a b k l = omega (arith, only i (omega arith) (eqb-true _ _ k), only j b (eqb-true _ _ l))

      N : List ℕ
      N = set (set near m (p + 1)) p (m + 1)

      at_q : get_or N p 0 ≡ m + 1
      unfolding N
      at_q = get_or-set_same (set near m (p + 1)) p (m + 1) 0 (omega (arith, length-set near m (p + 1), q_lt))

      at_m : get_or N m 0 ≡ p + 1
      unfolding N
      at_m = get_or-set_other (set near m (p + 1)) p m (m + 1) 0 (λ f. omega (arith, q_lt, f)) ∙ get_or-set_same near m (p + 1) 0 room

      at_other : (i : ℕ) → i ≢ m → i ≢ p → get_or N i 0 ≡ get_or near i 0
      unfolding N
      at_other i a b = get_or-set_other (set near m (p + 1)) p i (m + 1) 0 b ∙ get_or-set_other near m i (p + 1) 0 a

      below_m : {i : ℕ} → i < m → i ≢ m
      below_m h f = omega arith

      pairs : (i : ℕ) → i < m + 1 → 0 < get_or N i 0 → Mate keys N (m + 1) i
      pairs i h z = ⊎_elim
          (λ (u : i ≡ m).
          let f : p + 1 - 1 ≡ p = omega arith in
          rw u (record { lt = omega (arith, at_m, q_lt); ne = λ g. omega (arith, at_m, q_lt, g); same = rw (at_m, f) q_key; back = rw (at_m, f) at_q }))
          (λ (u : i < m). ⊎_elim
          (λ (v : i ≡ p).
          let f : m + 1 - 1 ≡ m = omega arith in
          rw v (record { lt = omega (arith, at_q); ne = λ g. omega (arith, at_q, q_lt, g); same = rw (at_q, f) (sym q_key); back = rw (at_q, f) at_m }))
          (λ (v : i ≢ p).
          let o = at_other i (below_m u) v in
          let g = w.pair i u (omega (arith, o, z)) in
          let x = get_or near i 0 - 1 in
          let xm : x < m = omega (arith, g.lt, o, z) in
          let xq : x ≢ p = (λ f. omega (arith, g.back, fresh, ap (λ (y : ℕ). get_or near y 0) f)) in
          record { lt = rw o (omega (arith, g.lt)); ne = rw o g.ne; same = rw o g.same; back = rw o (at_other x (below_m xm) xq ∙ g.back) })
          (is_q i))
          (up_to h)

      every_one : (i x : ℕ) → i < m + 1 → x < m + 1 → x ≢ i → get_or keys x 0 ≡ get_or keys i 0 → get_or N i 0 ≡ x + 1
      every_one i x h l d k = ⊎_elim
          (λ (u : i ≡ m). ⊎_elim
          (λ (v : x ≡ m). absurd (d (omega arith)))
          (λ (v : x < m). rw u (at_m ∙ omega (arith, only x v (rw u at k)))) (up_to l))
          (λ (u : i < m). ⊎_elim
          (λ (v : x ≡ m). (let f : i ≡ p = only i u (sym (rw v at k)) in rw (f, v) at_q))
          (λ (v : x < m). ⊎_elim
          (λ (f : i ≡ p). absurd (omega (arith, fresh, ap (λ (y : ℕ). get_or near y 0) f, w.all i x u v d k)))
          (λ (f : i ≢ p). at_other i (below_m u) f ∙ w.all i x u v d k) (is_q i)) (up_to l))
          (up_to h)

      pub mates_two : Mates keys (m + 1) (set (set near m (p + 1)) p (m + 1))
      unfolding N
      mates_two =
          record {
            pair = pairs;
            all = every_one;
            rest = λ i h. at_other i (λ f. omega arith) (λ f. omega (arith, q_lt, f)) ∙ w.rest i (omega arith);
          }

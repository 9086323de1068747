-- Places of a cell, and of the cells along a chain.
use Prim.Native.Nat.{ℕ, ◌+◌, ◌*◌, ◌-◌, ◌/◌, ◌%◌, ◌<◌, ◌≤◌}
use mathlib.Core.Path.{◌∙◌, ◌≡◌, ap, refl}
use mathlib.Core.Logic.{inl, inr}
use mathlib.Core.List.{List}
use native.Mathlib.Decide.{dec_lt}
use native.Mathlib.Omega.{arith}
use lib.ListN.{get_or, length}
use borrow.Author.Tests.{eqb-false, eqb-true}
use Rattle.counting.specs.Search.{last}
use Rattle.counting.proofs.Search.{last_above, last_is, last_le}
use Rattle.grid.specs.work.Numbered.{Does, Numberable, Ready}
use Rattle.grid.specs.work.Walks.{Along, InSlots, Linked, Walkable, Walks, labelled}
use Rattle.grid.proofs.Turns.{does_as, does_none, does_then, ready_after, ready_one}

pub slot_in : (c a b s : ℕ) → a ≤ s → s < b → b ≤ 4 → InSlots c a b (4 * c + s)
slot_in c a b s h l m = record { cell = omega arith; low = omega arith; high = omega arith }

-- the loop of `numbers`
module _ {keys : List ℕ} {base ids₀ : ℕ} {at₀ out₀ : List ℕ} (c a b : ℕ) (four : b ≤ 4) where
  pub slots_none : Does (InSlots c a a) keys base ids₀ at₀ out₀ ids₀ at₀ out₀
  slots_none = does_none _ keys base ids₀ at₀ out₀ (λ j p. omega (arith, p.low, p.high))

  module _ {s ids : ℕ} {at out : List ℕ} (h : a ≤ s) (l : s < b) (D : Does (InSlots c a s) keys base ids₀ at₀ out₀ ids at out) where
    pub slots_ready : Ready (InSlots c a b) keys base ids₀ at₀ out₀ → Numberable keys (4 * c + s) ids at out
    slots_ready A = ready_one (ready_after A D (λ j. j ≡ 4 * c + s)
        (λ j p. record { cell = p.cell; low = p.low; high = omega (arith, p.high) })
        (λ j p. rw p (slot_in c a b s h l four))
        (λ j p q. omega (arith, p.high, q))) (4 * c + s) refl

    pub slots_more : {ids' : ℕ} {at' out' : List ℕ} → Does (λ j. j ≡ 4 * c + s) keys base ids at out ids' at' out'
        → Does (InSlots c a (s + 1)) keys base ids₀ at₀ out₀ ids' at' out'
    slots_more E = does_then D E (InSlots c a (s + 1))
        (λ j p. record { cell = p.cell; low = p.low; high = omega (arith, p.high) })
        (λ j p. rw p (slot_in c a (s + 1) s h (omega arith) (omega arith)))
        (λ j p. elim (dec_lt (j % 4) s) [ yes q ↦ inl (record { cell = p.cell; low = p.low; high = q }) | no q ↦ inr (omega (arith, p.cell, p.high)) ])
        (λ j p q. omega (arith, p.high, q))

-- the loop of `walk` stands at j: the cells from j on are done
pub record Standing (f : ℕ → ℕ) (r n a b : ℕ) (keys : List ℕ) (base ids₀ : ℕ) (at₀ out₀ : List ℕ) (ids : ℕ) (at out : List ℕ) (j : ℕ) : Type 0 where
  pub within : j ≤ n
  pub hit : 0 < j → f (j - 1) ≡ r
  pub does : Does (Along f r j n a b) keys base ids₀ at₀ out₀ ids at out

pub record Walking (head next : List ℕ) (r a b : ℕ) (keys : List ℕ) (base ids₀ : ℕ) (at₀ out₀ : List ℕ) (ids : ℕ) (at out : List ℕ) (j : ℕ) : Type 0 where
  pub over : (f : ℕ → ℕ) (T n : ℕ) → Linked f T n head next → r < T → Standing f r n a b keys base ids₀ at₀ out₀ ids at out j
  pub at_long : length at ≡ length at₀
  pub out_long : length out ≡ length out₀

-- a chain's entry: the last cell below m with the label, one more
module _ (f : ℕ → ℕ) (r m x : ℕ) (e : x ≡ last (labelled f r) m) where
  pub entry_le : x ≤ m
  entry_le = rw e (last_le (labelled f r) m)

  pub entry_is : 0 < x → f (x - 1) ≡ r
  unfolding labelled
  entry_is h = eqb-true (f (x - 1)) r (rw e (last_is (labelled f r) m (omega (arith, e))))

  pub entry_above : (y : ℕ) → x ≤ y → y < m → f y ≡ r → ⊥
  unfolding labelled
  entry_above y h l = eqb-false (f y) r (last_above (labelled f r) m y (omega (arith, e)) l)

module _ {head next : List ℕ} {r a b : ℕ} {keys : List ℕ} {base ids₀ : ℕ} {at₀ out₀ : List ℕ} where
  pub walking_start : (x : ℕ) → x ≡ get_or head r 0 → Walking head next r a b keys base ids₀ at₀ out₀ ids₀ at₀ out₀ x
  walking_start x e = record {
    over = λ f T n L h.
        let q : x ≡ last (labelled f r) n = e ∙ L.heads.at r h in
        record {
          within = entry_le f r n x q;
          hit = entry_is f r n x q;
          does = does_none _ keys base ids₀ at₀ out₀ (λ j p. entry_above f r n x q (j / 4) p.from p.to p.label);
        };
    at_long = refl;
    out_long = refl;
  }

  module _ {ids : ℕ} {at out : List ℕ} {j : ℕ} (w : Walking head next r a b keys base ids₀ at₀ out₀ ids at out j) (pos : 0 < j) where
    pub walking_ready : Walkable head next r a b keys base ids₀ at₀ out₀ → Ready (InSlots (j - 1) a b) keys base ids at out
    walking_ready A =
        let s = w.over A.f A.T A.n A.linked A.within in
        ready_after A.ready s.does (InSlots (j - 1) a b)
        (λ x p. record { label = p.label; from = omega arith; to = p.to; low = p.low; high = p.high })
        (λ x p. record { label = ap A.f p.cell ∙ s.hit pos; from = omega arith; to = omega (arith, p.cell, s.within); low = p.low; high = p.high })
        (λ x p q. omega (arith, p.from, q.cell))

    pub walking_more : {ids' : ℕ} {at' out' : List ℕ} → Does (InSlots (j - 1) a b) keys base ids at out ids' at' out' → (x : ℕ) → x ≡ get_or next (j - 1) 0
        → Walking head next r a b keys base ids₀ at₀ out₀ ids' at' out' x
    walking_more E x e = record {
      over = λ f T n L h.
          let s = w.over f T n L h in
          let q : x ≡ last (labelled f r) (j - 1) = rw (← s.hit pos) (e ∙ L.nexts.at (j - 1) (omega (arith, s.within))) in
          let xl = entry_le f r (j - 1) x q in
          record {
            within = omega (arith, s.within);
            hit = entry_is f r (j - 1) x q;
            does = does_then s.does E (Along f r x n a b)
                (λ y p. record { label = p.label; from = omega (arith, p.from); to = p.to; low = p.low; high = p.high })
                (λ y p. record { label = ap f p.cell ∙ s.hit pos; from = omega (arith, p.cell); to = omega (arith, p.cell, s.within); low = p.low; high = p.high })
                (λ y p. elim (dec_lt (y / 4) j) [
                  | yes l ↦ elim (dec_lt (y / 4) (j - 1)) [
                    | yes m ↦ absurd (entry_above f r (j - 1) x q (y / 4) p.from m p.label)
                    | no m ↦ inr (record { cell = omega arith; low = p.low; high = p.high })
                  ]
                  | no l ↦ inl (record { label = p.label; from = omega arith; to = p.to; low = p.low; high = p.high })
                ])
                (λ y p q. omega (arith, p.from, q.cell));
          };
      at_long = E.at_long ∙ w.at_long;
      out_long = E.out_long ∙ w.out_long;
    }

    -- the chain has room, and goes down
    pub walking_lt : Walkable head next r a b keys base ids₀ at₀ out₀ → j - 1 < length next
    walking_lt A = (let s = w.over A.f A.T A.n A.linked A.within in omega (arith, s.within, A.linked.nexts.room))

    pub walking_less : Walkable head next r a b keys base ids₀ at₀ out₀ → get_or next (j - 1) 0 < j
    walking_less A =
        let s = w.over A.f A.T A.n A.linked A.within in
        omega (arith, entry_le A.f (A.f (j - 1)) (j - 1) (get_or next (j - 1) 0) (A.linked.nexts.at (j - 1) (omega (arith, s.within))))

  pub walking_empty : b ≤ a → Walks head next r a b keys base ids₀ at₀ out₀ ids₀ at₀ out₀
  walking_empty h = record { over = λ f T n L l. does_none _ keys base ids₀ at₀ out₀ (λ j p. omega (arith, p.low, p.high)); at_long = refl; out_long = refl }

  pub walking_end : {ids : ℕ} {at out : List ℕ} {j : ℕ} → Walking head next r a b keys base ids₀ at₀ out₀ ids at out j → j ≤ 0
      → Walks head next r a b keys base ids₀ at₀ out₀ ids at out
  walking_end {j = j} w z = record {
    over = λ f T n L h.
        does_as (w.over f T n L h).does (Along f r 0 n a b)
        (λ y p. record { label = p.label; from = omega arith; to = p.to; low = p.low; high = p.high })
        (λ y p. record { label = p.label; from = omega arith; to = p.to; low = p.low; high = p.high });
    at_long = w.at_long;
    out_long = w.out_long;
  }

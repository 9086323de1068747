-- Rule 1: its corner counts, and that every crossing is joined round a corner.
use Prim.Native.Nat.{ℕ, ◌+◌, ◌%◌}
use mathlib.Core.Path.{◌≡◌, sym, ◌∙◌}
use mathlib.Core.Logic.{inl, inr, ◌≢◌}
use mathlib.Core.Bool.{true, ◌&&◌}
use native.Mathlib.Omega.{arith}
use lib.Dec.{eqb, leb}
use borrow.Author.Tests.{eqb-true, leb-true, eq-eqb, le-leb}
use Rattle.counting.proofs.Bools.{and_left, and_right, and_true}
use Rattle.slots.specs.Slots.{lower, upper}
use Rattle.face.specs.Face.{other, opposite, corner_count, count_on, corner_count_at, is_level}
use Rattle.face.specs.claims.Ends.{Edge, End, low, high, on_ab, on_ac, on_bc}
use Rattle.face.specs.claims.Level.{Level, LevelLaws}
use Rattle.face.proofs.Corner.{corner_half}
use Rattle.face.proofs.Ends.{other_differs}
use Rattle.face.proofs.Gaps.{gap_even}
use Rattle.face.proofs.Links.{Link, about, up, down, link}
use Rattle.face.proofs.Laws.{joined_or, even_joined}

-- the test as facts
pub level_is : (p q o : ℕ) → is_level p q o ≡ true → Level p q o
unfolding is_level
level_is p q o e =
    let r = and_right (eqb ((p + q + o) % 2) 0) (leb p (q + o) && (leb q (p + o) && leb o (p + q))) e in
    let s = and_right (leb p (q + o)) (leb q (p + o) && leb o (p + q)) r in
    record {
      even = eqb-true ((p + q + o) % 2) 0 (and_left (eqb ((p + q + o) % 2) 0) (leb p (q + o) && (leb q (p + o) && leb o (p + q))) e);
      first = leb-true p (q + o) (and_left (leb p (q + o)) (leb q (p + o) && leb o (p + q)) r);
      second = leb-true q (p + o) (and_left (leb q (p + o)) (leb o (p + q)) s);
      third = leb-true o (p + q) (and_right (leb q (p + o)) (leb o (p + q)) s);
    }

module _ {p q o : ℕ} (L : Level p q o) where
  -- and back
  pub is-level : is_level p q o ≡ true
  unfolding is_level
  is-level =
      and_true (eqb ((p + q + o) % 2) 0) (leb p (q + o) && (leb q (p + o) && leb o (p + q))) (eq-eqb ((p + q + o) % 2) 0 L.even)
      (and_true (leb p (q + o)) (leb q (p + o) && leb o (p + q)) (le-leb p (q + o) L.first)
      (and_true (leb q (p + o)) (leb o (p + q)) (le-leb q (p + o) L.second) (le-leb o (p + q) L.third)))

  pub level_turn : Level p o q
  level_turn = record { even = omega (arith, L.even); first = omega (arith, L.first); second = L.third; third = L.second }

  pub level_swap : Level q p o
  level_swap = record { even = omega (arith, L.even); first = L.second; second = L.first; third = omega (arith, L.third) }

  pub level_corner : corner_count p q o + corner_count p q o + o ≡ p + q
  level_corner = omega (arith, corner_half p q o L.first L.second L.third, L.even, L.third)

-- the edges of a face from any of its corners
pub level_end : {p q o v e : ℕ} → Level p q o → End v e → Level (count_on p q o e) (count_on p q o (other v e)) (count_on p q o (opposite v))
unfolding lower upper other opposite count_on
level_end L (low on_ab) = omega arith
level_end L (low on_ac) = omega arith
level_end L (low on_bc) = omega arith
level_end L (high on_ab) = omega arith
level_end L (high on_ac) = omega arith
level_end L (high on_bc) = omega arith

module _ {ab ac bc : ℕ} (L : Level ab ac bc) where
  pub level_full : {e : ℕ} → Edge e → corner_count_at ab ac bc (lower e) e + corner_count_at ab ac bc (upper e) e ≡ count_on ab ac bc e
  unfolding count_on lower upper other
  level_full on_ab = gap_even ab ac bc on_ab L.first L.second L.third L.even
  level_full on_ac = gap_even ab ac bc on_ac L.second L.first (omega (arith, L.third)) L.even
  level_full on_bc = gap_even ab ac bc on_bc L.third (omega (arith, L.first)) (omega (arith, L.second)) L.even

  pub level_laws : LevelLaws ab ac bc
  level_laws = record {
    full = λ e d. level_full d;
    joined = λ e t h. elim (joined_or ab ac bc e t h) [ inl j ↦ j | inr u ↦ absurd (even_joined ab ac bc L.even e t u) ];
    turns = λ e t e' t' j. away (link ab ac bc j);
  }
    where
      away : {e t e' t' : ℕ} → Link ab ac bc e t e' t' → e ≢ e'
      away (about k d h p q r) f = other_differs d (sym (f ∙ q))
      away (up d p q) f = omega (arith, d.start, d.stop, level_full d.edge)
      away (down d p q) f = omega (arith, d.start, d.stop, level_full d.edge)

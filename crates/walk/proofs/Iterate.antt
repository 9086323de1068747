-- Laws of a step taken again and again.
use Prim.Native.Nat.{ℕ, zero, suc, ◌+◌, ◌-◌, ◌≤◌, ◌<◌}
use mathlib.Core.Path.{◌≡◌, refl, sym, ap, ◌∙◌}
use mathlib.Core.Bool.{Bool}
use mathlib.Core.List.{List, [], ◌∷◌, ◌++◌}
use native.Mathlib.Nat.{zero-add, suc-add}
use native.Mathlib.Omega.{arith}
use lib.ListN.{length}
use Rattle.counting.specs.Lists.{one, total, tally, it}
use Rattle.counting.specs.work.Stored.{weigh}
use Rattle.counting.specs.claims.Lists.{All}
use Rattle.counting.proofs.Range.{total_shift}
use Rattle.counting.proofs.Lists.{tally_weigh}
use Rattle.walk.specs.Walk.{orbit}

module _ (s : ℕ → ℕ) where
  pub it_suc : (k d : ℕ) → it s (suc k) d ≡ s (it s k d)
  unfolding it
  it_suc zero d = refl
  it_suc (suc k) d = it_suc k (s d)

  pub it_add : (i j d : ℕ) → it s (i + j) d ≡ it s j (it s i d)
  unfolding it
  it_add zero j d = rw zero-add
  it_add (suc i) j d = rw suc-add (it_add i j (s d))

  -- `it s (j - i) (it s i d)`, for a difference
  pub it_sub : (i j d : ℕ) → i ≤ j → it s (j - i) (it s i d) ≡ it s j d
  it_sub i j d h = sym (it_add i (j - i) d) ∙ ap (λ (n : ℕ). it s n d) (omega arith)

module _ (s : ℕ → ℕ) where
  -- one more of a curve, at its end
  pub orbit_snoc : (k d : ℕ) → orbit s (k + 1) d ≡ orbit s k d ++ (it s k d ∷ [])
  unfolding orbit it
  orbit_snoc zero d = refl
  orbit_snoc (suc k) d = let e : suc k + 1 ≡ suc (k + 1) = omega arith in rw e (ap (λ (l : List ℕ). d ∷ l) (orbit_snoc k (s d)))

  pub length_orbit : (k d : ℕ) → length (orbit s k d) ≡ k
  unfolding orbit
  length_orbit zero d = refl
  length_orbit (suc k) d = ap suc (length_orbit k (s d))

pub weigh_orbit : (g s : ℕ → ℕ) (k d : ℕ) → weigh g (orbit s k d) ≡ total (λ i. g (it s i d)) k 0
unfolding weigh orbit total it
weigh_orbit g s zero d = refl
weigh_orbit g s (suc k) d = ap (λ m. g d + m) (weigh_orbit g s k (s d) ∙ sym (total_shift (λ i. g (it s i d)) k 0))

pub tally_orbit : (t : ℕ → Bool) (s : ℕ → ℕ) (k d : ℕ) → tally t (orbit s k d) ≡ total (λ i. one (t (it s i d))) k 0
tally_orbit t s k d = sym (tally_weigh t (orbit s k d)) ∙ weigh_orbit (λ e. one (t e)) s k d

pub all_orbit : (P : ℕ → Type 0) (s : ℕ → ℕ) (k d : ℕ) → ((i : ℕ) → i < k → P (it s i d)) → All P (orbit s k d)
unfolding All orbit it
all_orbit P s zero d h = tt
all_orbit P s (suc k) d h = (h 0 (omega arith), all_orbit P s k (s d) (λ i l. h (suc i) (omega arith)))

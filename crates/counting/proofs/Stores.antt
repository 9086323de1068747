-- The entries of a list after a run of stores, its front and its end.
use Prim.Native.Nat.{ℕ, zero, suc, ◌+◌, ◌≤◌, ◌<◌}
use mathlib.Core.Path.{◌≡◌, refl, sym, ap, ap₂, ◌∙◌}
use mathlib.Core.Logic.{◌⊎◌, inl, inr, ⊎_elim}
use mathlib.Core.List.{List, [], ◌∷◌, ◌++◌}
use native.Mathlib.Nat.{add-zero, not-suc-le-zero}
use native.Mathlib.Omega.{arith}
use lib.ListN.{length, get_or, take, drop, set, length-set}
use lib.Seq.{sets, length-sets, sets-eq, get_or-set_same, get_or-set_other, take-set-le, drop-set-lt}

module _ {A : Type 0} where
  -- outside the run
  pub get_or_sets_out : (vs l : List A) (i k : ℕ) (d : A) → (k < i) ⊎ (i + length vs ≤ k) → get_or (sets l i vs) k d ≡ get_or l k d
  get_or_sets_out [] l i k d h = refl
  get_or_sets_out (v ∷ vs) l i k d h =
      get_or_sets_out vs (set l i v) (suc i) k d (⊎_elim (λ (b : k < i). inl (omega arith)) (λ (b : i + suc (length vs) ≤ k). inr (omega arith)) h)
      ∙ get_or-set_other l i k v d (⊎_elim (λ (b : k < i) e. omega arith) (λ (b : i + suc (length vs) ≤ k) e. omega arith) h)

  -- in the run
  pub get_or_sets_in : (vs l : List A) (i k : ℕ) (d : A) → k < length vs → i + length vs ≤ length l → get_or (sets l i vs) (i + k) d ≡ get_or vs k d
  get_or_sets_in [] l i k d h b = absurd (not-suc-le-zero h)
  get_or_sets_in (v ∷ vs) l i zero d h b =
      ap (λ n. get_or (sets (set l i v) (suc i) vs) n d) (add-zero i)
      ∙ get_or_sets_out vs (set l i v) (suc i) i d (inl (omega arith)) ∙ get_or-set_same l i v d (omega arith)
  get_or_sets_in (v ∷ vs) l i (suc k) d h b =
      let e : i + suc k ≡ suc i + k = omega arith in
      ap (λ n. get_or (sets (set l i v) (suc i) vs) n d) e ∙ get_or_sets_in vs (set l i v) (suc i) k d (omega arith) (omega (arith, length-set l i v))

  -- before the run, and after it
  pub take_sets : (vs l : List A) (i n : ℕ) → n ≤ i → take n (sets l i vs) ≡ take n l
  take_sets [] l i n h = refl
  take_sets (a ∷ vs) l i n h = take_sets vs (set l i a) (suc i) n (omega arith) ∙ take-set-le n l i a h

  pub drop_sets : (vs l : List A) (i n : ℕ) → i + length vs ≤ n → drop n (sets l i vs) ≡ drop n l
  drop_sets [] l i n h = refl
  drop_sets (a ∷ vs) l i n h = drop_sets vs (set l i a) (suc i) n (omega arith) ∙ drop-set-lt n l i a (omega arith)

  -- values stored over as many others
  pub sets_again : (vs ws l : List A) (i : ℕ) → length vs ≡ length ws → i + length ws ≤ length l → sets (sets l i ws) i vs ≡ sets l i vs
  sets_again vs ws l i e h =
      sets-eq vs (sets l i ws) i (omega (arith, length-sets l i ws))
      ∙ ap₂ (λ (x y : List A). x ++ vs ++ y) (take_sets ws l i i (omega arith)) (drop_sets ws l i (i + length vs) (omega arith))
      ∙ sym (sets-eq vs l i (omega arith))

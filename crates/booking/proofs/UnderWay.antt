-- The figures of two numbers, summed split by split.
use Prim.Native.Nat.{ℕ, zero, suc, ◌+◌, ◌-◌, ◌*◌, ◌≤◌, ◌<◌, min, max}
use mathlib.Core.Path.{◌≡◌, refl, sym, ap, ◌∙◌}
use mathlib.Core.Logic.{◌⊎◌, ◌≢◌, ⊎_elim}
use native.Mathlib.Omega.{arith}
use borrow.Author.Tests.{ne_eqb}
use Rattle.booking.specs.declared.SplitSums.{SplitSums}
use Rattle.booking.specs.Figures.{next_larger, next_smaller, figure_in, figure}
use Rattle.booking.specs.work.Sums.{most_number, AreFigures, EndsAt, UnderWay}
use Rattle.booking.proofs.Figures.{stop_in}

module _ (stop : ℕ → ℕ) (add : ℕ → ℕ → ℕ) where
  step_at : (n x y : ℕ) → 0 < n → x ≢ y → figure_in stop add n x y ≡ add x y + figure_in stop add (n - 1) (next_larger x y) (next_smaller x y)
  unfolding figure_in
  step_at zero x y h ne = absurd (omega arith)
  step_at (suc n) x y h ne = let e : suc n - 1 ≡ n = omega arith in rw (ne_eqb x y ne, figure_in, e)

  none_at : (x y : ℕ) → figure_in stop add 0 x y ≡ stop x
  unfolding figure_in
  none_at x y = refl

  done_at : (n x y : ℕ) → (n ≡ 0) ⊎ (x ≡ y) → figure_in stop add n x y ≡ stop x
  done_at n x y = ⊎_elim (λ (e : n ≡ 0). rw e (none_at x y)) (λ (e : x ≡ y). rw (← e) (stop_in stop add n x))

  start_at : (x y : ℕ) → figure stop add x y ≡ 0 + figure_in stop add (x + y) x y
  unfolding figure
  start_at x y = omega arith

  -- so much more is added
  one_more : (s : ℕ) {f n x y : ℕ} → f ≡ s + figure_in stop add n x y → 0 < n → x ≢ y → f ≡ s + add x y + figure_in stop add (n - 1) (next_larger x y) (next_smaller x y)
  one_more s {f} {n} {x} {y} e h ne = omega (arith, e, step_at n x y h ne)

  at_last : (s : ℕ) {f n x y : ℕ} → f ≡ s + figure_in stop add n x y → (n ≡ 0) ⊎ (x ≡ y) → f ≡ s + stop x
  at_last s {f} {n} {x} {y} e d = e ∙ ap (λ m. s + m) (done_at n x y d)

pub none_yet : (p q x y : ℕ) → x ≡ p → y ≡ q → p ≤ most_number → q ≤ most_number → UnderWay p q (x + y) x y 0 0 0
none_yet p q x y e f a b =
    rw (e, f) (record {
      splits_so = start_at (λ n. 0) (λ x y. 1) p q;
      inner_so = start_at (λ n. 0) (λ x y. 2 * (x + y)) p q;
      triangles_so = start_at (λ n. 8 * n) (λ x y. 4 * x + 10 * y) p q;
      end_so = omega (arith, start_at (λ n. n) (λ x y. 0) p q);
      x_few = a;
      y_few = b;
      steps = omega arith;
      inner_few = omega arith;
      triangles_few = omega arith;
    })

module _ {p q n x y s i t : ℕ} (U : UnderWay p q n x y s i t) where
  pub more_added : 0 < n → x ≢ y → {d x' y' : ℕ} → d ≡ x - y → x' ≡ max d y → y' ≡ min d y → UnderWay p q (n - 1) x' y' (s + 1) (i + 2 * (x + y)) (t + (4 * x + 10 * y))
  more_added h ne {d} e f g =
      let a : _ ≡ next_larger x y = f ∙ ap (λ d. max d y) e in
      let b : _ ≡ next_smaller x y = g ∙ ap (λ d. min d y) e in
      rw (a, b) (record {
        splits_so = one_more (λ n. 0) (λ x y. 1) s U.splits_so h ne;
        inner_so = one_more (λ n. 0) (λ x y. 2 * (x + y)) i U.inner_so h ne;
        triangles_so = one_more (λ n. 8 * n) (λ x y. 4 * x + 10 * y) t U.triangles_so h ne;
        end_so = omega (arith, U.end_so, step_at (λ n. n) (λ x y. 0) n x y h ne);
        x_few = omega (arith, U.x_few, U.y_few);
        y_few = omega (arith, U.x_few, U.y_few);
        steps = omega (arith, U.steps);
        inner_few = omega (arith, U.inner_few, U.x_few, U.y_few);
        triangles_few = omega (arith, U.triangles_few, U.x_few, U.y_few);
      })

  pub all_added : (n ≡ 0) ⊎ (x ≡ y) → {r : SplitSums} → EndsAt s i t x r → AreFigures p q r
  all_added d R = record {
    splits_are = R.splits_are ∙ sym (at_last (λ n. 0) (λ x y. 1) s U.splits_so d ∙ omega arith);
    inner_are = R.inner_are ∙ sym (at_last (λ n. 0) (λ x y. 2 * (x + y)) i U.inner_so d ∙ omega arith);
    triangles_are = R.triangles_are ∙ sym (at_last (λ n. 8 * n) (λ x y. 4 * x + 10 * y) t U.triangles_so d);
    end_is = R.end_is ∙ sym (U.end_so ∙ done_at (λ n. n) (λ x y. 0) n x y d);
  }

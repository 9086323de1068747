-- Labels that fit any forest: of each node, 2 · root + side.
use Prim.Native.Nat.{ℕ, zero, suc, ◌*◌, ◌/◌, ◌≤◌}
use mathlib.Core.Path.{◌≡◌, refl, sym, ap, ◌∙◌}
use mathlib.Core.List.{List}
use native.Mathlib.Decide.{ℕ_discrete}
use native.Mathlib.Omega.{arith}
use lib.ListN.{get_or}
use Rattle.shading.specs.Marks.{most_nodes}
use Rattle.shading.specs.work.Work.{across, HasLink, Forest, Fits}
use Rattle.shading.proofs.Across.{across_even}

-- n links upwards from x
climb : List ℕ → ℕ → ℕ → ℕ
climb links zero x = 2 * x
climb links (suc n) x = across (get_or links x 0) (climb links n (get_or links x 0 / 2))

module _ (links : List ℕ) (F : Forest links) where
  -- a root is its own
  climb_root : (n x : ℕ) → get_or links x 0 ≡ 2 * x → climb links n x ≡ 2 * x
  unfolding climb
  climb_root zero x e = refl
  climb_root (suc n) x e =
      let h : get_or links x 0 / 2 ≡ x = omega arith in
      across_even (get_or links x 0) (climb links n (get_or links x 0 / 2)) (omega arith) ∙ ap (climb links n) h ∙ climb_root n x e

  -- x links are enough
  climb_more : (n x : ℕ) → x ≤ n → HasLink links x → climb links (suc n) x ≡ climb links n x
  unfolding climb
  climb_more zero x h L =
      let e : get_or links x 0 ≡ 2 * x = F.root x L (omega (arith, F.low_parent x L)) in
      climb_root 1 x e
  climb_more (suc n) x h L = elim (ℕ_discrete (get_or links x 0 / 2) x) [
    | yes e ↦ climb_root (suc (suc n)) x (F.root x L e) ∙ sym (climb_root (suc n) x (F.root x L e))
    | no m ↦ ap (across (get_or links x 0)) (climb_more n (get_or links x 0 / 2) (omega (arith, F.low_parent x L)) (F.has x L))
  ]

  climb_low : (n x : ℕ) → HasLink links x → climb links n x / 2 ≤ x
  unfolding climb
  climb_low zero x L = omega arith
  climb_low (suc n) x L =
      omega (arith, climb_low n (get_or links x 0 / 2) (F.has x L), F.low_parent x L, half_across (get_or links x 0) (climb links n (get_or links x 0 / 2)))
    where
      half_across : (s h : ℕ) → across s h / 2 ≡ h / 2
      half_across s h = omega arith

  pub top : ℕ → ℕ
  top = climb links most_nodes

  pub top_fits : Fits links top
  unfolding climb top
  top_fits x L = sym (climb_more most_nodes x (omega (arith, L.0)) L)

  pub top_root : (x : ℕ) → get_or links x 0 ≡ 2 * x → top x ≡ 2 * x
  unfolding top
  top_root = climb_root most_nodes

  pub top_low : (x : ℕ) → HasLink links x → top x / 2 ≤ x
  unfolding top
  top_low = climb_low most_nodes

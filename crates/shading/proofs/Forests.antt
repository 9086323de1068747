-- Laws of the links: nodes linked to their parents' parents, and parts tied to each other.
use Prim.Native.Nat.{ℕ, ◌+◌, ◌*◌, ◌/◌, ◌%◌, ◌≤◌, ◌<◌}
use mathlib.Core.Path.{◌≡◌, refl, sym, ap, ap₂, ◌∙◌, subst}
use mathlib.Core.Logic.{◌≢◌}
use mathlib.Core.List.{List}
use native.Mathlib.Decide.{ℕ_discrete}
use native.Mathlib.Omega.{arith}
use lib.ListN.{get_or, set, length-set}
use lib.Seq.{get_or-set_same, get_or-set_other}
use Rattle.shading.specs.Marks.{most_nodes}
use Rattle.shading.specs.work.Work.{across, no_link, HasLink, Forest, Fits, SameNodes, Halved, Halvable, HalvedAt, Rooted, Found}
use Rattle.shading.proofs.Across.{across_twice, across_like, bit_odd, across_even}

-- one link is set
module _ (l : List ℕ) (F : Forest l) (y z : ℕ) (Y : HasLink l y) where
  abbrev l' : List ℕ
  l' = set l y z

  at_set : get_or l' y 0 ≡ z
  at_set = get_or-set_same l y z 0 (omega (arith, Y.0, F.long))

  at_other : (x : ℕ) → x ≢ y → get_or l' x 0 ≡ get_or l x 0
  at_other x n = get_or-set_other l y x z 0 n

  module _ (Z : z ≢ no_link) where
    same_set : SameNodes l l'
    same_set = record {
      kept = λ x L. (L.0, kept_at x L);
      free = λ x h e. at_other x (λ q. Y.1 (subst (λ k. get_or l k 0 ≡ no_link) q e)) ∙ e;
    }
      where
        kept_at : (x : ℕ) → HasLink l x → get_or l' x 0 ≢ no_link
        kept_at x L = elim (ℕ_discrete x y) [
          | yes q ↦ (λ e. Z (sym (ap (λ k. get_or l' k 0) q ∙ at_set) ∙ e))
          | no n ↦ (λ e. L.1 (sym (at_other x n) ∙ e))
        ]

    was_linked : (x : ℕ) → HasLink l' x → HasLink l x
    was_linked x L = elim (ℕ_discrete x y) [
      | yes q ↦ subst (HasLink l) (sym q) Y
      | no n ↦ (L.0, λ e. L.1 (at_other x n ∙ e))
    ]

    -- what holds of each link
    module _ (P : ℕ → ℕ → Type 0) where
      each_new : ((x : ℕ) → x ≢ y → HasLink l x → P x (get_or l x 0)) → P y z → (x : ℕ) → HasLink l' x → P x (get_or l' x 0)
      each_new old new x L = elim (ℕ_discrete x y) [
        | yes q ↦ subst (λ k. P k (get_or l' k 0)) (sym q) (subst (P y) (sym at_set) new)
        | no n ↦ subst (P x) (sym (at_other x n)) (old x n (was_linked x L))
      ]

      each_old : ((x : ℕ) → HasLink l' x → P x (get_or l' x 0)) → (P y z → P y (get_or l y 0)) → (x : ℕ) → HasLink l x → P x (get_or l x 0)
      each_old new old x L = elim (ℕ_discrete x y) [
        | yes q ↦ subst (λ k. P k (get_or l k 0)) (sym q) (old (subst (P y) at_set (new y (same_set.kept y Y))))
        | no n ↦ subst (P x) (at_other x n) (new x (same_set.kept x L))
      ]

-- y, which is no root, is linked to its parent's parent
module _ (l : List ℕ) (y : ℕ) (H : Halvable l y) where
  abbrev F : Forest l
  F = H.forest

  abbrev p : ℕ
  p = get_or l y 0 / 2

  abbrev z : ℕ
  z = across (get_or l y 0) (get_or l p 0)

  parent : HasLink l p
  parent = F.has y H.linked

  lower : p < y
  lower = omega (arith, H.child, F.low_parent y H.linked)

  half_new : z / 2 ≡ get_or l p 0 / 2
  half_new = omega arith

  new_small : z < 2 * most_nodes
  new_small = let g = F.has p parent in omega (arith, g.0)

  not_free : z ≢ no_link
  not_free e = omega (arith, new_small)

  at_y : get_or (set l y z) y 0 ≡ z
  at_y = at_set l F y z H.linked

  at_x : (x : ℕ) → x ≢ y → get_or (set l y z) x 0 ≡ get_or l x 0
  at_x = at_other l F y z H.linked

  nodes : SameNodes l (set l y z)
  nodes = same_set l F y z H.linked not_free

  halve_forest : Forest (set l y z)
  halve_forest = record {
    long = length-set l y z ∙ F.long;
    has = each_new l F y z H.linked not_free (λ x k. HasLink (set l y z) (k / 2)) (λ x n L. nodes.kept (get_or l x 0 / 2) (F.has x L))
        (subst (HasLink (set l y z)) (sym half_new) (nodes.kept (get_or l p 0 / 2) (F.has p parent)));
    low_parent = each_new l F y z H.linked not_free (λ x k. k / 2 ≤ x) (λ x n. F.low_parent x) (omega (arith, half_new, lower, F.low_parent p parent));
    root = each_new l F y z H.linked not_free (λ x k. k / 2 ≡ x → k ≡ 2 * x) (λ x n. F.root x) (λ e. absurd (omega (arith, half_new, lower, F.low_parent p parent)));
  }

  fits_new : (h : ℕ → ℕ) → h p ≡ across (get_or l p 0) (h (get_or l p 0 / 2)) → across (get_or l y 0) (h p) ≡ across z (h (z / 2))
  fits_new h e =
      ap (across (get_or l y 0)) e ∙ across_twice (get_or l y 0) (get_or l p 0) (h (get_or l p 0 / 2))
      ∙ across_like (get_or l y 0 + get_or l p 0) z (h (get_or l p 0 / 2)) (odd_new (get_or l y 0) (get_or l p 0)) ∙ ap (λ k. across z (h k)) (sym half_new)
    where
      odd_new : (a b : ℕ) → (a + b) % 2 ≡ across a b % 2
      odd_new a b = omega arith

  pub halve_law : HalvedAt l y (set l y z) z
  halve_law = record {
    halved = record {
      forest = halve_forest;
      nodes = nodes;
      roots = λ x L e. at_x x (λ q. H.child (not_root x q e)) ∙ e;
      fits = λ h f. each_new l F y z H.linked not_free (λ x k. h x ≡ across k (h (k / 2))) (λ x n L. f x L) (f y H.linked ∙ fits_new h (f p parent));
      back = λ h f.
          each_old l F y z H.linked not_free (λ x k. h x ≡ across k (h (k / 2))) f
          (λ e. e ∙ sym (fits_new h (f p (nodes.kept p parent) ∙ ap (λ k. across k (h (k / 2))) same_p)));
    };
    is = sym at_y;
    lower = omega (arith, half_new, lower, F.low_parent p parent);
  }
    where
      not_root : (x : ℕ) → x ≡ y → get_or l x 0 ≡ 2 * x → get_or l y 0 / 2 ≡ y
      not_root x q e = let r : get_or l y 0 ≡ 2 * y = subst (λ k. get_or l k 0 ≡ 2 * k) q e in omega arith

      same_p : get_or (set l y z) p 0 ≡ get_or l p 0
      same_p = at_x p (λ q. omega (arith, lower))

-- by the numbers that are read
module _ (l : List ℕ) (y : ℕ) (H : Halvable l y) (a : ℕ) (e : a ≡ get_or l y 0) where
  pub parent_within : a / 2 < most_nodes
  parent_within = omega (arith, (parent l y H).0, e)

  module _ (m : ℕ) (f : m ≡ get_or l (a / 2) 0) where
    new_is : across a m ≡ across (get_or l y 0) (get_or l (get_or l y 0 / 2) 0)
    new_is = ap₂ across e (f ∙ ap (λ k. get_or l (k / 2) 0) e)

    pub new_fits : across a m < 65536
    new_fits = omega (arith, new_is, new_small l y H)

    pub halved_as : HalvedAt l y (set l y (across a m)) (across a m)
    halved_as = subst (λ k. HalvedAt l y (set l y k) k) (sym new_is) (halve_law l y H)

pub halved_none : {l : List ℕ} → Forest l → Halved l l
halved_none F = record { forest = F; nodes = record { kept = λ x L. L; free = λ x h e. e }; roots = λ x L e. e; fits = λ h f. f; back = λ h f. f }

pub same_then : {l m n : List ℕ} → SameNodes l m → SameNodes m n → SameNodes l n
same_then S T = record { kept = λ x L. T.kept x (S.kept x L); free = λ x h e. T.free x h (S.free x h e) }

pub halved_then : {l m n : List ℕ} → Halved l m → Halved m n → Halved l n
halved_then S T = record {
  forest = T.forest;
  nodes = same_then S.nodes T.nodes;
  roots = λ x L e. T.roots x (S.nodes.kept x L) (S.roots x L e);
  fits = λ h f. T.fits h (S.fits h f);
  back = λ h f. S.back h (T.back h f);
}

-- how far `find` has come: x is seen from y so
pub record Finding (l : List ℕ) (x : ℕ) (l' : List ℕ) (y side : ℕ) : Type 0 where
  pub halved : Halved l l'
  pub linked : HasLink l' y
  pub bit : side < 2
  pub way : (h : ℕ → ℕ) → Fits l' h → h x ≡ across side (h y)

pub finding_none : (l : List ℕ) (x : ℕ) → Rooted l x → Finding l x l x 0
finding_none l x F = record { halved = halved_none F.forest; linked = F.linked; bit = omega arith; way = λ h f. sym (across_even 0 (h x) refl) }

module _ (l : List ℕ) (x : ℕ) (m : List ℕ) (y side : ℕ) (D : Finding l x m y side) where
  pub finding_more : (m' : List ℕ) (z : ℕ) → HalvedAt m y m' z → Finding l x m' (z / 2) ((side + z) % 2)
  finding_more m' z H = record {
    halved = halved_then D.halved H.halved;
    linked = subst (λ k. HasLink m' (k / 2)) (sym H.is) (H.halved.forest.has y (H.halved.nodes.kept y D.linked));
    bit = omega arith;
    way = λ h f.
        D.way h (H.halved.back h f)
        ∙ ap (across side) (f y (H.halved.nodes.kept y D.linked) ∙ ap (λ k. across k (h (k / 2))) (sym H.is))
        ∙ across_twice side z (h (z / 2)) ∙ across_like (side + z) ((side + z) % 2) (h (z / 2)) (bit_odd (side + z));
  }

  pub finding_end : get_or m y 0 / 2 ≡ y → Found l x m (2 * y + side)
  finding_end e = record {
    halved = D.halved;
    linked = subst (HasLink m) half D.linked;
    root = subst (λ k. get_or m k 0 ≡ 2 * k) half (D.halved.forest.root y D.linked e);
    way = λ h f. D.way h f ∙ across_like side (2 * y + side) (h y) (omega arith) ∙ ap (λ k. across (2 * y + side) (h k)) half;
  }
    where
      half : y ≡ (2 * y + side) / 2
      half = omega (arith, D.bit)

-- parts are tied: the root q is linked to the root p, which is lower
module _ (l : List ℕ) (F : Forest l) (p q side : ℕ) (P : HasLink l p) (Q : HasLink l q) (at_p : get_or l p 0 ≡ 2 * p) (at_q : get_or l q 0 ≡ 2 * q) (h : p < q) (b : side < 2) where
  abbrev link : ℕ
  link = 2 * p + side

  link_half : link / 2 ≡ p
  link_half = omega arith

  link_not : link ≢ no_link
  link_not e = omega (arith, P.0)

  abbrev tied : List ℕ
  tied = set l q link

  pub tie_nodes : SameNodes l tied
  tie_nodes = same_set l F q link Q link_not

  pub tie_forest : Forest tied
  tie_forest = record {
    long = length-set l q link ∙ F.long;
    has = each_new l F q link Q link_not (λ x k. HasLink tied (k / 2)) (λ x n L. tie_nodes.kept (get_or l x 0 / 2) (F.has x L))
        (subst (HasLink tied) (sym link_half) (tie_nodes.kept p P));
    low_parent = each_new l F q link Q link_not (λ x k. k / 2 ≤ x) (λ x n. F.low_parent x) (omega (arith, link_half));
    root = each_new l F q link Q link_not (λ x k. k / 2 ≡ x → k ≡ 2 * x) (λ x n. F.root x) (λ e. absurd (omega (arith, link_half)));
  }

  -- labels that fit, where that of q is p's as seen so
  pub tie_fits : (f : ℕ → ℕ) → Fits l f → f q ≡ across side (f p) → Fits tied f
  tie_fits f A e =
      each_new l F q link Q link_not (λ x k. f x ≡ across k (f (k / 2))) (λ x n. A x)
      (e ∙ across_like side link (f p) (omega arith) ∙ ap (λ k. across link (f k)) (sym link_half))

  pub tie_back : (f : ℕ → ℕ) → Fits tied f → Fits l f × (f q ≡ across side (f p))
  tie_back f A = (
    each_old l F q link Q link_not (λ x k. f x ≡ across k (f (k / 2))) A
        (λ e. sym (ap (λ k. across k (f (k / 2))) at_q ∙ across_even (2 * q) (f (2 * q / 2)) (omega arith) ∙ ap f half_q)),
    A q (tie_nodes.kept q Q) ∙ ap (λ k. across k (f (k / 2))) (at_set l F q link Q) ∙ ap (λ k. across link (f k)) link_half ∙ across_like link side (f p) (omega arith),
  )
    where
      half_q : 2 * q / 2 ≡ q
      half_q = omega arith

-- Two parts tied by an edge.
use Prim.Native.Nat.{ℕ, ◌+◌, ◌*◌, ◌/◌, ◌%◌, ◌<◌}
use mathlib.Core.Path.{◌≡◌, refl, sym, ap, ◌∙◌}
use mathlib.Core.Logic.{◌≢◌, ⊎_elim}
use mathlib.Core.Bool.{Bool, true, false}
use mathlib.Core.List.{List}
use native.Mathlib.Nat.{not-suc-le-zero}
use native.Mathlib.Omega.{arith}
use lib.Dec.{eqb}
use lib.ListN.{length, get_or, set}
use borrow.Author.Tests.{eqb-true, eqb-false}
use Rattle.counting.proofs.Bools.{clash}
use Rattle.counting.proofs.Search.{below-or}
use Rattle.grid.specs.Grid.{low, high, count_of}
use Rattle.shading.specs.work.Work.{across, HasLink, Forest, Fits, SameNodes, Agrees, Found, Tied, United, AllUnitable, TiedAll}
use Rattle.shading.proofs.Across.{across_twice, across_like, bit_odd, across_back, across_even, across_odd, across_between}
use Rattle.shading.proofs.Forests.{same_then, halved_then, tie_nodes, tie_forest, tie_fits, tie_back}

both_ways : (a b c : ℕ) → (c + (b + (a + b + c) % 2)) % 2 ≡ a % 2
both_ways a b c = omega arith

bit_small : (s : ℕ) → s % 2 < 2
bit_small s = omega arith

module _ (l m n : List ℕ) (u v c a b : ℕ) (A : Found l u m a) (B : Found m v n b) where
  abbrev p : ℕ
  p = a / 2

  abbrev q : ℕ
  q = b / 2

  abbrev side : ℕ
  side = (a + b + c) % 2

  low_root : get_or n p 0 ≡ 2 * p
  low_root = B.halved.roots p A.linked A.root

  low_linked : HasLink n p
  low_linked = B.halved.nodes.kept p A.linked

  from_u : (f : ℕ → ℕ) → Fits n f → f u ≡ across a (f p)
  from_u f F = A.way f (B.halved.back f F)

  -- the edge agrees with labels exactly where the roots do so
  fits_to : (f : ℕ → ℕ) → Fits n f → f u ≡ across c (f v) → f p ≡ across side (f q)
  fits_to f F e =
      across_between a b c (f p) (f q) (f u) (f v) (from_u f F) (B.way f F) e ∙ across_like (a + b + c) side (f q) (bit_odd (a + b + c))

  fits_from : (f : ℕ → ℕ) → Fits n f → f p ≡ across side (f q) → f u ≡ across c (f v)
  fits_from f F e =
      let w : f v ≡ across b (across side (f p)) = B.way f F ∙ ap (across b) (across_back side (f p) (f q) e) in
      from_u f F
      ∙ sym (ap (across c) (w ∙ across_twice b side (f p)) ∙ across_twice c (b + side) (f p) ∙ across_like (c + (b + side)) a (f p) (both_ways a b c))

  tied_by : (t : List ℕ) → Forest t → SameNodes n t → ((f : ℕ → ℕ) → Fits n f → f p ≡ across side (f q) → Fits t f)
      → ((f : ℕ → ℕ) → Fits t f → Fits n f × (f p ≡ across side (f q))) → Tied l u v c t
  tied_by t F S to from = record {
    forest = F;
    nodes = same_then (same_then A.halved.nodes B.halved.nodes) S;
    fits = λ f L e. (let N = (halved_then A.halved B.halved).fits f L in to f N (fits_to f N e));
    back = λ f T. (let (N, e) = from f T in ((halved_then A.halved B.halved).back f N, fits_from f N e));
  }

  is_united : {t : List ℕ} → Tied l u v c t → United l u v c t true
  is_united T = record { tied = λ e. T; none = λ e. clash refl e }

  pub united_lower : p < q → United l u v c (set n q (2 * p + side)) true
  united_lower h =
      let N = B.halved.forest in
      is_united (tied_by (set n q (2 * p + side)) (tie_forest n N p q side low_linked B.linked low_root B.root h (bit_small (a + b + c)))
      (tie_nodes n N p q side low_linked B.linked low_root B.root h (bit_small (a + b + c)))
      (λ f F e. tie_fits n N p q side low_linked B.linked low_root B.root h (bit_small (a + b + c)) f F (across_back side (f p) (f q) e))
      (λ f F. (let (x, e) = tie_back n N p q side low_linked B.linked low_root B.root h (bit_small (a + b + c)) f F in (x, across_back side (f q) (f p) e))))

  pub united_higher : q < p → United l u v c (set n p (2 * q + side)) true
  united_higher h =
      let N = B.halved.forest in
      is_united (tied_by (set n p (2 * q + side)) (tie_forest n N q p side B.linked low_linked B.root low_root h (bit_small (a + b + c)))
      (tie_nodes n N q p side B.linked low_linked B.root low_root h (bit_small (a + b + c)))
      (tie_fits n N q p side B.linked low_linked B.root low_root h (bit_small (a + b + c)))
      (tie_back n N q p side B.linked low_linked B.root low_root h (bit_small (a + b + c))))

  -- u and v are in one part
  module _ (e : p ≡ q) where
    agreed : side ≡ 0 → Tied l u v c n
    agreed z =
        tied_by n B.halved.forest (record { kept = λ x L. L; free = λ x h w. w }) (λ f F w. F)
        (λ f F. (F, ap f e ∙ sym (across_even side (f q) (bit_even z))))
      where
        bit_even : {s : ℕ} → s ≡ 0 → s % 2 ≡ 0
        bit_even z = rw z refl

    refuted : side ≢ 0 → (f : ℕ → ℕ) → Fits l f → f u ≡ across c (f v) → ⊥
    refuted z f L w =
        across_odd side (f q) (bit_one (a + b + c) z) (sym (fits_to f ((halved_then A.halved B.halved).fits f L) w) ∙ ap f e)
      where
        bit_one : (s : ℕ) → s % 2 ≢ 0 → s % 2 % 2 ≡ 1
        bit_one s z = omega arith

    pub united_one : United l u v c n (eqb side 0)
    united_one = record { tied = λ r. agreed (eqb-true side 0 r); none = λ r. refuted (eqb-false side 0 r) }

-- the edges in turn
module _ (edges counts links : List ℕ) where
  pub tied_none : AllUnitable edges counts links → TiedAll edges counts links 0 links
  tied_none J = record {
    forest = J.forest;
    nodes = record { kept = λ x L. L; free = λ x h e. e };
    fits = λ h A. J.fits h;
    back = λ h F e k. absurd (not-suc-le-zero k);
  }

  module _ (e : ℕ) (l : List ℕ) (T : TiedAll edges counts links e l) (k : e < length counts)
      (u v n : ℕ) (eu : u ≡ low edges e) (ev : v ≡ high edges e) (en : n ≡ count_of counts e) (l' : List ℕ) (r : Bool) (J : United l u v n l' r) where
    listed : United l (low edges e) (high edges e) (count_of counts e) l' r
    listed = rw (← eu, ← ev, ← en) J

    pub tied_more : r ≡ true → TiedAll edges counts links (e + 1) l'
    tied_more t =
        let K = listed.tied t in
        record {
          forest = K.forest;
          nodes = same_then T.nodes K.nodes;
          fits = λ h A. K.fits h (T.fits h (λ d i. A d (omega arith))) (A e (omega arith));
          back = λ h F d i.
              (let (f, q) = K.back h F in ⊎_elim (λ (z : d ≡ e). rw z q) (λ (z : d < e). T.back h f d z) (below-or d e (omega arith)));
        }

    pub tied_not : r ≡ false → (h : ℕ → ℕ) → Agrees edges counts (length counts) h → ⊥
    tied_not t h A = listed.none t h (T.fits h (λ d i. A d (omega arith))) (A e k)

-- What holds of the marks after each edge.
use Prim.Native.Nat.{ℕ, zero, suc, ◌+◌, ◌*◌, ◌/◌, ◌%◌, ◌≤◌, ◌<◌, min, max}
use mathlib.Core.Path.{◌≡◌, refl, sym, ap, ◌∙◌, subst}
use mathlib.Core.Logic.{◌⊎◌, inl, inr, ⊎_elim, ◌≢◌}
use mathlib.Core.Bool.{Bool, true, false}
use mathlib.Core.List.{List, map}
use native.Mathlib.Nat.{not-suc-le-zero}
use native.Mathlib.Decide.{dec_lt}
use native.Mathlib.Omega.{arith}
use lib.Dec.{eqb}
use lib.ListN.{length, get_or, length-map}
use borrow.Author.Tests.{eqb-true, eqb-false}
use Rattle.counting.specs.Pick.{pick}
use Rattle.counting.specs.Lists.{values}
use Rattle.counting.proofs.Lists.{length_singles, values_at, get_or_map}
use Rattle.counting.proofs.Search.{below-or}
use Rattle.grid.specs.Grid.{Grid, low, high, count_of}
use Rattle.shading.specs.Marks.{most_nodes, moved, united, marks_after}
use Rattle.shading.specs.claims.Shading.{Connected, here}
use Rattle.shading.specs.work.Work.{across, Agrees}
use Rattle.shading.proofs.Across.{across_twice, across_like, across_back, across_between}
use Rattle.shading.proofs.Paths.{through, reverse, edge_path}

-- the mark m becomes r, after an edge between nodes with the marks a and b
data Next (a b count m r : ℕ) : Type 0 where
  one_part : a / 2 ≡ b / 2 → r ≡ m → Next a b count m r
  stays : a / 2 ≢ b / 2 → m / 2 ≢ max (a / 2) (b / 2) → r ≡ m → Next a b count m r
  comes : a / 2 ≢ b / 2 → m / 2 ≡ max (a / 2) (b / 2) → r ≡ 2 * min (a / 2) (b / 2) + (m + a + b + count) % 2 → Next a b count m r

turn : (a b c : ℕ) → a + b + c ≡ b + a + c
turn a b c = omega arith

-- the mark m of b's part comes to a's part
record Comes (a b count m r : ℕ) : Type 0 where
  less : a / 2 < b / 2
  was : m / 2 ≡ b / 2
  is : r / 2 ≡ a / 2
  odd : (m + (a + b + count)) % 2 ≡ r % 2

to_either : (a b count m r : ℕ) → a / 2 ≢ b / 2 → m / 2 ≡ max (a / 2) (b / 2) → r ≡ 2 * min (a / 2) (b / 2) + (m + a + b + count) % 2
    → Comes a b count m r ⊎ Comes b a count m r
to_either a b count m r p s q = elim (dec_lt (a / 2) (b / 2)) [
  | yes h ↦ inl (record { less = h; was = omega arith; is = omega arith; odd = omega arith })
  | no h ↦ inr (record { less = omega arith; was = omega arith; is = omega arith; odd = omega arith })
]

module _ (a b count : ℕ) (l : List ℕ) where
  length_united : length (united a b count l) ≡ length l
  unfolding united
  length_united = go (eqb (a / 2) (b / 2))
    where
      go : (t : Bool) → length (pick t l (map (moved a b count) l)) ≡ length l
      go true = refl
      go false = length-map l (moved a b count)

  next : (x : ℕ) → x < length l → Next a b count (get_or l x 0) (get_or (united a b count l) x 0)
  unfolding united moved
  next x h = go (eqb (a / 2) (b / 2)) refl
    where
      m : ℕ
      m = get_or l x 0

      two : a / 2 ≢ b / 2 → (t : Bool) → eqb (m / 2) (max (a / 2) (b / 2)) ≡ t
          → Next a b count m (pick t (2 * min (a / 2) (b / 2) + (m + a + b + count) % 2) m)
      two n true e = comes n (eqb-true (m / 2) (max (a / 2) (b / 2)) e) refl
      two n false e = stays n (eqb-false (m / 2) (max (a / 2) (b / 2)) e) refl

      go : (t : Bool) → eqb (a / 2) (b / 2) ≡ t → Next a b count m (get_or (pick t l (map (moved a b count) l)) x 0)
      go true e = one_part (eqb-true (a / 2) (b / 2) e) refl
      go false e = rw (get_or_map (moved a b count) 0 0 l x h) (two (eqb-false (a / 2) (b / 2) e) (eqb (m / 2) (max (a / 2) (b / 2))) refl)

-- the marks after n edges
pub record Marked (G : Grid) (n : ℕ) (l : List ℕ) : Type 0 where
  pub long : length l ≡ most_nodes
  -- a part is no higher than its nodes, and is a node of its own part, on its own side
  pub low_part : (x : ℕ) → x < most_nodes → get_or l x 0 / 2 ≤ x
  pub own : (x : ℕ) → x < most_nodes → get_or l (get_or l x 0 / 2) 0 ≡ 2 * (get_or l x 0 / 2)
  -- the ends of an edge are in one part
  pub one : (e : ℕ) → e < n → get_or l (low G.edges e) 0 / 2 ≡ get_or l (high G.edges e) 0 / 2
  -- labels that agree with the edges differ between a node and its part as the mark says
  pub fits : (h : ℕ → ℕ) → Agrees G.edges G.counts n h → (x : ℕ) → x < most_nodes → h x ≡ across (get_or l x 0) (h (get_or l x 0 / 2))
  pub path : (x : ℕ) → x < most_nodes → Connected G (get_or l x 0 / 2) x

marked_none : (G : Grid) → Marked G 0 (values (λ x. 2 * x) most_nodes)
marked_none G = record {
  long = length_singles (λ x. 2 * x) most_nodes 0;
  low_part = λ x h. omega (arith, at x h);
  own = λ x h. ap (λ k. get_or (values (λ x. 2 * x) most_nodes) k 0) (half x h) ∙ at x h ∙ ap (λ k. 2 * k) (sym (half x h));
  one = λ e h. absurd (not-suc-le-zero h);
  fits = λ h A x l. (let e = at x l in let q = ap h (half x l) in omega arith);
  path = λ x h. subst (λ k. Connected G k x) (sym (half x h)) here;
}
  where
    at : (x : ℕ) → x < most_nodes → get_or (values (λ x. 2 * x) most_nodes) x 0 ≡ 2 * x
    at x h = values_at (λ x. 2 * x) most_nodes x 0 h

    half : (x : ℕ) → x < most_nodes → get_or (values (λ x. 2 * x) most_nodes) x 0 / 2 ≡ x
    half x h = let e = at x h in omega arith

-- one edge more
module _ (G : Grid) (n : ℕ) (h : n < length G.counts) (l : List ℕ) (M : Marked G n l) where
  abbrev u : ℕ
  u = low G.edges n

  abbrev v : ℕ
  v = high G.edges n

  abbrev c : ℕ
  c = count_of G.counts n

  abbrev a : ℕ
  a = get_or l u 0

  abbrev b : ℕ
  b = get_or l v 0

  abbrev l' : List ℕ
  l' = united a b c l

  module _ (hu : u < most_nodes) (hv : v < most_nodes) where
    next-at : (x : ℕ) → x < most_nodes → Next a b c (get_or l x 0) (get_or l' x 0)
    next-at x k = next a b c l x (omega (arith, M.long))

    low_next : (x m r : ℕ) → m / 2 ≤ x → Next a b c m r → r / 2 ≤ x
    low_next x m r k (one_part p q) = omega arith
    low_next x m r k (stays p s q) = omega arith
    low_next x m r k (comes p s q) = omega arith

    -- a part that does not come to another keeps its own mark
    keeps : (y : ℕ) → (a / 2 ≢ b / 2 → y ≢ max (a / 2) (b / 2)) → (m r : ℕ) → m ≡ 2 * y → Next a b c m r → r ≡ 2 * y
    keeps y k m r e (one_part p q) = omega arith
    keeps y k m r e (stays p s q) = omega arith
    keeps y k m r e (comes p s q) = absurd (k p (omega arith))

    kept : (y : ℕ) → y < most_nodes → get_or l y 0 ≡ 2 * y → (a / 2 ≢ b / 2 → y ≢ max (a / 2) (b / 2)) → get_or l' y 0 ≡ 2 * y
    kept y k e f = keeps y f (get_or l y 0) (get_or l' y 0) e (next-at y k)

    own_next : (x r : ℕ) → x < most_nodes → Next a b c (get_or l x 0) r → get_or l' (r / 2) 0 ≡ 2 * (r / 2)
    own_next x r k (one_part p q) =
        kept (r / 2) (omega (arith, M.low_part x k)) (ap (λ i. get_or l (i / 2) 0) q ∙ M.own x k ∙ ap (λ i. 2 * (i / 2)) (sym q)) (λ s. absurd (s p))
    own_next x r k (stays p s q) =
        kept (r / 2) (omega (arith, M.low_part x k)) (ap (λ i. get_or l (i / 2) 0) q ∙ M.own x k ∙ ap (λ i. 2 * (i / 2)) (sym q)) (λ t e. s (omega arith))
    own_next x r k (comes p s q) =
        ⊎_elim (λ (C : Comes a b c (get_or l x 0) r). own_come u hu C.is (omega (arith, C.is, C.less)))
        (λ (C : Comes b a c (get_or l x 0) r). own_come v hv C.is (omega (arith, C.is, C.less))) (to_either a b c (get_or l x 0) r p s q)
      where
        own_come : (w : ℕ) → w < most_nodes → r / 2 ≡ get_or l w 0 / 2 → r / 2 < max (a / 2) (b / 2) → get_or l' (r / 2) 0 ≡ 2 * (r / 2)
        own_come w hw e lt =
            kept (r / 2) (omega (arith, M.low_part w hw)) (ap (λ i. get_or l i 0) e ∙ M.own w hw ∙ ap (λ i. 2 * i) (sym e)) (λ t z. omega arith)

    -- what is in one part comes or stays together
    same_part : (m m' r r' : ℕ) → m / 2 ≡ m' / 2 → Next a b c m r → Next a b c m' r' → r / 2 ≡ r' / 2
    same_part m m' r r' e (one_part p q) (one_part p' q') = omega arith
    same_part m m' r r' e (one_part p q) (stays p' s' q') = omega arith
    same_part m m' r r' e (one_part p q) (comes p' s' q') = absurd (p' p)
    same_part m m' r r' e (stays p s q) (one_part p' q') = omega arith
    same_part m m' r r' e (stays p s q) (stays p' s' q') = omega arith
    same_part m m' r r' e (stays p s q) (comes p' s' q') = absurd (s (omega arith))
    same_part m m' r r' e (comes p s q) (one_part p' q') = absurd (p p')
    same_part m m' r r' e (comes p s q) (stays p' s' q') = absurd (s' (omega arith))
    same_part m m' r r' e (comes p s q) (comes p' s' q') = omega arith

    -- the ends of the edge come together
    ends_part : (r r' : ℕ) → Next a b c a r → Next a b c b r' → r / 2 ≡ r' / 2
    ends_part r r' (one_part p q) (one_part p' q') = omega arith
    ends_part r r' (one_part p q) (stays p' s' q') = absurd (p' p)
    ends_part r r' (one_part p q) (comes p' s' q') = absurd (p' p)
    ends_part r r' (stays p s q) (one_part p' q') = absurd (p p')
    ends_part r r' (stays p s q) (stays p' s' q') = absurd (omega arith)
    ends_part r r' (stays p s q) (comes p' s' q') = omega arith
    ends_part r r' (comes p s q) (one_part p' q') = absurd (p p')
    ends_part r r' (comes p s q) (stays p' s' q') = omega arith
    ends_part r r' (comes p s q) (comes p' s' q') = absurd (omega arith)

    one_next : (e : ℕ) → low G.edges e < most_nodes → high G.edges e < most_nodes → (e ≡ n) ⊎ (e < n)
        → get_or l' (low G.edges e) 0 / 2 ≡ get_or l' (high G.edges e) 0 / 2
    one_next e ku kv (inl q) =
        ap (λ i. get_or l' (low G.edges i) 0 / 2) q
        ∙ ends_part (get_or l' u 0) (get_or l' v 0) (next-at u hu) (next-at v hv)
        ∙ ap (λ i. get_or l' (high G.edges i) 0 / 2) (sym q)
    one_next e ku kv (inr k) =
        same_part (get_or l (low G.edges e) 0) (get_or l (high G.edges e) 0) (get_or l' (low G.edges e) 0) (get_or l' (high G.edges e) 0) (M.one e k)
        (next-at (low G.edges e) ku) (next-at (high G.edges e) kv)

    fits_next : (f : ℕ → ℕ) → Agrees G.edges G.counts (suc n) f → (x r : ℕ) → x < most_nodes → Next a b c (get_or l x 0) r → f x ≡ across r (f (r / 2))
    fits_next f A x r k (one_part p q) = M.fits f (λ e i. A e (omega arith)) x k ∙ ap (λ i. across i (f (i / 2))) (sym q)
    fits_next f A x r k (stays p s q) = M.fits f (λ e i. A e (omega arith)) x k ∙ ap (λ i. across i (f (i / 2))) (sym q)
    fits_next f A x r k (comes p s q) =
        ⊎_elim (fits_come a b (across_back (a + b + c) (f (a / 2)) (f (b / 2)) between))
        (fits_come b a (between ∙ ap (λ s. across s (f (b / 2))) (turn a b c))) (to_either a b c (get_or l x 0) r p s q)
      where
        earlier : Agrees G.edges G.counts n f
        earlier e i = A e (omega arith)

        between : f (a / 2) ≡ across (a + b + c) (f (b / 2))
        between = across_between a b c (f (a / 2)) (f (b / 2)) (f u) (f v) (M.fits f earlier u hu) (M.fits f earlier v hv) (A n (omega arith))

        fits_come : (to from : ℕ) → f (from / 2) ≡ across (to + from + c) (f (to / 2)) → Comes to from c (get_or l x 0) r → f x ≡ across r (f (r / 2))
        fits_come to from e C =
            M.fits f earlier x k ∙ ap (λ i. across (get_or l x 0) (f i)) C.was ∙ ap (across (get_or l x 0)) e
            ∙ across_twice (get_or l x 0) (to + from + c) (f (to / 2)) ∙ across_like (get_or l x 0 + (to + from + c)) r (f (to / 2)) C.odd
            ∙ ap (λ i. across r (f i)) (sym C.is)

    path_next : (x r : ℕ) → x < most_nodes → Next a b c (get_or l x 0) r → Connected G (r / 2) x
    path_next x r k (one_part p q) = subst (λ i. Connected G (i / 2) x) (sym q) (M.path x k)
    path_next x r k (stays p s q) = subst (λ i. Connected G (i / 2) x) (sym q) (M.path x k)
    path_next x r k (comes p s q) =
        ⊎_elim (path_come a b (through G (through G (M.path u hu) (edge_path G n h)) (reverse G (M.path v hv))))
        (path_come b a (through G (through G (M.path v hv) (reverse G (edge_path G n h))) (reverse G (M.path u hu))))
        (to_either a b c (get_or l x 0) r p s q)
      where
        path_come : (to from : ℕ) → Connected G (to / 2) (from / 2) → Comes to from c (get_or l x 0) r → Connected G (r / 2) x
        path_come to from w C =
            subst (λ i. Connected G i x) (sym C.is) (through G w (subst (λ i. Connected G i x) C.was (M.path x k)))

    marked_more : ((e : ℕ) → e < suc n → (low G.edges e < most_nodes) × (high G.edges e < most_nodes)) → Marked G (suc n) l'
    marked_more within = record {
      long = length_united a b c l ∙ M.long;
      low_part = λ x k. low_next x (get_or l x 0) (get_or l' x 0) (M.low_part x k) (next-at x k);
      own = λ x k. own_next x (get_or l' x 0) k (next-at x k);
      one = λ e k. one_next e (within e k).0 (within e k).1 (below-or e n k);
      fits = λ f A x k. fits_next f A x (get_or l' x 0) k (next-at x k);
      path = λ x k. path_next x (get_or l' x 0) k (next-at x k);
    }

-- the ends of the edges are nodes of the area
abbrev pub EndsWithin : Grid → Type 0
EndsWithin G = (e : ℕ) → e < length G.counts → (low G.edges e < most_nodes) × (high G.edges e < most_nodes)

pub marked : (G : Grid) → EndsWithin G → (n : ℕ) → n ≤ length G.counts → Marked G n (marks_after G.edges G.counts n)
unfolding marks_after
marked G within zero h = marked_none G
marked G within (suc n) h =
    let M = marked G within n (omega arith) in
    marked_more G n h (marks_after G.edges G.counts n) M (within n h).0 (within n h).1 (λ e k. within e (omega arith))

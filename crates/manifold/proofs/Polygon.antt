-- Step 2, sides: in the triangles of one loop each segment is a side once and each inner side twice, and a side's name tells its ends.
use Prim.Native.Nat.{ℕ, zero, suc, ◌+◌, ◌*◌, ◌<◌}
use mathlib.Core.Path.{◌≡◌, refl, sym, ap, ◌∙◌, subst}
use mathlib.Core.Logic.{◌⊎◌, inl, inr, ◌≢◌, ⊎_elim}
use mathlib.Core.List.{[], ◌∷◌}
use native.Mathlib.Nat.{not-suc-le-zero}
use native.Mathlib.Omega.{arith}
use lib.ListN.{length}
use Rattle.counting.specs.Lists.{one, total, over, after}
use Rattle.counting.specs.work.Stored.{weigh}
use Rattle.counting.proofs.Range.{total_ext, total_add, total_round, after_on, after_last, after_lt, after_ne}
use Rattle.counting.proofs.Lists.{weigh_over}
use Rattle.manifold.specs.Triangle.{Corner, cross, middle, Side, same}
use Rattle.manifold.specs.work.Triangle.{next}
use Rattle.manifold.specs.claims.Plain.{Tri, tri, corner_of, side_of, no_tri, nth}
use Rattle.manifold.specs.claims.Polygon.{Polygon, shape, corner, centre, segment, inner_side, inners, triangles}
use Rattle.manifold.specs.Shape.{Shape, single, double, fan}
use Rattle.manifold.specs.work.Polygon.{triangle_at, many, Simple}
pub use Rattle.manifold.proofs.Shapes.{Fits}
use Rattle.manifold.proofs.Shapes.{fits as shape-fits, length_triangles, get_or_triangles}
use Rattle.manifold.proofs.Triangle.{hits, cross_middle, seg_inner}
use Rattle.manifold.proofs.Sound.{Member, Ends, via, Sound}

pub fits : (G : Polygon) → Fits (shape G) G.n
unfolding shape
fits G = shape-fits G.n G.normal

module _ (G : Polygon) where
  -- its triangles, as a list, by number
  pub triangles_length : length (triangles G) ≡ many G (shape G)
  unfolding triangles
  triangles_length = length_triangles tri (corner G) (centre G) (segment G) (inner_side G) G.n (shape G)

  pub triangles_nth : (k : ℕ) → k < many G (shape G) → nth (triangles G) k ≡ triangle_at G (shape G) k
  unfolding triangles
  triangles_nth k l = get_or_triangles tri (corner G) (centre G) (segment G) (inner_side G) G.n no_tri (shape G) k l

  pub triangles_member : (k : ℕ) → k < many G (shape G) → Member (triangles G) (triangle_at G (shape G) k)
  triangles_member k l = record { at = k; lt = omega (arith, triangles_length); is = triangles_nth k l }

  pub triangles-of : (v : Tri) → Member (triangles G) v → (k : ℕ) × (k < many G (shape G)) × (v ≡ triangle_at G (shape G) k)
  triangles-of v m =
      let l : m.at < many G (shape G) = omega (arith, m.lt, triangles_length) in
      (m.at, l, sym m.is ∙ triangles_nth m.at l)

  -- each segment is a side once, and each inner side twice
  counted : (σ : Side) (sh : Shape) → Fits sh G.n
      → weigh (hits σ) (over (λ k. triangle_at G sh k ∷ []) (many G sh) 0)
      ≡ total (λ k. one (same σ (segment G k))) G.n 0 + 2 * total (λ k. one (same σ (inner_side G k))) (inners G sh) 0
  unfolding weigh total over
  counted σ single e = rw e (omega arith)
  counted σ double e = rw e (omega arith)
  counted σ fan e =
      let n = G.n in
      let f : ℕ → ℕ = (λ k. one (same σ (segment G k))) in
      let g : ℕ → ℕ = (λ k. one (same σ (inner_side G k))) in
      let a : total (λ k. f k + g (after n k) + g k) n 0 ≡ total (λ k. f k + g (after n k)) n 0 + total g n 0 = total_add (λ k. f k + g (after n k)) g n 0 in
      let b : total (λ k. f k + g (after n k)) n 0 ≡ total f n 0 + total (λ k. g (after n k)) n 0 = total_add f (λ k. g (after n k)) n 0 in
      let r : total (λ k. g (after n k)) n 0 ≡ total g n 0 = total_round g n in
      weigh_over (hits σ) (λ k. triangle_at G fan k ∷ []) n 0
      ∙ total_ext (λ k. weigh (hits σ) (triangle_at G fan k ∷ [])) (λ k. f k + g (after n k) + g k) n 0 (λ q u v. omega arith)
      ∙ omega arith

  pub polygon_sides : (σ : Side)
      → weigh (hits σ) (triangles G) ≡ total (λ k. one (same σ (segment G k))) G.n 0 + 2 * total (λ k. one (same σ (inner_side G k))) (inners G (shape G)) 0
  unfolding triangles
  polygon_sides σ = counted σ (shape G) (fits G)

  -- side i of v is segment k, from point k to the next
  pub record AtSegment (v : Tri) (i k : ℕ) : Type 0 where
    pub lt : k < G.n
    pub is : side_of v i ≡ segment G k
    pub from : corner_of v i ≡ corner G k
    pub to : corner_of v (next i) ≡ corner G (after G.n k)

  -- the ends of inner side k
  abbrev outer : Shape → ℕ → Corner
  outer single k = corner G k
  outer double k = corner G 0
  outer fan k = corner G k

  abbrev far : Shape → ℕ → Corner
  far single k = centre G
  far double k = corner G 2
  far fan k = centre G

  -- side i of v is inner side k
  pub record AtInner (sh : Shape) (v : Tri) (i k : ℕ) : Type 0 where
    pub lt : k < inners G sh
    pub is : side_of v i ≡ inner_side G k
    pub ends : Ends (corner_of v i) (corner_of v (next i)) (outer sh k) (far sh k)

  abbrev pub Seen : Shape → Tri → ℕ → Type 0
  Seen sh v i = ((k : ℕ) × AtSegment v i k) ⊎ ((k : ℕ) × AtInner sh v i k)

  -- the one table of the sides
  along : {sh : Shape} (v : Tri) (i k j : ℕ) → k < G.n → after G.n k ≡ j → side_of v i ≡ segment G k → corner_of v i ≡ corner G k → corner_of v (next i) ≡ corner G j → Seen sh v i
  along v i k j l e a b d = inl (k, record { lt = l; is = a; from = b; to = d ∙ ap (corner G) (sym e) })

  table : (sh : Shape) → Fits sh G.n → (k i : ℕ) → k < many G sh → i < 3 → Seen sh (triangle_at G sh k) i
  table single f k zero l h = along (triangle_at G single k) 0 0 1 (omega arith) (after_on G.n 0 (omega arith)) refl refl refl
  table single f k (suc zero) l h = along (triangle_at G single k) 1 1 2 (omega arith) (after_on G.n 1 (omega arith)) refl refl refl
  table single f k (suc (suc zero)) l h = along (triangle_at G single k) 2 2 0 (omega arith) (after_last G.n 2 (omega arith)) refl refl refl
  table double f zero zero l h = along (triangle_at G double 0) 0 0 1 (omega arith) (after_on G.n 0 (omega arith)) refl refl refl
  table double f zero (suc zero) l h = along (triangle_at G double 0) 1 1 2 (omega arith) (after_on G.n 1 (omega arith)) refl refl refl
  table double f zero (suc (suc zero)) l h = inr (0, record { lt = omega arith; is = refl; ends = inr (refl, refl) })
  table double f (suc k) zero l h = inr (0, record { lt = omega arith; is = refl; ends = inl (refl, refl) })
  table double f (suc k) (suc zero) l h = along (triangle_at G double (suc k)) 1 2 3 (omega arith) (after_on G.n 2 (omega arith)) refl refl refl
  table double f (suc k) (suc (suc zero)) l h = along (triangle_at G double (suc k)) 2 3 0 (omega arith) (after_last G.n 3 (omega arith)) refl refl refl
  table fan f k zero l h = along (triangle_at G fan k) 0 k (after G.n k) l refl refl refl refl
  table fan f k (suc zero) l h = inr (after G.n k, record { lt = after_lt G.n k l; is = refl; ends = inl (refl, refl) })
  table fan f k (suc (suc zero)) l h = inr (k, record { lt = l; is = refl; ends = inr (refl, refl) })
  table sh f k (suc (suc (suc i))) l h = absurd (omega arith)

  pub seen : (v : Tri) → Member (triangles G) v → (i : ℕ) → i < 3 → Seen (shape G) v i
  seen v m i l =
      let (k, lk, e) = triangles-of v m in
      subst (λ w. Seen (shape G) w i) (sym e) (table (shape G) (fits G) k i lk l)

  -- a crossing that is a corner is a point of the loop
  pub of_cross : (v : Tri) (i x : ℕ) → Member (triangles G) v → i < 3 → corner_of v i ≡ cross x → (m : ℕ) × (m < G.n) × (G.point m ≡ x)
  of_cross v i x m l e = go (seen v m i l)
    where
      at : (sh : Shape) → Fits sh G.n → (k : ℕ) → k < inners G sh → (cross x ≡ outer sh k) ⊎ (cross x ≡ far sh k) → (m : ℕ) × (m < G.n) × (G.point m ≡ x)
      at single f k lk o = absurd (not-suc-le-zero lk)
      at double f k lk (inl q) = (0, omega arith, cc)
      at double f k lk (inr q) = (2, omega arith, cc)
      at fan f k lk (inl q) = (k, lk, cc)
      at fan f k lk (inr q) = absurd (cross_middle q)

      go : Seen (shape G) v i → (m : ℕ) × (m < G.n) × (G.point m ≡ x)
      go (inl (k, s)) = let q : cross x ≡ corner G k = sym e ∙ s.from in (k, s.lt, cc)
      go (inr (k, s)) = at (shape G) (fits G) k s.lt
          (⊎_elim (λ (q : (corner_of v i ≡ outer (shape G) k) × (corner_of v (next i) ≡ far (shape G) k)). inl (sym e ∙ q.0))
          (λ (q : (corner_of v i ≡ far (shape G) k) × (corner_of v (next i) ≡ outer (shape G) k)). inr (sym e ∙ q.0)) s.ends)

  -- only a fan has a middle, its own
  pub of_middle : (v : Tri) (i c p : ℕ) → Member (triangles G) v → i < 3 → corner_of v i ≡ middle c p → (shape G ≡ fan) × (centre G ≡ middle c p)
  of_middle v i c p m l e = let (k, lk, q) = triangles-of v m in at (shape G) k i (ap (λ w. corner_of w i) (sym q) ∙ e)
    where
      at : (sh : Shape) (k i : ℕ) → corner_of (triangle_at G sh k) i ≡ middle c p → (sh ≡ fan) × (centre G ≡ middle c p)
      at single k zero e = absurd (cross_middle e)
      at single k (suc zero) e = absurd (cross_middle e)
      at single k (suc (suc i)) e = absurd (cross_middle e)
      at double zero zero e = absurd (cross_middle e)
      at double zero (suc zero) e = absurd (cross_middle e)
      at double zero (suc (suc i)) e = absurd (cross_middle e)
      at double (suc k) zero e = absurd (cross_middle e)
      at double (suc k) (suc zero) e = absurd (cross_middle e)
      at double (suc k) (suc (suc i)) e = absurd (cross_middle e)
      at fan k zero e = absurd (cross_middle e)
      at fan k (suc zero) e = absurd (cross_middle e)
      at fan k (suc (suc i)) e = (refl, e)

  module _ (h : G.n ≢ 1) (D : Simple G) where
    pub point_apart : (i j : ℕ) → i < G.n → j < G.n → i ≢ j → corner G i ≢ corner G j
    point_apart i j a b ne e = ne (D.points i j a b (cc))

    -- a side's name tells its ends, and these differ
    pub polygon_sound : Sound (triangles G)
    polygon_sound = record {
      ends = λ v i w j mv mw li lj q. ends v i w j q (seen v mv i li) (seen w mw j lj);
      corners = λ v i m l. corners v i (seen v m i l);
    }
      where
        ends : (v : Tri) (i : ℕ) (w : Tri) (j : ℕ) → side_of v i ≡ side_of w j → Seen (shape G) v i → Seen (shape G) w j
            → Ends (corner_of v i) (corner_of v (next i)) (corner_of w j) (corner_of w (next j))
        ends v i w j q (inl (k, s)) (inl (l, t)) =
            let e : k ≡ l = D.segments k l s.lt t.lt (sym s.is ∙ q ∙ t.is) in
            inl (s.from ∙ ap (corner G) e ∙ sym t.from, s.to ∙ ap (λ x. corner G (after G.n x)) e ∙ sym t.to)
        ends v i w j q (inl (k, s)) (inr (l, t)) = absurd (seg_inner (sym s.is ∙ q ∙ t.is))
        ends v i w j q (inr (k, s)) (inl (l, t)) = absurd (seg_inner (sym t.is ∙ sym q ∙ s.is))
        ends v i w j q (inr (k, s)) (inr (l, t)) =
            let b : inner_side G k ≡ inner_side G l = sym s.is ∙ q ∙ t.is in
            let e : k ≡ l = cc in
            via (corner_of v i) (corner_of v (next i)) (corner_of w j) (corner_of w (next j)) (outer (shape G) k) (far (shape G) k) s.ends
            (subst (λ x. Ends (corner_of w j) (corner_of w (next j)) (outer (shape G) x) (far (shape G) x)) (sym e) t.ends)

        apart : (sh : Shape) → Fits sh G.n → (k : ℕ) → k < inners G sh → outer sh k ≢ far sh k
        apart single f k l = absurd (not-suc-le-zero l)
        apart double f k l = point_apart 0 2 (omega arith) (omega arith) (omega arith)
        apart fan f k l = cross_middle

        corners : (v : Tri) (i : ℕ) → Seen (shape G) v i → corner_of v i ≢ corner_of v (next i)
        corners v i (inl (k, s)) e =
            point_apart k (after G.n k) s.lt (after_lt G.n k s.lt) (λ q. after_ne G.n k s.lt h (sym q)) (sym s.from ∙ e ∙ s.to)
        corners v i (inr (k, s)) e =
            apart (shape G) (fits G) k s.lt
            (⊎_elim (λ (q : (corner_of v i ≡ outer (shape G) k) × (corner_of v (next i) ≡ far (shape G) k)). sym q.0 ∙ e ∙ q.1)
            (λ (q : (corner_of v i ≡ far (shape G) k) × (corner_of v (next i) ≡ outer (shape G) k)). sym q.1 ∙ sym e ∙ q.0) s.ends)

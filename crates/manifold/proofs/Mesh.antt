-- Step 5, whole: the mesh of a complex is sound, and where nothing is left open each side of a triangle occurs twice in it.
use Prim.Native.Nat.{ℕ, ◌<◌}
use mathlib.Core.Path.{◌≡◌, sym, ap, ◌∙◌, subst}
use mathlib.Core.Logic.{◌⊎◌, inl, inr, ◌≢◌}
use native.Mathlib.Omega.{arith}
use Rattle.counting.specs.Lists.{over, after}
use Rattle.counting.specs.work.Stored.{weigh}
use Rattle.counting.specs.claims.Lists.{All}
use Rattle.counting.proofs.Lists.{all_over, all_at, at_all, stands_over}
use Rattle.walk.specs.Darts.{half}
use Rattle.manifold.specs.Triangle.{Corner, cross, inner}
use Rattle.manifold.specs.work.Triangle.{next}
use Rattle.manifold.specs.claims.Plain.{Tri, corner_of, side_of, no_tri, Chain}
use Rattle.manifold.specs.claims.Polygon.{Polygon, shape, corner, triangles, inner_side}
use Rattle.manifold.specs.work.Polygon.{Simple}
use Rattle.manifold.specs.claims.Piece.{mate_of, segment_of, dart}
use Rattle.manifold.specs.claims.Complex.{Complex, Joins, Lawful, Shut, SameEnds, loop_of, mesh}
use Rattle.manifold.proofs.Triangle.{hits, seg_inner}
use Rattle.manifold.proofs.Sound.{Member, member, Ends, Sound}
use Rattle.manifold.proofs.Together.{Here, Spreads, chain_together}
use Rattle.manifold.proofs.Ring.{Closed}
use Rattle.manifold.proofs.Polygon.{polygon_sound, Seen, seen}
use Rattle.manifold.proofs.Piece.{Listed, dart_lt, joins, point_after, dart_once, segment_once, size_ne}
use Rattle.manifold.proofs.Sides.{inner_two, segment_two}

module _ (K : Complex) where
  -- v is a triangle of the loop of piece c from p
  pub record Of (v : Tri) : Type 0 where
    pub c : ℕ
    pub p : ℕ
    pub c_lt : c < K.pieces
    pub p_lt : p < (K.at c).N
    pub in-loop : Member (triangles (loop_of K c p)) v

  all_of : All Of (mesh K)
  unfolding mesh
  all_of =
      all_over Of (λ c. over (λ p. triangles (loop_of K c p)) (K.at c).N 0) K.pieces 0 (λ c a lc.
      all_over Of (λ p. triangles (loop_of K c p)) (K.at c).N 0 (λ p b lp.
      at_all Of no_tri (triangles (loop_of K c p)) (λ t l.
      record { c = c; p = p; c_lt = omega arith; p_lt = omega arith; in-loop = member (triangles (loop_of K c p)) t l })))

  pub of : (v : Tri) → Member (mesh K) v → Of v
  of v m = subst Of m.is (all_at Of no_tri (mesh K) all_of m.at m.lt)

  pub in_mesh : (c p : ℕ) → c < K.pieces → p < (K.at c).N → (v : Tri) → Member (triangles (loop_of K c p)) v → Member (mesh K) v
  unfolding mesh
  in_mesh c p lc lp v m =
      stands_over no_tri (λ c. over (λ p. triangles (loop_of K c p)) (K.at c).N 0) K.pieces 0 c v (omega arith) (omega arith)
      (stands_over no_tri (λ p. triangles (loop_of K c p)) (K.at c).N 0 p v (omega arith) (omega arith) m)

  pub in_mesh_here : (c p : ℕ) → c < K.pieces → p < (K.at c).N → {g : Corner} (v : Tri) (i : ℕ) → Here (triangles (loop_of K c p)) g v i → Here (mesh K) g v i
  in_mesh_here c p lc lp v i h = record { member = in_mesh c p lc lp v h.member; lt = h.lt; is = h.is }

  -- a chain of a loop's triangles joins them in the mesh
  pub along : (c p : ℕ) → c < K.pieces → p < (K.at c).N → {g : Corner} → Chain (triangles (loop_of K c p)) g → (Q : Tri → ℕ → Type 0) → Spreads (mesh K) g Q
      → (v : Tri) (i : ℕ) (w : Tri) (j : ℕ) → Here (triangles (loop_of K c p)) g v i → Here (triangles (loop_of K c p)) g w j → Q v i → Q w j
  along c p lc lp C Q pass =
      chain_together C Q (λ v i w j hv hw t q. pass v i w j (in_mesh_here c p lc lp v i hv) (in_mesh_here c p lc lp w j hw) t q)

  module _ (W : Lawful K) where
    pub size_two : (c p : ℕ) → c < K.pieces → p < (K.at c).N → (loop_of K c p).n ≢ 1
    size_two c p lc lp = size_ne (K.at c) (W.piece c lc) p lp

    pub on : (c p i : ℕ) → p < (K.at c).N → i < (loop_of K c p).n → Listed (K.at c) p i
    on c p i lp li = record { start = lp; lt = li }

    -- points of one piece with one number are one
    pub point_once : (c p i q j : ℕ) → c < K.pieces → Listed (K.at c) p i → Listed (K.at c) q j → (loop_of K c p).point i ≡ (loop_of K c q).point j → (p ≡ q) × (i ≡ j)
    point_once c p i q j lc h k e =
        dart_once (K.at c) (W.piece c lc) h k
        ((W.piece c lc).numbers (half (dart (K.at c) p i)) (half (dart (K.at c) q j))
        (omega (arith, dart_lt (K.at c) (W.piece c lc) h)) (omega (arith, dart_lt (K.at c) (W.piece c lc) k)) e)

    -- step 3 makes each loop a polygon of step 2
    pub simple : (c p : ℕ) → c < K.pieces → p < (K.at c).N → Simple (loop_of K c p)
    simple c p lc lp = record {
      points = λ i j a b e. (point_once c p i p j lc (on c p i lp a) (on c p j lp b) e).1;
      segments = λ i j a b e. (segment_once (K.at c) (W.piece c lc) (on c p i lp a) (on c p j lp b) e).1;
    }

    pub loop_sound : (c p : ℕ) → c < K.pieces → p < (K.at c).N → Sound (triangles (loop_of K c p))
    loop_sound c p lc lp = polygon_sound (loop_of K c p) (size_two c p lc lp) (simple c p lc lp)

    -- the point after point i is where its dart goes
    pub goes_to : (c p i : ℕ) → c < K.pieces → Listed (K.at c) p i → corner (loop_of K c p) (after (loop_of K c p).n i) ≡ cross ((K.at c).number (mate_of (K.at c) (dart (K.at c) p i)))
    goes_to c p i lc h = ap (λ x. cross ((K.at c).number x)) (point_after (K.at c) (W.piece c lc) h)

    sight : (v : Tri) (a : Of v) (i : ℕ) → i < 3 → Seen (loop_of K a.c a.p) (shape (loop_of K a.c a.p)) v i
    sight v a i l = seen (loop_of K a.c a.p) v a.in-loop i l

    -- the numbers of a loop's piece and p0 tell the loop
    pub same_loop : (v w : Tri) (a : Of v) (b : Of w) → a.c ≡ b.c → (K.at a.c).number a.p ≡ (K.at b.c).number b.p → Member (triangles (loop_of K a.c a.p)) w
    same_loop v w a b ec eg =
        let ep : a.p ≡ b.p = (W.piece b.c b.c_lt).numbers a.p b.p (subst (λ c. a.p < (K.at c).N) ec a.p_lt) b.p_lt
        (subst (λ c. (K.at c).number a.p ≡ (K.at b.c).number b.p) ec eg) in
        subst (λ c. Member (triangles (loop_of K c a.p)) w) (sym ec) (subst (λ p. Member (triangles (loop_of K b.c p)) w) (sym ep) b.in-loop)

    cross_ends : (a b d e : ℕ) → SameEnds (K.at a) d (K.at b) e
        → Ends (cross ((K.at a).number (half d))) (cross ((K.at a).number (mate_of (K.at a) d))) (cross ((K.at b).number (half e))) (cross ((K.at b).number (mate_of (K.at b) e)))
    cross_ends a b d e (inl u) = inl (ap cross u.0, ap cross u.1)
    cross_ends a b d e (inr u) = inr (ap cross u.0, ap cross u.1)

    pub mesh_sound : Sound (mesh K)
    mesh_sound = record {
      ends = λ v i w j mv mw li lj e. ends v i w j (of v mv) (of w mw) li lj e;
      corners = λ v i m l. let a = of v m in (loop_sound a.c a.p a.c_lt a.p_lt).corners v i a.in-loop l;
    }
      where
        ends : (v : Tri) (i : ℕ) (w : Tri) (j : ℕ) → Of v → Of w → i < 3 → j < 3 → side_of v i ≡ side_of w j
            → Ends (corner_of v i) (corner_of v (next i)) (corner_of w j) (corner_of w (next j))
        ends v i w j a b li lj e = go (sight v a i li) (sight w b j lj)
          where
            G : Polygon
            G = loop_of K a.c a.p

            H : Polygon
            H = loop_of K b.c b.p

            go : Seen G (shape G) v i → Seen H (shape H) w j → Ends (corner_of v i) (corner_of v (next i)) (corner_of w j) (corner_of w (next j))
            go (inl (k, s)) (inl (l, t)) =
                let d = dart (K.at a.c) a.p k in
                let x = dart (K.at b.c) b.p l in
                let hd = on a.c a.p k a.p_lt s.lt in
                let hx = on b.c b.p l b.p_lt t.lt in
                rw (s.from, s.to, t.from, t.to, goes_to a.c a.p k a.c_lt hd, goes_to b.c b.p l b.c_lt hx)
                (cross_ends a.c b.c d x (W.ends a.c b.c d x a.c_lt b.c_lt
                (joins (K.at a.c) (W.piece a.c a.c_lt) hd) (joins (K.at b.c) (W.piece b.c b.c_lt) hx) (sym s.is ∙ e ∙ t.is)))
            go (inl (k, s)) (inr (l, t)) = absurd (seg_inner (sym s.is ∙ e ∙ t.is))
            go (inr (k, s)) (inl (l, t)) = absurd (seg_inner (sym t.is ∙ sym e ∙ s.is))
            go (inr (k, s)) (inr (l, t)) =
                let q : inner_side G k ≡ inner_side H l = sym s.is ∙ e ∙ t.is in
                (loop_sound a.c a.p a.c_lt a.p_lt).ends v i w j a.in-loop (same_loop v w a b (W.tags a.c b.c a.c_lt b.c_lt (cc)) (cc)) li lj e

    -- a side of a triangle: a segment, or an inner side
    pub side_kind : (v : Tri) (i : ℕ) → Member (mesh K) v → i < 3
        → ((c : ℕ) × (d : ℕ) × (c < K.pieces) × Joins (K.at c) d × (side_of v i ≡ segment_of (K.at c) d))
        ⊎ ((a : ℕ) × (p : ℕ) × (k : ℕ) × (side_of v i ≡ inner a p k) × (weigh (hits (side_of v i)) (mesh K) ≡ 2))
    side_kind v i m l = go (of v m)
      where
        go : Of v → ((c : ℕ) × (d : ℕ) × (c < K.pieces) × Joins (K.at c) d × (side_of v i ≡ segment_of (K.at c) d))
            ⊎ ((a : ℕ) × (p : ℕ) × (k : ℕ) × (side_of v i ≡ inner a p k) × (weigh (hits (side_of v i)) (mesh K) ≡ 2))
        go a = which (sight v a i l)
          where
            which : Seen (loop_of K a.c a.p) (shape (loop_of K a.c a.p)) v i
                → ((c : ℕ) × (d : ℕ) × (c < K.pieces) × Joins (K.at c) d × (side_of v i ≡ segment_of (K.at c) d))
                ⊎ ((a : ℕ) × (p : ℕ) × (k : ℕ) × (side_of v i ≡ inner a p k) × (weigh (hits (side_of v i)) (mesh K) ≡ 2))
            which (inl (k, s)) = inl (
              a.c,
              dart (K.at a.c) a.p k,
              a.c_lt,
              joins (K.at a.c) (W.piece a.c a.c_lt) (on a.c a.p k a.p_lt s.lt),
              s.is,
            )
            which (inr (k, s)) = inr (
              K.tag a.c,
              (K.at a.c).number a.p,
              k,
              s.is,
              inner_two K W (side_of v i) a.c a.p k (record { c_lt = a.c_lt; p_lt = a.p_lt; k_lt = s.lt; is = s.is }),
            )

    pub closed : Shut K → Closed (mesh K)
    closed S = record { sound = mesh_sound; twice = λ v i m l. twice v i (of v m) l }
      where
        twice : (v : Tri) (i : ℕ) → Of v → i < 3 → weigh (hits (side_of v i)) (mesh K) ≡ 2
        twice v i a l = go (sight v a i l)
          where
            go : Seen (loop_of K a.c a.p) (shape (loop_of K a.c a.p)) v i → weigh (hits (side_of v i)) (mesh K) ≡ 2
            go (inl (k, s)) =
                rw s.is (segment_two K W S a.c (dart (K.at a.c) a.p k) a.c_lt (joins (K.at a.c) (W.piece a.c a.c_lt) (on a.c a.p k a.p_lt s.lt)))
            go (inr (k, s)) = inner_two K W (side_of v i) a.c a.p k (record { c_lt = a.c_lt; p_lt = a.p_lt; k_lt = s.lt; is = s.is })

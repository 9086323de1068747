-- Steps 4 and 5: how often a side occurs in the mesh. A segment has at most two pieces, and each gives it at most once; an inner side belongs to
-- one loop, which gives it twice. A piece gives a segment once if its curve closes there, and else not at all. Where nothing is left open, a segment has two
-- pieces, and its curve closes in each.
use Prim.Native.Nat.{ℕ, ◌+◌, ◌*◌, ◌≤◌, ◌<◌}
use mathlib.Core.Path.{◌≡◌, refl, sym, ap, ◌∙◌, subst}
use mathlib.Core.Logic.{◌≢◌, ⊎_elim}
use native.Mathlib.Nat.{eq-zero-or-pos, le_of_eq}
use native.Mathlib.Omega.{arith}
use native.Mathlib.Decide.{ℕ_discrete}
use Rattle.counting.specs.Lists.{one, total, over, tally}
use Rattle.counting.specs.work.Stored.{weigh}
use Rattle.counting.proofs.Range.{total_zero, total_one, total_ext, total_pos, total_single, total_two, total_le_two}
use Rattle.counting.proofs.Lists.{weigh_over}
use Rattle.manifold.specs.Triangle.{Side, seg, inner, same}
use Rattle.manifold.specs.claims.Plain.{has_side}
use Rattle.manifold.specs.claims.Polygon.{shape, inner_side, inners, triangles}
use Rattle.manifold.specs.claims.Piece.{slot_of, lower_of, segment_of, dart, size_of}
use Rattle.manifold.specs.claims.Complex.{Complex, Joins, Closes, Lawful, Shut, loop_of, mesh}
use Rattle.manifold.proofs.Triangle.{hits, eq_same, ne_same, one_same, tally_hits}
use Rattle.manifold.proofs.Polygon.{polygon_sides}
use Rattle.manifold.proofs.Piece.{Passed, counts, counted, count_one, count_le, joins, whole_closes, passed_closes, covers, covers_segment}

module _ (K : Complex) where
  -- how often σ is a side of a triangle of the loop from p; of piece c
  abbrev in_loop : Side → ℕ → ℕ → ℕ
  in_loop σ c p = weigh (hits σ) (triangles (loop_of K c p))

  in_piece : Side → ℕ → ℕ
  in_piece σ c = total (in_loop σ c) (K.at c).N 0

  spokes : ℕ → ℕ → ℕ
  spokes c p = inners (loop_of K c p) (shape (loop_of K c p))

  whole : (σ : Side) → weigh (hits σ) (mesh K) ≡ total (in_piece σ) K.pieces 0
  unfolding mesh in_piece
  whole σ =
      weigh_over (hits σ) (λ c. over (λ p. triangles (loop_of K c p)) (K.at c).N 0) K.pieces 0
      ∙ total_ext (λ c. weigh (hits σ) (over (λ p. triangles (loop_of K c p)) (K.at c).N 0)) (in_piece σ) K.pieces 0
      (λ c a b. weigh_over (hits σ) (λ p. triangles (loop_of K c p)) (K.at c).N 0)

  module _ (W : Lawful K) where
    loop_sides : (σ : Side) (c p : ℕ)
        → in_loop σ c p ≡ counts (K.at c) σ p + 2 * total (λ k. one (same σ (inner_side (loop_of K c p) k))) (spokes c p) 0
    unfolding spokes
    loop_sides σ c p = polygon_sides (loop_of K c p) σ

    -- a segment
    segment_count : (f l c : ℕ) → in_piece (seg f l) c ≡ total (counts (K.at c) (seg f l)) (K.at c).N 0
    unfolding in_piece
    segment_count f l c =
        total_ext (in_loop (seg f l) c) (counts (K.at c) (seg f l)) (K.at c).N 0
        (λ p a b. loop_sides (seg f l) c p ∙ omega (arith, total_zero (λ k. 0) (spokes c p) 0 (λ q u v. refl)))

    segment_in : (f l c : ℕ) → c < K.pieces → 0 < in_piece (seg f l) c → Passed (K.at c) (seg f l)
    segment_in f l c lc h = counted (K.at c) (W.piece c lc) (seg f l) (subst (λ x. 0 < x) (segment_count f l c) h)

    no_three : (f l a b c : ℕ) → a < K.pieces → b < K.pieces → c < K.pieces → a ≢ b → a ≢ c → b ≢ c
        → 0 < in_piece (seg f l) a → 0 < in_piece (seg f l) b → 0 < in_piece (seg f l) c → ⊥
    no_three f l a b c la lb lc ab ac bc ha hb hc =
        let u = segment_in f l a la ha in
        let v = segment_in f l b lb hb in
        let w = segment_in f l c lc hc in
        W.few a b c (dart (K.at a) u.p u.i) (dart (K.at b) v.p v.i) (dart (K.at c) w.p w.i) la lb lc
        (joins (K.at a) (W.piece a la) u.on) (joins (K.at b) (W.piece b lb) v.on) (joins (K.at c) (W.piece c lc) w.on)
        (sym u.is ∙ v.is) (sym u.is ∙ w.is) ab ac bc

    segment_le : (f l : ℕ) → weigh (hits (seg f l)) (mesh K) ≤ 2
    segment_le f l = subst (λ x. x ≤ 2) (sym (whole (seg f l)))
        (total_le_two (in_piece (seg f l)) K.pieces
        (λ c lc. subst (λ x. x ≤ 1) (sym (segment_count f l c)) (count_le (K.at c) (W.piece c lc) (seg f l)))
        (no_three f l))

    -- an inner side
    pub record Inner (σ : Side) (c p k : ℕ) : Type 0 where
      pub c_lt : c < K.pieces
      pub p_lt : p < (K.at c).N
      pub k_lt : k < inners (loop_of K c p) (shape (loop_of K c p))
      pub is : σ ≡ inner_side (loop_of K c p) k

    none : (c g k c' p' : ℕ) → ((q : ℕ) → inner c g k ≢ inner_side (loop_of K c' p') q) → in_loop (inner c g k) c' p' ≡ 0
    none c g k c' p' ne =
        loop_sides (inner c g k) c' p'
        ∙ omega (
          arith,
          total_zero (λ i. 0) (size_of (K.at c') p') 0 (λ q u v. refl),
          total_zero (λ i. one (same (inner c g k) (inner_side (loop_of K c' p') i))) (spokes c' p') 0 (λ q u v. ap one (ne_same (inner c g k) (inner_side (loop_of K c' p') q) (ne q))),
        )

    pub inner_two : (σ : Side) (c p k : ℕ) → Inner σ c p k → weigh (hits σ) (mesh K) ≡ 2
    unfolding in_piece spokes
    inner_two σ c p k w =
        let g = (K.at c).number p in
        let t = K.tag c in
        let τ = inner t g k in
        ap (λ s. weigh (hits s) (mesh K)) w.is ∙ whole τ
        ∙ total_single (in_piece τ) K.pieces 0 c (omega arith) (omega (arith, w.c_lt))
        (λ c' u v ne. total_zero (in_loop τ c') (K.at c').N 0 (λ p' x y. none t g k c' p' (λ q e. ne (W.tags c' c (omega arith) w.c_lt (cc)))))
        ∙ total_single (in_loop τ c) (K.at c).N 0 p (omega arith) (omega (arith, w.p_lt))
        (λ p' u v ne. none t g k c p' (λ q e.
        let f : (K.at c).number p' ≡ (K.at c).number p = cc in
        ne ((W.piece c w.c_lt).numbers p' p (omega arith) w.p_lt f)))
        ∙ loop_sides τ c p
        ∙ omega (
          arith,
          total_zero (λ i. 0) (size_of (K.at c) p) 0 (λ q u v. refl),
          total_one (λ i. one (same τ (inner t g i))) (spokes c p) 0 k (omega arith) (omega (arith, w.k_lt))
              (ap one (eq_same τ τ refl)) (λ q u v ne. ap one (ne_same τ (inner t g q) (λ e. ne (cc)))),
        )

    inner_le : (a g k : ℕ) → weigh (hits (inner a g k)) (mesh K) ≤ 2
    unfolding in_piece spokes
    inner_le a g k = ⊎_elim (λ (e : weigh (hits σ) (mesh K) ≡ 0). omega arith) find (eq-zero-or-pos (weigh (hits σ) (mesh K)))
      where
        σ : Side
        σ = inner a g k

        find : 0 < weigh (hits σ) (mesh K) → weigh (hits σ) (mesh K) ≤ 2
        find h =
            let (c, u, lc, hc) = total_pos (in_piece σ) K.pieces 0 (subst (λ x. 0 < x) (whole σ) h) in
            let (p, v, lp, hp) = total_pos (in_loop σ c) (K.at c).N 0 hc in
            let (i, w, li, hi) = total_pos (λ i. one (same σ (inner_side (loop_of K c p) i))) (spokes c p) 0
            (omega (arith, hp, loop_sides σ c p, total_zero (λ i. 0) (size_of (K.at c) p) 0 (λ q x y. refl))) in
            le_of_eq (inner_two σ c p i (record {
              c_lt = omega arith;
              p_lt = omega arith;
              k_lt = omega arith;
              is = one_same σ (inner_side (loop_of K c p) i) hi;
            }))

    side_le : (σ : Side) → weigh (hits σ) (mesh K) ≤ 2
    side_le (seg f l) = segment_le f l
    side_le (inner a g k) = inner_le a g k

    -- (b) no side is in more than two triangles
    pub at_most_two : (σ : Side) → tally (has_side σ) (mesh K) ≤ 2
    at_most_two σ = omega (arith, tally_hits σ (mesh K), side_le σ)

    -- a piece gives each segment of a curve that closes in it once
    once : (c d : ℕ) → c < K.pieces → Closes (K.at c) d → in_piece (segment_of (K.at c) d) c ≡ 1
    once c d lc cl =
        let w = covers (K.at c) (W.piece c lc) d cl in
        segment_count ((K.at c).name (slot_of (K.at c) d)) (lower_of (K.at c) d) c
        ∙ count_one (K.at c) (W.piece c lc) (segment_of (K.at c) d) (record { p = w.p; i = w.i; on = w.on; is = sym (covers_segment (K.at c) d w) })

    -- so a segment occurs once where no other piece has it, and twice where another has it
    module _ (c d : ℕ) (lc : c < K.pieces)
        (only : (b e : ℕ) → b < K.pieces → b ≢ c → Joins (K.at b) e → segment_of (K.at b) e ≢ segment_of (K.at c) d) where
      elsewhere : (a : ℕ) → a < K.pieces → a ≢ c → in_piece (segment_of (K.at c) d) a ≡ 0
      elsewhere a la ne = ⊎_elim (λ z. z)
          (λ (h : 0 < in_piece (segment_of (K.at c) d) a).
          let w = segment_in ((K.at c).name (slot_of (K.at c) d)) (lower_of (K.at c) d) a la h in
          absurd (only a (dart (K.at a) w.p w.i) la ne (joins (K.at a) (W.piece a la) w.on) (sym w.is)))
          (eq-zero-or-pos (in_piece (segment_of (K.at c) d) a))

      pub segment_one : Closes (K.at c) d → weigh (hits (segment_of (K.at c) d)) (mesh K) ≡ 1
      segment_one cl =
          whole (segment_of (K.at c) d)
          ∙ total_one (in_piece (segment_of (K.at c) d)) K.pieces 0 c (omega arith) (omega arith) (once c d lc cl) (λ a u v ne. elsewhere a (omega arith) ne)

      -- and nowhere if its curve does not close
      pub segment_none : Joins (K.at c) d → (Closes (K.at c) d → ⊥) → weigh (hits (segment_of (K.at c) d)) (mesh K) ≡ 0
      segment_none on no_loop =
          whole (segment_of (K.at c) d)
          ∙ total_zero (in_piece (segment_of (K.at c) d)) K.pieces 0 (λ a u v. elim (ℕ_discrete a c) [ yes e ↦ ap (in_piece (segment_of (K.at c) d)) e ∙ here | no ne ↦ elsewhere a (omega arith) ne ])
        where
          here : in_piece (segment_of (K.at c) d) c ≡ 0
          here = ⊎_elim (λ z. z)
              (λ (h : 0 < in_piece (segment_of (K.at c) d) c).
              absurd (no_loop (passed_closes (K.at c) (W.piece c lc) d on (segment_in ((K.at c).name (slot_of (K.at c) d)) (lower_of (K.at c) d) c lc h))))
              (eq-zero-or-pos (in_piece (segment_of (K.at c) d) c))

    pub segment_both : (c d b e : ℕ) → c < K.pieces → b < K.pieces → b ≢ c → Closes (K.at c) d → Closes (K.at b) e
        → segment_of (K.at b) e ≡ segment_of (K.at c) d → weigh (hits (segment_of (K.at c) d)) (mesh K) ≡ 2
    segment_both c d b e lc lb ne cl cl' q =
        let n : in_piece (segment_of (K.at c) d) b ≡ 1 = subst (λ y. in_piece y b ≡ 1) q (once b e lb cl') in
        let f = (K.at c).name (slot_of (K.at c) d) in
        let l = lower_of (K.at c) d in
        whole (segment_of (K.at c) d)
        ∙ total_two (in_piece (segment_of (K.at c) d)) K.pieces c b lc lb (λ w. ne (sym w)) (once c d lc cl) n
        (λ a la ac ab. ⊎_elim (λ z. z)
        (λ (h : 0 < in_piece (segment_of (K.at c) d) a). absurd (no_three f l c b a lc lb la (λ w. ne (sym w)) (λ w. ac (sym w)) (λ w. ab (sym w))
        (omega (arith, once c d lc cl)) (omega (arith, n)) h)) (eq-zero-or-pos (in_piece (segment_of (K.at c) d) a)))

    -- where nothing is left open, a segment of a piece occurs twice
    pub segment_two : Shut K → (c d : ℕ) → c < K.pieces → Joins (K.at c) d → weigh (hits (segment_of (K.at c) d)) (mesh K) ≡ 2
    segment_two S c d lc ld =
        let (b, lb, ne, e, le, q) = S.paired c d lc ld in
        segment_both c d b e lc lb ne (whole_closes (K.at c) (W.piece c lc) (S.full c lc) d ld) (whole_closes (K.at b) (W.piece b lb) (S.full b lb) e le) q

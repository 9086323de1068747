-- No two segments of a face alternate round its rim.
use Prim.Native.Nat.{ℕ, ◌+◌, ◌*◌, ◌<◌, ◌≤◌, min}
use mathlib.Core.Path.{◌≡◌, refl}
use mathlib.Core.Logic.{inl, inr}
use native.Mathlib.Omega.{arith}
use Rattle.slots.specs.Slots.{lower, upper}
use Rattle.face.specs.Face.{other, corner_count, count_on, kth, corner_count_at}
use Rattle.face.specs.claims.Ends.{Edge, on_ab, on_ac, on_bc, End, low, high}
use Rattle.face.specs.Rim.{rim, Segment, EndAt, InTurn, Alternate}
use Rattle.face.proofs.Ends.{edge_with}
use Rattle.face.proofs.Gaps.{corner_node, corner_fits, corner_room}
use Rattle.face.proofs.Links.{Link, about, up, down, link}

module _ (ab ac bc : ℕ) where
  within : {e : ℕ} (t : ℕ) → Edge e → t < count_on ab ac bc e → rim ab ac bc e t < ab + ac + bc
  unfolding rim count_on
  within t on_ab h = omega arith
  within t on_ac h = omega arith
  within t on_bc h = omega arith

  pub rim_within : (e t : ℕ) → t < count_on ab ac bc e → rim ab ac bc e t < ab + ac + bc
  rim_within e t h = within t (edge_with ab ac bc e t h) h

  once : {e e' : ℕ} (t t' : ℕ) → Edge e → Edge e' → t < count_on ab ac bc e → t' < count_on ab ac bc e' → rim ab ac bc e t ≡ rim ab ac bc e' t' → (e ≡ e') × (t ≡ t')
  unfolding rim count_on
  once t t' on_ab on_ab h k q = omega arith
  once t t' on_ab on_ac h k q = omega arith
  once t t' on_ab on_bc h k q = omega arith
  once t t' on_ac on_ab h k q = omega arith
  once t t' on_ac on_ac h k q = omega arith
  once t t' on_ac on_bc h k q = omega arith
  once t t' on_bc on_ab h k q = omega arith
  once t t' on_bc on_ac h k q = omega arith
  once t t' on_bc on_bc h k q = omega arith

  pub rim_once : (e t e' t' : ℕ) → t < count_on ab ac bc e → t' < count_on ab ac bc e' → rim ab ac bc e t ≡ rim ab ac bc e' t' → (e ≡ e') × (t ≡ t')
  rim_once e t e' t' h k = once t t' (edge_with ab ac bc e t h) (edge_with ab ac bc e' t' k) h k

  -- the places of the ends of a segment: about a, b or c, or next to each other
  data Span (p q : ℕ) : Type 0 where
    about_a : p + q + 1 ≡ ab + ac + bc → min p q < corner_count ab ac bc → Span p q
    about_b : p + q + 1 ≡ 2 * ab → ab ≤ p + corner_count ab bc ac → p < ab + corner_count ab bc ac → Span p q
    about_c : p + q + 1 ≡ 2 * (ab + bc) → ab + bc ≤ p + corner_count ac bc ab → p < ab + bc + corner_count ac bc ab → Span p q
    next_up : q ≡ p + 1 → Span p q
    next_down : p ≡ q + 1 → Span p q

  span_corner : {w e : ℕ} (k : ℕ) → End w e → k < corner_count_at ab ac bc w e → corner_count_at ab ac bc w e ≤ count_on ab ac bc e → corner_count_at ab ac bc w e ≤ count_on ab ac bc (other w e)
      → Span (rim ab ac bc e (kth ab ac bc w e k)) (rim ab ac bc (other w e) (kth ab ac bc w (other w e) k))
  unfolding rim kth count_on lower upper other
  span_corner k (low on_ab) h i j = let c = corner_node ab ac bc (low on_ab) in about_a (omega arith) (omega arith)
  span_corner k (low on_ac) h i j = let c = corner_node ab ac bc (low on_ac) in about_a (omega arith) (omega arith)
  span_corner k (low on_bc) h i j = let c = corner_node ab ac bc (low on_bc) in about_b (omega arith) (omega arith) (omega arith)
  span_corner k (high on_ab) h i j = let c = corner_node ab ac bc (high on_ab) in about_b (omega arith) (omega arith) (omega arith)
  span_corner k (high on_ac) h i j = let c = corner_node ab ac bc (high on_ac) in about_c (omega arith) (omega arith) (omega arith)
  span_corner k (high on_bc) h i j = let c = corner_node ab ac bc (high on_bc) in about_c (omega arith) (omega arith) (omega arith)

  span_pair : {e : ℕ} (t : ℕ) → Edge e → t + 1 < count_on ab ac bc e → Span (rim ab ac bc e t) (rim ab ac bc e (t + 1))
  unfolding rim count_on
  span_pair t on_ab h = next_up (omega arith)
  span_pair t on_ac h = next_down (omega arith)
  span_pair t on_bc h = next_up (omega arith)

  turned : {p q : ℕ} → Span p q → Span q p
  turned (about_a s m) = about_a (omega arith) (omega arith)
  turned (about_b s m l) = about_b (omega arith) (omega arith) (omega arith)
  turned (about_c s m l) = about_c (omega arith) (omega arith) (omega arith)
  turned (next_up s) = next_down s
  turned (next_down s) = next_up s

  span : {e t e' t' : ℕ} → Link ab ac bc e t e' t' → Span (rim ab ac bc e t) (rim ab ac bc e' t')
  span {e} (about {w = w} k d h p q r) = rw (r, q, p) (let f = corner_fits ab ac bc w e in span_corner k d h f.0 f.1)
  span {t = t} (up d p q) = rw (p, q) (span_pair t d.edge (omega (arith, d.stop)))
  span {t' = t'} (down d p q) = rw (p, q) (turned (span_pair t' d.edge (omega (arith, d.stop))))

  -- the corner counts have room on the three edges
  rooms : (corner_count ab ac bc + corner_count ab bc ac ≤ ab) × (corner_count ab bc ac + corner_count ac bc ab ≤ bc) × (corner_count ab ac bc + corner_count ac bc ab ≤ ac)
  unfolding count_on lower upper
  rooms = (
    omega (arith, corner_room ab ac bc on_ab, corner_node ab ac bc (low on_ab), corner_node ab ac bc (high on_ab)),
    omega (arith, corner_room ab ac bc on_bc, corner_node ab ac bc (low on_bc), corner_node ab ac bc (high on_bc)),
    omega (arith, corner_room ab ac bc on_ac, corner_node ab ac bc (low on_ac), corner_node ab ac bc (high on_ac)),
  )

  -- two segments are not met first, second, first, second
  nested : {p q r s : ℕ} → Span p r → Span q s →
      (corner_count ab ac bc + corner_count ab bc ac ≤ ab) × (corner_count ab bc ac + corner_count ac bc ab ≤ bc) × (corner_count ab ac bc + corner_count ac bc ab ≤ ac) →
      p < q → q < r → r < s → ⊥
  nested (about_a a m) (about_a b l) c f g h = omega arith
  nested (about_a a m) (about_b b l k) c f g h = omega arith
  nested (about_a a m) (about_c b l k) c f g h = omega arith
  nested (about_a a m) (next_up b) c f g h = omega arith
  nested (about_a a m) (next_down b) c f g h = omega arith
  nested (about_b a m i) (about_a b l) c f g h = omega arith
  nested (about_b a m i) (about_b b l k) c f g h = omega arith
  nested (about_b a m i) (about_c b l k) c f g h = omega arith
  nested (about_b a m i) (next_up b) c f g h = omega arith
  nested (about_b a m i) (next_down b) c f g h = omega arith
  nested (about_c a m i) (about_a b l) c f g h = omega arith
  nested (about_c a m i) (about_b b l k) c f g h = omega arith
  nested (about_c a m i) (about_c b l k) c f g h = omega arith
  nested (about_c a m i) (next_up b) c f g h = omega arith
  nested (about_c a m i) (next_down b) c f g h = omega arith
  nested (next_up a) b c f g h = omega arith
  nested (next_down a) b c f g h = omega arith

  -- two places of the ends of one segment, the one before the other, are those of its two ends
  two_ends : {e t e' t' p r : ℕ} → Link ab ac bc e t e' t' → EndAt ab ac bc e t e' t' p → EndAt ab ac bc e t e' t' r → p < r → Span p r
  two_ends j (inl a) (inl b) l = absurd (omega arith)
  two_ends j (inl a) (inr b) l = rw (a, b) (span j)
  two_ends j (inr a) (inl b) l = rw (a, b) (turned (span j))
  two_ends j (inr a) (inr b) l = absurd (omega arith)

  never_meets : {e t e' t' u i u' i' : ℕ} → Link ab ac bc e t e' t' → Link ab ac bc u i u' i' → InTurn (EndAt ab ac bc e t e' t') (EndAt ab ac bc u i u' i') → ⊥
  never_meets j k m =
      nested (two_ends j m.of_first m.of_first_again (omega (arith, m.p_q, m.q_r)))
      (two_ends k m.of_second m.of_second_again (omega (arith, m.q_r, m.r_s))) rooms m.p_q m.q_r m.r_s

  pub never_alternate : (e t e' t' u i u' i' : ℕ) → Segment ab ac bc e t e' t' → Segment ab ac bc u i u' i' → Alternate ab ac bc e t e' t' u i u' i' → ⊥
  never_alternate e t e' t' u i u' i' j k (inl m) = never_meets (link ab ac bc j) (link ab ac bc k) m
  never_alternate e t e' t' u i u' i' j k (inr m) = never_meets (link ab ac bc k) (link ab ac bc j) m

-- alternation can be met: joined so, 0 of ab to 0 of bc and 1 of ab to 1 of bc would alternate
pub alternating : Alternate 2 0 2 0 0 2 0 0 1 2 1
unfolding rim
alternating = inl (record {
  p = 0;
  q = 1;
  r = 2;
  s = 3;
  of_first = inl refl;
  of_second = inl refl;
  of_first_again = inr refl;
  of_second_again = inr refl;
  p_q = omega arith;
  q_r = omega arith;
  r_s = omega arith;
})

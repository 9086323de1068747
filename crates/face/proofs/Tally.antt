-- The counts of a face sum to twice its segments plus its unjoined crossings; and how many these are.
use Prim.Native.Nat.{ℕ, ◌+◌, ◌-◌, ◌*◌, ◌%◌, ◌<◌, ◌≤◌}
use mathlib.Core.Path.{◌≡◌, refl, sym, ◌∙◌, ap}
use mathlib.Core.Logic.{◌⊎◌, inl, inr}
use mathlib.Core.Bool.{Bool, true}
use mathlib.Core.List.{List}
use native.Mathlib.Omega.{arith}
use native.Mathlib.Decide.{ℕ_discrete}
use lib.Dec.{eqb}
use lib.ListN.{get_or}
use Rattle.counting.specs.Lists.{one, total, pre}
use Rattle.counting.specs.Search.{count as passing}
use Rattle.counting.specs.Pack.{row, col}
use Rattle.counting.proofs.Bools.{clash, not_clash}
use Rattle.counting.proofs.Search.{count_ext, count_none, count_all, count_sum}
use Rattle.counting.proofs.Pack.{col_lt, unpack, row_pack, col_pack, pack_lt}
use Rattle.counting.proofs.Involution.{paired}
use Rattle.counting.proofs.Rows.{count_rows, count_only}
use Rattle.face.specs.Face.{joined, other, count_on, others, corner_count_at, face_join}
use Rattle.face.specs.claims.Claims.{unjoined}
use Rattle.slots.specs.Slots.{lower, upper}
use Rattle.face.specs.claims.Ends.{Edge, on_ab, on_ac, on_bc}
use Rattle.face.specs.Rim.{Segment}
use Rattle.face.specs.claims.Tally.{face_edges, join_of, is_joined, is_unjoined, partner_of, segments, unjoined_count}
use Rattle.face.proofs.Ends.{edge-of, edge_lt, edge_with}
use Rattle.face.proofs.Gaps.{gap, gap_excess, gap_short, gap_odd}
use Rattle.face.proofs.Links.{alone_unjoined}
use Rattle.face.proofs.Laws.{symmetric, partner_there, partner_differs, joined_or, unjoined_alone, even_gap}

module _ (ab ac bc : ℕ) where
  abbrev n : ℕ → ℕ
  n = count_on ab ac bc

  abbrev size : ℕ
  size = ab + ac + bc

  -- the number of the crossing t of the edge e
  abbrev number : ℕ → ℕ → ℕ
  number e t = pre n e + t

  all : pre n face_edges ≡ size
  unfolding pre total count_on
  all = omega arith

  inside : {e : ℕ} (t : ℕ) → Edge e → t < n e → number e t < size
  inside {e} t d h = rw (← all) (pack_lt n face_edges e t (edge_lt d) h)

  answer-at : {e : ℕ} (t : ℕ) → Edge e → t < n e → join_of ab ac bc (number e t) ≡ face_join ab ac bc e t
  unfolding join_of
  answer-at {e} t d h = rw (row_pack n face_edges e t (edge_lt d) h, col_pack n face_edges e t (edge_lt d) h)

  record Spot (x : ℕ) : Type 0 where
    e : ℕ
    t : ℕ
    there : t < n e
    index : x ≡ number e t
    ours : join_of ab ac bc x ≡ face_join ab ac bc e t

  spot : (x : ℕ) → x < size → Spot x
  unfolding join_of
  spot x h =
      let l : x < pre n face_edges = rw all h in
      record {
        e = row n face_edges x;
        t = col n face_edges x;
        there = col_lt n face_edges x l;
        index = sym (unpack n face_edges x l);
        ours = refl;
      }

  -- a joined crossing and its partner
  record Ends (x : ℕ) : Type 0 where
    e : ℕ
    t : ℕ
    e' : ℕ
    t' : ℕ
    index : x ≡ number e t
    join : Segment ab ac bc e t e' t'
    ours : join_of ab ac bc x ≡ joined e' t'
    within : number e' t' < size
    theirs : join_of ab ac bc (number e' t') ≡ joined e t

  ends-of : {x : ℕ} (s : Spot x) (e' t' : ℕ) → Segment ab ac bc s.e s.t e' t' → Ends x
  ends-of s e' t' j =
      let h : t' < n e' = partner_there ab ac bc s.e s.t e' t' j in
      let d : Edge e' = edge_with ab ac bc e' t' h in
      record {
        e = s.e;
        t = s.t;
        e' = e';
        t' = t';
        index = s.index;
        join = j;
        ours = s.ours ∙ j;
        within = inside t' d h;
        theirs = answer-at t' d h ∙ symmetric ab ac bc s.e s.t e' t' j;
      }

  -- each crossing is joined or unjoined, by the two tests
  both : (x : ℕ) → x < size → Ends x ⊎ (join_of ab ac bc x ≡ unjoined)
  both x h =
      let s = spot x h in
      elim (joined_or ab ac bc s.e s.t s.there) [
        | inl j ↦ inl (ends-of s j.0 j.1 j.2)
        | inr u ↦ inr (s.ours ∙ u)
      ]

  ends : (x : ℕ) → x < size → is_joined ab ac bc x ≡ true → Ends x
  ends x h q =
      elim (both x h) [
        | inl r ↦ r
        | inr u ↦ clash q (ap (λ (l : List ℕ). eqb (get_or l 0 0) 0) u)
      ]

  to : {x : ℕ} (r : Ends x) → partner_of ab ac bc x ≡ number r.e' r.t'
  to r = ap (λ (l : List ℕ). pre n (get_or l 1 0) + get_or l 2 0) r.ours

  moved : (x : ℕ) → x < size → is_joined ab ac bc x ≡ true → partner_of ab ac bc x ≡ x → ⊥
  moved x h q m =
      let r = ends x h q in
      let a : join_of ab ac bc x ≡ joined r.e r.t = ap (join_of ab ac bc) (sym m ∙ to r) ∙ r.theirs in
      partner_differs ab ac bc r.e r.t r.e' r.t' r.join (cc r.ours, cc r.ours)

  pairs : passing (is_joined ab ac bc) size ≡ 2 * segments ab ac bc
  unfolding segments
  pairs =
      paired (is_joined ab ac bc) (partner_of ab ac bc) size
      (λ x h q. rw (to (ends x h q)) (ends x h q).within)
      (λ x h q. rw (to (ends x h q)) (ap (λ (l : List ℕ). eqb (get_or l 0 0) 0) (ends x h q).theirs))
      (λ x h q.
      ap (partner_of ab ac bc) (to (ends x h q)) ∙ ap (λ (l : List ℕ). pre n (get_or l 1 0) + get_or l 2 0) (ends x h q).theirs
      ∙ sym (ends x h q).index)
      moved

  either : (x : ℕ) → x < size → one true ≡ one (is_joined ab ac bc x) + one (is_unjoined ab ac bc x)
  either x h =
      elim (both x h) [
        | inl r ↦ rw r.ours
        | inr u ↦ rw u
      ]

  pub sum_law : ab + ac + bc ≡ 2 * segments ab ac bc + unjoined_count ab ac bc
  unfolding unjoined_count
  sum_law =
      omega (arith, pairs, count_all (λ x. true) size (λ i h. refl), count_sum (λ x. true) (is_joined ab ac bc) (is_unjoined ab ac bc) size either)

  -- on each edge: one if its corners leave an odd number of crossings, else none
  left : ℕ → ℕ → Bool
  left e t = eqb (get_or (face_join ab ac bc e t) 0 0) 1

  left_is : (e t : ℕ) → t < n e → left e t ≡ true → face_join ab ac bc e t ≡ unjoined
  unfolding left
  left_is e t h q =
      elim (joined_or ab ac bc e t h) [
        | inl j ↦ clash q (ap (λ (l : List ℕ). eqb (get_or l 0 0) 1) j.2)
        | inr u ↦ u
      ]

  left_count : {e : ℕ} → Edge e → passing (left e) (n e) ≡ gap ab ac bc e % 2
  unfolding left
  left_count {e} d =
      elim (ℕ_discrete (gap ab ac bc e % 2) 1) [
        | yes g ↦
            rw g (count_only (left e) (n e) (corner_count_at ab ac bc (lower e) e) (omega arith)
            (ap (λ (l : List ℕ). eqb (get_or l 0 0) 1) (alone_unjoined ab ac bc d g))
            (λ i h q. (unjoined_alone ab ac bc e i (left_is e i h q)).first))
        | no g ↦
            count_none (left e) (n e) (λ i h. not_clash (left e i) (λ q. g (unjoined_alone ab ac bc e i (left_is e i h q)).odd)) ∙ omega arith
      ]

  on-edge : (e : ℕ) → e < face_edges → passing (λ i. is_unjoined ab ac bc (number e i)) (n e) ≡ gap ab ac bc e % 2
  unfolding left
  on-edge e h =
      count_ext (λ i. is_unjoined ab ac bc (number e i)) (left e) (n e) (λ i l. ap (λ (l : List ℕ). eqb (get_or l 0 0) 1) (answer-at i (edge-of e h) l))
      ∙ left_count (edge-of e h)

  pub by-edge : unjoined_count ab ac bc ≡ gap ab ac bc 0 % 2 + gap ab ac bc 1 % 2 + gap ab ac bc 2 % 2
  unfolding unjoined_count total
  by-edge =
      ap (passing (is_unjoined ab ac bc)) (sym all) ∙ count_rows n (is_unjoined ab ac bc) face_edges
      ∙ omega (arith, on-edge 0 (omega arith), on-edge 1 (omega arith), on-edge 2 (omega arith))

  pub unjoined_even : (ab + ac + bc) % 2 ≡ 0 → unjoined_count ab ac bc ≡ 0
  unjoined_even z = omega (arith, by-edge, even_gap ab ac bc z on_ab, even_gap ab ac bc z on_ac, even_gap ab ac bc z on_bc)

  pub unjoined_odd : (ab + ac + bc) % 2 ≡ 1 → ((e : ℕ) → n e ≤ others ab ac bc e) → unjoined_count ab ac bc ≡ 3
  unfolding others count_on lower upper other
  unjoined_odd z h =
      let a = h 0 in
      let b = h 1 in
      let c = h 2 in
      omega (
        arith,
        by-edge,
        gap_odd ab ac bc on_ab (omega arith) (omega arith) (omega arith) z,
        gap_odd ab ac bc on_ac (omega arith) (omega arith) (omega arith) z,
        gap_odd ab ac bc on_bc (omega arith) (omega arith) (omega arith) z,
      )

  -- an edge above the other two: nothing is left on those
  no_gap : {e : ℕ} → Edge e → (n e + n (other (upper e) e) < n (other (lower e) e)) ⊎ (n e + n (other (lower e) e) < n (other (upper e) e)) →
      gap ab ac bc e % 2 ≡ 0
  no_gap d h = omega (arith, gap_short ab ac bc d h)

  add : {a b c x y z s : ℕ} → a ≡ x → b ≡ y → c ≡ z → x + y + z ≡ s → a + b + c ≡ s
  add p q r h = omega arith

  long_only : {e : ℕ} → Edge e → others ab ac bc e < n e → unjoined_count ab ac bc ≡ (n e - others ab ac bc e) % 2
  unfolding others count_on lower upper other
  long_only on_ab h = by-edge ∙ add (ap (λ g. g % 2) (gap_excess ab ac bc on_ab h)) (no_gap on_ac (inl (omega arith))) (no_gap on_bc (inl (omega arith))) (omega arith)
  long_only on_ac h = by-edge ∙ add (no_gap on_ab (inl (omega arith))) (ap (λ g. g % 2) (gap_excess ab ac bc on_ac h)) (no_gap on_bc (inr (omega arith))) (omega arith)
  long_only on_bc h = by-edge ∙ add (no_gap on_ab (inr (omega arith))) (no_gap on_ac (inr (omega arith))) (ap (λ g. g % 2) (gap_excess ab ac bc on_bc h)) (omega arith)

  pub unjoined_long : (e : ℕ) → others ab ac bc e < n e → unjoined_count ab ac bc ≡ (n e - others ab ac bc e) % 2
  unjoined_long e h = long_only (edge_with ab ac bc e (others ab ac bc e) h) h

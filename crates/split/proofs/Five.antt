-- A ready cell with d1 > d2 > 0 is refined by the part that keeps the crossings that go and by its four sub-cells.
use Prim.Native.Nat.{ℕ, zero, suc, ◌+◌, ◌-◌, ◌<◌}
use mathlib.Core.Path.{◌≡◌, refl, sym, ap, ◌∙◌, subst}
use mathlib.Core.Logic.{◌≢◌}
use mathlib.Core.Bool.{true}
use native.Mathlib.Omega.{arith}
use Rattle.counting.proofs.Below.{below_three}
use Rattle.slots.specs.Slots.{lo, hi, lower, upper, slot_edge}
use Rattle.slots.proofs.Slots.{slot-edge, two_slots, face_ends}
use Rattle.face.specs.claims.Level.{Level}
use Rattle.face.proofs.Shift.{kept}
use Rattle.manifold.specs.claims.Piece.{Local, slot_of}
use Rattle.cell.specs.declared.Cell.{Cell}
use Rattle.cell.specs.Of.{count_of, start_of}
use Rattle.cell.specs.Level.{is_level_cell}
use Rattle.cell.specs.claims.Polygons.{local_of}
use Rattle.booking.specs.Booking.{least_corner, larger, smaller}
use Rattle.split.specs.work.Five.{rest_count, arm_count, facet, Went, Stays, inside}
use Rattle.split.specs.SubCell.{rest_start, arm_start, sub_at}
use Rattle.split.specs.claims.Family.{Refines}
use Rattle.split.specs.work.Shown.{Facet, num, Segment, OnFace, Plain, DartAlong, Shows, Any, Split, InnerFace, InnerPoint, five, Order}
use Rattle.split.specs.claims.Five.{Firm, FirmBelow, own_piece}
use Rattle.split.proofs.Facets.{seg_on, shows_same}
use Rattle.split.proofs.Shown.{split_refines}
use Rattle.split.proofs.Labels.{inner_level}
use Rattle.split.proofs.Rest.{rest_sum, rest_less, off}
use Rattle.split.proofs.SubCells.{zero_edges, other_edges, zero_slot, other-slot, sub_omits}
use Rattle.split.proofs.Shows as cells
use Rattle.split.proofs.Remain.{goes_at, at_low, left, stays_is, stays_at, Rem, stays_rem, either, never, back_at, stays_on, went_on}
use Rattle.split.proofs.Own.{part_piece, part_whole, part_shows}
use Rattle.split.proofs.Sub as new
use Rattle.split.proofs.Sub.{sub_firm, new_start, old_start, outer_name, inner-name}

module _ (c : Cell) (b f : ℕ) (R : FirmBelow c b f) (some : 0 < smaller (count_of c)) (more : smaller (count_of c) < larger (count_of c)) (word : ℕ → ℕ) where
  abbrev H : Firm c
  H = R.firm

  abbrev K : is_level_cell (count_of c) ≡ true
  K = R.firm.level

  abbrev w : ℕ → ℕ
  w = count_of c

  abbrev own : ℕ → ℕ
  own = least_corner (count_of c)

  abbrev Φ : ℕ → Facet
  Φ = facet c

  abbrev Ψ : ℕ → Facet
  Ψ = inside c b f

  -- the sub-cell that omits position M
  abbrev S : ℕ → Cell
  S M = sub_at c b f (word M) M

  abbrev pub at : ℕ → Local
  at M = local_of (sub_at c b f (word M) M)

  firm_at : (M : ℕ) → M < 4 → Firm (S M)
  firm_at M l_m = sub_firm c b f R some more (word M) M l_m

  rest_lt : (e t : ℕ) → e < 6 → t < rest_count c e → own (lo e) + t < count_of c e
  rest_lt = new.rest_lt c b f R some more

  -- slot 0 shows what remains of the face M
  zero_shows : (M : ℕ) → M < 4 → Shows (left c H M) (at M) 0 Any
  unfolding rest_start
  zero_shows M l_m =
      shows_same (facet (S M) 0) (left c H M) (at M) 0 Any
      (λ j h. zero_slot l_m (sub_omits c K some more b f (word M) M l_m) j h ∙ sym (rest_less (count_of c) K M j l_m h))
      (λ j h. ap (start_of (S M)) (zero_edges j h) ∙ old_start c b f R some more (word M) M l_m j h ∙ ap (λ n. start_of c (slot_edge M j) + n) (sym (at_low c H M j l_m h)))
      (outer_name c b f R some more (word M) M l_m)
      (cells.shows (S M) (firm_at M l_m) 0 (omega arith))

  rest_shows : (M : ℕ) → M < 4 → Shows (Φ M) (at M) 0 (Stays c)
  rest_shows M l_m = record {
    named = Z.named;
    to = λ d on e. let (j, t, j', t', x, a) = Z.to d on e in
        (j, goes_at c H M (lower j) + t, j', goes_at c H M (lower j') + t', there j t j' t' a.segment, up d j t j' t' a);
    from = λ j t j' t' g z. down j t j' t' z (back_at c H M j t j' t' l_m z (stays_rem c H M j t l_m (seg_on (Φ M) j t j' t' z) g)) (stays_rem c H M j t l_m (seg_on (Φ M) j t j' t' z) g);
  }
    where
      Z : Shows (left c H M) (at M) 0 Any
      Z = zero_shows M l_m

      grow : (j t j' t' : ℕ) → Segment (left c H M) j t j' t' → Segment (Φ M) j (goes_at c H M (lower j) + t) j' (goes_at c H M (lower j') + t')
      grow j t j' t' z = kept (w (slot_edge M 0)) (w (slot_edge M 1)) (w (slot_edge M 2)) (goes_at c H M) (off (count_of c) K M l_m) j t j' t' z

      room : (j t : ℕ) → OnFace (left c H M) j t → t < rest_count c (slot_edge M j)
      room j t o = subst (λ n. t < n) (rest_less (count_of c) K M j l_m o.edge) o.index

      there : (j t j' t' : ℕ) → Segment (left c H M) j t j' t' → Stays c (num (Φ M) j (goes_at c H M (lower j) + t))
      there j t j' t' z =
          let o = seg_on (left c H M) j t j' t' z in
          let r = room j t o in
          let l = at_low c H M j l_m o.edge in
          let n = rest_sum (count_of c) K (slot_edge M j) (slot-edge M j l_m o.edge).lt in
          stays_at c H M j (goes_at c H M (lower j) + t) l_m (seg_on (Φ M) j (goes_at c H M (lower j) + t) j' (goes_at c H M (lower j') + t') (grow j t j' t' z)) (omega arith) (omega arith)

      up : (d j t j' t' : ℕ) → DartAlong (left c H M) (at M) d j t j' t' → DartAlong (Φ M) (at M) d j (goes_at c H M (lower j) + t) j' (goes_at c H M (lower j') + t')
      up d j t j' t' a = record { on = a.on; segment = grow j t j' t' a.segment; from_is = a.from_is ∙ omega arith; to_is = a.to_is ∙ omega arith }

      down : (j t j' t' : ℕ) → Segment (Φ M) j t j' t' → Rem c H M j' t' × Segment (left c H M) j (t - goes_at c H M (lower j)) j' (t' - goes_at c H M (lower j')) → Rem c H M j t
          → (d : ℕ) × (slot_of (at M) d ≡ 0) × DartAlong (Φ M) (at M) d j t j' t'
      down j t j' t' z (r, y) q =
          let (d, e, a) = Z.from j (t - goes_at c H M (lower j)) j' (t' - goes_at c H M (lower j')) tt y in
          let b = r.low in
          let a' = q.low in
          (d, e, record { on = a.on; segment = z; from_is = a.from_is ∙ omega arith; to_is = a.to_is ∙ omega arith })

  -- slot 3 − j shows the inner face over edge j of slot M
  inner_shows : (M j : ℕ) → M < 4 → j < 3 → Shows (Ψ (slot_edge M j)) (at M) (3 - j) Any
  inner_shows M j l_m lj =
      let (p, q, r) = other-slot l_m (sub_omits c K some more b f (word M) M l_m) j lj in
      let (p', q', r') = other_edges j lj in
      let u = slot-edge M j l_m lj in
      let e = face_ends j lj in
      shows_same (facet (S M) (3 - j)) (Ψ (slot_edge M j)) (at M) (3 - j) Any
      (below_three (λ i. count_of (S M) (slot_edge (3 - j) i) ≡ (Ψ (slot_edge M j)).size i) p q r)
      (below_three (λ i. start_of (S M) (slot_edge (3 - j) i) ≡ (Ψ (slot_edge M j)).start i)
      (ap (start_of (S M)) p' ∙ new_start c b f R some more (word M) M l_m (lower j) (omega arith) ∙ ap (arm_start c b) (sym u.lo_is))
      (ap (start_of (S M)) q' ∙ new_start c b f R some more (word M) M l_m (upper j) (omega arith) ∙ ap (arm_start c b) (sym u.hi_is))
      (ap (start_of (S M)) r' ∙ old_start c b f R some more (word M) M l_m j lj))
      (inner-name c b f R some more (word M) M l_m j lj)
      (cells.shows (S M) (firm_at M l_m) (3 - j) (omega arith))

  -- the inner face over e is plain
  face_level : (e : ℕ) → e < 6 → Level (arm_count c (lo e)) (arm_count c (hi e)) (rest_count c e)
  face_level e le = inner_level (count_of c) K some more e le

  inner_plain : (e : ℕ) → e < 6 → Plain (Ψ e)
  unfolding rest_start
  inner_plain e le = record { level = face_level e le; once = λ j t i u g h q. once j t i u g.edge h.edge g.index h.index q }
    where
      ends : (lo e < 4) × (hi e < 4) × (lo e ≢ hi e)
      ends = let t = two_slots e le in (omega (arith, t.rising, t.within), t.within, (λ q. omega (arith, t.rising, q)))

      once : (j t i u : ℕ) → j < 3 → i < 3 → t < (Ψ e).size j → u < (Ψ e).size i → num (Ψ e) j t ≡ num (Ψ e) i u → (j ≡ i) × (t ≡ u)
      once zero t zero u lj li g h q = (refl, (new.arm_once c b f R some more (lo e) (lo e) t u ends.0 ends.0 g h q).1)
      once zero t (suc zero) u lj li g h q = absurd (ends.2 (new.arm_once c b f R some more (lo e) (hi e) t u ends.0 ends.1 g h q).0)
      once zero t (suc (suc zero)) u lj li g h q = absurd (new.arm_apart c b f R some more (lo e) t e (own (lo e) + u) ends.0 g le (rest_lt e u le h) (q ∙ omega arith))
      once (suc zero) t zero u lj li g h q = absurd (ends.2 (sym (new.arm_once c b f R some more (hi e) (lo e) t u ends.1 ends.0 g h q).0))
      once (suc zero) t (suc zero) u lj li g h q = (refl, (new.arm_once c b f R some more (hi e) (hi e) t u ends.1 ends.1 g h q).1)
      once (suc zero) t (suc (suc zero)) u lj li g h q = absurd (new.arm_apart c b f R some more (hi e) t e (own (lo e) + u) ends.1 g le (rest_lt e u le h) (q ∙ omega arith))
      once (suc (suc zero)) t zero u lj li g h q = absurd (new.arm_apart c b f R some more (lo e) u e (own (lo e) + t) ends.0 h le (rest_lt e t le g) (sym q ∙ omega arith))
      once (suc (suc zero)) t (suc zero) u lj li g h q = absurd (new.arm_apart c b f R some more (hi e) u e (own (lo e) + t) ends.1 h le (rest_lt e t le g) (sym q ∙ omega arith))
      once (suc (suc zero)) t (suc (suc zero)) u lj li g h q = (refl, omega (arith, q))
      once (suc (suc (suc j))) t i u lj li g h q = absurd (omega arith)
      once zero t (suc (suc (suc i))) u lj li g h q = absurd (omega arith)
      once (suc zero) t (suc (suc (suc i))) u lj li g h q = absurd (omega arith)
      once (suc (suc zero)) t (suc (suc (suc i))) u lj li g h q = absurd (omega arith)

  -- the crossings that stay, seen from the inner faces
  down : (M j v : ℕ) → M < 4 → j < 3 → v < (Ψ (slot_edge M j)).size 2
      → (t : ℕ) × OnFace (Φ M) j t × Stays c (num (Φ M) j t) × (num (Φ M) j t ≡ num (Ψ (slot_edge M j)) 2 v)
  unfolding rest_start
  down M j v l_m lj lv =
      let n = rest_sum (count_of c) K (slot_edge M j) (slot-edge M j l_m lj).lt in
      let o : OnFace (Φ M) j (own (lo (slot_edge M j)) + v) = record { edge = lj; index = omega arith } in
      (own (lo (slot_edge M j)) + v, o, stays_at c H M j (own (lo (slot_edge M j)) + v) l_m o (omega arith) (omega arith), omega arith)

  up : (M j t : ℕ) → M < 4 → OnFace (Φ M) j t → Stays c (num (Φ M) j t) → (v : ℕ) × (v < (Ψ (slot_edge M j)).size 2) × (num (Φ M) j t ≡ num (Ψ (slot_edge M j)) 2 v)
  unfolding rest_start
  up M j t l_m o g =
      let (x, y) = stays_is c H M j t l_m o g in
      let n = rest_sum (count_of c) K (slot_edge M j) (slot-edge M j l_m o.edge).lt in
      (t - own (lo (slot_edge M j)), omega arith, omega arith)

  edge_once : (e g v u : ℕ) → e < 6 → g < 6 → v < (Ψ e).size 2 → u < (Ψ g).size 2 → num (Ψ e) 2 v ≡ num (Ψ g) 2 u → (e ≡ g) × (v ≡ u)
  unfolding rest_start
  edge_once e g v u le lg lv lu q =
      let (x, y) = cells.once c H e (own (lo e) + v) g (own (lo g) + u) le (rest_lt e v le lv) lg (rest_lt g u lg lu) (omega (arith, q)) in
      (x, omega (arith, y, ap (λ k. own (lo k)) x))

  arm_edge : (p e v u : ℕ) → p < 4 → e < 6 → v < arm_count c p → u < (Ψ e).size 2 → arm_start c b p + v ≢ num (Ψ e) 2 u
  unfolding rest_start
  arm_edge p e v u lp le lv lu q = new.arm_apart c b f R some more p v e (own (lo e) + u) lp lv le (rest_lt e u le lu) (q ∙ omega arith)

  pub split : Split (local_of c) (own_piece c) at Φ Ψ (arm_start c b) (arm_count c) (Went c) (Stays c)
  split = record {
    outer = cells.plain c H;
    inner = inner_plain;
    piece = cells.piece c H;
    own-piece = part_piece c H;
    sub-piece = λ M l_m. cells.piece (S M) (firm_at M l_m);
    slots = refl;
    own_slots = refl;
    sub_slots = λ M l_m. refl;
    own_whole = part_whole c H;
    sub_whole = λ M l_m. cells.closed (S M) (firm_at M l_m);
    shows = cells.shows c H;
    own_shows = part_shows c H;
    rest_shows = rest_shows;
    inner_shows = inner_shows;
    either = either c H;
    never = never c H;
    went_on = went_on c H;
    stays_on = stays_on c H;
    outer_names = H.names;
    inner_names = new.inner_names c b f R some more;
    apart_names = new.apart_names c b f R some more;
    arm_lo = λ e le. (refl, refl);
    arm_hi = λ e le. (refl, refl);
    down = down;
    up = up;
    edge_once = edge_once;
    arm_once = new.arm_once c b f R some more;
    arm_edge = arm_edge;
    arm_stays = λ p v lp lv g. new.arm_apart c b f R some more p v g.k g.t lp lv g.k_lt (omega (arith, g.high)) g.is;
    arm_went = λ p v lp lv g. new.arm_apart c b f R some more p v g.k g.t lp lv g.k_lt g.t_lt g.is;
  }

  -- in whatever order the sub-cells stand
  pub five_refines : (om : ℕ → ℕ) → Order om → Refines (local_of c) 5 (five (own_piece c) at om) (InnerFace Ψ) (InnerPoint (arm_start c b) (arm_count c))
  five_refines om O = split_refines (local_of c) (own_piece c) at Φ Ψ (arm_start c b) (arm_count c) (Went c) (Stays c) om split O

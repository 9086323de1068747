-- The crossings of a firm cell that go with its corner triangles, and those that stay: on each face each is joined to its like.
use Prim.Native.Nat.{ℕ, ◌+◌, ◌-◌, ◌≤◌, ◌<◌}
use mathlib.Core.Path.{◌≡◌, refl, sym, ap, ◌∙◌}
use mathlib.Core.Logic.{◌⊎◌, inl, inr, ⊎_elim}
use native.Mathlib.Omega.{arith}
use native.Mathlib.Decide.{dec_lt}
use Rattle.slots.specs.Slots.{lo, hi, position, slot_edge, lower, upper}
use Rattle.slots.proofs.Slots.{slot-edge}
use Rattle.face.specs.claims.Level.{less, Remains}
use Rattle.face.proofs.Shift.{back}
use Rattle.cell.specs.declared.Cell.{Cell}
use Rattle.cell.specs.Of.{count_of, start_of}
use Rattle.booking.specs.Booking.{least_corner}
use Rattle.split.specs.work.Shown.{Facet, num, Segment, OnFace}
use Rattle.split.specs.claims.Five.{name_of, Firm}
use Rattle.split.specs.work.Five.{facet, Went, Stays}
use Rattle.split.proofs.Facets.{seg_on, turned}
use Rattle.split.proofs.Rest.{count-at, off}
use Rattle.split.proofs.Shows.{once}

module _ (c : Cell) (H : Firm c) where
  abbrev w : ℕ → ℕ
  w = count_of c

  abbrev own : ℕ → ℕ
  own = least_corner (count_of c)

  abbrev Φ : ℕ → Facet
  Φ = facet c

  -- what goes at the nodes of the face in slot s
  abbrev pub goes_at : ℕ → ℕ → ℕ
  goes_at s v = least_corner (count_of c) (position s v)

  pub at_low : (s j : ℕ) → s < 4 → j < 3 → goes_at s (lower j) ≡ own (lo (slot_edge s j))
  at_low s j ls lj = ap own (sym (slot-edge s j ls lj).lo_is)

  pub at_high : (s j : ℕ) → s < 4 → j < 3 → goes_at s (upper j) ≡ own (hi (slot_edge s j))
  at_high s j ls lj = ap own (sym (slot-edge s j ls lj).hi_is)

  -- what remains of the face in slot s
  abbrev pub left : ℕ → Facet
  left s = record {
    size = less (count_of c (slot_edge s 0)) (count_of c (slot_edge s 1)) (count_of c (slot_edge s 2)) (λ v. least_corner (count_of c) (position s v));
    start = λ j. start_of c (slot_edge s j) + least_corner (count_of c) (position s (lower j));
    name = name_of c s;
  }

  -- a crossing of an outer face
  edge_lt : (s j t : ℕ) → s < 4 → OnFace (Φ s) j t → slot_edge s j < 6
  edge_lt s j t ls o = (slot-edge s j ls o.edge).lt

  pub stays_is : (s j t : ℕ) → s < 4 → OnFace (Φ s) j t → Stays c (num (Φ s) j t) → (own (lo (slot_edge s j)) ≤ t) × (t + own (hi (slot_edge s j)) < w (slot_edge s j))
  stays_is s j t ls o g =
      let (x, y) = once c H g.k g.t (slot_edge s j) t g.k_lt (omega (arith, g.high)) (edge_lt s j t ls o) o.index (sym g.is) in
      let a = ap (λ k. own (lo k)) x in
      let b = ap (λ k. own (hi k)) x in
      let n = ap w x in
      (omega (arith, g.low, a, y), omega (arith, g.high, b, n, y))

  pub went_at : (s j t : ℕ) → s < 4 → OnFace (Φ s) j t → (t < own (lo (slot_edge s j))) ⊎ (w (slot_edge s j) ≤ t + own (hi (slot_edge s j))) → Went c (num (Φ s) j t)
  went_at s j t ls o g = record { k = slot_edge s j; t = t; k_lt = edge_lt s j t ls o; t_lt = o.index; gone = g; is = refl }

  pub stays_at : (s j t : ℕ) → s < 4 → OnFace (Φ s) j t → own (lo (slot_edge s j)) ≤ t → t + own (hi (slot_edge s j)) < w (slot_edge s j) → Stays c (num (Φ s) j t)
  stays_at s j t ls o a b = record { k = slot_edge s j; t = t; k_lt = edge_lt s j t ls o; low = a; high = b; is = refl }

  -- in the words of the shift law
  abbrev pub Rem : ℕ → ℕ → ℕ → Type 0
  Rem s j t = Remains (w (slot_edge s 0)) (w (slot_edge s 1)) (w (slot_edge s 2)) (goes_at s) j t

  pub stays_rem : (s j t : ℕ) → s < 4 → OnFace (Φ s) j t → Stays c (num (Φ s) j t) → Rem s j t
  stays_rem s j t ls o g =
      let (a, b) = stays_is s j t ls o g in
      record { low = omega (arith, at_low s j ls o.edge); high = omega (arith, b, at_high s j ls o.edge, count-at (count_of c) H.level s j o.edge) }

  rem_stays : (s j t : ℕ) → s < 4 → OnFace (Φ s) j t → Rem s j t → Stays c (num (Φ s) j t)
  rem_stays s j t ls o r =
      stays_at s j t ls o (omega (arith, r.low, at_low s j ls o.edge)) (omega (arith, r.high, at_high s j ls o.edge, count-at (count_of c) H.level s j o.edge))

  pub either : (s j t : ℕ) → s < 4 → OnFace (Φ s) j t → Went c (num (Φ s) j t) ⊎ Stays c (num (Φ s) j t)
  either s j t ls o =
      elim (dec_lt t (own (lo (slot_edge s j)))) [
        | yes h ↦ inl (went_at s j t ls o (inl h))
        | no h ↦ elim (dec_lt (t + own (hi (slot_edge s j))) (w (slot_edge s j))) [
          | yes k ↦ inr (stays_at s j t ls o (omega arith) k)
          | no k ↦ inl (went_at s j t ls o (inr (omega arith)))
        ]
      ]

  pub never : (g : ℕ) → Went c g → Stays c g → ⊥
  never g a b =
      let (x, y) = once c H a.k a.t b.k b.t a.k_lt a.t_lt b.k_lt (omega (arith, b.high)) (sym a.is ∙ b.is) in
      let p = ap (λ k. own (lo k)) x in
      let q = ap (λ k. own (hi k)) x in
      let r = ap w x in
      ⊎_elim (λ (h : a.t < own (lo a.k)). omega (arith, h, b.low, p, y)) (λ (h : w a.k ≤ a.t + own (hi a.k)). omega (arith, h, b.high, q, r, y)) a.gone

  pub back_at : (s j t j' t' : ℕ) → s < 4 → Segment (Φ s) j t j' t' → Rem s j t
      → Rem s j' t' × Segment (left s) j (t - goes_at s (lower j)) j' (t' - goes_at s (lower j'))
  back_at s j t j' t' ls z r = back (w (slot_edge s 0)) (w (slot_edge s 1)) (w (slot_edge s 2)) (goes_at s) (off (count_of c) H.level s ls) j t j' t' r z

  pub stays_on : (s j t j' t' : ℕ) → s < 4 → Segment (Φ s) j t j' t' → Stays c (num (Φ s) j t) → Stays c (num (Φ s) j' t')
  stays_on s j t j' t' ls z g =
      rem_stays s j' t' ls (seg_on (Φ s) j' t' j t (turned (Φ s) j t j' t' z)) (back_at s j t j' t' ls z (stays_rem s j t ls (seg_on (Φ s) j t j' t' z) g)).0

  pub went_on : (s j t j' t' : ℕ) → s < 4 → Segment (Φ s) j t j' t' → Went c (num (Φ s) j t) → Went c (num (Φ s) j' t')
  went_on s j t j' t' ls z g =
      ⊎_elim (λ x. x) (λ (x : Stays c (num (Φ s) j' t')). absurd (never (num (Φ s) j t) g (stays_on s j' t' j t ls (turned (Φ s) j t j' t' z) x)))
      (either s j' t' ls (seg_on (Φ s) j' t' j t (turned (Φ s) j t j' t' z)))

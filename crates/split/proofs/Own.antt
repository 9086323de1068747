-- The part of a firm cell that keeps the crossings that go with its corner triangles: a piece in which no curve ends, which shows these crossings.
use Prim.Native.Nat.{ℕ, ◌+◌, ◌-◌, ◌*◌, ◌/◌, ◌%◌, ◌≤◌, ◌<◌}
use mathlib.Core.Path.{◌≡◌, refl, sym, ap, ◌∙◌, subst}
use mathlib.Core.Logic.{◌⊎◌, inl, inr, ⊎_elim}
use mathlib.Core.Bool.{Bool, true, false, ◌||◌}
use native.Mathlib.Omega.{arith}
use lib.Dec.{ltb, leb}
use borrow.Author.Tests.{lt-ltb, le-leb, ltb-true, leb-true}
use Rattle.counting.proofs.Bools.{or_cases, or_right}
use Rattle.slots.specs.Slots.{lo, hi}
use Rattle.walk.specs.Step.{face}
use Rattle.walk.specs.claims.Step.{Ports}
use Rattle.walk.specs.Darts.{rev}
use Rattle.manifold.specs.claims.Piece.{Local, Piece, slot_of, mate_of}
use Rattle.manifold.specs.claims.Complex.{Joins, Whole}
use Rattle.cell.specs.declared.Cell.{Cell}
use Rattle.cell.specs.Cell.{Edges, crossings, edge, index}
use Rattle.cell.specs.Of.{count_of, edges_of}
use Rattle.cell.specs.Loop.{in_grid}
use Rattle.cell.specs.Triangles.{number_of}
use Rattle.cell.specs.claims.Polygons.{local_of}
use Rattle.cell.proofs.Lay.{lay}
use Rattle.booking.specs.Booking.{least_corner}
use Rattle.split.specs.work.Shown.{Facet, num, DartAlong, Shows, Any}
use Rattle.split.specs.work.Five.{facet, Went}
use Rattle.split.specs.claims.Five.{Firm, goes, own_piece}
use Rattle.split.proofs.Shows.{once, all_joined, piece, shows}
use Rattle.split.proofs.Remain.{went_on}

module _ (c : Cell) (H : Firm c) where
  abbrev E : Edges
  E = edges_of c

  abbrev A : Local
  A = local_of c

  abbrev part : Local
  part = own_piece c

  abbrev own : ℕ → ℕ
  own = least_corner (count_of c)

  abbrev Φ : ℕ → Facet
  Φ = facet c

  slot_same : (d : ℕ) → slot_of part d ≡ slot_of A d
  unfolding face
  slot_same d = refl

  -- by the test
  gone_true : (x : ℕ) → x < crossings E → goes c x ≡ true → Went c (A.number x)
  unfolding goes number_of in_grid
  gone_true x l h = record {
    k = edge E x;
    t = index E x;
    k_lt = (lay E).edge_lt x l;
    t_lt = (lay E).index_lt x l;
    gone = ⊎_elim (λ e. inl (ltb-true (index E x) (own (lo (edge E x))) e)) (λ e. inr (leb-true (count_of c (edge E x)) (index E x + own (hi (edge E x))) e))
        (or_cases (ltb (index E x) (own (lo (edge E x)))) (leb (count_of c (edge E x)) (index E x + own (hi (edge E x)))) h);
    is = refl;
  }

  true_gone : (x : ℕ) → x < crossings E → Went c (A.number x) → goes c x ≡ true
  unfolding goes number_of in_grid
  true_gone x l g =
      let (p, q) = once c H g.k g.t (edge E x) (index E x) g.k_lt g.t_lt ((lay E).edge_lt x l) ((lay E).index_lt x l) (sym g.is) in
      go (subst (λ k. (index E x < own (lo k)) ⊎ (count_of c k ≤ index E x + own (hi k))) p (subst (λ t. (t < own (lo g.k)) ⊎ (count_of c g.k ≤ t + own (hi g.k))) q g.gone))
    where
      go : (index E x < own (lo (edge E x))) ⊎ (count_of c (edge E x) ≤ index E x + own (hi (edge E x)))
          → (ltb (index E x) (own (lo (edge E x))) || leb (count_of c (edge E x)) (index E x + own (hi (edge E x)))) ≡ true
      go (inl h) = simp (lt-ltb (index E x) (own (lo (edge E x))) h)
      go (inr h) = or_right (ltb (index E x) (own (lo (edge E x)))) (leb (count_of c (edge E x)) (index E x + own (hi (edge E x)))) (le-leb (count_of c (edge E x)) (index E x + own (hi (edge E x))) h)

  mate_gone : (s x : ℕ) → goes c x ≡ true → part.mate s x ≡ A.mate s x
  mate_gone s x h = simp h

  mate_left : (s x : ℕ) → part.mate s x < crossings E → goes c x ≡ true
  mate_left s x h = go (goes c x) refl
    where
      go : (b : Bool) → goes c x ≡ b → goes c x ≡ true
      go true e = e
      go false e = let q : part.mate s x ≡ crossings E = simp e in absurd (omega (arith, h, q))

  part_mate : (d : ℕ) → goes c (d / 2) ≡ true → mate_of part d ≡ mate_of A d
  part_mate d h = ap (λ s. part.mate s (d / 2)) (slot_same d) ∙ mate_gone (slot_of A d) (d / 2) h

  part_gone : (d : ℕ) → Joins part d → goes c (d / 2) ≡ true
  part_gone d j = mate_left (slot_of part d) (d / 2) j.joined

  part_joins : (d : ℕ) → d < 2 * crossings E → goes c (d / 2) ≡ true → Joins part d
  part_joins d l h = record { lt = l; joined = subst (λ n. n < crossings E) (sym (part_mate d h)) (all_joined c H d l).joined }

  -- the mate of a crossing that went has gone
  mate_goes : (d : ℕ) → d < 2 * crossings E → goes c (d / 2) ≡ true → goes c (mate_of A d) ≡ true
  mate_goes d l h = go ((shows c H (slot_of A d) ls).to d (all_joined c H d l) refl)
    where
      ls : slot_of A d < 4
      ls = (piece c H).slot d l

      go : ((j : ℕ) × (t : ℕ) × (j' : ℕ) × (t' : ℕ) × Any (num (Φ (slot_of A d)) j t) × DartAlong (Φ (slot_of A d)) A d j t j' t') → goes c (mate_of A d) ≡ true
      go (j, t, j', t', x, a) =
          true_gone (mate_of A d) (all_joined c H d l).joined
          (subst (Went c) (sym a.to_is) (went_on c H (slot_of A d) j t j' t' ls a.segment (subst (Went c) a.from_is (gone_true (d / 2) (omega arith) h))))

  abbrev base : Piece A
  base = piece c H

  part_ports : Ports (crossings E) part.fa part.fb part.mate
  unfolding face
  part_ports = record {
    apart = base.ports.apart;
    both = λ d l h.
        let g = mate_left (slot_of A d) (d / 2) h in
        let m = mate_gone (slot_of A d) (d / 2) g in
        ap (part.mate (slot_of A d)) m ∙ mate_gone (slot_of A d) (mate_of A d) (mate_goes d l g) ∙ base.ports.both d l (all_joined c H d l).joined;
    other = λ d l q. other d l q (goes c (d / 2)) refl;
    lies = λ d l h.
        let m = mate_gone (slot_of A d) (d / 2) (mate_left (slot_of A d) (d / 2) h) in
        subst (λ y. (A.fa y ≡ slot_of A d) ⊎ (A.fb y ≡ slot_of A d)) (sym m) (base.ports.lies d l (all_joined c H d l).joined);
  }
    where
      other : (d : ℕ) → d < 2 * crossings E → part.mate (slot_of A d) (d / 2) ≡ d / 2 → (b : Bool) → goes c (d / 2) ≡ b → ⊥
      other d l q true e = base.ports.other d l (sym (mate_gone (slot_of A d) (d / 2) e) ∙ q)
      other d l q false e = let z : part.mate (slot_of A d) (d / 2) ≡ crossings E = simp e in omega (arith, l, z, q)

  pub part_piece : Piece part
  unfolding face
  part_piece = record { ports = part_ports; numbers = base.numbers; slot = base.slot; names = base.names }

  pub part_whole : Whole part
  unfolding rev
  part_whole d j l =
      let e : (2 * (d / 2) + (1 - d % 2)) / 2 ≡ d / 2 = omega arith in
      (part_joins d l (subst (λ x. goes c x ≡ true) e (part_gone (rev d) j))).joined

  pub part_shows : (s : ℕ) → s < 4 → Shows (Φ s) part s (Went c)
  part_shows s ls = record {
    named = refl;
    to = λ d on e.
        let g = part_gone d on in
        let (j, t, j', t', x, a) = S.to d (all_joined c H d on.lt) (sym (slot_same d) ∙ e) in
        (j, t, j', t', subst (Went c) a.from_is (gone_true (d / 2) (omega (arith, on.lt)) g), onto d j t j' t' on g a);
    from = λ j t j' t' g z.
        let (d, e, a) = S.from j t j' t' tt z in
        let l = a.on.lt in
        let h = true_gone (d / 2) (omega (arith, l)) (subst (Went c) (sym a.from_is) g) in
        (d, slot_same d ∙ e, onto d j t j' t' (part_joins d l h) h a);
  }
    where
      S : Shows (Φ s) A s Any
      S = shows c H s ls

      onto : (d j t j' t' : ℕ) → Joins part d → goes c (d / 2) ≡ true → DartAlong (Φ s) A d j t j' t' → DartAlong (Φ s) part d j t j' t'
      onto d j t j' t' on g a = record { on = on; segment = a.segment; from_is = a.from_is; to_is = ap A.number (part_mate d g) ∙ a.to_is }

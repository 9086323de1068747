-- A firm cell: its slots show its faces, every crossing is joined, and no curve ends in it.
use Prim.Native.Nat.{ℕ, ◌+◌, ◌*◌, ◌/◌, ◌<◌}
use mathlib.Core.Path.{◌≡◌, refl, sym, ap, ap₂, ◌∙◌, subst}
use mathlib.Core.Logic.{⊎_elim}
use native.Mathlib.Omega.{arith}
use Rattle.slots.specs.Slots.{slot_edge, edge_rank, first_slot, second_slot}
use Rattle.slots.specs.claims.Claims.{EdgeSlot}
use Rattle.slots.proofs.Slots.{slot-edge}
use Rattle.face.specs.Face.{face_join}
use Rattle.walk.proofs.Step.{face_first, face_second}
use Rattle.manifold.specs.claims.Piece.{Local, Piece, slot_of, mate_of}
use Rattle.manifold.specs.claims.Complex.{Joins, Whole}
use Rattle.cell.specs.declared.Cell.{Cell}
use Rattle.cell.specs.Cell.{Edges, crossings, edge, index, number, join_at, slot}
use Rattle.cell.specs.Of.{count_of, start_of, edges_of}
use Rattle.cell.specs.Loop.{in_grid}
use Rattle.cell.specs.Triangles.{number_of}
use Rattle.cell.specs.claims.Polygons.{local_of, Apart}
use Rattle.cell.proofs.Lay.{lay}
use Rattle.cell.proofs.Levels.{slot_level}
use Rattle.cell.proofs.Mates as mates
use Rattle.cell.proofs.Mates.{slot_has}
use Rattle.cell.proofs.Polygons as polygons
use Rattle.split.specs.work.Shown.{Facet, num, Segment, OnFace, Plain, DartAlong, Shows, Any}
use Rattle.split.specs.work.Five.{facet}
use Rattle.split.specs.claims.Five.{Firm}
use Rattle.split.proofs.Facets.{seg_on, turned, some}

module _ (c : Cell) (H : Firm c) where
  abbrev E : Edges
  E = edges_of c

  abbrev A : Local
  A = local_of c

  abbrev Φ : ℕ → Facet
  Φ = facet c

  -- a crossing number belongs to one edge and one index
  pub once : (k t l u : ℕ) → k < 6 → t < count_of c k → l < 6 → u < count_of c l → start_of c k + t ≡ start_of c l + u → (k ≡ l) × (t ≡ u)
  once k t l u lk lt ll lu q = let e = H.separate k l t u lk ll lt lu q in (e, omega (arith, q, ap (start_of c) e))

  edge_lt : (s j : ℕ) → s < 4 → j < 3 → slot_edge s j < 6
  edge_lt s j ls lj = (slot-edge s j ls lj).lt

  pub plain : (s : ℕ) → s < 4 → Plain (Φ s)
  plain s ls = record {
    level = slot_level (count_of c) H.level s ls;
    once = λ j t i u a b q.
        let (x, y) = once (slot_edge s j) t (slot_edge s i) u (edge_lt s j ls a.edge) a.index (edge_lt s i ls b.edge) b.index q in
        (sym (slot-edge s j ls a.edge).place_is ∙ ap (edge_rank s) x ∙ (slot-edge s i ls b.edge).place_is, y);
  }

  -- crossing x on slot s, which has its edge
  module _ (s x : ℕ) (l : x < crossings E) (S : EdgeSlot (edge E x) s) where
    here : OnFace (Φ s) (edge_rank s (edge E x)) (index E x)
    here = record { edge = S.place_lt; index = subst (λ k. index E x < count_of c k) (sym S.edge_is) ((lay E).index_lt x l) }

    number_here : A.number x ≡ num (Φ s) (edge_rank s (edge E x)) (index E x)
    unfolding number_of in_grid
    number_here = ap (λ k. start_of c k + index E x) (sym S.edge_is)

    mate_is : (j' t' : ℕ) → Segment (Φ s) (edge_rank s (edge E x)) (index E x) j' t' → A.mate s x ≡ number E (slot_edge s j') t'
    unfolding join_at
    mate_is j' t' z = mates.mate_joined E s x z

  -- crossing t of edge j of the face in slot s
  module _ (s j t : ℕ) (ls : s < 4) (o : OnFace (Φ s) j t) where
    abbrev x : ℕ
    x = number E (slot_edge s j) t

    lk : slot_edge s j < 6
    lk = edge_lt s j ls o.edge

    x_lt : x < crossings E
    x_lt = (lay E).number_lt (slot_edge s j) t lk o.index

    x_edge : edge E x ≡ slot_edge s j
    x_edge = (lay E).number_edge (slot_edge s j) t lk o.index

    x_index : index E x ≡ t
    x_index = (lay E).number_index (slot_edge s j) t lk o.index

    x_number : A.number x ≡ num (Φ s) j t
    unfolding number_of in_grid
    x_number = ap₂ (λ k t. start_of c k + t) x_edge x_index

    x_place : edge_rank s (edge E x) ≡ j
    x_place = ap (edge_rank s) x_edge ∙ (slot-edge s j ls o.edge).place_is

    x_mate : (j' t' : ℕ) → Segment (Φ s) j t j' t' → A.mate s x ≡ number E (slot_edge s j') t'
    unfolding join_at
    x_mate j' t' z =
        mates.mate_joined E s x
        (ap₂ (face_join (count_of c (slot_edge s 0)) (count_of c (slot_edge s 1)) (count_of c (slot_edge s 2))) x_place x_index ∙ z)

  -- the slot of a dart has its edge
  has : (d : ℕ) → d < 2 * crossings E → EdgeSlot (edge E (d / 2)) (slot_of A d)
  unfolding slot
  has d l = slot_has E d l

  -- the segment from a dart
  pub record Goes (d : ℕ) : Type 0 where
    pub j : ℕ
    pub t : ℕ
    pub to : OnFace (Φ (slot_of A d)) j t
    pub segment : Segment (Φ (slot_of A d)) (edge_rank (slot_of A d) (edge E (d / 2))) (index E (d / 2)) j t
    pub is : mate_of A d ≡ number E (slot_edge (slot_of A d) j) t

  goes : (d : ℕ) → d < 2 * crossings E → Goes d
  goes d l =
      let S = has d l in
      let lx : d / 2 < crossings E = omega arith in
      let (j, t, z) = some (Φ (slot_of A d)) (plain (slot_of A d) S.lt) (edge_rank (slot_of A d) (edge E (d / 2))) (index E (d / 2)) (here (slot_of A d) (d / 2) lx S) in
      record {
        j = j;
        t = t;
        to = seg_on (Φ (slot_of A d)) j t (edge_rank (slot_of A d) (edge E (d / 2))) (index E (d / 2)) (turned (Φ (slot_of A d)) (edge_rank (slot_of A d) (edge E (d / 2))) (index E (d / 2)) j t z);
        segment = z;
        is = mate_is (slot_of A d) (d / 2) lx S j t z;
      }

  goes_lt : (d : ℕ) → d < 2 * crossings E → mate_of A d < crossings E
  goes_lt d l =
      let g = goes d l in
      subst (λ n. n < crossings E) (sym g.is) ((lay E).number_lt (slot_edge (slot_of A d) g.j) g.t (edge_lt (slot_of A d) g.j (has d l).lt g.to.edge) g.to.index)

  pub all_joined : (d : ℕ) → d < 2 * crossings E → Joins A d
  all_joined d l = record { lt = l; joined = goes_lt d l }

  pub closed : Whole A
  closed d j l = goes_lt d l

  pub apart : Apart c
  unfolding number_of in_grid
  apart = record {
    numbers = λ x y lx ly q.
        let (a, b) = once (edge E x) (index E x) (edge E y) (index E y) ((lay E).edge_lt x lx) ((lay E).index_lt x lx) ((lay E).edge_lt y ly) ((lay E).index_lt y ly) q in
        sym ((lay E).back x lx) ∙ ap₂ (number E) a b ∙ (lay E).back y ly;
    names = H.names;
  }

  pub piece : Piece A
  piece = polygons.piece c apart

  -- the number of the mate
  number_goes : (d : ℕ) (l : d < 2 * crossings E) → A.number (mate_of A d) ≡ num (Φ (slot_of A d)) (goes d l).j (goes d l).t
  number_goes d l =
      let g = goes d l in
      ap A.number g.is ∙ x_number (slot_of A d) g.j g.t (has d l).lt g.to

  -- a dart at crossing t of edge j of the face in slot s
  pub record DartAt (s j t : ℕ) : Type 0 where
    pub d : ℕ
    pub lt : d < 2 * crossings E
    pub slot : slot_of A d ≡ s
    pub is : d / 2 ≡ number E (slot_edge s j) t

  dart-at : (s j t : ℕ) → s < 4 → OnFace (Φ s) j t → DartAt s j t
  dart-at s j t ls o =
      ⊎_elim
      (λ (u : first_slot (slot_edge s j) ≡ s).
      record {
        d = 2 * number E (slot_edge s j) t;
        lt = omega (arith, x_lt s j t ls o);
        slot = face_first (crossings E) A.fa A.fb A.mate (number E (slot_edge s j) t) ∙ ap first_slot (x_edge s j t ls o) ∙ u;
        is = omega arith;
      })
      (λ (u : second_slot (slot_edge s j) ≡ s).
      record {
        d = 2 * number E (slot_edge s j) t + 1;
        lt = omega (arith, x_lt s j t ls o);
        slot = face_second (crossings E) A.fa A.fb A.mate (number E (slot_edge s j) t) ∙ ap second_slot (x_edge s j t ls o) ∙ u;
        is = omega arith;
      })
      (slot-edge s j ls o.edge).on

  pub shows : (s : ℕ) → s < 4 → Shows (Φ s) A s Any
  shows s ls = record {
    named = refl;
    to = λ d on e. subst (λ s. (j : ℕ) × (t : ℕ) × (j' : ℕ) × (t' : ℕ) × Any (num (Φ s) j t) × DartAlong (Φ s) A d j t j' t') e (along d on.lt);
    from = λ j t j' t' z q. back j t j' t' q (dart-at s j t ls (seg_on (Φ s) j t j' t' q));
  }
    where
      along : (d : ℕ) → d < 2 * crossings E → (j : ℕ) × (t : ℕ) × (j' : ℕ) × (t' : ℕ) × Any (num (Φ (slot_of A d)) j t) × DartAlong (Φ (slot_of A d)) A d j t j' t'
      along d l =
          let g = goes d l in (
            edge_rank (slot_of A d) (edge E (d / 2)),
            index E (d / 2),
            g.j,
            g.t,
            tt,
            record { on = all_joined d l; segment = g.segment; from_is = number_here (slot_of A d) (d / 2) (omega arith) (has d l); to_is = number_goes d l },
          )

      back : (j t j' t' : ℕ) → Segment (Φ s) j t j' t' → DartAt s j t → (d : ℕ) × (slot_of A d ≡ s) × DartAlong (Φ s) A d j t j' t'
      back j t j' t' q a =
          let o = seg_on (Φ s) j t j' t' q in
          let o' = seg_on (Φ s) j' t' j t (turned (Φ s) j t j' t' q) in
          let m : mate_of A a.d ≡ number E (slot_edge s j') t' = ap₂ A.mate a.slot a.is ∙ x_mate s j t ls o j' t' q in (
            a.d,
            a.slot,
            record {
              on = all_joined a.d a.lt;
              segment = q;
              from_is = ap A.number a.is ∙ x_number s j t ls o;
              to_is = ap A.number m ∙ x_number s j' t' ls o';
            },
          )

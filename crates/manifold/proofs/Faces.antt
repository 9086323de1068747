-- A complex whose pieces share whole faces, and agree on them, has the laws of a complex whose pieces share segments.
use Prim.Native.Nat.{ℕ, ◌<◌, min}
use mathlib.Core.Path.{◌≡◌, sym, ap, ap₂, ◌∙◌}
use mathlib.Core.Logic.{inl, inr, ⊎_elim}
use Rattle.walk.specs.Darts.{half}
use Rattle.manifold.specs.Triangle.{seg}
use Rattle.manifold.specs.claims.Piece.{Local, slot_of, mate_of, segment_of}
use Rattle.manifold.specs.claims.Complex.{Complex, Lawful, Joins, SameEnds, Shut, LinkedAt}
use Rattle.manifold.specs.work.Faces.{Match, Faced, FacesShut, FacesLinked}
use Rattle.manifold.proofs.Piece.{segment_cases}

match_segment : (A B : Local) (s d : ℕ) → mate_of A d < A.N → A.name (slot_of A d) ≡ B.name s → (m : Match A B s d) → segment_of B m.e ≡ segment_of A d
match_segment A B s d t q m = ap₂ seg (ap B.name m.slot ∙ sym q) (ap₂ min m.point (m.mate t).1)

module _ (K : Complex) (W : Faced K) where
  face-of : (a b d e : ℕ) → segment_of (K.at a) d ≡ segment_of (K.at b) e → (K.at a).name (slot_of (K.at a) d) ≡ (K.at b).name (slot_of (K.at b) e)
  face-of a b d e q = cc

  ends : (a b d e : ℕ) → a < K.pieces → b < K.pieces → Joins (K.at a) d → Joins (K.at b) e → segment_of (K.at a) d ≡ segment_of (K.at b) e → SameEnds (K.at a) d (K.at b) e
  ends a b d e la lb hd he q =
      let B = K.at b in
      let f = face-of a b d e q in
      let m = W.agree a b (slot_of B e) d la lb ((W.piece b lb).slot e he.lt) hd.lt f in
      let x = m.e in
      let (tx, gx) = m.mate hd.joined in
      let (g, o) = segment_cases B (W.piece b lb) x e (record { lt = m.lt; joined = tx }) he (match_segment (K.at a) B (slot_of B e) d hd.joined f m ∙ q) in
      ⊎_elim
      (λ (h : half x ≡ half e). inl (sym m.point ∙ ap B.number h, sym gx ∙ ap B.number (ap₂ B.mate g h)))
      (λ (h : half x ≡ mate_of B e).
      let y : mate_of B x ≡ half e = ap₂ B.mate g h ∙ (W.piece b lb).ports.both e he.lt he.joined in
      inr (sym m.point ∙ ap B.number h, sym gx ∙ ap B.number y))
      o

  pub faces_lawful : Lawful K
  faces_lawful = record {
    piece = W.piece;
    tags = W.tags;
    few = λ a b c d e f la lb lc hd he hf p q. W.few a b c (slot_of (K.at a) d) (slot_of (K.at b) e) (slot_of (K.at c) f) la lb lc
        ((W.piece a la).slot d hd.lt) ((W.piece b lb).slot e he.lt) ((W.piece c lc).slot f hf.lt) (face-of a b d e p) (face-of a c d f q);
    ends = ends;
  }

  module _ (F : FacesShut K) where
    pub faces-shut : Shut K
    faces-shut = record {
      full = λ c lc d j ld. F.full c d lc ld;
      paired = λ c d lc j.
          let (b, lb, ne, s, ls, q) = F.paired c d lc j.lt in
          let m = W.agree c b s d lc lb ls j.lt q in
          (b, lb, ne, m.e, record { lt = m.lt; joined = (m.mate j.joined).0 }, match_segment (K.at c) (K.at b) s d j.joined q m);
    }

    pub faces-linked : (g : ℕ) → FacesLinked K g → LinkedAt K g
    faces-linked g link Q pass = link Q (λ a b h q.
        let m = W.agree a b h.s h.d h.a_lt h.b_lt h.s_lt h.d_lt h.face in
        pass a b h.a_lt h.b_lt (record {
          d = h.d;
          e = m.e;
          d_on = record { lt = h.d_lt; joined = F.full a h.d h.a_lt h.d_lt };
          e_on = record { lt = m.lt; joined = (m.mate (F.full a h.d h.a_lt h.d_lt)).0 };
          at_d = h.at_d;
          at_e = m.point ∙ h.at_d;
          same = sym (match_segment (K.at a) (K.at b) h.s h.d (F.full a h.d h.a_lt h.d_lt) h.face m);
        }) q)

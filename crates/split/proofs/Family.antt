-- A refinement keeps what is asked of a family of pieces: it is sound, nothing is left open, and the pieces at a crossing are linked.
use Prim.Native.Nat.{ℕ, ◌+◌, ◌<◌}
use mathlib.Core.Path.{◌≡◌, refl, sym, ap, ap₂, ◌∙◌, subst}
use mathlib.Core.Logic.{◌⊎◌, inl, inr, ◌≢◌}
use Rattle.counting.specs.Lists.{pre}
use Rattle.counting.specs.Pack.{row, col}
use Rattle.counting.proofs.Pack.{row_lt, col_lt, unpack, row_pack, col_pack, pack_lt}
use Rattle.walk.specs.Darts.{half}
use Rattle.manifold.specs.Triangle.{Side, seg, inner}
use Rattle.manifold.specs.claims.Piece.{Local, slot_of, segment_of}
use Rattle.manifold.specs.claims.Complex.{Joins, SameEnds, Shares}
use Rattle.split.specs.claims.Family.{Family, HasSegment, Meets, PiecesLinked, Outer, Refined}
use Rattle.split.specs.work.Family.{PiecesSound, Closed, fine}

-- the name of a segment's face
unfoldable pub face_of : Side → ℕ
face_of (seg f l) = f
face_of (inner c p k) = 0

-- the ends of a segment, in one order or the other
pub turn_ends : (A : Local) (d : ℕ) (B : Local) (e : ℕ) → SameEnds A d B e → SameEnds B e A d
turn_ends A d B e (inl (p, q)) = inl (sym p, sym q)
turn_ends A d B e (inr (p, q)) = inr (sym q, sym p)

pub via_ends : (A : Local) (d : ℕ) (B : Local) (e : ℕ) (C : Local) (f : ℕ) → SameEnds A d B e → SameEnds B e C f → SameEnds A d C f
via_ends A d B e C f (inl (p, q)) (inl (r, s)) = inl (p ∙ r, q ∙ s)
via_ends A d B e C f (inl (p, q)) (inr (r, s)) = inr (p ∙ r, q ∙ s)
via_ends A d B e C f (inr (p, q)) (inl (r, s)) = inr (p ∙ s, q ∙ r)
via_ends A d B e C f (inr (p, q)) (inr (r, s)) = inl (p ∙ s, q ∙ r)

module _ (F : Family) (m : ℕ → ℕ) (B : ℕ → ℕ → Local) (Face Point : ℕ → ℕ → Type 0) (R : Refined F m B Face Point) (S : PiecesSound F) where
  -- a segment of a piece is on none of the inner faces
  not_inner : (c b : ℕ) → c < F.size → b < F.size → (σ : Side) → HasSegment (F.at b) σ → Face c (face_of σ) → ⊥
  unfolding face_of
  not_inner c b lc lb σ r f = R.inner c b (slot_of (F.at b) r.d) lc lb ((S.piece b lb).slot r.d r.on.lt) (subst (λ s. Face c (face_of s)) (sym r.is) f)

  -- a segment of a part: one of its piece's, or on an inner face
  pub kind : (c j : ℕ) → c < F.size → j < m c → (σ : Side) → HasSegment (B c j) σ → HasSegment (F.at c) σ ⊎ Face c (face_of σ)
  unfolding face_of
  kind c j lc lj σ r = go ((R.parts c lc).kind j r.d lj r.on)
    where
      go : Outer (F.at c) (B c j) r.d ⊎ Face c ((B c j).name (slot_of (B c j) r.d)) → HasSegment (F.at c) σ ⊎ Face c (face_of σ)
      go (inl o) = inl (record { d = o.d; on = o.on; is = sym o.is ∙ r.is })
      go (inr f) = inr (subst (λ s. Face c (face_of s)) r.is f)

  -- two parts of one piece with a segment of the piece are one
  same_part : (σ : Side) (c b j k : ℕ) → c ≡ b → c < F.size → j < m c → k < m b → HasSegment (F.at c) σ → HasSegment (B c j) σ → HasSegment (B b k) σ → (c ≡ b → j ≡ k → ⊥) → ⊥
  same_part σ c b j k e lc lj lk r u v ne =
      subst (λ b. k < m b → HasSegment (B b k) σ → ⊥) e
      (λ l w. (R.parts c lc).once j k r.d lj l (λ q. ne e q) r.on
      (record { d = u.d; on = u.on; is = u.is ∙ sym r.is }) (record { d = w.d; on = w.on; is = w.is ∙ sym r.is }))
      lk v

  -- three parts of one piece with a segment on an inner face
  three_parts : (σ : Side) (c b a j k l : ℕ) → c ≡ b → c ≡ a → c < F.size → j < m c → k < m b → l < m a → Face c (face_of σ) → HasSegment (B c j) σ → HasSegment (B b k) σ → HasSegment (B a l) σ
      → (c ≡ b → j ≡ k → ⊥) → (c ≡ a → j ≡ l → ⊥) → (b ≡ a → k ≡ l → ⊥) → ⊥
  unfolding face_of
  three_parts σ c b a j k l p q lc lj lk ll f u v w x y z =
      (R.parts c lc).inner_few j k l u.d lj (subst (λ b. k < m b) (sym p) lk) (subst (λ a. l < m a) (sym q) ll) u.on
      (subst (λ s. Face c (face_of s)) (sym u.is) f)
      (along v') (along w') (x p) (y q) (z (sym p ∙ q))
    where
      v' : HasSegment (B c k) σ
      v' = subst (λ b. HasSegment (B b k) σ) (sym p) v

      w' : HasSegment (B c l) σ
      w' = subst (λ a. HasSegment (B a l) σ) (sym q) w

      along : {A : Local} → HasSegment A σ → HasSegment A (segment_of (B c j) u.d)
      along r = record { d = r.d; on = r.on; is = r.is ∙ sym u.is }

  few : (σ : Side) (c b a j k l : ℕ) → c < F.size → b < F.size → a < F.size → j < m c → k < m b → l < m a → HasSegment (B c j) σ → HasSegment (B b k) σ → HasSegment (B a l) σ
      → (c ≡ b → j ≡ k → ⊥) → (c ≡ a → j ≡ l → ⊥) → (b ≡ a → k ≡ l → ⊥) → ⊥
  few σ c b a j k l lc lb la lj lk ll u v w x y z = go (kind c j lc lj σ u) (kind b k lb lk σ v) (kind a l la ll σ w)
    where
      go : HasSegment (F.at c) σ ⊎ Face c (face_of σ) → HasSegment (F.at b) σ ⊎ Face b (face_of σ) → HasSegment (F.at a) σ ⊎ Face a (face_of σ) → ⊥
      go (inl r) (inl s) (inl t) =
          S.few σ c b a lc lb la r s t (λ e. same_part σ c b j k e lc lj lk r u v x) (λ e. same_part σ c a j l e lc lj ll r u w y) (λ e. same_part σ b a k l e lb lk ll s v w z)
      go (inl r) (inr g) t = not_inner b c lb lc σ r g
      go (inl r) (inl s) (inr g) = not_inner a c la lc σ r g
      go (inr f) (inl s) t = not_inner c b lc lb σ s f
      go (inr f) (inr g) (inl t) = not_inner c a lc la σ t f
      go (inr f) (inr g) (inr h) =
          three_parts σ c b a j k l (R.faces c b (face_of σ) lc lb f g) (R.faces c a (face_of σ) lc la f h) lc lj lk ll f u v w x y z

  ends : (c b j k d e : ℕ) → c < F.size → b < F.size → j < m c → k < m b → Joins (B c j) d → Joins (B b k) e → segment_of (B c j) d ≡ segment_of (B b k) e
      → SameEnds (B c j) d (B b k) e
  unfolding face_of
  ends c b j k d e lc lb lj lk jd je q = go ((R.parts c lc).kind j d lj jd) ((R.parts b lb).kind k e lk je)
    where
      face : (B c j).name (slot_of (B c j) d) ≡ (B b k).name (slot_of (B b k) e)
      face = ap face_of q

      same : c ≡ b → Face c ((B c j).name (slot_of (B c j) d)) → SameEnds (B c j) d (B b k) e
      same p f =
          subst (λ b. k < m b → Joins (B b k) e → segment_of (B c j) d ≡ segment_of (B b k) e → SameEnds (B c j) d (B b k) e) p
          (λ l i h. (R.parts c lc).inner_ends j k d e lj l jd i f h) lk je q

      go : Outer (F.at c) (B c j) d ⊎ Face c ((B c j).name (slot_of (B c j) d)) → Outer (F.at b) (B b k) e ⊎ Face b ((B b k).name (slot_of (B b k) e)) → SameEnds (B c j) d (B b k) e
      go (inl o) (inl p) =
          via_ends (B c j) d (F.at b) p.d (B b k) e
          (via_ends (B c j) d (F.at c) o.d (F.at b) p.d o.ends (S.ends c b o.d p.d lc lb o.on p.on (sym o.is ∙ q ∙ p.is)))
          (turn_ends (B b k) e (F.at b) p.d p.ends)
      go (inl o) (inr g) = absurd (not_inner b c lb lc (segment_of (F.at c) o.d) (record { d = o.d; on = o.on; is = refl }) (subst (λ s. Face b (face_of s)) (sym q ∙ o.is) g))
      go (inr f) (inl p) = absurd (not_inner c b lc lb (segment_of (F.at b) p.d) (record { d = p.d; on = p.on; is = refl }) (subst (λ s. Face c (face_of s)) (q ∙ p.is) f))
      go (inr f) (inr g) = same (R.faces c b ((B c j).name (slot_of (B c j) d)) lc lb f (subst (Face b) (sym face) g)) f

  -- part j of piece c among all parts
  place : ℕ → ℕ → ℕ
  place c j = pre m c + j

  abbrev r : ℕ → ℕ
  r x = row m F.size x

  abbrev i : ℕ → ℕ
  i x = col m F.size x

  place_lt : (c j : ℕ) → c < F.size → j < m c → place c j < pre m F.size
  unfolding place
  place_lt c j lc lj = pack_lt m F.size c j lc lj

  row_place : (c j : ℕ) → c < F.size → j < m c → r (place c j) ≡ c
  unfolding place
  row_place c j lc lj = row_pack m F.size c j lc lj

  col_place : (c j : ℕ) → c < F.size → j < m c → i (place c j) ≡ j
  unfolding place
  col_place c j lc lj = col_pack m F.size c j lc lj

  at_place : (c j : ℕ) → c < F.size → j < m c → B (r (place c j)) (i (place c j)) ≡ B c j
  at_place c j lc lj = ap₂ B (row_place c j lc lj) (col_place c j lc lj)

  is_place : (x : ℕ) → x < pre m F.size → place (r x) (i x) ≡ x
  unfolding place
  is_place x l = unpack m F.size x l

  one_place : (x y : ℕ) → x < pre m F.size → y < pre m F.size → r x ≡ r y → i x ≡ i y → x ≡ y
  one_place x y lx ly p q = sym (is_place x lx) ∙ ap₂ place p q ∙ is_place y ly

  module _ {x : ℕ} (l : x < pre m F.size) where
    abbrev rl : r x < F.size
    rl = row_lt m F.size x l

    abbrev il : i x < m (r x)
    il = col_lt m F.size x l

  pub fine_sound : PiecesSound (fine F m B)
  unfolding fine
  fine_sound = record {
    piece = λ x l. (R.parts (r x) (rl l)).piece (i x) (il l);
    few = λ σ x y z lx ly lz u v w xy xz yz. few σ (r x) (r y) (r z) (i x) (i y) (i z) (rl lx) (rl ly) (rl lz) (il lx) (il ly) (il lz) u v w
        (λ p q. xy (one_place x y lx ly p q)) (λ p q. xz (one_place x z lx lz p q)) (λ p q. yz (one_place y z ly lz p q));
    ends = λ x y d e lx ly. ends (r x) (r y) (i x) (i y) d e (rl lx) (rl ly) (il lx) (il ly);
  }

  module _ (C : Closed F) where
    paired : (x : ℕ) → x < pre m F.size → (σ : Side) → HasSegment (B (r x) (i x)) σ → (y : ℕ) × (y < pre m F.size) × (y ≢ x) × HasSegment (B (r y) (i y)) σ
    unfolding face_of
    paired x l σ u = go (kind (r x) (i x) (rl l) (il l) σ u)
      where
        go : HasSegment (F.at (r x)) σ ⊎ Face (r x) (face_of σ) → (y : ℕ) × (y < pre m F.size) × (y ≢ x) × HasSegment (B (r y) (i y)) σ
        go (inl v) =
            let (b, lb, ne, w) = C.paired (r x) (rl l) σ v in
            let k = (R.parts b lb).cover w.d w.on in (
              place b k.j,
              place_lt b k.j lb k.j_lt,
              (λ e. ne (sym (row_place b k.j lb k.j_lt) ∙ ap r e)),
              subst (λ A. HasSegment A σ) (sym (at_place b k.j lb k.j_lt)) (record { d = k.e; on = k.on; is = k.is ∙ w.is }),
            )
        go (inr f) =
            let (k, lk, ne, w) = (R.parts (r x) (rl l)).inner_paired (i x) u.d (il l) u.on (subst (λ s. Face (r x) (face_of s)) (sym u.is) f) in (
              place (r x) k,
              place_lt (r x) k (rl l) lk,
              (λ e. ne (sym (col_place (r x) k (rl l) lk) ∙ ap i e)),
              subst (λ A. HasSegment A σ) (sym (at_place (r x) k (rl l) lk)) (record { d = w.d; on = w.on; is = w.is ∙ u.is }),
            )

    pub fine_closed : Closed (fine F m B)
    unfolding fine
    fine_closed = record { whole = λ x l. (R.parts (r x) (rl l)).whole (C.whole (r x) (rl l)) (i x) (il l); paired = paired }

  -- the parts at a crossing
  module _ (g : ℕ) (L : PiecesLinked F g) (Q : ℕ → Type 0)
      (pass : (x y : ℕ) → x < pre m F.size → y < pre m F.size → Shares (B (r x) (i x)) (B (r y) (i y)) g → Q x → Q y) where
    over : (c b j k : ℕ) → c < F.size → b < F.size → j < m c → k < m b → Shares (B c j) (B b k) g → Q (place c j) → Q (place b k)
    over c b j k lc lb lj lk s =
        pass (place c j) (place b k) (place_lt c j lc lj) (place_lt b k lb lk)
        (subst (λ A. Shares A (B (r (place b k)) (i (place b k))) g) (sym (at_place c j lc lj)) (subst (λ A. Shares (B c j) A g) (sym (at_place b k lb lk)) s))

    -- within a piece
    within : (c j k : ℕ) → c < F.size → j < m c → k < m c → Meets (B c j) g → Meets (B c k) g → Q (place c j) → Q (place c k)
    within c j k lc lj lk = (R.parts c lc).linked g (λ j. Q (place c j)) (λ a b la lb s. over c c a b lc lc la lb s) j k lj lk

    Held : ℕ → Type 0
    Held c = (j : ℕ) → j < m c → Meets (B c j) g → Q (place c j)

    -- over a segment that two pieces share
    across : (a b : ℕ) → a < F.size → b < F.size → Shares (F.at a) (F.at b) g → Held a → Held b
    unfolding Held
    across a b la lb s h k lk w =
        let u = (R.parts a la).cover s.d s.d_on in
        let v = (R.parts b lb).cover s.e s.e_on in
        let pu : (B a u.j).number (half u.e) ≡ g = u.point ∙ s.at_d in
        let pv : (B b v.j).number (half v.e) ≡ g = v.point ∙ s.at_e in
        within b v.j k lb v.j_lt lk (record { d = v.e; on = v.on; is = pv }) w
        (over a b u.j v.j la lb u.j_lt v.j_lt
        (record { d = u.e; e = v.e; d_on = u.on; e_on = v.on; at_d = pu; at_e = pv; same = u.is ∙ s.same ∙ sym v.is })
        (h u.j u.j_lt (record { d = u.e; on = u.on; is = pu })))

    all : (c b j k : ℕ) → c < F.size → b < F.size → j < m c → k < m b → Meets (B c j) g → Meets (B b k) g → Q (place c j) → Q (place b k)
    unfolding Held
    all c b j k lc lb lj lk u v q = go ((R.parts c lc).points j g lj u) ((R.parts b lb).points k g lk v)
      where
        go : Meets (F.at c) g ⊎ Point c g → Meets (F.at b) g ⊎ Point b g → Q (place b k)
        go (inl s) (inl t) = L Held across c b lc lb s t (λ l ll w. within c j l lc lj ll u w q) k lk v
        go (inl s) (inr p) = absurd (R.apart b c g lb lc p s)
        go (inr p) (inl t) = absurd (R.apart c b g lc lb p t)
        go (inr p) (inr s) =
            subst (λ b. k < m b → Meets (B b k) g → Q (place b k)) (R.points c b g lc lb p s) (λ l w. within c j k lc lj l u w q) lk v

    linked : (x y : ℕ) → x < pre m F.size → y < pre m F.size → Meets (B (r x) (i x)) g → Meets (B (r y) (i y)) g → Q x → Q y
    linked x y lx ly u v q =
        subst Q (is_place y ly) (all (r x) (r y) (i x) (i y) (rl lx) (rl ly) (il lx) (il ly) u v (subst Q (sym (is_place x lx)) q))

  pub fine_linked : (g : ℕ) → PiecesLinked F g → PiecesLinked (fine F m B) g
  unfolding fine
  fine_linked g L Q pass = linked g L Q pass

-- In an accepted flat grid each crossing has two ports, the triangles of its edge, and at most one mate in each.
use Prim.Native.Nat.{ℕ, ◌+◌, ◌*◌, ◌/◌, ◌≤◌, ◌<◌}
use mathlib.Core.Path.{◌≡◌, refl, sym, ap, ◌∙◌, subst}
use mathlib.Core.Logic.{◌⊎◌, ◌≢◌, inl, inr}
use mathlib.Core.Bool.{Bool, true, ◌&&◌}
use mathlib.Core.List.{List}
use native.Mathlib.Decide.{dec_lt}
use native.Mathlib.Omega.{arith}
use lib.Dec.{ltb}
use lib.ListN.{get_or-eq_default, get_or, length}
use borrow.Author.Tests.{le-ltb, ltb-true, lt-ltb, ne_eqb}
use Rattle.counting.specs.Search.{first}
use Rattle.counting.proofs.Below.{trichotomy}
use Rattle.counting.proofs.Bools.{and_left, and_right, and_true, clash}
use Rattle.counting.proofs.Pack.{col_lt, col_pack, pack_lt, row_lt, row_pack, unpack}
use Rattle.counting.proofs.Search.{first_below, first_is, some_first, some_found, some_is}
use Rattle.slots.specs.Slots.{lower, upper}
use Rattle.face.specs.Face.{joined, count_on}
use Rattle.face.specs.claims.Claims.{unjoined}
use Rattle.face.specs.claims.Ends.{Edge, on_ab, on_ac, on_bc}
use Rattle.face.proofs.Ends.{edge_lt, edge-of, edge_with}
use Rattle.grid.specs.Grid.{count_of, crossing, crossings, start}
use Rattle.walk.specs.Darts.{half, rev}
use Rattle.walk.specs.claims.Claims.{Darts}
use Rattle.walk.specs.claims.Step.{Ports}
use Rattle.walk.specs.Step as walk
use Rattle.walk.proofs.Step.{darts, face_first, face_second, land_half}
use Rattle.flat.specs.FlatGrid.{FlatGrid, edge_number, edge_rank, has_edge, is_edge, node, triangles_in}
use Rattle.flat.specs.Accepted.{Accepted, EdgeIs}
use Rattle.flat.specs.claims.Claims.{EdgeNumbers}
use Rattle.flat.specs.Join.{flat_join}
use Rattle.flat.specs.claims.JoinClaims.{FlatSegment, FlatLaws}
use Rattle.flat.specs.Chains.{count_of_side, crossing_edge, first_triangle, crossing_index, join_at, joined_to, mate, second_triangle, step}
use Rattle.flat.specs.GridClaims.{LeadsOver, SegmentsHold}
use Rattle.flat.proofs.Accepts.{edge_numbers, edge_true, true_edge}
use Rattle.flat.proofs.Triangle.{flat_laws}
use Rattle.flat.proofs.Once.{chain_laws}

-- CROSSING NUMBERS

module _ (G : FlatGrid) where
  abbrev N : ℕ
  N = crossings G.counts

  pub edge_there : (x : ℕ) → x < N → crossing_edge G x < length G.counts
  unfolding crossing_edge start
  edge_there x h = row_lt (count_of G.counts) (length G.counts) x h

  pub index_there : (x : ℕ) → x < N → crossing_index G x < count_of G.counts (crossing_edge G x)
  unfolding crossing_edge crossing_index start
  index_there x h = col_lt (count_of G.counts) (length G.counts) x h

  pub number_is : (x : ℕ) → x < N → crossing G.counts (crossing_edge G x) (crossing_index G x) ≡ x
  unfolding crossing_edge crossing_index start
  number_is x h = unpack (count_of G.counts) (length G.counts) x h

  pub edge_is : (e i : ℕ) → e < length G.counts → i < count_of G.counts e → crossing_edge G (crossing G.counts e i) ≡ e
  unfolding crossing_edge start
  edge_is e i = row_pack (count_of G.counts) (length G.counts) e i

  pub index_is : (e i : ℕ) → e < length G.counts → i < count_of G.counts e → crossing_index G (crossing G.counts e i) ≡ i
  unfolding crossing_index start
  index_is e i = col_pack (count_of G.counts) (length G.counts) e i

  pub number_there : (e i : ℕ) → e < length G.counts → i < count_of G.counts e → crossing G.counts e i < N
  unfolding start
  number_there e i = pack_lt (count_of G.counts) (length G.counts) e i

  -- the counts of a triangle by its edge
  pub count-in : (f : ℕ) {k : ℕ} → Edge k → count_on (count_of_side G f 0) (count_of_side G f 1) (count_of_side G f 2) k ≡ count_of G.counts (edge_number G f k)
  unfolding count_on count_of_side
  count-in f on_ab = refl
  count-in f on_ac = refl
  count-in f on_bc = refl

module _ (G : FlatGrid) (A : Accepted G) where
  pub numbers : EdgeNumbers G
  numbers = edge_numbers G A

  -- an edge of a triangle is one of a triangle of the list
  pub in_list : (f k e : ℕ) → k < 3 → e < length G.counts → EdgeIs G f k e → f < triangles_in G.triangles
  in_list f k e h l is = elim (dec_lt f (triangles_in G.triangles)) [
    | yes m ↦ m
    | no m ↦ absurd (omega (arith, A.ends e l, is.low_is, is.high_is, beyond (omega arith) (lower k), beyond (omega arith) (upper k)))
  ]
    where
      beyond : triangles_in G.triangles ≤ f → (i : ℕ) → node G.triangles f i ≡ 0
      beyond m i = get_or-eq_default G.triangles 0 (omega (arith, A.threes))

  -- the rank of an edge in a triangle that has it
  pub rank_is : (f k : ℕ) → f < triangles_in G.triangles → k < 3 → edge_rank G f (edge_number G f k) ≡ k
  unfolding edge_rank
  rank_is f k h l =
      let e = edge_number G f k in
      let t = true_edge G f k e (numbers.is f k h l) in
      let m : first (λ k. is_edge G f k e) 3 < 3 = some_first (λ k. is_edge G f k e) 3 (some_found (λ k. is_edge G f k e) 3 k l t) in
      let q = numbers.only f (first (λ k. is_edge G f k e) 3) e h m (numbers.listed f k h l) (edge_true G f _ e (first_is (λ k. is_edge G f k e) 3 m)) in
      trichotomy (first (λ k. is_edge G f k e) 3) k
      (λ a. absurd (omega (arith, numbers.rising f (first (λ k. is_edge G f k e) 3) k h a l)))
      (λ a. absurd (omega (arith, numbers.rising f k (first (λ k. is_edge G f k e) 3) h a m))) (λ a. a)

  -- THE MATE OF A CROSSING, where it has one: a segment of the triangle
  pub record Mated (f x : ℕ) : Type 0 where
    pub k : ℕ
    pub k' : ℕ
    pub t' : ℕ
    pub within : f < triangles_in G.triangles
    pub edge : Edge k
    pub edge' : Edge k'
    pub edge_at : edge_number G f k ≡ crossing_edge G x
    pub segment : FlatSegment (count_of_side G f 0) (count_of_side G f 1) (count_of_side G f 2) k (crossing_index G x) k' t'
    pub below' : t' < count_of G.counts (edge_number G f k')
    pub mate_is : mate G f x ≡ crossing G.counts (edge_number G f k') t'

  answer_not : (f x : ℕ) {a : List ℕ} → join_at G f x ≡ a → get_or a 0 0 ≢ 0 → mate G f x ≡ crossings G.counts
  unfolding mate joined_to
  answer_not f x q h = rw (q, ne_eqb _ 0 h)

  answer_is : (f x k t : ℕ) → join_at G f x ≡ joined k t → mate G f x ≡ crossing G.counts (edge_number G f k) t
  unfolding mate joined_to
  answer_is f x k t q = rw q

  pub mated : (f x : ℕ) → x < crossings G.counts → mate G f x < crossings G.counts → Mated f x
  unfolding join_at edge_rank
  mated f x h m =
      let e = crossing_edge G x in
      let k = edge_rank G f e in
      elim (dec_lt k 3) [
        | yes l ↦
            let is = edge_true G f k e (first_is (λ k. is_edge G f k e) 3 l) in
            let le = edge_there G x h in
            let lf = in_list f k e l le is in
            let q = numbers.only f k e lf l le is in
            let d = edge-of k l in
            let c = count-in G f d ∙ ap (count_of G.counts) q in
            elim (laws.cases k (crossing_index G x) (omega (arith, index_there G x h))) [
              | inl j ↦
                  let b = (laws.there k (crossing_index G x) j.0 j.1 j.2).1 in
                  let d' = edge_with _ _ _ j.0 j.1 b in
                  record {
                    k = k;
                    k' = j.0;
                    t' = j.1;
                    within = lf;
                    edge = d;
                    edge' = d';
                    edge_at = q;
                    segment = j.2;
                    below' = omega (arith, count-in G f d');
                    mate_is = answer_is f x j.0 j.1 j.2;
                  }
              | inr u ↦ absurd (omega (arith, answer_not f x u (λ z. omega arith)))
            ]
        | no l ↦ absurd (omega (arith, answer_not f x (laws.off k (crossing_index G x) (inl (omega arith))) (λ z. omega arith)))
      ]
    where
      laws : FlatLaws (count_of_side G f 0) (count_of_side G f 1) (count_of_side G f 2)
      laws = flat_laws (count_of_side G f 0) (count_of_side G f 1) (count_of_side G f 2)

  -- the mate, its edge and its index
  module _ {f x : ℕ} (h : x < crossings G.counts) (M : Mated f x) where
    laws : FlatLaws (count_of_side G f 0) (count_of_side G f 1) (count_of_side G f 2)
    laws = flat_laws (count_of_side G f 0) (count_of_side G f 1) (count_of_side G f 2)

    edge_lt' : edge_number G f M.k' < length G.counts
    edge_lt' = numbers.listed f M.k' M.within (edge_lt M.edge')

    pub mate_there : mate G f x < crossings G.counts
    mate_there = rw M.mate_is (number_there G (edge_number G f M.k') M.t' edge_lt' M.below')

    pub mate_edge : crossing_edge G (mate G f x) ≡ edge_number G f M.k'
    mate_edge = ap (crossing_edge G) M.mate_is ∙ edge_is G (edge_number G f M.k') M.t' edge_lt' M.below'

    mate_index : crossing_index G (mate G f x) ≡ M.t'
    mate_index = ap (crossing_index G) M.mate_is ∙ index_is G (edge_number G f M.k') M.t' edge_lt' M.below'

    pub mate_back : mate G f (mate G f x) ≡ x
    unfolding join_at
    mate_back =
        answer_is f (mate G f x) M.k (crossing_index G x)
        (rw (mate_edge, mate_index, rank_is f M.k' M.within (edge_lt M.edge')) (laws.back M.k (crossing_index G x) M.k' M.t' M.segment))
        ∙ ap (λ e. crossing G.counts e (crossing_index G x)) M.edge_at ∙ number_is G x h

    pub mate_other : mate G f x ≢ x
    mate_other q =
        let e : edge_number G f M.k ≡ edge_number G f M.k' = M.edge_at ∙ ap (crossing_edge G) (sym q) ∙ mate_edge in
        let a = rank_is f M.k M.within (edge_lt M.edge) in
        let b = rank_is f M.k' M.within (edge_lt M.edge') in
        laws.another M.k (crossing_index G x) M.k' M.t' M.segment (sym a ∙ ap (edge_rank G f) e ∙ b, ap (crossing_index G) (sym q) ∙ mate_index)

  -- THE TRIANGLES OF AN EDGE

  pub has_at : (f k : ℕ) → f < triangles_in G.triangles → k < 3 → has_edge G (edge_number G f k) f ≡ true
  unfolding has_edge
  has_at f k h l = some_found (λ j. is_edge G f j (edge_number G f k)) 3 k l (true_edge G f k (edge_number G f k) (numbers.is f k h l))

  pub has_rank : (e f : ℕ) → has_edge G e f ≡ true → (k : ℕ) × (k < 3) × EdgeIs G f k e
  unfolding has_edge
  has_rank e f t = let (k, l, q) = some_is (λ k. is_edge G f k e) 3 t in (k, l, edge_true G f k e q)

  pub no_third : (e f g h : ℕ) → f < triangles_in G.triangles → g < triangles_in G.triangles → h < triangles_in G.triangles
      → has_edge G e f ≡ true → has_edge G e g ≡ true → has_edge G e h ≡ true → f ≢ g → f ≢ h → g ≢ h → ⊥
  no_third e f g h lf lg lh tf tg th =
      let (k, lk, p) = has_rank e f tf in
      let (l, ll, q) = has_rank e g tg in
      let (m, lm, r) = has_rank e h th in
      A.third f g h k l m lf lg lh lk ll lm (record { low_same = sym p.low_is ∙ q.low_is; high_same = sym p.high_is ∙ q.high_is })
      (record { low_same = sym p.low_is ∙ r.low_is; high_same = sym p.high_is ∙ r.high_is })

  module _ (x : ℕ) (h : x < crossings G.counts) where
    pub first_there : (first_triangle G x < triangles_in G.triangles) × (has_edge G (crossing_edge G x) (first_triangle G x) ≡ true)
    unfolding first_triangle
    first_there =
        let (f, k, lf, lk, q) = numbers.used (crossing_edge G x) (edge_there G x h) in
        let l = some_first (has_edge G (crossing_edge G x)) (triangles_in G.triangles)
        (some_found (has_edge G (crossing_edge G x)) (triangles_in G.triangles) f lf (subst (λ e. has_edge G e f ≡ true) q (has_at f k lf lk))) in
        (l, first_is (has_edge G (crossing_edge G x)) (triangles_in G.triangles) l)

    later : ℕ → Bool
    later f = ltb (first_triangle G x) f && has_edge G (crossing_edge G x) f

    pub second_there : second_triangle G x < triangles_in G.triangles → (first_triangle G x < second_triangle G x) × (has_edge G (crossing_edge G x) (second_triangle G x) ≡ true)
    unfolding second_triangle later
    second_there l =
        let t = first_is later (triangles_in G.triangles) l in (
          ltb-true (first_triangle G x) (second_triangle G x) (and_left (ltb (first_triangle G x) (second_triangle G x)) (has_edge G (crossing_edge G x) (second_triangle G x)) t),
          and_right (ltb (first_triangle G x) (second_triangle G x)) (has_edge G (crossing_edge G x) (second_triangle G x)) t,
        )

    pub ports_apart : first_triangle G x ≢ second_triangle G x
    ports_apart q = elim (dec_lt (second_triangle G x) (triangles_in G.triangles)) [
      | yes l ↦ omega (arith, (second_there l).0)
      | no l ↦ omega (arith, first_there.0)
    ]

    -- a triangle with the edge is one of the two
    pub either : (f : ℕ) → f < triangles_in G.triangles → has_edge G (crossing_edge G x) f ≡ true → (first_triangle G x ≡ f) ⊎ (second_triangle G x ≡ f)
    unfolding first_triangle second_triangle later
    either f l t = trichotomy (first_triangle G x) f
        (λ a.
        let u : later f ≡ true = and_true (ltb (first_triangle G x) f) (has_edge G (crossing_edge G x) f) (lt-ltb (first_triangle G x) f a) t in
        let m = some_first later (triangles_in G.triangles) (some_found later (triangles_in G.triangles) f l u) in
        let w = second_there m in
        inr (trichotomy (second_triangle G x) f
        (λ b. absurd (no_third (crossing_edge G x) (first_triangle G x) (second_triangle G x) f first_there.0 m l first_there.1 w.1 t
        (λ q. omega (arith, w.0)) (λ q. omega arith) (λ q. omega arith)))
        (λ b. clash u (first_below later (triangles_in G.triangles) f b)) (λ b. b)))
        (λ a. clash t (first_below (has_edge G (crossing_edge G x)) (triangles_in G.triangles) f a)) inl

  -- TOGETHER

  mate_has : {f x : ℕ} → Mated f x → has_edge G (crossing_edge G x) f ≡ true
  mate_has {f} M = subst (λ e. has_edge G e f ≡ true) M.edge_at (has_at f M.k M.within (edge_lt M.edge))

  mate_lies : {f x : ℕ} → x < crossings G.counts → Mated f x → (first_triangle G (mate G f x) ≡ f) ⊎ (second_triangle G (mate G f x) ≡ f)
  mate_lies {f} h M =
      either _ (mate_there h M) f M.within (subst (λ e. has_edge G e f ≡ true) (sym (mate_edge h M)) (has_at f M.k' M.within (edge_lt M.edge')))

  pub another : (f x : ℕ) → x < crossings G.counts → mate G f x ≢ x
  another f x h q = mate_other h (mated f x h (omega arith)) q

  pub ports : Ports (crossings G.counts) (first_triangle G) (second_triangle G) (mate G)
  ports = record {
    apart = ports_apart;
    both = λ d h m. mate_back (omega arith) (mated _ (d / 2) (omega arith) m);
    other = λ d h. another _ (d / 2) (omega arith);
    lies = λ d h m. mate_lies (omega arith) (mated _ (d / 2) (omega arith) m);
  }

  -- a crossing of the triangle that has no mate there
  left_at : (f x : ℕ) → f < triangles_in G.triangles → x < crossings G.counts → has_edge G (crossing_edge G x) f ≡ true → mate G f x ≡ crossings G.counts
      → (k : ℕ) × (edge_number G f k ≡ crossing_edge G x) × (flat_join (count_of_side G f 0) (count_of_side G f 1) (count_of_side G f 2) k (crossing_index G x) ≡ unjoined)
  unfolding join_at
  left_at f x lf h t none =
      let (k, lk, is) = has_rank (crossing_edge G x) f t in
      let q = numbers.only f k (crossing_edge G x) lf lk (edge_there G x h) is in
      let d = edge-of k lk in
      let r : edge_rank G f (crossing_edge G x) ≡ k = ap (edge_rank G f) (sym q) ∙ rank_is f k lf lk in
      let T = flat_laws (count_of_side G f 0) (count_of_side G f 1) (count_of_side G f 2) in
      elim (T.cases k (crossing_index G x) (omega (arith, index_there G x h, count-in G f d, ap (count_of G.counts) q))) [
        | inl j ↦
            let b = (T.there k (crossing_index G x) j.0 j.1 j.2).1 in
            let d' = edge_with _ _ _ j.0 j.1 b in
            let m = answer_is f x j.0 j.1 (rw r j.2) in
            let n = number_there G (edge_number G f j.0) j.1 (numbers.listed f j.0 lf (edge_lt d')) (omega (arith, count-in G f d')) in
            absurd (omega arith)
        | inr u ↦ (k, q, u)
      ]

  one_left : (f x y : ℕ) → f < triangles_in G.triangles → x < crossings G.counts → y < crossings G.counts
      → has_edge G (crossing_edge G x) f ≡ true → has_edge G (crossing_edge G y) f ≡ true → mate G f x ≡ crossings G.counts → mate G f y ≡ crossings G.counts → x ≡ y
  one_left f x y lf hx hy tx ty nx ny =
      let (k, p, u) = left_at f x lf hx tx nx in
      let (l, q, v) = left_at f y lf hy ty ny in
      let (e, i) = (flat_laws (count_of_side G f 0) (count_of_side G f 1) (count_of_side G f 2)).single k (crossing_index G x) l (crossing_index G y) u v in
      let d : crossing_edge G x ≡ crossing_edge G y = sym p ∙ ap (edge_number G f) e ∙ q in
      sym (number_is G x hx) ∙ rw (d, i) (number_is G y hy)

  two : (x f g h : ℕ) → x < crossings G.counts → mate G f x < crossings G.counts → mate G g x < crossings G.counts → mate G h x < crossings G.counts
      → f ≢ g → f ≢ h → g ≢ h → ⊥
  two x f g h l mf mg mh =
      let a = mated f x l mf in
      let b = mated g x l mg in
      let c = mated h x l mh in
      no_third (crossing_edge G x) f g h a.within b.within c.within (mate_has a) (mate_has b) (mate_has c)

  -- the dart of a segment
  leads_by : (f x d : ℕ) → d / 2 ≡ x → x < crossings G.counts → mate G f x < crossings G.counts → d < 2 * crossings G.counts
      → walk.face (crossings G.counts) (first_triangle G) (second_triangle G) (mate G) d ≡ f → LeadsOver G f x d
  unfolding step walk.step
  leads_by f x d q h m l e =
      let r : step G d ≡ walk.land (crossings G.counts) (first_triangle G) (second_triangle G) (mate G) f (mate G f x) = rw (e, q) in
      let t = land_half (crossings G.counts) (first_triangle G) (second_triangle G) (mate G) f (mate G f x) m in
      record { dart = l; from = q; through = e; onward = rw r (omega arith); to = ap (λ d. d / 2) r ∙ t }

  leads : (f x : ℕ) → x < crossings G.counts → mate G f x < crossings G.counts → (d : ℕ) × LeadsOver G f x d
  leads f x h m =
      let M = mated f x h m in
      elim (either x h f M.within (mate_has M)) [
        | inl q ↦ (2 * x, leads_by f x (2 * x) (omega arith) h m (omega arith) (face_first (crossings G.counts) (first_triangle G) (second_triangle G) (mate G) x ∙ q))
        | inr q ↦ (2 * x + 1, leads_by f x (2 * x + 1) (omega arith) h m (omega arith) (face_second (crossings G.counts) (first_triangle G) (second_triangle G) (mate G) x ∙ q))
      ]

  step_none : (d : ℕ) → crossings G.counts ≤ mate G (walk.face (crossings G.counts) (first_triangle G) (second_triangle G) (mate G) d) (d / 2)
      → step G d ≡ 2 * crossings G.counts
  unfolding step walk.step walk.land
  step_none d m = rw (le-ltb _ (crossings G.counts) m)

  -- a step leads to another crossing, or to none
  pub step_moves : (d : ℕ) → d < 2 * crossings G.counts → step G d ≢ d
  step_moves d l q =
      let f : ℕ = walk.face (crossings G.counts) (first_triangle G) (second_triangle G) (mate G) d in
      elim (dec_lt (mate G f (d / 2)) (crossings G.counts)) [
        | yes m ↦ another f (d / 2) (omega arith) (sym (leads_by f (d / 2) d refl (omega arith) m l refl).to ∙ ap half q)
        | no m ↦ omega (arith, step_none d (omega arith))
      ]

  pub grid_darts : Darts (2 * crossings G.counts) (crossings G.counts) (step G) rev half
  unfolding step
  grid_darts = darts (crossings G.counts) (first_triangle G) (second_triangle G) (mate G) ports

pub segments_hold : SegmentsHold
segments_hold G A = record {
  back = λ f x h m. mate_back G A h (mated G A f x h m);
  another = another G A;
  one_left = one_left G A;
  two = two G A;
  leads = leads G A;
  chains = chain_laws (crossings G.counts) (step G) (grid_darts G A);
}

-- The tables of ports and first crossings, and the table of the step made from them.
use Prim.Native.Nat.{ℕ, suc, ◌+◌, ◌*◌, ◌/◌, ◌%◌, ◌≤◌, ◌<◌}
use mathlib.Core.Path.{◌≡◌, refl, sym, ap, ◌∙◌}
use mathlib.Core.Logic.{◌≢◌}
use mathlib.Core.List.{List}
use native.Mathlib.Omega.{arith}
use lib.ListN.{get_or, length, replicate, set}
use lib.Seq.{sets}
use borrow.Author.Tests.{eq-eqb, ne_eqb}
use Rattle.counting.specs.Lists.{pre, over, values}
use Rattle.counting.specs.Stored.{filled}
use Rattle.counting.proofs.Tables.{filled_table, zeros}
use Rattle.counting.proofs.Pack.{col_pack, pre_le, pre_next, row_pack}
use Rattle.counting.proofs.Stored.{filled_block, filled_none, sets_more}
use Rattle.grid.specs.Grid.{count_of, crossing, crossings, start}
use Rattle.counting.specs.work.Tables.{Table}
use Rattle.grid.proofs.Crossings.{start_zero}
use Rattle.flat.specs.work.Work.{most_sides, Porting, Sides, Tabled, count_at_place, dart_step, first_port, land_at, port_at, port_step}
use Rattle.flat.proofs.Places.{port_first, port_le}

module _ (counts sides : List ℕ) (n : ℕ) where
  -- THE DARTS OF AN EDGE

  module _ (e t : ℕ) (le : e < length counts) (lt : t < count_of counts e) where
    dart_first : dart_step counts sides n (2 * start counts e + 2 * t) ≡ port_step counts sides n (port_at sides n (2 * e)) t
    unfolding dart_step start
    dart_first =
        let a : (2 * pre (count_of counts) e + 2 * t) / 2 ≡ pre (count_of counts) e + t = omega arith in
        let b : (2 * pre (count_of counts) e + 2 * t) % 2 ≡ 0 = omega arith in
        let z : 2 * e + 0 ≡ 2 * e = omega arith in
        rw (a, b, row_pack (count_of counts) (length counts) e t le lt, col_pack (count_of counts) (length counts) e t le lt, z)

    dart_second : dart_step counts sides n (2 * start counts e + (2 * t + 1)) ≡ port_step counts sides n (port_at sides n (2 * e + 1)) t
    unfolding dart_step start
    dart_second =
        let a : (2 * pre (count_of counts) e + (2 * t + 1)) / 2 ≡ pre (count_of counts) e + t = omega arith in
        let b : (2 * pre (count_of counts) e + (2 * t + 1)) % 2 ≡ 1 = omega arith in
        rw (a, b, row_pack (count_of counts) (length counts) e t le lt, col_pack (count_of counts) (length counts) e t le lt)

    -- a turn of the loop of `put_edge`
    pub edge_more : (was next : List ℕ) (a v w : ℕ)
        → next ≡ sets was (2 * start counts e) (values (λ i. dart_step counts sides n (2 * start counts e + i)) (2 * t)) → a ≡ 2 * start counts e
        → v ≡ port_step counts sides n (port_at sides n (2 * e)) t → w ≡ port_step counts sides n (port_at sides n (2 * e + 1)) t
        → set (set next (a + 2 * t) v) (a + 2 * t + 1) w
        ≡ sets was (2 * start counts e) (values (λ i. dart_step counts sides n (2 * start counts e + i)) (2 * (t + 1)))
    edge_more was next a v w q qa qv qw =
        let f : ℕ → ℕ = λ i. dart_step counts sides n (2 * start counts e + i) in
        let z : 2 * t + 1 + 1 ≡ 2 * (t + 1) = omega arith in
        let one = sets_more f (2 * start counts e) (2 * t) was next (a + 2 * t) v q (omega arith) (qv ∙ sym dart_first) in
        sets_more f (2 * start counts e) (2 * t + 1) was (set next (a + 2 * t) v) (a + 2 * t + 1) w one (omega arith) (qw ∙ sym dart_second)
        ∙ ap (λ (k : ℕ). sets was (2 * start counts e) (values f k)) z

  pub edge_none : (e : ℕ) (next : List ℕ) → next ≡ sets next (2 * start counts e) (values (λ i. dart_step counts sides n (2 * start counts e + i)) (2 * 0))
  unfolding over
  edge_none e next = refl

  -- no edge yet, and one more edge
  pub all_none : (next : List ℕ) → next ≡ filled (dart_step counts sides n) (2 * start counts 0) next
  all_none next =
      let z : 0 ≡ 2 * start counts 0 = omega (arith, start_zero counts) in
      filled_none (dart_step counts sides n) next ∙ ap (λ (k : ℕ). filled (dart_step counts sides n) k next) z

  pub all_more : (e : ℕ) (was next next' : List ℕ) → next ≡ filled (dart_step counts sides n) (2 * start counts e) was
      → next' ≡ sets next (2 * start counts e) (values (λ i. dart_step counts sides n (2 * start counts e + i)) (2 * count_of counts e))
      → next' ≡ filled (dart_step counts sides n) (2 * start counts (e + 1)) was
  unfolding start
  all_more e was next next' q r =
      let z : 2 * pre (count_of counts) e + 2 * count_of counts e ≡ 2 * pre (count_of counts) (e + 1) =
      omega (arith, pre_next (count_of counts) 0 e, ap (pre (count_of counts)) (suc_is e)) in
      r ∙ filled_block (dart_step counts sides n) (2 * pre (count_of counts) e) (2 * count_of counts e) was next q
      ∙ ap (λ (k : ℕ). filled (dart_step counts sides n) k was) z
    where
      suc_is : (e : ℕ) → suc e ≡ e + 1
      suc_is e = omega arith

  pub all_skip : (e : ℕ) (was next : List ℕ) → next ≡ filled (dart_step counts sides n) (2 * start counts e) was → count_of counts e ≡ 0
      → next ≡ filled (dart_step counts sides n) (2 * start counts (e + 1)) was
  all_skip e was next q z = all_more e was next next q (rw z (edge_none e next))

  pub start_within : (e : ℕ) → e < length counts → start counts e + count_of counts e ≤ crossings counts
  unfolding start
  start_within e l = pre_le (count_of counts) 0 e (length counts) l

module _ {counts sides : List ℕ} {n : ℕ} {ports starts : List ℕ} (T : Tabled counts sides n ports starts) where
  -- the ports and the first crossing of an edge
  module _ (e : ℕ) (le : e < length counts) where
    pub start_at : get_or starts e 0 ≡ start counts e
    start_at = T.started.at e le

    pub first_at : get_or ports (2 * e) 0 ≡ port_at sides n (2 * e)
    first_at = T.ported.at (2 * e) (omega arith)

    pub second_at : get_or ports (2 * e + 1) 0 ≡ port_at sides n (2 * e + 1)
    second_at = T.ported.at (2 * e + 1) (omega arith)

    pub first_within : get_or ports (2 * e) 0 ≤ n
    first_within = rw first_at (port_le sides n (2 * e))

    pub second_within : get_or ports (2 * e + 1) 0 ≤ n
    second_within = rw second_at (port_le sides n (2 * e + 1))

    -- within the darts
    pub edge_within : 2 * get_or starts e 0 + 2 * count_of counts e ≤ 131070
    edge_within = omega (arith, start_at, start_within counts sides n e le, T.places.few_crossings)

    pub edge_darts : 2 * get_or starts e 0 + 2 * count_of counts e ≤ 2 * crossings counts
    edge_darts = omega (arith, start_at, start_within counts sides n e le)

  -- LANDING
  module _ (j t : ℕ) (lj : j < n) (lt : t ≤ count_at_place counts sides j) where
    pub land_edge : get_or sides j 0 < length counts
    land_edge = T.places.listed j lj

    pub land_number : get_or starts (get_or sides j 0) 0 + t ≤ crossings counts
    land_number = omega (arith, start_at (get_or sides j 0) land_edge, start_within counts sides n (get_or sides j 0) land_edge)

    module _ (y q : ℕ) (qy : y ≡ get_or starts (get_or sides j 0) 0 + t) (qq : q ≡ get_or ports (2 * get_or sides j 0) 0) where
      number_is : y ≡ crossing counts (get_or sides j 0) t
      number_is = qy ∙ ap (λ s. s + t) (T.started.at (get_or sides j 0) land_edge)

      port_is : q ≡ first_port sides n (get_or sides j 0)
      port_is = qq ∙ T.ported.at (2 * get_or sides j 0) (omega (arith, land_edge)) ∙ port_first sides n (get_or sides j 0)

      pub land_own : q ≡ j + 1 → 2 * y + 1 ≡ land_at counts sides n j t
      unfolding land_at
      land_own h = rw (eq-eqb (first_port sides n (get_or sides j 0)) (j + 1) (sym port_is ∙ h)) (omega (arith, number_is))

      pub land_other : q ≢ j + 1 → 2 * y ≡ land_at counts sides n j t
      unfolding land_at
      land_other h = rw (ne_eqb (first_port sides n (get_or sides j 0)) (j + 1) (λ z. h (port_is ∙ z))) (omega (arith, number_is))

  -- the places of a triangle
  pub place_in : (j k : ℕ) → j < n → k < 3 → 3 * (j / 3) + k < n
  place_in j k lj l = omega (arith, T.places.thirds)

  pub count_few : (j : ℕ) → j < n → count_at_place counts sides j < 65536
  count_few j lj = omega (arith, start_within counts sides n (get_or sides j 0) (T.places.listed j lj), T.places.few_crossings)

  -- what `count_at` asks
  pub place_read : (j : ℕ) → j < n → (j < length sides) × (get_or sides j 0 < length counts)
  place_read j lj = (omega (arith, T.places.room), T.places.listed j lj)

-- THE TABLES FROM NOTHING
module _ {counts sides : List ℕ} {n : ℕ} (S : Sides counts sides n) where
  pub porting : (ports : List ℕ) → ports ≡ replicate (2 * most_sides) 0 → length ports ≡ 2 * most_sides → Porting sides n ports
  porting ports q l = record {
    few = S.few;
    room = S.room;
    within = λ j h. omega (arith, S.listed j h, S.few_edges);
    small = omega arith;
    blank = λ i. ap (λ (m : List ℕ). get_or m i 0) q ∙ zeros (2 * most_sides) i;
  }

  pub tabled : (ports₀ ports starts₀ starts : List ℕ) → length ports₀ ≡ 2 * most_sides → Table (port_at sides n) (length ports₀) ports
      → starts ≡ filled (start counts) (length counts) starts₀ → length starts₀ ≡ most_sides → Tabled counts sides n ports starts
  tabled ports₀ ports starts₀ starts lp P q ls = record {
    places = S;
    ported = record { room = omega (arith, P.room, S.few_edges); at = λ i h. P.at i (omega (arith, S.few_edges)) };
    started = filled_table (start counts) (length counts) starts₀ starts q (omega (arith, S.few_edges));
  }

-- The nodes of the cells, and the ends of an accepted grid's edges among them.
use Prim.Native.Nat.{ℕ, suc, ◌*◌, ◌/◌, ◌%◌, ◌+◌, ◌≤◌, ◌<◌}
use mathlib.Core.Path.{◌≡◌, refl, sym, ap, ◌∙◌, subst}
use mathlib.Core.Bool.{Bool, true, false}
use mathlib.Core.List.{List}
use native.Mathlib.Omega.{arith}
use lib.Dec.{eqb}
use lib.ListN.{length, get_or, set, replicate, length-set, length-replicate, get_or-replicate}
use lib.Seq.{get_or-set_same, get_or-set_other}
use borrow.Author.Tests.{eq-eqb, eqb-true, eqb-false}
use Rattle.counting.specs.Pick.{pick}
use Rattle.counting.specs.Search.{some}
use Rattle.counting.proofs.Search.{some_found, some_is, some_blocks, some_zero, some_hit, some_miss}
use Rattle.slots.specs.Slots.{lo, hi}
use Rattle.slots.proofs.Slots.{two_slots}
use Rattle.grid.specs.Grid.{Grid, cell_count, node, has_node, low, high}
use Rattle.slots.specs.Limits.{highest_node}
use Rattle.grid.specs.claims.Accepted.{Sound}

module _ (cells : List ℕ) where
  pub node_of : (c i v : ℕ) → c < cell_count cells → i < 4 → node cells c i ≡ v → has_node cells v ≡ true
  unfolding has_node
  node_of c i v h l e =
      some_found (λ d. some (λ k. eqb (node cells d k) v) 4) (cell_count cells) c h
      (some_found (λ k. eqb (node cells c k) v) 4 i l (eq-eqb (node cells c i) v e))

  -- and where it stands
  pub record NodeAt (v : ℕ) : Type 0 where
    pub cell : ℕ
    pub place : ℕ
    pub cell_lt : cell < cell_count cells
    pub place_lt : place < 4
    pub is : node cells cell place ≡ v

  pub node_at : (v : ℕ) → has_node cells v ≡ true → NodeAt v
  unfolding has_node
  node_at v e =
      let c = some_is (λ d. some (λ i. eqb (node cells d i) v) 4) (cell_count cells) e in
      let i = some_is (λ i. eqb (node cells c.0 i) v) 4 c.2 in
      record { cell = c.0; place = i.0; cell_lt = c.1; place_lt = i.1; is = eqb-true (node cells c.0 i.0) v i.2 }

  -- the numbers of the list in turn
  pub in_cells : (v : ℕ) → length cells ≡ 4 * cell_count cells → has_node cells v ≡ some (λ j. eqb (get_or cells j 0) v) (length cells)
  unfolding has_node
  in_cells v f = sym (ap (some (λ j. eqb (get_or cells j 0) v)) f ∙ some_blocks (λ j. eqb (get_or cells j 0) v) 4 (cell_count cells))

-- A table of the nodes, made by going over the cells' numbers: g x at each node x among the first j of them, and d elsewhere.
pub record Noted (cells : List ℕ) (g : ℕ → ℕ) (d j : ℕ) (table : List ℕ) : Type 0 where
  pub long : length table ≡ suc highest_node
  pub at : (x : ℕ) → x ≤ highest_node → get_or table x 0 ≡ pick (some (λ i. eqb (get_or cells i 0) x) j) (g x) d

module _ (cells : List ℕ) (g : ℕ → ℕ) (d : ℕ) (table : List ℕ) where
  pub noted_none : table ≡ replicate (suc highest_node) d → Noted cells g d 0 table
  noted_none e = record {
    long = ap length e ∙ length-replicate {A = ℕ} (suc highest_node) d;
    at = λ x h. ap (λ (l : List ℕ). get_or l x 0) e ∙ get_or-replicate {A = ℕ} (suc highest_node) x d 0 (omega arith)
        ∙ ap (λ b. pick b (g x) d) (sym (some_zero (λ i. eqb (get_or cells i 0) x)));
  }

  module _ (j v : ℕ) (N : Noted cells g d j table) (e : v ≡ get_or cells j 0) (h : v ≤ highest_node) where
    noted_at : (x : ℕ) → x ≤ highest_node → (b : Bool) → eqb (get_or cells j 0) x ≡ b
        → get_or (set table v (g v)) x 0 ≡ pick (some (λ i. eqb (get_or cells i 0) x) (j + 1)) (g x) d
    noted_at x l true q =
        let z : x ≡ v = omega (arith, eqb-true (get_or cells j 0) x q) in
        ap (λ k. get_or (set table v (g v)) k 0) z
        ∙ get_or-set_same table v (g v) 0 (omega (arith, N.long))
        ∙ ap g (sym z)
        ∙ ap (λ b. pick b (g x) d) (sym (some_hit (λ i. eqb (get_or cells i 0) x) j q))
    noted_at x l false q =
        get_or-set_other table v x (g v) 0 (λ z. eqb-false (get_or cells j 0) x q (omega arith))
        ∙ N.at x l
        ∙ ap (λ b. pick b (g x) d) (sym (some_miss (λ i. eqb (get_or cells i 0) x) j q))

    pub noted_more : (w : ℕ) → w ≡ g v → Noted cells g d (j + 1) (set table v w)
    noted_more w q = rw q (record { long = length-set table v (g v) ∙ N.long; at = λ x l. noted_at x l (eqb (get_or cells j 0) x) refl })

  -- all of them
  pub noted_all : length cells ≡ 4 * cell_count cells → (j : ℕ) → j ≡ length cells → Noted cells g d j table
      → (x : ℕ) → x ≤ highest_node → get_or table x 0 ≡ pick (has_node cells x) (g x) d
  noted_all f j e N x h =
      N.at x h ∙ ap (λ k. pick (some (λ i. eqb (get_or cells i 0) x) k) (g x) d) e ∙ ap (λ b. pick b (g x) d) (sym (in_cells cells x f))

module _ (G : Grid) (S : Sound G) where
  -- each number of the cell list is within the limit
  pub numbers_small : (j : ℕ) → j < length G.cells → get_or G.cells j 0 ≤ highest_node
  numbers_small j h =
      let e : 4 * (j / 4) + j % 4 ≡ j = omega arith in
      subst (λ k. get_or G.cells k 0 ≤ highest_node) e (S.within (j / 4) (j % 4) (omega (arith, S.fours)) (omega arith))

  -- the ends of a listed edge are nodes of some cell
  module _ (e : ℕ) (h : e < length G.counts) where
    pub low_has : has_node G.cells (low G.edges e) ≡ true
    low_has =
        let u = S.used e h in
        node_of G.cells u.0 (lo u.1) (low G.edges e) u.2
        (omega (arith, (two_slots u.1 u.3).rising, (two_slots u.1 u.3).within)) (sym u.4.low_is)

    pub high_has : has_node G.cells (high G.edges e) ≡ true
    high_has = let u = S.used e h in node_of G.cells u.0 (hi u.1) (high G.edges e) u.2 (two_slots u.1 u.3).within (sym u.4.high_is)

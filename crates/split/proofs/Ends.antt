-- The ends of edges, the edges of slots and the counts of the new edges, case by case as code finds them.
use Prim.Native.Nat.{ℕ, ◌+◌, ◌-◌, ◌*◌, ◌<◌, min, max}
use mathlib.Core.Path.{◌≡◌, refl, sym, ap, ◌∙◌}
use mathlib.Core.Logic.{◌≢◌}
use native.Mathlib.Omega.{arith}
use lib.Dec.{eqb}
use borrow.Author.Tests.{eq-eqb, ne_eqb}
use Rattle.counting.specs.Pick.{pick}
use Rattle.counting.specs.Lists.{total, seek, pre}
use Rattle.counting.specs.Search.{first}
use Rattle.counting.proofs.Below.{below_three, below_four}
use Rattle.slots.specs.Slots.{lo, hi, position, lower, upper, edge_between, slot_edge}
use Rattle.cell.specs.Nodes.{joining}
use Rattle.split.specs.work.Working.{spoke_by}

-- the position at a rank that is told to be k, of three
pub at_rank : (p : ℕ) {r w l k : ℕ} → r ≡ position p (min w 2) → w ≡ l → (l ≡ k) × (l < 3) → r ≡ position p k
at_rank p e w l = e ∙ ap (position p) (omega arith)

-- the edge that joins two positions, by the lower and the higher of them
abbrev by_ends : ℕ → ℕ → ℕ
by_ends x y = pick (eqb x 0) (y - 1) (pick (eqb x 1) (y + 1) 5)

joined : (a : ℕ) → a < 4 → (b : ℕ) → b < 4 → a ≢ b → joining a b ≡ by_ends (min a b) (max a b)
unfolding joining edge_between first seek lo hi
joined =
    below_four (λ a. (b : ℕ) → b < 4 → a ≢ b → joining a b ≡ by_ends (min a b) (max a b))
    (below_four (λ b. 0 ≢ b → joining 0 b ≡ by_ends (min 0 b) (max 0 b)) (λ n. absurd (n refl)) (λ n. refl) (λ n. refl) (λ n. refl))
    (below_four (λ b. 1 ≢ b → joining 1 b ≡ by_ends (min 1 b) (max 1 b)) (λ n. refl) (λ n. absurd (n refl)) (λ n. refl) (λ n. refl))
    (below_four (λ b. 2 ≢ b → joining 2 b ≡ by_ends (min 2 b) (max 2 b)) (λ n. refl) (λ n. refl) (λ n. absurd (n refl)) (λ n. refl))
    (below_four (λ b. 3 ≢ b → joining 3 b ≡ by_ends (min 3 b) (max 3 b)) (λ n. refl) (λ n. refl) (λ n. refl) (λ n. absurd (n refl)))

module _ {a b x y : ℕ} (la : a < 4) (lb : b < 4) (ne : a ≢ b) (ex : x ≡ min a b) (ey : y ≡ max a b) where
  is : joining a b ≡ by_ends x y
  is = joined a la b lb ne ∙ rw (ex, ey) refl

  pub joined_first : x ≡ 0 → (y - 1 ≡ joining a b) × (y - 1 < 6)
  joined_first z = (sym (is ∙ rw (eq-eqb x 0 z) refl), omega arith)

  pub joined_then : x ≢ 0 → x ≡ 1 → (y + 1 ≡ joining a b) × (y + 1 < 6)
  joined_then n z = (sym (is ∙ rw (ne_eqb x 0 n, eq-eqb x 1 z) refl), omega arith)

  pub joined_last : x ≢ 0 → x ≢ 1 → (5 ≡ joining a b) × (5 < 6)
  joined_last n m = (sym (is ∙ rw (ne_eqb x 0 n, ne_eqb x 1 m) refl), omega arith)

-- the edges of a slot join its positions, which differ
pub slot_joins : (p j : ℕ) → p < 4 → j < 3 → joining (position p (lower j)) (position p (upper j)) ≡ slot_edge p j
unfolding joining slot_edge edge_between first seek lo hi position lower upper
slot_joins p j lp lj =
    below_four (λ p. (j : ℕ) → j < 3 → joining (position p (lower j)) (position p (upper j)) ≡ slot_edge p j)
    (below_three (λ j. joining (position 0 (lower j)) (position 0 (upper j)) ≡ slot_edge 0 j) refl refl refl)
    (below_three (λ j. joining (position 1 (lower j)) (position 1 (upper j)) ≡ slot_edge 1 j) refl refl refl)
    (below_three (λ j. joining (position 2 (lower j)) (position 2 (upper j)) ≡ slot_edge 2 j) refl refl refl)
    (below_three (λ j. joining (position 3 (lower j)) (position 3 (upper j)) ≡ slot_edge 3 j) refl refl refl)
    p lp j lj

pub slot_differs : (p j : ℕ) → p < 4 → j < 3 → position p (lower j) < position p (upper j)
unfolding position lower upper
slot_differs p j lp lj =
    below_four (λ p. (j : ℕ) → j < 3 → position p (lower j) < position p (upper j))
    (below_three (λ j. position 0 (lower j) < position 0 (upper j)) (omega arith) (omega arith) (omega arith))
    (below_three (λ j. position 1 (lower j) < position 1 (upper j)) (omega arith) (omega arith) (omega arith))
    (below_three (λ j. position 2 (lower j) < position 2 (upper j)) (omega arith) (omega arith) (omega arith))
    (below_three (λ j. position 3 (lower j) < position 3 (upper j)) (omega arith) (omega arith) (omega arith))
    p lp j lj

-- the counts of the new edges, and their sums
module _ (x y l : ℕ) where
  pub spoke_at : (n : ℕ) → l ≡ n → spoke_by x y n ≡ spoke_by x y l
  spoke_at n e = rw e refl

  pub before_at : (n : ℕ) → l ≡ n → pre (spoke_by x y) n ≡ pre (spoke_by x y) l
  before_at n e = rw e refl

pub spokes_are : (x y : ℕ) → (2 * y ≡ spoke_by x y 0) × (x ≡ spoke_by x y 1) × (y ≡ spoke_by x y 2) × (x - y ≡ spoke_by x y 3)
unfolding spoke_by
spokes_are x y = (refl, refl, refl, refl)

pub befores_are : (x y : ℕ) → (0 ≡ pre (spoke_by x y) 0) × (2 * y ≡ pre (spoke_by x y) 1) × (2 * y + x ≡ pre (spoke_by x y) 2) × (3 * y + x ≡ pre (spoke_by x y) 3)
unfolding pre total spoke_by
befores_are x y = (refl, omega arith, omega arith, omega arith)

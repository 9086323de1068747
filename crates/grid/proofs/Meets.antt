-- The place where a number was met last, by a table.
use Prim.Native.Nat.{ℕ, suc, ◌%◌, ◌*◌, ◌+◌, ◌/◌, ◌<◌}
use mathlib.Core.Path.{◌∙◌, ◌≡◌, ap, refl}
use mathlib.Core.List.{List}
use native.Mathlib.Numerals.{add-one}
use native.Mathlib.Omega.{arith}
use lib.ListN.{get_or, length, length-set, set}
use Rattle.counting.specs.Search.{last}
use Rattle.grid.specs.work.Seen.{Seen}
use Rattle.slots.specs.Limits.{highest_node}
use Rattle.grid.specs.work.Walks.{Fresh, Numerable, entry, labelled}
use Rattle.grid.proofs.Seen.{seen_more, seen_none}
use Rattle.grid.specs.work.Work.{RisingCells}
use Rattle.counting.specs.work.Tables.{same_key}

-- the loops of `row_4` and `pair` have met the first j numbers
pub record Meets (f : ℕ → ℕ) (long : ℕ) (seen : List ℕ) (j : ℕ) : Type 0 where
  pub room : length seen ≡ long
  pub is : Seen f j seen

pub meets_none : (f : ℕ → ℕ) (seen : List ℕ) → ((k : ℕ) → get_or seen k 0 ≡ 0) → Meets f (length seen) seen 0
meets_none f seen z = record { room = refl; is = seen_none f seen z }

module _ {f : ℕ → ℕ} {long : ℕ} {seen : List ℕ} {j : ℕ} (w : Meets f long seen j) (key : ℕ) (e : key ≡ f j) (lt : key < long) where
  pub meets_last : (r : ℕ) → r ≡ get_or seen key 0 → r ≡ last (labelled f (f j)) j
  meets_last r q = q ∙ w.is.at key (omega (arith, w.room)) ∙ ap (λ k. last (labelled f k) j) e

  pub meets_more : (seen' : List ℕ) → seen' ≡ set seen key (j + 1) → Meets f long seen' (j + 1)
  meets_more seen' q = rw q (record { room = length-set seen key (j + 1) ∙ w.room; is = seen_more f w.is key e (omega (arith, w.room)) })

-- as places of a key
module _ (keys : List ℕ) {long : ℕ} {seen : List ℕ} {j : ℕ} (w : Meets (entry keys) long seen j) (lt : get_or keys j 0 < long) where
  pub meets_no_place : 0 ≡ get_or seen (get_or keys j 0) 0 → 0 ≡ last (same_key keys (get_or keys j 0)) j
  unfolding labelled same_key
  meets_no_place q = meets_last w _ refl lt 0 q

  pub meets_place : (p : ℕ) → suc p ≡ get_or seen (get_or keys j 0) 0 → p + 1 ≡ last (same_key keys (get_or keys j 0)) j
  unfolding labelled same_key
  meets_place p q = meets_last w _ refl lt (p + 1) (add-one p ∙ q)

-- cells that rows 1 and 3 leave can be numbered
pub rising_numerable : {cells labels ranks faces same : List ℕ} → RisingCells cells → Fresh (4 * (length cells / 4)) labels → Fresh (highest_node + 1) ranks
    → Fresh (4 * (length cells / 4)) faces → Fresh (4 * (length cells / 4)) same → Numerable cells labels ranks faces same
rising_numerable {cells} good l r f s = record {
  few = good.few;
  nodes = λ j h. (let e : 4 * (j / 4) + j % 4 ≡ j = omega arith in let b = good.nodes (j / 4) (j % 4) (omega arith) (omega arith) in rw e at b);
  labels_new = l;
  ranks_new = r;
  faces_new = f;
  same_new = s;
}

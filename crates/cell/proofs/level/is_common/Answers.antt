use Prim.Native.Nat.{ℕ, ◌≤◌, ◌<◌}
use mathlib.Core.Path.{◌≡◌, sym}
use mathlib.Core.Bool.{Bool, true, false}
use mathlib.Core.List.{List}
use native.Mathlib.Omega.{arith}
use lib.Dec.{ltb}
use lib.ListN.{length}
use borrow.Author.Tests.{lt-ltb, le-ltb, tests}
use borrow.Author.Rules.{rules}
use Rattle.std.specs.Bool.{MatchBool}
use Rattle.std.specs.List.{AllWithin, HoldsAt}
use Rattle.std.proofs.lemmas.Iterator.{cases_from_all, YieldsList-from_slice}
use Rattle.counting.proofs.Search.{is_every, every_not}
use Rattle.cell.specs.Level.{by_edge}
use Rattle.cell.specs.Common.{digit_limit, is_common}
use Rattle.cell.proofs.level.is_common.Goals as goal

-- count k is a digit
abbrev few : List ℕ → ℕ → Bool
few l k = ltb (by_edge l k) digit_limit

decided : (l : List ℕ) (r : Bool) → length l ≡ 6 → MatchBool r (AllWithin (λ x. x < digit_limit) l 0 (length l)) ((k : ℕ) × (k < length l) × HoldsAt (λ x. digit_limit ≤ x) l k)
    → r ≡ is_common (by_edge l)
unfolding is_common
decided l true e h = sym (is_every (few l) 6 (λ i q. lt-ltb (by_edge l i) digit_limit (h i 0 (omega arith) (omega arith))))
decided l false e h = sym (every_not (few l) 6 h.0 (omega (arith, h.1)) (le-ltb (by_edge l h.0) digit_limit (h.2 0)))

pub returns : goal.returns
returns c = decided _ _ (search rules)
    (cases_from_all _ _ _ (λ x. x < digit_limit) (λ x. digit_limit ≤ x) c.all.ensures.ran (YieldsList-from_slice c.args.counts cc) (λ x q k. search (rules, tests)) (λ x q k. search (rules, tests)))

-- The library's search in a list finds what the search over its places finds.
use Rattle.std.specs.Prelude.{◌≡◌, ℕ, ◌<◌, Bool, true, false, List, length, Some, None, cond, nat_lt, position}
use Rattle.std.specs.List.{position_or_len}
use Rattle.std.proofs.Common.{refl, arith}
use Rattle.std.proofs.lemmas.List.Sums.{passes_at_first, fails_before_first}
use lib.ListN.{get_or}
use borrow.Author.Tests.{ltb-true, ltb-false}
use Rattle.counting.specs.work.Search.{found}
use Rattle.counting.proofs.Search.{found_hit, found_end}

pub position_found : {A : Type 0} (p : A → Bool) (xs : List A) (d : A) → position p xs ≡ found (λ i. p (get_or xs i d)) (length xs)
position_found p xs d = go (nat_lt m (length xs)) refl
  where
    m : ℕ
    m = position_or_len p xs

    go : (b : Bool) → nat_lt m (length xs) ≡ b → cond b (Some m) None ≡ found (λ i. p (get_or xs i d)) (length xs)
    go true e = let l : m < length xs = ltb-true m (length xs) e in found_hit _ _ m l (passes_at_first p xs d l) (λ i h. fails_before_first p xs i d h)
    go false e = found_end _ _ (λ i h. fails_before_first p xs i d (omega (arith, ltb-false m (length xs) e)))

-- Where the numbers of an entry stand in the rows of the table.
use Prim.Native.Nat.{ℕ, ◌+◌, ◌*◌, ◌/◌, ◌%◌, ◌≤◌, ◌<◌}
use mathlib.Core.Path.{◌≡◌, refl, sym, ap, ◌∙◌}
use mathlib.Core.List.{[]}
use native.Mathlib.Nat.{add-zero}
use native.Mathlib.Omega.{arith}
use lib.ListN.{get_or, length, replicate, get_or-replicate}
use lib.Dec.{leb}
use mathlib.Core.Bool.{true}
use borrow.Author.Tests.{leb-true}
use Rattle.counting.specs.Search.{every}
use Rattle.counting.proofs.Search.{every_is}
use Rattle.counting.specs.Lists.{over, values}
use Rattle.counting.proofs.Lists.{values_at}
use Rattle.counting.proofs.Fronts.{get_or_blocks}
use Rattle.cases.specs.claims.Cases.{entries}
use Rattle.cases.specs.claims.Table.{row_count, table_rows, table}

lengths : values (λ k. length (get_or table_rows k [])) row_count ≡ replicate row_count 18
unfolding table_rows over
lengths = refl

long : (k : ℕ) → k < row_count → length (get_or table_rows k []) ≡ 18
long k h = sym (values_at (λ k. length (get_or table_rows k [])) row_count k 0 h) ∙ ap (λ l. get_or l k 0) lengths ∙ get_or-replicate row_count k 18 0 h

number_at : (n i : ℕ) → n < entries → i < 2 → get_or (get_or table_rows (n / 9) []) (2 * (n % 9) + i) 0 ≡ get_or table (2 * n + i) 0
unfolding table
number_at n i l h =
    let e : 18 * (n / 9) + (2 * (n % 9) + i) ≡ 2 * n + i = omega arith in
    sym (ap (λ m. get_or table m 0) (sym e) ∙ get_or_blocks (λ k. get_or table_rows k []) 18 row_count long (n / 9) (2 * (n % 9) + i) 0 (omega arith) (omega arith))

-- its loops, and its triangles
pub loops-at : (n : ℕ) → n < entries → get_or (get_or table_rows (n / 9) []) (2 * (n % 9)) 0 ≡ get_or table (2 * n) 0
loops-at n l = rw (add-zero (2 * (n % 9)), add-zero (2 * n)) at (number_at n 0 l (omega arith))

pub triangles-at : (n : ℕ) → n < entries → get_or (get_or table_rows (n / 9) []) (2 * (n % 9) + 1) 0 ≡ get_or table (2 * n + 1) 0
triangles-at n l = number_at n 1 l (omega arith)

-- and no entry has more triangles than 8 bits say
all_few : every (λ n. leb (get_or table (2 * n + 1) 0) 255) entries ≡ true
unfolding every over table_rows table
all_few = refl

pub triangles-few : (n : ℕ) → n < entries → get_or table (2 * n + 1) 0 ≤ 255
triangles-few n l = leb-true (get_or table (2 * n + 1) 0) 255 (every_is (λ n. leb (get_or table (2 * n + 1) 0) 255) entries all_few n l)

-- The rows of the check in turn.
use Rattle.std.specs.Prelude.{Some, None}
use Prim.Native.Nat.{ℕ, ◌/◌, ◌<◌, ◌≤◌}
use mathlib.Core.Path.{◌∙◌, ◌≡◌, ap, refl, sym}
use mathlib.Core.Bool.{false}
use mathlib.Core.List.{List, [], ◌∷◌}
use native.Mathlib.Omega.{arith}
use lib.ListN.{length}
use Rattle.counting.specs.Search.{first}
use Rattle.counting.specs.work.Search.{found}
use Rattle.answer.specs.Answer.{refusal, result_of}
use Rattle.answer.specs.Rows.{answer_of, whole}
use Rattle.answer.specs.claims.Faults.{row_at}
use Rattle.answer.specs.work.Faults.{since}
use Rattle.answer.proofs.Rows.{row_clear, row_found, row_passes, row_refuses}
use Rattle.grid.specs.Grid.{crossings}
use Rattle.grid.specs.Rows.{bad_edge, too_many}
use Rattle.flat.specs.FlatGrid.{FlatGrid}
use Rattle.flat.specs.Rows.{bad_pairs, flat_answer, rows}
use Rattle.flat.specs.work.Work.{answer_from}
use Rattle.flat.proofs.Accepts.{pairs_fine}

-- row n, and row m which follows it
module _ (G : FlatGrid) (n m : ℕ) (follows : since n (rows G) ≡ row_at (since n (rows G)) 0 ∷ since m (rows G))
    (p : ℕ) (e : p ≡ first (row_at (since n (rows G)) 0).fault (row_at (since n (rows G)) 0).places) where
  pub answer_passes : (row_at (since n (rows G)) 0).places ≤ p → answer_from m G ≡ answer_from n G
  unfolding answer_from
  answer_passes l = row_passes (row_at (since n (rows G)) 0) (since m (rows G)) _ p e l ∙ ap (λ r. answer_of r (result_of (crossings G.counts ∷ []))) (sym follows)

  pub answer_refuses : p < (row_at (since n (rows G)) 0).places → refusal (row_at (since n (rows G)) 0).number p ≡ answer_from n G
  unfolding answer_from
  answer_refuses l = row_refuses (row_at (since n (rows G)) 0) (since m (rows G)) _ p e l ∙ ap (λ r. answer_of r (result_of (crossings G.counts ∷ []))) (sym follows)

-- the same where the row's lowest fault is sought
module _ (G : FlatGrid) (n m : ℕ) (follows : since n (rows G) ≡ row_at (since n (rows G)) 0 ∷ since m (rows G)) where
  pub answer_found : (p : ℕ) → Some p ≡ found (row_at (since n (rows G)) 0).fault (row_at (since n (rows G)) 0).places
      → refusal (row_at (since n (rows G)) 0).number p ≡ answer_from n G
  unfolding answer_from
  answer_found p e = row_found (row_at (since n (rows G)) 0) (since m (rows G)) _ p e ∙ ap (λ r. answer_of r (result_of (crossings G.counts ∷ []))) (sym follows)

  pub answer_clear : None ≡ found (row_at (since n (rows G)) 0).fault (row_at (since n (rows G)) 0).places → answer_from m G ≡ answer_from n G
  unfolding answer_from
  answer_clear e = row_clear (row_at (since n (rows G)) 0) (since m (rows G)) _ e ∙ ap (λ r. answer_of r (result_of (crossings G.counts ∷ []))) (sym follows)

-- the first row
pub answer_start : (G : FlatGrid) → answer_from 1 G ≡ flat_answer G
unfolding answer_from flat_answer since rows
answer_start G = refl

-- row 10, the last
pub answer_last : (G : FlatGrid) → answer_of (whole 10 (too_many G.counts) ∷ []) (result_of (crossings G.counts ∷ [])) ≡ answer_from 10 G
unfolding answer_from since rows
answer_last G = refl

-- row 6 where row 2 has no fault
pub order_is : (edges counts : List ℕ) → bad_pairs edges counts ≡ false → found (bad_edge edges) (length edges / 2) ≡ found (bad_edge edges) (length counts)
order_is edges counts q =
    let e : length edges / 2 ≡ length counts = omega (arith, pairs_fine edges counts q) in
    ap (found (bad_edge edges)) e

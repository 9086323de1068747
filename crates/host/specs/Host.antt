-- What the C host is told of a bundle (01, and 02's W7). It lends no lists, so of the table of refusals only rows 13 and 22 can be met.
use Rattle.std.specs.Prelude.{ℕ, cond, List, get_or}
use Rattle.bundle.specs.Bundle.{cells, edges, is_bundle, bundle_answer}

-- the number of the refusal, or 0: the first number of the bundle's answer
abbrev pub refusal_of : List ℕ → ℕ
refusal_of s = get_or (bundle_answer s) 0 0

-- the cells and the edges of a bundle, to which looks do not count; 0 for a broken one
abbrev pub bundle_cells : List ℕ → ℕ
bundle_cells s = cond (is_bundle s) (cells s) 0

abbrev pub bundle_edges : List ℕ → ℕ
bundle_edges s = cond (is_bundle s) (edges s) 0

use Rattle.std.proofs.lemmas.Result.{err_from_is_err_and}
use mathlib.Core.Path.{refl, sym, subst}
use native.Mathlib.Omega.{arith}
use lib.ListN.{length-take}
use lib.Seq.{length-take-le}
use Rattle.listing.specs.work.Listing.{Told}
use Rattle.listing.proofs.Bundles.{read_refused, few_read, read_listed, too_long}
use Rattle.listing.proofs.list_bundle.Goals as goal

pub returns-then-bytes-gt-MOST_BYTES : goal.returns-then-bytes-gt-MOST_BYTES
returns-then-bytes-gt-MOST_BYTES c = rw c.at.ensures (too_long c.args.bytes.now (omega arith), refl)

pub returns-in_err-lists : goal.returns-in_err-lists
returns-in_err-lists c = let p = err_from_is_err_and c.from_residual.result c.from_residual.ensures.1 in rw (p.1, p.2) (read_refused c.args.bytes.now c.if-bytes-gt-MOST_BYTES.false _ c.in_err-lists.ensures.answer, refl)

pub overflow_mul-n : goal.overflow_mul-n
overflow_mul-n c = omega (arith, few_read _ c.if-bytes-gt-MOST_BYTES.false _ _ c.in_ok-lists.ensures.answer)

pub overflow_mul-m : goal.overflow_mul-m
overflow_mul-m c = omega (arith, few_read _ c.if-bytes-gt-MOST_BYTES.false _ _ c.in_ok-lists.ensures.answer)

pub slice_bounds-nodes-end : goal.slice_bounds-nodes-end
slice_bounds-nodes-end c = omega (arith, few_read _ c.if-bytes-gt-MOST_BYTES.false _ _ c.in_ok-lists.ensures.answer)

pub slice_bounds-ends-end : goal.slice_bounds-ends-end
slice_bounds-ends-end c = omega (arith, few_read _ c.if-bytes-gt-MOST_BYTES.false _ _ c.in_ok-lists.ensures.answer)

pub slice_bounds-counts-end : goal.slice_bounds-counts-end
slice_bounds-counts-end c = omega (arith, few_read _ c.if-bytes-gt-MOST_BYTES.false _ _ c.in_ok-lists.ensures.answer)

pub slice_bounds-starts-end : goal.slice_bounds-starts-end
slice_bounds-starts-end c = omega (arith, few_read _ c.if-bytes-gt-MOST_BYTES.false _ _ c.in_ok-lists.ensures.answer)

pub slice_bounds-list_grid-end : goal.slice_bounds-list_grid-end
slice_bounds-list_grid-end c = sym (length-take-le _ _ (omega (arith, few_read _ c.if-bytes-gt-MOST_BYTES.false _ _ c.in_ok-lists.ensures.answer)))

pub slice_bounds-list_grid-end-2 : goal.slice_bounds-list_grid-end-2
slice_bounds-list_grid-end-2 c = sym (length-take-le _ _ (omega (arith, few_read _ c.if-bytes-gt-MOST_BYTES.false _ _ c.in_ok-lists.ensures.answer)))

pub slice_bounds-list_grid-end-3 : goal.slice_bounds-list_grid-end-3
slice_bounds-list_grid-end-3 c = sym (length-take-le _ _ (omega (arith, few_read _ c.if-bytes-gt-MOST_BYTES.false _ _ c.in_ok-lists.ensures.answer)))

pub slice_bounds-list_grid-end-4 : goal.slice_bounds-list_grid-end-4
slice_bounds-list_grid-end-4 c = sym (length-take-le _ _ (omega (arith, few_read _ c.if-bytes-gt-MOST_BYTES.false _ _ c.in_ok-lists.ensures.answer)))

pub list_grid-requires : goal.list_grid-requires
list_grid-requires c = (simp length-take (omega (arith, few_read _ c.if-bytes-gt-MOST_BYTES.false _ _ c.in_ok-lists.ensures.answer)), c.requires)

pub returns : goal.returns
returns c = let r = c.in_ok-lists.ensures in
    subst (λ t. Told t c.args.out.now c.list_grid.new.out c.list_grid.result)
    (read_listed c.args.bytes.now c.if-bytes-gt-MOST_BYTES.false _ _ r.answer _ _ _ r.nodes r.ends r.counts) c.list_grid.ensures.told

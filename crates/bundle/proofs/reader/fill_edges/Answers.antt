use Prim.Native.Nat.{ℕ, ◌+◌, ◌*◌, ◌≤◌, ◌<◌}
use mathlib.Core.Path.{◌≡◌, sym, ap, ◌∙◌}
use mathlib.Core.List.{List}
use native.Mathlib.Omega.{arith}
use lib.ListN.{length}
use Rattle.counting.specs.Lists.{over}
use Rattle.counting.proofs.Stored.{stored_none, stored_long}
use Rattle.bundle.specs.Record.{head_bytes, count_place, word, body}
use Rattle.bundle.specs.Bundle.{edge_ends, edge_section, record_start, run, edges, looks_from, ends_of, written_over, leading_words}
use Rattle.bundle.proofs.Runs.{walked, here, walked_fits, walked_on}
use Rattle.bundle.proofs.Fills.{edge_ge, ends_by, turn, count_turn, own_filled, filled_all}
use Rattle.bundle.proofs.reader.fill_edges.Goals as goal
use Rattle.bundle.proofs.reader.fill_edges.Goals.{After-loop-k, In-loop-k}

-- within the loop the next record and the room for its numbers are there
abbrev Turn : Type 0
Turn = In-loop-k

below : (c : Turn) → c.loop-k.k < run c.args.bytes.now edge_section c.args.from
unfolding edges
below c =
    let p = c.requires in
    let e = p.all ∙ ap (run c.args.bytes.now edge_section) (sym p.begin) in
    omega (arith, e, c.loop-k-test.true)

size : (c : Turn) → count_place < length (body c.args.bytes.now c.loop-k.at)
size c = edge_ge _ _ (here _ _ edge_section _ _ c.loop-k.invariant.0 (below c))

fits : (c : Turn) → c.loop-k.at + (head_bytes + length (body c.args.bytes.now c.loop-k.at)) ≤ length c.args.bytes.now
fits c = walked_fits _ _ edge_section _ _ c.loop-k.invariant.0 (below c)

space : (c : Turn) → (edge_ends * c.loop-k.k + edge_ends ≤ length c.loop-k.ends) × (c.loop-k.k < length c.loop-k.counts)
space c =
    let p = c.requires in
    let l = c.loop-k.invariant in
    (omega (arith, p.ends_room, c.loop-k-test.true, stored_long l.1), omega (arith, p.counts_room, c.loop-k-test.true, stored_long l.2))

all_done : (c : After-loop-k) → c.loop-k.k ≡ edges c.args.bytes.now
unfolding edges
all_done c =
    let p = c.requires in
    let e = p.all ∙ ap (run c.args.bytes.now edge_section) (sym p.begin) in
    omega (arith, e, p.all, c.loop-k.invariant.0.upto)

pub loop-k-init : goal.loop-k-init
unfolding over
loop-k-init c = (walked _ _ edge_section, stored_none _ _, stored_none _ _)

pub overflow_mul-k : goal.overflow_mul-k
overflow_mul-k c = omega (arith, (space (goal.at.overflow_mul-k c).In-loop-k).0)

pub fill_words-requires : goal.fill_words-requires
fill_words-requires c = let t = (goal.at.fill_words-requires c).In-loop-k in
    record { all = omega (arith, ap length c.body_at-body.ensures.contents, size t); room = omega (arith, (space t).0) }

pub count_in-requires : goal.count_in-requires
count_in-requires c = omega (arith, size (goal.at.count_in-requires c).In-loop-k, ap length c.body_at-body.ensures.contents)

pub offset_bounds-counts-k : goal.offset_bounds-counts-k
offset_bounds-counts-k c = omega (arith, (space (goal.at.offset_bounds-counts-k c).In-loop-k).1)

pub bounds-counts-k : goal.bounds-counts-k
bounds-counts-k c = omega (arith, (space (goal.at.bounds-counts-k c).In-loop-k).1)

pub overflow_add-at : goal.overflow_add-at
overflow_add-at c = omega (arith, fits (goal.at.overflow_add-at c).In-loop-k, ap length c.body_at-body.ensures.contents)

pub overflow_add-at-in-loop-k : goal.overflow_add-at-in-loop-k
overflow_add-at-in-loop-k c = omega (arith, fits (goal.at.overflow_add-at-in-loop-k c).In-loop-k, ap length c.body_at-body.ensures.contents)

pub loop-k-preserved : goal.loop-k-preserved
loop-k-preserved c = let t = (goal.at.loop-k-preserved c).In-loop-k in
    let l = c.loop-k in
    let e = c.body_at-body.ensures.contents in
    let n : edge_ends * (l.k + 1) ≡ edge_ends * l.k + edge_ends = omega arith in (
      rw e (walked_on _ _ edge_section _ _ l.invariant.0 (below t)),
      rw n (turn _ _ _ _ l.invariant.0.reached (leading_words edge_ends) l.invariant.1 (rw e at c.fill_words.ensures)),
      count_turn _ _ _ _ l.invariant.0.reached _ (c.count_in.ensures ∙ ap (λ (b : List ℕ). word b count_place) e) l.invariant.2,
    )

pub shape_of-ends : goal.shape_of-ends
shape_of-ends c = stored_long c.loop-k.invariant.1

pub shape_of-counts : goal.shape_of-counts
shape_of-counts c = stored_long c.loop-k.invariant.2

pub returns : goal.returns
unfolding looks_from ends_of
returns c = let l = c.loop-k in
    let a = c.args in
    let p = c.requires in
    let s = a.bytes.now in
    let e : l.k ≡ edges s = all_done (goal.at.returns c).After-loop-k in
    record { value = l.invariant.0.reached ∙ ap (record_start s a.from) e ∙ ap (λ n. record_start s n (edges s)) p.begin; ends_after = filled_all (ends_by s a.from) l.k (edges s) l.invariant.1 e (omega (arith, e, p.all, p.ends_room)) ∙ ap (λ n. written_over (over (ends_by s n) (edges s) 0) a.ends.now) p.begin; counts_after = own_filled s a.from l.k p.begin e l.invariant.2 }

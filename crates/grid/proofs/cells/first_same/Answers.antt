use Prim.Native.Nat.{ℕ, ◌*◌, ◌<◌}
use mathlib.Core.Path.{◌∙◌, ◌≡◌, refl, sym}
use native.Mathlib.Omega.{arith}
use lib.ListN.{get_or, length}
use borrow.Author.Count.{below_more, below_none}
use Rattle.std.proofs.Common.{None, Option, Some, is_some, ltb, lt-ltb, suc}
use Rattle.counting.proofs.Search.{found_end, found_hit}
use Rattle.trees.specs.work.Trees.{link_to}
use Rattle.grid.proofs.Meets.{meets_last, meets_more, meets_none}
use Rattle.grid.proofs.Packed.{repeats_last}
use Rattle.grid.proofs.cells.first_same.Goals as goal

linked_some : (place : Option ℕ) → ltb 0 (link_to place) ≡ is_some place
linked_some None = refl
linked_some (Some i) = lt-ltb 0 (suc i) (omega arith)

pub loop-c-init : goal.loop-c-init
loop-c-init c = (below_none _, meets_none _ _ c.requires.fresh.blank)

pub returns-then-is_some : goal.returns-then-is_some
returns-then-is_some c = let L = c.loop-c in
    let w = L.invariant in
    let p = c.requires in
    let kl : get_or c.args.same.now (4 * L.c) 0 < length c.args.seen.now = omega (arith, p.cells.few (4 * L.c), p.fresh.room) in
    let r = meets_last w.1 (get_or c.args.same.now (4 * L.c) 0) refl kl _ c.earlier.ensures.value in
    let t = repeats_last _ _ _ p.cells L.c (omega arith) in
    found_hit _ _ _ (omega arith) (t ∙ rw (← r) (linked_some c.earlier.result ∙ sym c.if-is_some.ensures)) w.0

pub loop-c-preserved : goal.loop-c-preserved
loop-c-preserved c = let L = c.loop-c in
    let w = L.invariant in
    let p = c.requires in
    let kl : get_or c.args.same.now (4 * L.c) 0 < length c.args.seen.now = omega (arith, p.cells.few (4 * L.c), p.fresh.room) in
    let r = meets_last w.1 (get_or c.args.same.now (4 * L.c) 0) refl kl _ c.earlier.ensures.value in
    let t = repeats_last _ _ _ p.cells L.c (omega arith) in
    (below_more _ _ w.0 (t ∙ rw (← r) (linked_some c.earlier.result ∙ sym c.if-is_some.ensures)), meets_more w.1 (get_or c.args.same.now (4 * L.c) 0) refl kl _ c.earlier.ensures.seen_after)

pub returns : goal.returns
returns c = found_end _ _ (λ i h. c.loop-c.invariant.0 i (omega arith))

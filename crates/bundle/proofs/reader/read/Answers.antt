use Rattle.std.proofs.Common.{rules}
use Prim.Native.Nat.{ℕ, ◌*◌, ◌≤◌}
use mathlib.Core.Path.{◌≡◌, sym, ap, ◌∙◌}
use mathlib.Core.Bool.{true}
use mathlib.Core.List.{List, [], ◌∷◌, ◌++◌}
use native.Mathlib.Omega.{arith}
use lib.ListN.{length, drop}
use Rattle.answer.specs.Answer.{result_of}
use Rattle.answer.specs.Refusal.{refusal_numbers}
use Rattle.counting.specs.Stored.{filled}
use Rattle.counting.proofs.Stored.{filled_again, filled_front}
use Rattle.counting.proofs.Tables.{filled_table}
use Rattle.bundle.specs.Bundle.{cell_nodes, edge_ends, look_section, run, cells, edges, looks, count_after, surviving, counts_of, is_bundle, bundle_answer, written_over, contents_numbers}
use Rattle.bundle.proofs.Answers.{accepted, accepted_cells, accepted_edges, rejected, room, no_room, leaves_broken, leaves_short, leaves_lists}
use Rattle.bundle.proofs.Fills.{length_counts}
use Rattle.bundle.proofs.reader.read.Goals as goal
use Rattle.bundle.proofs.reader.read.Goals.{After-at, In_ok-lists, then-nodes-lists-via-then-nodes-lists, then-nodes-lists-via-else-nodes-lists+then-ends-lists, then-nodes-lists-via-else-nodes-lists+else-ends-lists+then-counts-lists}

-- the bytes are a bundle
abbrev Good : Type 0
Good = In_ok-lists

abbrev bytes : Good → List ℕ
bytes c = c.args.bytes.now

abbrev nodes : Good → List ℕ
nodes c = c.args.nodes.now

abbrev ends : Good → List ℕ
ends c = c.args.ends.now

abbrev counts : Good → List ℕ
counts c = c.args.counts.now

told : (c : Good) → result_of (c.in_ok-lists.lists.cells ∷ c.in_ok-lists.lists.edges ∷ []) ≡ bundle_answer (bytes c)
told c = c.in_ok-lists.ensures

good : (c : Good) → is_bundle (bytes c) ≡ true
good c = accepted (bytes c) _ _ (told c)

cells-are : (c : Good) → c.in_ok-lists.lists.cells ≡ cells (bytes c)
cells-are c = accepted_cells (bytes c) _ _ (told c)

edges-are : (c : Good) → c.in_ok-lists.lists.edges ≡ edges (bytes c)
edges-are c = accepted_edges (bytes c) _ _ (told c)

-- the counts that are left
survive : (s old : List ℕ) {mid new : List ℕ} → edges s ≤ length old → mid ≡ filled (count_after s 0) (edges s) old → new ≡ filled (count_after s (looks s)) (edges s) mid
    → new ≡ written_over (counts_of s) old
unfolding counts_of surviving
survive s old {mid} {new} r p q =
    q
    ∙ ap (filled (count_after s (looks s)) (edges s)) p
    ∙ filled_again (count_after s (looks s)) (count_after s 0) (edges s) old r
    ∙ filled_front (count_after s (looks s)) (edges s) old r
    ∙ ap (λ n. counts_of s ++ drop n old) (sym (length_counts s))

-- a list is too short
short : (c : After-at) → cell_nodes * cells c.args.bytes.now ≤ length c.args.nodes.now → edge_ends * edges c.args.bytes.now ≤ length c.args.ends.now
    → edges c.args.bytes.now ≤ length c.args.counts.now → ⊥
short c x y z =
    let g = (goal.at.returns-then-nodes-lists c).In_ok-lists in
    let m = cells-are g in
    let n = edges-are g in
    elim c.then-nodes-lists.branch [
      | then-nodes-lists-via-then-nodes-lists w ↦ omega (arith, w.if-nodes-lists.true, m)
      | then-nodes-lists-via-else-nodes-lists+then-ends-lists w ↦ omega (arith, w.if-ends-lists.true, n)
      | then-nodes-lists-via-else-nodes-lists+else-ends-lists+then-counts-lists w ↦ omega (arith, w.if-counts-lists.true, n)
    ]

pub returns-then-nodes-lists : goal.returns-then-nodes-lists
returns-then-nodes-lists c =
    let g = (goal.at.returns-then-nodes-lists c).In_ok-lists in
    let l = leaves_short (bytes g) (nodes g) (ends g) (counts g) (good g) (no_room (bytes g) _ _ _ (short c)) in
    record { answer = ap refusal_numbers c.at.ensures ∙ l.0; nodes = l.1.0; ends = l.1.1.0; counts = l.1.1.1 }

pub fill_cells-from-requires : goal.fill_cells-from-requires
fill_cells-from-requires c = let g = (goal.at.fill_cells-from-requires c).In_ok-lists in
    record { all = cells-are g; room = omega (arith, c.if-nodes-lists.false) }

pub fill_edges-base-requires : goal.fill_edges-base-requires
fill_edges-base-requires c = let g = (goal.at.fill_edges-base-requires c).In_ok-lists in
    record {
      begin = c.fill_cells-from.ensures.value;
      all = edges-are g;
      ends_room = omega (arith, c.if-ends-lists.false);
      counts_room = c.if-counts-lists.false;
    }

pub invariant_of-looked : goal.invariant_of-looked
unfolding looks
invariant_of-looked c =
    let g = (goal.at.invariant_of-looked c).In_ok-lists in
    let b = c.fill_edges-base.ensures.value in
    record {
      lent = record {
        bytes = λ i. omega (arith, c.type_inv.bytes i);
        listed = record { begin = c.fill_cells-from.ensures.value; all = edges-are g };
        begin = b;
        all = c.run_from.ensures.0 ∙ ap (run (bytes g) look_section) b;
      };
    }

pub replace-requires : goal.replace-requires
replace-requires c =
    let g = (goal.at.replace-requires c).In_ok-lists in
    filled_table _ _ _ _ c.fill_edges-base.ensures.counts_after (omega (arith, edges-are g, c.if-counts-lists.false))

pub returns-in_err-lists : goal.returns-in_err-lists
returns-in_err-lists c =
    let a = c.args in
    let t = c.in_err-lists.ensures in
    let l = leaves_broken a.bytes.now a.nodes.now a.ends.now a.counts.now (rejected a.bytes.now _ _ t) in
    let e : contents_numbers c.from_residual.result ≡ refusal_numbers c.in_err-lists.field-0.0 = search rules in
    record { answer = e ∙ t ∙ l.0; nodes = l.1.0; ends = l.1.1.0; counts = l.1.1.1 }

pub returns : goal.returns
returns c = let g = (goal.at.returns c).In_ok-lists in
    let n : cell_nodes * cells (bytes g) ≤ length (nodes g) = omega (arith, cells-are g, c.if-nodes-lists.false) in
    let m : edge_ends * edges (bytes g) ≤ length (ends g) = omega (arith, edges-are g, c.if-ends-lists.false) in
    let k : edges (bytes g) ≤ length (counts g) = omega (arith, edges-are g, c.if-counts-lists.false) in
    let l = leaves_lists (bytes g) (nodes g) (ends g) (counts g) (good g) (room (bytes g) _ _ _ n m k) in
    let e = c.fill_edges-base.ensures in
    record { answer = told g ∙ l.0; nodes = c.fill_cells-from.ensures.nodes_after ∙ l.1.0; ends = e.ends_after ∙ l.1.1.0; counts = survive (bytes g) (counts g) k e.counts_after c.replace.ensures ∙ l.1.1.1 }

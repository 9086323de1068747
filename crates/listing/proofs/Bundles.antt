-- The listing of a bundle, from what the reader answers and leaves in its lists. Assumes nothing.
use Prim.Native.Nat.{ℕ, ◌*◌, ◌≤◌, ◌<◌}
use mathlib.Core.Path.{◌≡◌, refl, sym, ap, ◌∙◌}
use mathlib.Core.Bool.{Bool, true, false}
use mathlib.Core.List.{List, [], ◌∷◌}
use native.Mathlib.Omega.{arith}
use lib.ListN.{length, take}
use borrow.Author.Tests.{lt-ltb, le-ltb}
use Rattle.answer.specs.Answer.{result_of}
use Rattle.answer.specs.Refusal.{row_number, refusal_numbers}
use Rattle.answer.specs.declared.Refusal.{Refusal}
use Rattle.counting.specs.work.Stored.{Stored}
use Rattle.counting.proofs.Stored.{stored_long, stored_front}
use Rattle.bundle.specs.work.Record.{cell_size, edge_size}
use Rattle.bundle.specs.Record.{broken_row}
use Rattle.bundle.specs.Bundle.{cell_nodes, edge_ends, bundle_answer, is_bundle, is_taken, read_answer, nodes_of, ends_of, counts_of, written_over, leaves}
use Rattle.bundle.proofs.Fills.{length_nodes, length_ends, length_counts, bundle-size}
use Rattle.bundle.proofs.Answers.{bundle-answer, accepted, accepted_cells, accepted_edges, read_taken, read_lists, left_front}
use Rattle.grid.specs.Grid.{built}
use Rattle.listing.specs.Text.{refused_line}
use Rattle.listing.specs.Listing.{most_bytes, grid_listing, bundle_listing, listing, Listed}
use Rattle.listing.specs.work.Listing.{cells_in_bundle, edges_in_bundle, room_bytes}
use Rattle.listing.proofs.Meshes.{or_result, or_refusal}

module _ (s : List ℕ) where
  -- what the reader answers that is lent lists for the most cells and edges, and whether it takes the bytes
  abbrev answered : List ℕ
  answered = read_answer s (cell_nodes * cells_in_bundle) (edge_ends * edges_in_bundle) edges_in_bundle

  abbrev taken : Bool
  taken = is_taken s (cell_nodes * cells_in_bundle) (edge_ends * edges_in_bundle) edges_in_bundle

  module _ (small : length s ≤ most_bytes) where
    -- the lists have room for any bundle
    read_is : answered ≡ bundle_answer s
    unfolding read_answer
    read_is = go (is_bundle s) refl
      where
        go : (b : Bool) → is_bundle s ≡ b → answered ≡ bundle_answer s
        go true e =
            let z = bundle-size s e in
            (read_lists s (cell_nodes * cells_in_bundle) (edge_ends * edges_in_bundle) edges_in_bundle e (omega arith) (omega arith) (omega arith)).0 ∙ sym (bundle-answer s e)
        go false e = simp e

    listing_is : listing s ≡ bundle_listing s
    unfolding listing
    listing_is = simp (le-ltb most_bytes (length s) small)

    -- what the reader refuses
    pub read_refused : (r : Refusal) → refusal_numbers r ≡ answered → refused_line (row_number r.row) r.place ≡ listing s
    unfolding bundle_listing
    read_refused r h = or_refusal r (bundle_answer s) _ (h ∙ read_is) ∙ sym listing_is

    -- what it reads
    module _ (c e : ℕ) (h : result_of (c ∷ e ∷ []) ≡ answered) where
      own : result_of (c ∷ e ∷ []) ≡ bundle_answer s
      own = h ∙ read_is

      pub few_read : (cell_size * c ≤ most_bytes) × (edge_size * e ≤ most_bytes)
      few_read =
          let z = bundle-size s (accepted s c e own) in
          (omega (arith, accepted_cells s c e own), omega (arith, accepted_edges s c e own))

      -- the front of a list that was filled
      front : (new old : List ℕ) {left : List ℕ} {n : ℕ} → length new ≡ n → left ≡ leaves taken new old → take n left ≡ new
      front new old {left} {n} l q = ap (take n) q ∙ left_front (read_taken s _ _ _ c e (sym h)) new old n l

      pub read_listed : (ns es cs : List ℕ) {nodes ends counts : List ℕ}
          → nodes ≡ leaves taken (nodes_of s) ns → ends ≡ leaves taken (ends_of s) es → counts ≡ leaves taken (counts_of s) cs
          → grid_listing (built (take (cell_nodes * c) nodes) (take (edge_ends * e) ends) (take e counts)) ≡ listing s
      unfolding bundle_listing
      read_listed ns es cs p q r =
          let x = accepted_cells s c e own in
          let y = accepted_edges s c e own in
          rw (
            front (nodes_of s) ns (length_nodes s ∙ ap (λ k. cell_nodes * k) (sym x)) p,
            front (ends_of s) es (length_ends s ∙ ap (λ k. edge_ends * k) (sym y)) q,
            front (counts_of s) cs (length_counts s ∙ sym y) r,
          )
          (or_result (c ∷ e ∷ []) (bundle_answer s) _ own ∙ sym listing_is)

  -- more bytes than are read
  pub too_long : most_bytes < length s → refused_line broken_row most_bytes ≡ listing s
  unfolding listing
  too_long h = simp (lt-ltb most_bytes (length s) h)

  -- a text stored at the front that is the listing
  pub all_listed : {text was is : List ℕ} {next : ℕ} → Stored was 0 text is next → next ≤ room_bytes → text ≡ listing s → length was ≡ room_bytes
      → Listed s was is next
  all_listed {text} {was} {is} {next} S few e l =
      record {
        area = stored_front S (omega (arith, S.after)) ∙ ap (λ (t : List ℕ). written_over t was) e;
        bytes = omega (arith, S.after, ap length e);
        within = omega (arith, stored_long S);
      }

-- The chains call, where the check refuses and where it accepts.
use Rattle.std.specs.Prelude.{Result, Ok, Err}
use Prim.Native.Nat.{ℕ, ◌*◌, ◌/◌, ◌≤◌, ◌<◌}
use mathlib.Core.Path.{◌≡◌, sym, ap, ◌∙◌, subst}
use mathlib.Core.Bool.{false, true}
use mathlib.Core.List.{List, [], ◌∷◌}
use native.Mathlib.Nat.{zero-add}
use native.Mathlib.Omega.{arith}
use lib.Dec.{leb}
use lib.ListN.{get_or, length}
use lib.Seq.{ext_get_or, sets}
use borrow.Author.Tests.{le-leb, lt-leb}
use Rattle.answer.specs.Answer.{refusal, result_of}
use Rattle.answer.specs.Refusal.{refusal_numbers}
use Rattle.answer.specs.declared.Refusal.{Refusal}
use Rattle.answer.proofs.Answer.{no_nil, pick_some}
use Rattle.answer.proofs.Numbers.{refusal_not, answer_tells}
use Rattle.counting.specs.Lists.{values}
use Rattle.counting.specs.Stored.{filled}
use Rattle.counting.proofs.Tables.{filled_table}
use Rattle.counting.proofs.Lists.{length_singles, values_at}
use Rattle.std.proofs.lemmas.List.{get_or-take, length-take-le}
use Rattle.std.proofs.Common.{take}
use Rattle.counting.proofs.Stored.{filled_ext, stored_not, stored_room}
use Rattle.counting.proofs.Stores.{get_or_sets_in}
use Rattle.grid.specs.Check.{check_numbers}
use Rattle.grid.specs.Grid.{crossings}
use Rattle.counting.specs.work.Tables.{Table}
use Rattle.grid.specs.work.Work.{WhereAccepted}
use Rattle.flat.specs.FlatGrid.{FlatGrid, triangles_in}
use Rattle.flat.specs.Rows.{accepts, flat_answer}
use Rattle.flat.specs.Accepted.{Accepted}
use Rattle.flat.specs.Answer.{chains_answer, chains_area, words_answer}
use Rattle.flat.specs.Chain.{all_chain_words}
use Rattle.flat.specs.Chains.{chains_words, step}
use Rattle.flat.specs.claims.Claims.{ChainsTold}
use Rattle.flat.specs.Done.{Done}
use Rattle.flat.specs.work.Work.{Sides, StepTable, SidesKnown, TracedIn, step_in, dart_step}
use Rattle.flat.proofs.Accepts.{acceptance_yields, accepted_answer, never_empty}
use Rattle.flat.proofs.Ports.{grid_darts, segments_hold, step_moves}
use Rattle.flat.proofs.Room.{words_room}
use Rattle.flat.proofs.Stepped.{along_step, linked, sides_are}

module _ (G : FlatGrid) where
  module _ (r : Result ℕ Refusal) (f : Refusal) (e : r ≡ Err f) (q : check_numbers r ≡ flat_answer G) where
    is_refusal : refusal_numbers f ≡ flat_answer G
    is_refusal = ap check_numbers (sym e) ∙ q

    keeps : accepts G ≡ false
    keeps = rw (← is_refusal) (refusal_not f)

    pub refused_done : (area : List ℕ) → Done G area area (refusal_numbers f)
    unfolding chains_answer chains_area
    refused_done area = record { answered = rw keeps is_refusal; area = rw keeps; segments = segments_hold }

  module _ (r : Result ℕ Refusal) (n : ℕ) (e : r ≡ Ok n) (q : check_numbers r ≡ flat_answer G) where
    is-result : flat_answer G ≡ result_of (n ∷ [])
    is-result = sym q ∙ ap check_numbers e

    pub told_accepted : Accepted G
    told_accepted = acceptance_yields G (n ∷ []) is-result

    pub told_number : n ≡ crossings G.counts
    told_number = ap (λ (l : List ℕ). get_or l 1 0) (sym is-result ∙ accepted_answer G told_accepted)

    told_accepts : accepts G ≡ true
    told_accepts = rw is-result

    pub told_sides : (sides : List ℕ) → WhereAccepted r (SidesKnown G sides) → SidesKnown G sides
    told_sides sides w = subst (λ r. WhereAccepted r (SidesKnown G sides)) e w

    pub traced_done : {before after answer : List ℕ} → TracedIn G before after answer → Done G before after answer
    unfolding chains_answer chains_area
    traced_done t = record { answered = rw told_accepts t.answered; area = rw told_accepts t.area; segments = segments_hold }

-- words that stand at the front of a list, copied
pub copied : (ws was words area : List ℕ) {after : List ℕ} {m : ℕ} → words ≡ sets was 0 ws → length ws ≤ length was → m ≡ length ws
    → after ≡ filled (λ i. get_or words i 0) m area → after ≡ sets area 0 ws
unfolding filled
copied ws was words area {m = m} e l k q =
    q ∙ ap (sets area 0) (ext_get_or 0 (values (λ i. get_or words i 0) m) ws (long ∙ k) (λ i h. values_at (λ i. get_or words i 0) m i 0 (omega (arith, long)) ∙ at i (omega (arith, long))))
  where
    long : length (values (λ i. get_or words i 0) m) ≡ m
    long = length_singles (λ i. get_or words i 0) m 0

    at : (i : ℕ) → i < m → get_or words i 0 ≡ get_or ws i 0
    at i h =
        ap (λ (w : List ℕ). get_or w i 0) e ∙ ap (λ (k : ℕ). get_or (sets was 0 ws) k 0) (sym (zero-add i))
        ∙ get_or_sets_in ws was 0 i 0 (omega arith) (omega arith)

-- the numbers of the triangles' edges, without what lies beyond them
module _ (G : FlatGrid) (sides : List ℕ) (S : SidesKnown G sides) where
  abbrev pub front : List ℕ
  front = take (3 * triangles_in G.triangles) sides

  front_long : length front ≡ 3 * triangles_in G.triangles
  front_long = length-take-le (3 * triangles_in G.triangles) sides S.room

  pub front_known : SidesKnown G front
  front_known = record { room = omega (arith, front_long); at = λ j h. get_or-take (3 * triangles_in G.triangles) sides j 0 h ∙ S.at j h }

  pub front_sides : Accepted G → Sides G.counts front (length front)
  front_sides A = subst (Sides G.counts front) (sym front_long) (sides_are G A front front_known)

  pub front_steps : (n : ℕ) (was next : List ℕ) → next ≡ filled (dart_step G.counts front (length front)) n was
      → next ≡ filled (dart_step G.counts front (3 * triangles_in G.triangles)) n was
  front_steps n was next e = e ∙ ap (λ k. filled (dart_step G.counts front k) n was) front_long

-- of a list no more than a front is copied
pub front_filled : (made area : List ℕ) (m : ℕ) → m ≤ length made → filled (λ i. get_or (take m made) i 0) (length (take m made)) area ≡ filled (λ i. get_or made i 0) m area
front_filled made area m h =
    let e : length (take m made) ≡ m = length-take-le m made h in
    ap (λ k. filled (λ i. get_or (take m made) i 0) k area) e ∙ filled_ext _ _ m area (λ i l. get_or-take m made i 0 l)

-- the room
module _ (G : FlatGrid) (before : List ℕ) (w : ℕ) (e : w ≡ length (chains_words G)) where
  pub room_short : length before < w → TracedIn G before before (refusal 24 w)
  unfolding words_answer
  room_short h = record {
    answered = rw (e, lt-leb (length (chains_words G)) (length before) (omega arith));
    area = (stored_not before 0 (chains_words G) (omega arith)).0;
  }

  pub room_fits : w ≤ length before → {after : List ℕ} → after ≡ sets before 0 (chains_words G) → TracedIn G before after (result_of (w ∷ []))
  unfolding words_answer
  room_fits h q = record {
    answered = rw (e, le-leb (length (chains_words G)) (length before) (omega arith));
    area = q ∙ sym (stored_room before 0 (chains_words G) (omega arith)).area;
  }

-- the words of an accepted flat grid, from the table of its step
module _ (G : FlatGrid) (A : Accepted G) (sides : List ℕ) (S : SidesKnown G sides) (was next : List ℕ) (n : ℕ) (k : n ≡ crossings G.counts)
    (room : 2 * n ≤ length was) (q : next ≡ filled (dart_step G.counts sides (3 * triangles_in G.triangles)) (2 * n) was) where
  filled_with : Table (dart_step G.counts sides (3 * triangles_in G.triangles)) (2 * n) next
  filled_with = filled_table _ (2 * n) was next q room

  -- what lies beyond the step's entries is left out
  abbrev pub entries : List ℕ
  entries = take (2 * n) next

  pub entries_long : length entries ≡ 2 * crossings G.counts
  entries_long = omega (arith, length-take-le (2 * n) next filled_with.room, k)

  table : Table (dart_step G.counts sides (3 * triangles_in G.triangles)) (2 * crossings G.counts) entries
  table = record {
    room = omega (arith, entries_long);
    at = λ j h. let l : j < 2 * n = omega arith in get_or-take (2 * n) next j 0 l ∙ filled_with.at j l;
  }

  crossed : length entries / 2 ≡ crossings G.counts
  crossed = omega (arith, entries_long)

  pub is_linked : StepTable (length entries / 2) entries
  is_linked = rw crossed (linked G A sides S entries table entries_long)

  pub words_are : all_chain_words (length entries / 2) (step_in (length entries / 2) entries) ≡ chains_words G
  unfolding chains_words
  words_are = rw (crossed, along_step G A sides S entries table)

  pub words_few : length (all_chain_words (length entries / 2) (step_in (length entries / 2) entries)) ≤ 2 * n
  words_few = rw (crossed, along_step G A sides S entries table, k) (words_room (crossings G.counts) (step G) (grid_darts G A) (step_moves G A))

  -- made in a list of their own, and then refused or copied
  module _ (list made : List ℕ) (m : ℕ) (fits : 2 * n ≤ length list) (e : made ≡ sets list 0 (all_chain_words (length entries / 2) (step_in (length entries / 2) entries)))
      (w : m ≡ length (all_chain_words (length entries / 2) (step_in (length entries / 2) entries))) where
    made_count : m ≡ length (chains_words G)
    made_count = w ∙ ap length words_are

    pub made_few : m ≤ 2 * n
    made_few = omega (arith, words_few)

    pub made_short : (area : List ℕ) → length area < m → TracedIn G area area (refusal 24 m)
    made_short area h = room_short G area m made_count h

    pub made_fits : (area : List ℕ) {after : List ℕ} → m ≤ length area → after ≡ filled (λ i. get_or made i 0) m area → TracedIn G area after (result_of (m ∷ []))
    made_fits area h r = room_fits G area m made_count h (copied (chains_words G) list made area (e ∙ ap (sets list 0) words_are) (omega (arith, made_few, made_count)) made_count r)

-- there is always an answer
module _ (G : FlatGrid) (room : ℕ) where
  pub chains_some : [] ≡ chains_answer G room → ⊥
  unfolding chains_answer words_answer
  chains_some =
      pick_some (accepts G) (words_answer (length (chains_words G)) room) (flat_answer G)
      (pick_some (leb (length (chains_words G)) room) (result_of (length (chains_words G) ∷ [])) (refusal 24 (length (chains_words G))) no_nil no_nil)
      (never_empty G)

-- it is read from one value alone
pub chains_told : ChainsTold
chains_told G room r s a b = answer_tells (λ n. n ∷ []) (λ x y e. cc) r s (a ∙ sym b)

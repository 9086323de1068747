-- The listing of a grid, from the answers of the check and of the mesh call. Assumes nothing.
use Prim.Native.Nat.{ℕ, ◌+◌, ◌*◌, ◌≤◌, ◌<◌}
use mathlib.Core.Path.{◌≡◌, refl, sym, ap, ap₂, ◌∙◌}
use mathlib.Core.Bool.{Bool, true, false}
use mathlib.Core.List.{List, [], ◌∷◌, ◌++◌}
use native.Mathlib.Omega.{arith}
use lib.Dec.{leb}
use lib.ListN.{length, get_or, drop, get_or-append}
use lib.Seq.{sets}
use borrow.Author.Tests.{leb-true}
use Rattle.answer.specs.Answer.{result_of, refusal}
use Rattle.answer.specs.Refusal.{row_number, refusal_numbers}
use Rattle.answer.specs.declared.Refusal.{Refusal}
use Rattle.answer.proofs.Numbers.{refusal_not}
use Rattle.counting.specs.Pick.{pick}
use Rattle.counting.specs.Lists.{over}
use Rattle.counting.proofs.Range.{over_ext}
use Rattle.counting.proofs.Fronts.{sets_front}
use Rattle.grid.specs.Grid.{Grid, grid_of, built, cell_count, crossings}
use Rattle.grid.specs.Rows.{grid_answer, accepts}
use Rattle.grid.specs.Opening.{open_answer, open_starts}
use Rattle.grid.proofs.Openings.{opens_built}
use Rattle.grid.proofs.Claims.{accepted_is}
use Rattle.grid.proofs.Filled.{refused_keeps}
use Rattle.cell.specs.declared.Triangle.{Triangle}
use Rattle.cell.specs.Words.{word_count}
use Rattle.cell.proofs.Storing.{length_all}
use Rattle.cell.proofs.Fits as writes
use Rattle.mesh.specs.Room.{room_answer}
use Rattle.mesh.specs.Mesh.{mesh_triangles, mesh_splits, mesh_words}
use Rattle.mesh.specs.Answer.{mesh_answer, mesh_area}
use Rattle.listing.specs.Text.{refused_line, head, word_text, word_at, line}
use Rattle.listing.specs.Listing.{area_triangles, or_refused, mesh_listing, grid_listing}

-- an answer that is a result, and one that is a refusal
pub or_result : (values answer rest : List ℕ) → result_of values ≡ answer → rest ≡ or_refused answer rest
unfolding or_refused
or_result values answer rest h = rw (← h)

pub or_refusal : (r : Refusal) (answer rest : List ℕ) → refusal_numbers r ≡ answer → refused_line (row_number r.row) r.place ≡ or_refused answer rest
unfolding or_refused
or_refusal r answer rest h = rw (← h) (simp (refusal_not r))

-- the words of triangles, stored at the front of an area, give the same lines
module _ (words area : List ℕ) (n : ℕ) (fits : word_count * n ≤ length words) (room : length words ≤ length area) where
  same_word : (i : ℕ) → i < length words → get_or (sets area 0 words) i 0 ≡ get_or words i 0
  same_word i h = ap (λ (l : List ℕ). get_or l i 0) (sets_front words area room) ∙ get_or-append words (drop (length words) area) 0 i h

  same_line : (t : ℕ) → t < n → line (sets area 0 words) t ≡ line words t
  unfolding line word_at
  same_line t h =
      ap (λ (l : List ℕ). (84 ∷ []) ++ l ++ (10 ∷ []))
      (over_ext (word_at (sets area 0 words) t) (word_at words t) word_count 0 (λ j a b. ap word_text (same_word (word_count * t + j) (omega arith))))

  pub same_lines : over (line (sets area 0 words)) n 0 ≡ over (line words) n 0
  same_lines = over_ext (line (sets area 0 words)) (line words) n 0 (λ t a b. same_line t (omega arith))

-- a mesh that has room
module _ (mesh : List Triangle) (splits t s : ℕ) (area : List ℕ) (h : result_of (t ∷ s ∷ []) ≡ room_answer mesh splits (length area)) where
  has-room : (t ≡ length mesh) × (word_count * length mesh ≤ length area)
  unfolding room_answer
  has-room = go (leb (word_count * length mesh) (length area)) refl h
    where
      go : (b : Bool) → leb (word_count * length mesh) (length area) ≡ b → result_of (t ∷ s ∷ []) ≡ pick b (result_of (length mesh ∷ splits ∷ [])) (refusal 12 (length mesh))
          → (t ≡ length mesh) × (word_count * length mesh ≤ length area)
      go true e q = (cc, leb-true _ _ e)
      go false e q = let z : ◌≡◌ {A = ℕ} 0 12 = cc in absurd (omega arith)

module _ (G : Grid) where
  -- what the mesh call refuses
  pub mesh_refused : (r : Refusal) → refusal_numbers r ≡ mesh_answer G (word_count * area_triangles) → refused_line (row_number r.row) r.place ≡ grid_listing G
  unfolding grid_listing
  mesh_refused r h = or_refusal r _ (mesh_listing G) h

  -- what the check refuses, the mesh call refuses
  pub check_refused : (r : Refusal) → refusal_numbers r ≡ grid_answer G → refused_line (row_number r.row) r.place ≡ grid_listing G
  unfolding grid_listing mesh_answer
  check_refused r h = or_refusal r _ (mesh_listing G) (h ∙ rw (refused_keeps G r h))

  -- an accepted grid
  module _ (x : ℕ) (h : result_of (x ∷ []) ≡ grid_answer G) where
    accepted : accepts G ≡ true
    accepted = rw (← h)

    all_crossings : x ≡ crossings G.counts
    all_crossings = let e = accepted_is G accepted in cc

    module _ (t s : ℕ) (before after : List ℕ) (room : length before ≡ word_count * area_triangles)
        (answer : result_of (t ∷ s ∷ []) ≡ mesh_answer G (length before)) (area : after ≡ mesh_area G before) where
      answered : result_of (t ∷ s ∷ []) ≡ room_answer (mesh_triangles G) (mesh_splits G) (length before)
      unfolding mesh_answer
      answered = answer ∙ simp accepted

      -- the triangles are all those of the mesh, and no more than the area holds
      all_triangles : t ≡ length (mesh_triangles G)
      all_triangles = (has-room (mesh_triangles G) (mesh_splits G) t s before answered).0

      pub few_triangles : t ≤ area_triangles
      few_triangles = omega (arith, (has-room (mesh_triangles G) (mesh_splits G) t s before answered).1, all_triangles, room)

      stored : after ≡ sets before 0 (mesh_words G)
      unfolding mesh_area mesh_words
      stored = area ∙ simp accepted (sym (writes.has-room (mesh_triangles G) before 0 (omega (arith, (has-room (mesh_triangles G) (mesh_splits G) t s before answered).1))).1)

      long : length (mesh_words G) ≡ word_count * t
      unfolding mesh_words
      long = length_all (mesh_triangles G) ∙ ap (λ k. word_count * k) (sym all_triangles)

      -- the text that is put is the listing
      pub listed : head (cell_count G.cells) (length G.counts) x t ++ over (line after) t 0 ≡ grid_listing G
      unfolding grid_listing mesh_listing
      listed =
          ap (λ (l : List ℕ). head (cell_count G.cells) (length G.counts) x t ++ over (line l) t 0) stored
          ∙ ap (λ (l : List ℕ). head (cell_count G.cells) (length G.counts) x t ++ l)
          (same_lines (mesh_words G) before t (omega (arith, long)) (omega (arith, long, few_triangles, room)))
          ∙ ap₂ (λ y k. head (cell_count G.cells) (length G.counts) y k ++ over (line (mesh_words G)) k 0) all_crossings all_triangles
          ∙ or_result (t ∷ s ∷ []) _ (mesh_listing G) (answer ∙ ap (mesh_answer G) room)

-- a grid that is opened with as many starts as it has counts is the one that is built afresh
module _ (nodes ends counts starts : List ℕ) (long : length starts ≡ length counts) where
  pub opened_answer : open_answer (grid_of nodes ends counts starts) ≡ grid_answer (built nodes ends counts)
  opened_answer = (opens_built nodes ends counts starts long).0

  module _ (x : ℕ) (after : List ℕ) (h : result_of (x ∷ []) ≡ open_answer (grid_of nodes ends counts starts)) (e : after ≡ open_starts (grid_of nodes ends counts starts)) where
    opened_grid : grid_of nodes ends counts after ≡ built nodes ends counts
    opened_grid = ap (grid_of nodes ends counts) (e ∙ (opens_built nodes ends counts starts long).1 (x ∷ []) (sym (h ∙ opened_answer)))

    pub opened_accepted : result_of (x ∷ []) ≡ grid_answer (grid_of nodes ends counts after)
    opened_accepted = h ∙ opened_answer ∙ ap grid_answer (sym opened_grid)

    pub opened_listing : grid_listing (grid_of nodes ends counts after) ≡ grid_listing (built nodes ends counts)
    opened_listing = ap grid_listing opened_grid

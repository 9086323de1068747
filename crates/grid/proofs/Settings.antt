-- Setting a count of an accepted grid, and lists of settings.
use Rattle.std.specs.Prelude.{Result, Ok, Err}
use Prim.Native.Nat.{ℕ, ◌+◌, ◌-◌, ◌<◌, ◌≤◌}
use mathlib.Core.Path.{◌∙◌, ◌≡◌, ap, ap₂, refl, sym}
use mathlib.Core.Bool.{Bool, false, true}
use mathlib.Core.List.{List, [], ◌∷◌}
use native.Mathlib.Decide.{ℕ_discrete}
use native.Mathlib.Omega.{arith}
use lib.Dec.{leb, ltb}
use lib.ListN.{get_or, length, length-set, set}
use lib.Seq.{get_or-set_other, get_or-set_same}
use borrow.Author.Tests.{le-leb, le-ltb, leb-false, lt-leb, lt-ltb, ltb-false}
use Rattle.answer.specs.Answer.{is_result, refusal, result_of}
use Rattle.answer.specs.Refusal.{refusal_numbers}
use Rattle.answer.proofs.Answer.{no_nil, pick_some}
use Rattle.answer.proofs.Numbers.{refusal_not}
use Rattle.counting.specs.Pick.{pick}
use Rattle.counting.specs.Stored.{filled}
use Rattle.counting.proofs.Bools.{clash}
use Rattle.slots.specs.Limits.{most_count, most_crossings}
use Rattle.grid.specs.claims.Accepted.{Accepted, EdgeIs, Linked, Sound}
use Rattle.grid.specs.Check.{check_numbers}
use Rattle.grid.specs.claims.Claims.{SetTold, SettingsRight, opened_afresh}
use Rattle.grid.specs.Grid.{Grid, built, count_of, crossings, grid_of, start, starts_of}
use Rattle.grid.specs.Rows.{grid_answer, too_many, accepts}
use Rattle.grid.specs.claims.Setting.{Setting, set_all, set_grid}
use Rattle.grid.specs.Setting.{change_answer, set_answer, set_counts, set_starts}
use Rattle.grid.specs.work.Work.{Changeable, Changed, Starting}
use Rattle.answer.specs.declared.Refusal.{Refusal}
use Rattle.grid.proofs.Accepts.{acceptance_yields, accepted_answer}
use Rattle.grid.proofs.Claims.{accepted_is, never_empty, told}
use Rattle.grid.proofs.Crossings.{start_kept, start_mono, start_next, start_set}
use Rattle.grid.proofs.Filled.{refused_keeps, told_accepts, told_sound}
use Rattle.grid.proofs.Openings.{opens_built}
use Rattle.grid.proofs.Starts.{built_is, filled_starts, starts_at, starts_long}

-- the counts are replaced by others, as many, within the limit and not too many together
module _ (G : Grid) (A : Accepted G) (counts : List ℕ) (long : length counts ≡ length G.counts)
    (within : (e : ℕ) → e < length counts → count_of counts e ≤ most_count) (few : crossings counts ≤ most_crossings) where
  abbrev new : Grid
  new = built G.cells G.edges counts

  S : Sound G
  S = A.sound

  old_lt : (e : ℕ) → e < length counts → e < length G.counts
  old_lt e h = omega (arith, long)

  here : (c k e : ℕ) → EdgeIs G c k e → EdgeIs new c k e
  here c k e i = record { low_is = i.low_is; high_is = i.high_is }

  there : (c k e : ℕ) → EdgeIs new c k e → EdgeIs G c k e
  there c k e i = record { low_is = i.low_is; high_is = i.high_is }

  new_sound : Sound new
  new_sound = record {
    fours = S.fours;
    some_cell = S.some_cell;
    few_cells = S.few_cells;
    pairs = omega (arith, S.pairs, long);
    starts_long = starts_long counts;
    starts_are = starts_at counts;
    within = S.within;
    increasing = S.increasing;
    distinct = S.distinct;
    third = S.third;
    ends = λ e h. S.ends e (old_lt e h);
    sorted = λ d e l h. S.sorted d e l (old_lt e h);
    counts_within = within;
    listed = λ c k h l. let w = S.listed c k h l in (w.0, omega (arith, w.1, long), here c k w.0 w.2);
    used = λ e h. let w = S.used e (old_lt e h) in (w.0, w.1, w.2, w.3, here w.0 w.1 e w.4);
    few_crossings = few;
  }

  new_linked : Linked new
  new_linked e h Q step a b k l la lb lk ll i j =
      A.linked e (old_lt e h) Q (λ a b r s j la lb lr ls lj f i. step a b r s j la lb lr ls lj f (here a _ e i)) a b k l la lb lk ll (there a k e i) (there b l e j)

  pub accepted_again : Accepted new
  accepted_again = record { sound = new_sound; linked = new_linked }

-- what a count that is set meets
pub record Settable (counts : List ℕ) (edge count : ℕ) : Type 0 where
  pub listed : edge < length counts
  pub within : count ≤ most_count
  pub few : crossings (set counts edge count) ≤ most_crossings

module _ (counts : List ℕ) (edge count : ℕ) where
  abbrev changed : List ℕ
  changed = set counts edge count

  pub change_21 : length counts ≤ edge → refusal 21 edge ≡ change_answer counts edge count
  unfolding change_answer
  change_21 h = rw (le-leb (length counts) edge h)

  pub change_18 : edge < length counts → most_count < count → refusal 18 edge ≡ change_answer counts edge count
  unfolding change_answer
  change_18 h l = rw (lt-leb (length counts) edge h, lt-ltb most_count count l)

  pub change_10 : edge < length counts → count ≤ most_count → most_crossings < crossings changed → refusal 10 0 ≡ change_answer counts edge count
  unfolding change_answer too_many
  change_10 h l k = rw (lt-leb (length counts) edge h, le-ltb most_count count l, lt-ltb most_crossings (crossings changed) k)

  -- a refusal keeps both lists
  pub change_refused : (starts : List ℕ) (r : Refusal) → refusal_numbers r ≡ change_answer counts edge count
      → Changed counts starts edge count counts starts (refusal_numbers r)
  change_refused starts r e = record { answered = e; counts_are = rw (refusal_not r); starts_are = rw (refusal_not r) }

  pub change_made : Settable counts edge count → result_of (crossings changed ∷ []) ≡ change_answer counts edge count
  unfolding change_answer too_many
  change_made s = rw (lt-leb (length counts) edge s.listed, le-ltb most_count count s.within, le-ltb most_crossings (crossings changed) s.few)

  pub settable : is_result (change_answer counts edge count) ≡ true → Settable counts edge count
  unfolding change_answer too_many
  settable = go (leb (length counts) edge) refl (ltb most_count count) refl (ltb most_crossings (crossings changed)) refl
    where
      go : (a : Bool) → leb (length counts) edge ≡ a → (b : Bool) → ltb most_count count ≡ b → (c : Bool) → ltb most_crossings (crossings changed) ≡ c
          → is_result (pick a (refusal 21 edge) (pick b (refusal 18 edge) (pick c (refusal 10 0) (result_of (crossings changed ∷ []))))) ≡ true → Settable counts edge count
      go true p b q c r h = clash h refl
      go false p true q c r h = clash h refl
      go false p false q true r h = clash h refl
      go false p false q false r h = record {
        listed = leb-false (length counts) edge p;
        within = ltb-false most_count count q;
        few = ltb-false most_crossings (crossings changed) r;
      }

  -- the limit of the counts
  pub changed_within : edge < length counts → count ≤ most_count → ((e : ℕ) → e < length counts → count_of counts e ≤ most_count)
      → (e : ℕ) → e < length changed → count_of changed e ≤ most_count
  changed_within h l w e k = elim (ℕ_discrete e edge) [
    | yes q ↦ rw q (omega (arith, get_or-set_same counts edge count 0 h))
    | no q ↦ omega (arith, get_or-set_other counts edge e count 0 q, w e (omega (arith, length-set counts edge count)))
  ]

  -- the number of crossings
  pub crossings_set : edge < length counts → crossings changed + count_of counts edge ≡ crossings counts + count
  crossings_set h = rw (length-set counts edge count) (start_set counts edge count h (length counts) h)

  pub count_below : edge < length counts → count_of counts edge ≤ crossings counts
  count_below h = omega (arith, start_next counts edge, start_mono counts (edge + 1) (length counts) (omega arith))

  pub change_total : (n : ℕ) → edge < length counts → n ≡ crossings counts → n - count_of counts edge + count ≡ crossings changed
  change_total n h e = omega (arith, crossings_set h, count_below h)

  -- what the writer of the starts is given
  module _ (starts : List ℕ) (n : ℕ) (C : Changeable counts starts n) (s : Settable counts edge count) where
    pub change_starting : Starting changed edge (get_or starts edge 0) starts
    change_starting = record {
      room = omega (arith, length-set counts edge count, C.long);
      few = s.few;
      within = omega (arith, length-set counts edge count, s.listed);
      own = C.starts_are edge s.listed ∙ sym (start_kept counts edge count edge (omega arith));
      before = λ e h. C.starts_are e (omega (arith, s.listed)) ∙ sym (start_kept counts edge count e (omega arith));
    }

    pub change_written : filled (start changed) (length changed) starts ≡ starts_of changed
    change_written = filled_starts changed starts (omega (arith, length-set counts edge count, C.long))

module _ (G : Grid) (edge count : ℕ) where
  pub set_some : [] ≡ set_answer G edge count → ⊥
  unfolding set_answer change_answer
  set_some =
      pick_some (accepts G) _ (grid_answer G)
      (pick_some (leb (length G.counts) edge) _ _ no_nil
      (pick_some (ltb most_count count) _ _ no_nil (pick_some (too_many (set G.counts edge count)) _ _ no_nil no_nil)))
      (never_empty G)

  pub set_accepted : accepts G ≡ true → set_answer G edge count ≡ change_answer G.counts edge count
  unfolding set_answer
  set_accepted a = rw a

  -- what the call leaves
  module _ (r : Result ℕ Refusal) (q : check_numbers r ≡ grid_answer G) where
    pub set_refused : (refusal : Refusal) → r ≡ Err refusal
        → (check_numbers (Err refusal) ≡ set_answer G edge count) × (G.counts ≡ set_counts G edge count) × (G.starts ≡ set_starts G edge count)
    unfolding set_answer set_counts set_starts
    set_refused refusal e =
        let h : check_numbers (Err refusal) ≡ grid_answer G = ap check_numbers (sym e) ∙ q in
        let k = refused_keeps G refusal h in
        (rw k h, rw (k, k), rw (k, k))

    pub set_done : (n : ℕ) → r ≡ Ok n → (counts starts answer : List ℕ) → Changed G.counts G.starts edge count counts starts answer
        → (answer ≡ set_answer G edge count) × (counts ≡ set_counts G edge count) × (starts ≡ set_starts G edge count)
    unfolding set_counts set_starts
    set_done n e counts starts answer C =
        let a = C.answered ∙ sym (set_accepted (told_accepts G r n e q)) in (
          a,
          C.counts_are ∙ ap (λ x. pick (is_result x) (set G.counts edge count) G.counts) a,
          C.starts_are ∙ ap (λ x. pick (is_result x) (starts_of (set G.counts edge count)) G.starts) a,
        )

-- what the change starts from
pub set_changeable : (G : Grid) (r : Result ℕ Refusal) → check_numbers r ≡ grid_answer G → (n : ℕ) → r ≡ Ok n → Changeable G.counts G.starts n
set_changeable G r q n e =
    let S = told_sound G r n e q in
    let h = sym (accepted_is G (told_accepts G r n e q)) ∙ sym q ∙ ap check_numbers e in
    record {
      long = S.starts_long;
      starts_are = S.starts_are;
      few = S.few_crossings;
      all = sym (ap (λ (l : List ℕ). get_or l 1 0) h);
    }

pub set_told : SetTold
set_told G edge count = told (set_answer G edge count)

-- what settings keep of an accepted grid
record Kept (G H : Grid) : Type 1 where
  is : Accepted H
  cells_same : H.cells ≡ G.cells
  edges_same : H.edges ≡ G.edges
  many_same : length H.counts ≡ length G.counts

accepts_again : (G : Grid) → Accepted G → accepts G ≡ true
accepts_again G A = ap is_result (accepted_answer G A)

set_kept : (G : Grid) → Accepted G → (edge count : ℕ) → Kept G (set_grid G edge count)
unfolding set_grid set_counts set_starts
set_kept G A edge count = go (is_result (set_answer G edge count)) refl
  where
    go : (b : Bool) → is_result (set_answer G edge count) ≡ b
        → Kept G (grid_of G.cells G.edges (pick b (set G.counts edge count) G.counts) (pick b (starts_of (set G.counts edge count)) G.starts))
    go false q = record { is = A; cells_same = refl; edges_same = refl; many_same = refl }
    go true q =
        let s = settable G.counts edge count (ap is_result (sym (set_accepted G edge count (accepts_again G A))) ∙ q) in
        let long = length-set G.counts edge count in
        record {
          is = accepted_again G A (set G.counts edge count) long (changed_within G.counts edge count s.listed s.within A.sound.counts_within) s.few;
          cells_same = refl;
          edges_same = refl;
          many_same = long;
        }

set_all_kept : (l : List Setting) (G : Grid) → Accepted G → Kept G (set_all l G)
unfolding set_all
set_all_kept [] G A = record { is = A; cells_same = refl; edges_same = refl; many_same = refl }
set_all_kept (s ∷ l) G A =
    let K = set_kept G A s.edge s.count in
    let L = set_all_kept l (set_grid G s.edge s.count) K.is in
    record {
      is = L.is;
      cells_same = L.cells_same ∙ K.cells_same;
      edges_same = L.edges_same ∙ K.edges_same;
      many_same = L.many_same ∙ K.many_same;
    }

pub settings_right : SettingsRight
unfolding opened_afresh
settings_right G values q l =
    let K = set_all_kept l G (acceptance_yields G values q) in
    let H = set_all l G in
    let S = K.is.sound in
    let a = accepted_answer H K.is in
    let f = built_is H S.starts_long S.starts_are ∙ ap₂ (λ x y. built x y H.counts) K.cells_same K.edges_same in
    record {
      many_same = K.many_same;
      starts_long = S.starts_long;
      starts_are = S.starts_are;
      accepted = a;
      fresh = f;
      reopened = λ starts e. f ∙ ap (grid_of G.cells G.edges H.counts) (sym ((opens_built G.cells G.edges H.counts starts e).1 _ (ap grid_answer (sym f) ∙ a)));
    }

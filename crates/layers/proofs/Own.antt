-- The counts, starts and face names of a run's cells from those of the whole.
use Prim.Native.Nat.{ℕ, ◌+◌, ◌*◌, ◌-◌, ◌/◌, ◌%◌, ◌≤◌, ◌<◌}
use mathlib.Core.Path.{◌≡◌, refl, sym, ap, ◌∙◌}
use mathlib.Core.Bool.{Bool, true, false}
use mathlib.Core.List.{List}
use native.Mathlib.Omega.{arith}
use native.Mathlib.Decide.{dec_lt, ℕ_discrete}
use lib.Dec.{leb}
use lib.ListN.{length, get_or}
use borrow.Author.Tests.{leb-true, leb-false}
use Rattle.counting.specs.Pick.{pick}
use Rattle.counting.specs.Search.{first}
use Rattle.counting.specs.Lists.{total, kept, pre}
use Rattle.counting.proofs.Bools.{clash, not_clash}
use Rattle.counting.proofs.Kept.{kept_total}
use Rattle.counting.proofs.Range.{total_ext}
use Rattle.counting.proofs.Search.{first_at, first_below}
use Rattle.grid.specs.Grid.{Grid, cell_count, same_face, face_name, edge_number, count_of, start}
use Rattle.grid.specs.claims.Accepted.{SameFace, Sound}
use Rattle.grid.proofs.Accepts.{ordered}
use Rattle.grid.proofs.Names.{name_lt, named}
use Rattle.grid.proofs.Packed.{same_true, true_same, one_slot}
use Rattle.layers.specs.Runs.{run_cells, run_counts, run_grid, in_run, run_numbers, in_whole}
use Rattle.layers.specs.claims.Claims.{own_start, own_name, RunWithin, RunsOwn}
use Rattle.layers.proofs.Runs.{many_counts, count-at, run-count, below, face_there, face_here, number_lt, number_at}

-- the start of the run's edge e is the sum over the run's edges before it in the whole
start_at : (G : Grid) (from size e : ℕ) → e < length (run_counts G from size) → start (run_counts G from size) e ≡ own_start G from size (in_whole G from size e)
unfolding start pre own_start run_numbers
start_at G from size e l =
    let z : get_or (kept (in_run G from size) (length G.counts) 0) e 0 - 0 ≡ get_or (kept (in_run G from size) (length G.counts) 0) e 0 = omega arith in
    total_ext (count_of (run_counts G from size)) (λ i. count_of G.counts (in_whole G from size i)) e 0 (λ i _ h. count-at G from size i (omega arith))
    ∙ kept_total (in_run G from size) (count_of G.counts) (length G.counts) 0 e (omega (arith, many_counts G from size))
    ∙ ap (λ n. total (λ d. pick (in_run G from size d) (count_of G.counts d) 0) n 0) z

module _ (G : Grid) (from size : ℕ) (S : Sound G) (N : RunWithin G from size) (c s : ℕ) (l : c < size) (ls : s < 4) where
  abbrev rc : List ℕ
  rc = run_cells G from size

  abbrev lw : from + c < cell_count G.cells
  lw = below G from size S N c l

  -- the face's name in the whole
  abbrev name : ℕ
  name = face_name G.cells (from + c) s

  abbrev passes : ℕ → Bool
  passes m = same_face rc (m / 4) (m % 4) c s

  in-whole : (m : ℕ) → m < 4 * size → passes m ≡ true → SameFace G.cells (from + m / 4) (m % 4) (from + c) s
  in-whole m h e = face_there G from size S N (m / 4) (m % 4) c s (omega arith) l (same_true rc (m / 4) (m % 4) c s e)

  in-run : (m : ℕ) → m < 4 * size → SameFace G.cells (from + m / 4) (m % 4) (from + c) s → passes m ≡ true
  in-run m h f = true_same rc (m / 4) (m % 4) c s (face_here G from size S N (m / 4) (m % 4) c s (omega arith) l f)

  named_here : SameFace G.cells (name / 4) (name % 4) (from + c) s
  named_here = named G.cells (from + c) s lw ls

  -- no slot before the name has the face
  earlier : (m : ℕ) → m < name → SameFace G.cells (m / 4) (m % 4) (from + c) s → ⊥
  unfolding face_name
  earlier m h f =
      clash (true_same G.cells (m / 4) (m % 4) (from + c) s f) (first_below (λ m. same_face G.cells (m / 4) (m % 4) (from + c) s) (4 * cell_count G.cells) m h)

  lowest : name ≤ 4 * (from + c) + s
  lowest =
      elim (dec_lt (4 * (from + c) + s) name) [
        | yes h ↦ (let a : (4 * (from + c) + s) / 4 ≡ from + c = omega arith in
            let b : (4 * (from + c) + s) % 4 ≡ s = omega arith in
            absurd (earlier (4 * (from + c) + s) h (rw (a, b) (λ i k. refl))))
        | no h ↦ omega arith
      ]

  -- named by an earlier cell, the face is in no other cell of the run
  other : name < 4 * from → (j : ℕ) → j < 4 * c + s → SameFace G.cells (from + j / 4) (j % 4) (from + c) s → Dec (j / 4 ≡ c) → ⊥
  other h j k f (yes u) =
      let v = one_slot G.cells (ordered G S) (from + c) (j % 4) s lw (omega arith) ls (true_same G.cells (from + c) (j % 4) (from + c) s (rw u at f)) in omega arith
  other h j k f (no u) =
      S.third (from + c) (name / 4) (from + j / 4) s (name % 4) (j % 4) lw (omega (arith, name_lt G.cells (from + c) s lw ls)) (omega (arith, lw)) ls (omega arith) (omega arith)
      (λ i l. sym (named_here i l)) (λ i l. sym (f i l)) (λ w. omega arith) (λ w. u (omega arith)) (λ w. omega arith)

  own-name : face_name rc c s ≡ own_name G from size c s
  unfolding face_name own_name
  own-name = go (leb (4 * from) name) refl
    where
      count : cell_count rc ≡ size
      count = run-count G from size S N

      go : (b : Bool) → leb (4 * from) name ≡ b → first passes (4 * cell_count rc) ≡ pick b (name - 4 * from) (4 * c + s)
      go true e =
          let h = leb-true (4 * from) name e in
          let m = name - 4 * from in
          let a : name / 4 ≡ from + m / 4 = omega arith in
          let b : name % 4 ≡ m % 4 = omega arith in
          first_at passes (4 * cell_count rc) m (omega (arith, lowest, count))
          (in-run m (omega (arith, lowest)) (rw (a, b) at named_here))
          (λ j k. not_clash (passes j) (λ q.
          let x : from + j / 4 ≡ (4 * from + j) / 4 = omega arith in
          let y : j % 4 ≡ (4 * from + j) % 4 = omega arith in
          earlier (4 * from + j) (omega arith) (rw (x, y) at (in-whole j (omega (arith, lowest)) q))))
      go false e =
          let h = leb-false (4 * from) name e in
          let a : (4 * c + s) / 4 ≡ c = omega arith in
          let b : (4 * c + s) % 4 ≡ s = omega arith in
          first_at passes (4 * cell_count rc) (4 * c + s) (omega (arith, count)) (rw (a, b) (true_same rc c s c s (λ i k. refl)))
          (λ j k. not_clash (passes j) (λ q. other h j k (in-whole j (omega arith) q) (ℕ_discrete (j / 4) c)))

pub runs_own : RunsOwn
runs_own G from size S N = record {
  count = λ c k l lk. count-at G from size (edge_number (run_grid G from size) c k) (number_lt G from size S N c k l lk) ∙ ap (count_of G.counts) (number_at G from size S N c k l lk);
  first = λ c k l lk. start_at G from size (edge_number (run_grid G from size) c k) (number_lt G from size S N c k l lk) ∙ ap (own_start G from size) (number_at G from size S N c k l lk);
  name = own-name G from size S N;
}

-- A walk in the terms of the code: the dart it stands at, its marks, and what it has recorded.
use Prim.Native.Nat.{ℕ, zero, suc, ◌+◌, ◌*◌, ◌/◌, ◌≤◌, ◌<◌}
use mathlib.Core.Path.{◌≡◌, refl, sym, ap, ap₂, ◌∙◌}
use mathlib.Core.Bool.{Bool, true, false, not, ◌&&◌, true≢false}
use mathlib.Core.Logic.{◌⊎◌, inl, inr, ⊎_elim}
use mathlib.Core.List.{List, [], ◌∷◌, ◌++◌, map, map-append}
use native.Mathlib.Nat.{not-suc-le-zero}
use native.Mathlib.Omega.{arith}
use native.Mathlib.Decide.{dec_lt}
use native.Mathlib.Numerals.{add-one}
use lib.Dec.{eqb, ltb}
use lib.ListN.{get_or, set, take, length, length-map}
use lib.Seq.{take-suc-set}
use borrow.Author.Tests.{ltb-true, lt-ltb, le-ltb, ne_eqb}
use Rattle.counting.specs.Lists.{one, tally, it}
use Rattle.counting.proofs.Lists.{get_or_map, tally_append}
use Rattle.walk.specs.Walk.{orbit}
use Rattle.walk.specs.Walk as walk
use Rattle.walk.proofs.Iterate.{orbit_snoc, length_orbit}
use Rattle.cell.specs.declared.Cell.{Cell}
use Rattle.cell.specs.declared.Dart.{Dart}
use Rattle.cell.specs.Cell.{Edges, crossings, step}
use Rattle.cell.specs.Loop.{loop_size, dart, loop_darts, folded, normal, in_grid}
use Rattle.cell.specs.Of.{edges_of}
use Rattle.cell.specs.claims.Half.{edge_of, dart_number}
use Rattle.cell.specs.work.Half.{half_of, half_edge}
use Rattle.cell.specs.work.Route.{Routed}
use Rattle.cell.specs.work.Limits.{most_in_cell, start_limit}
use Rattle.cell.specs.work.Dart.{Parts, IsDart, Ready, Leads, dart_of}
use Rattle.cell.specs.work.Scratch.{halves_from, points_from}
use Rattle.cell.specs.work.Walked.{Starts, Marked, is_met, Kept, Used, Lent, Walked}
use Rattle.cell.proofs.Half.{place_is}
use Rattle.cell.proofs.Step.{number_half, parts_number, parts_edge, parts_index, parts_slot}
use Rattle.cell.proofs.Route.{start_at, start_near, fits}
use Rattle.cell.proofs.Using.{kept_set, used_none}
use Rattle.cell.proofs.Walking.{Walking, dart_next, walking_start, walking_room, walking_end, walking_low, walking_home, walking_on, walking_mark, walking_met, start_met}

-- a dart in parts leaves by its half-edge, from its point
module _ {w : Edges} {h t x : ℕ} (P : Parts w h t x) where
  pub parts_half : half_edge w (dart_number h x) ≡ h
  unfolding half_edge half_of
  parts_half = rw (parts_slot w P, parts_edge w P, place_is h P.half_lt) (omega arith)

  pub parts_point : in_grid w (dart_number h x / 2) ≡ w.start (edge_of h) + t
  unfolding in_grid
  parts_point = rw (parts_edge w P, parts_index w P) refl

  pub parts_lt : dart_number h x < 2 * crossings w
  parts_lt = let l = parts_number w P in omega (arith, number_half h x)

get_or_orbit : (s : ℕ → ℕ) (n k d : ℕ) → k < n → get_or (orbit s n d) k 0 ≡ it s k d
unfolding orbit it
get_or_orbit s zero k d h = absurd (not-suc-le-zero h)
get_or_orbit s (suc n) zero d h = refl
get_or_orbit s (suc n) (suc k) d h = get_or_orbit s n k (s d) (omega arith)

-- What is recorded of the darts from crossing p, k of them: the f of each. Where they are a loop, it is what is recorded of the loop.
module _ (w : Edges) (f : ℕ → ℕ) (p : ℕ) where
  unfoldable pub run : ℕ → List ℕ
  run k = map f (orbit (step w) k (2 * p))

  pub run_none : run 0 ≡ []
  unfolding run orbit
  run_none = refl

  pub run_more : (k : ℕ) → run (k + 1) ≡ run k ++ (f (dart w p k) ∷ [])
  unfolding run dart
  run_more k = ap (map f) (orbit_snoc (step w) k (2 * p)) ∙ map-append f (orbit (step w) k (2 * p)) (it (step w) k (2 * p) ∷ [])

  pub run_loop : (k : ℕ) → loop_size w p ≡ k → map f (loop_darts w p) ≡ run k
  unfolding run loop_darts loop_size walk.loop_at
  run_loop k e = ap (λ n. map f (orbit (step w) n (2 * p))) e

  pub run_at : (n k : ℕ) → k < n → get_or (run n) k 0 ≡ f (dart w p k)
  unfolding run dart
  run_at n k h = get_or_map f 0 0 (orbit (step w) n (2 * p)) k (rw (length_orbit (step w) n (2 * p)) h) ∙ ap f (get_or_orbit (step w) n k (2 * p) h)

  pub run_long : (n : ℕ) → length (run n) ≡ n
  unfolding run
  run_long n = length-map (orbit (step w) n (2 * p)) f ∙ length_orbit (step w) n (2 * p)

abbrev pub point_of : Cell → ℕ → ℕ
point_of c d = in_grid (edges_of c) (d / 2)

-- a walk from p is met at crossing x, or not
module _ (ms : List ℕ) (p x : ℕ) where
  pub met_low : x < p → is_met ms p x ≡ true
  unfolding is_met
  met_low h = simp (lt-ltb x p h)

  pub met_mark : p ≤ x → is_met ms p x ≡ ltb (get_or ms x 0) p
  unfolding is_met
  met_mark h = simp (le-ltb x p h)

  met_cases : is_met ms p x ≡ true → (x < p) ⊎ (get_or ms x 0 < p)
  met_cases e =
      elim (dec_lt x p) [
        | yes h ↦ inl h
        | no h ↦ inr (ltb-true (get_or ms x 0) p (sym (met_mark (omega arith)) ∙ e))
      ]

  pub met_above : is_met ms p x ≡ false → p ≤ x
  met_above e =
      elim (dec_lt x p) [
        | yes h ↦ absurd (true≢false (sym (met_low h) ∙ e))
        | no h ↦ omega arith
      ]

-- none of the first k segments from crossing p goes along its edge
module _ (w : Edges) (p : ℕ) where
  unfoldable pub clean : ℕ → Bool
  clean k = eqb (tally (folded w) (orbit (step w) k (2 * p))) 0

  pub clean_none : clean 0 ≡ true
  unfolding clean orbit tally
  clean_none = refl

  pub clean_more : (k : ℕ) → clean (k + 1) ≡ (not (folded w (dart w p k)) && clean k)
  unfolding clean dart tally
  clean_more k =
      ap (λ l. eqb (tally (folded w) l) 0) (orbit_snoc (step w) k (2 * p))
      ∙ ap (λ n. eqb n 0) (tally_append (folded w) (orbit (step w) k (2 * p)) (it (step w) k (2 * p) ∷ []))
      ∙ go (folded w (it (step w) k (2 * p))) (tally (folded w) (orbit (step w) k (2 * p)))
    where
      go : (b : Bool) (n : ℕ) → eqb (n + (one b + 0)) 0 ≡ (not b && eqb n 0)
      go true n = ne_eqb (n + (1 + 0)) 0 (λ e. omega arith)
      go false n = ap (λ m. eqb m 0) (let z : n + (0 + 0) ≡ n = omega arith in z)

  pub clean_loop : (k : ℕ) → loop_size w p ≡ k → normal w p ≡ clean k
  unfolding clean normal loop_darts loop_size walk.loop_at
  clean_loop k e = ap (λ n. eqb (tally (folded w) (orbit (step w) n (2 * p))) 0) e

-- one more at the front
take_more : (l : List ℕ) (k x : ℕ) → k < length l → {v : List ℕ} → take k l ≡ v → take (k + 1) (set l k x) ≡ v ++ (x ∷ [])
take_more l k x h e = rw (add-one k) (take-suc-set l k x h ∙ ap (λ a. a ++ (x ∷ [])) e)

-- no loop starts at p
walked_none : {c : Cell} {n p : ℕ} {ms hs ps ms' hs' ps' : List ℕ} → loop_size (edges_of c) p ≡ 0 → Marked c ms' → Used n ms hs ps ms' hs' ps'
    → Walked c n p ms hs ps 0 true ms' hs' ps'
unfolding halves_from points_from
walked_none {c} {n} {p} z M U = record {
  marked = M;
  marks_kept = U.marks_kept;
  halves_kept = U.halves_kept;
  points_kept = U.points_kept;
  size = sym z;
  told = sym (clean_loop (edges_of c) p 0 z ∙ clean_none (edges_of c) p);
  halves_are = rw (run_loop (edges_of c) (half_edge (edges_of c)) p 0 z, run_none (edges_of c) (half_edge (edges_of c)) p) refl;
  points_are = rw (run_loop (edges_of c) (point_of c) p 0 z, run_none (edges_of c) (point_of c) p) refl;
}

-- at dart k, with those before it recorded
pub record Recording (c : Cell) (n p : ℕ) (ms₀ hs₀ ps₀ ms hs ps : List ℕ) (d : Dart) (k : ℕ) (b : Bool) : Type 0 where
  pub walking : Walking (edges_of c) p k
  pub is_dart : IsDart (edges_of c) d
  pub is : dart_of d ≡ dart (edges_of c) p k
  pub told : b ≡ clean (edges_of c) p k
  pub marked : Marked c ms
  pub used : Used n ms₀ hs₀ ps₀ ms hs ps
  pub halves_are : take k hs ≡ run (edges_of c) (half_edge (edges_of c)) p k
  pub points_are : take k ps ≡ run (edges_of c) (point_of c) p k

module _ {c : Cell} {t : List ℕ} {n p : ℕ} {ms₀ hs₀ ps₀ : List ℕ} (L : Lent c t n p ms₀ hs₀ ps₀) where
  abbrev w : Edges
  w = edges_of c

  inside : p < crossings w
  inside = omega (arith, L.all, L.inside)

  pub lent_met : is_met ms₀ p p ≡ true → Walked c n p ms₀ hs₀ ps₀ 0 true ms₀ hs₀ ps₀
  lent_met e =
      ⊎_elim (λ h. absurd (omega arith))
      (λ h. walked_none (start_met w ms₀ p inside L.marked h) L.marked (used_none n ms₀ hs₀ ps₀))
      (met_cases ms₀ p p e)

  pub recording_start : {d : Dart} → Starts w p d → Recording c n p ms₀ hs₀ ps₀ ms₀ hs₀ ps₀ d 0 true
  unfolding dart it
  recording_start D = record {
    walking = walking_start w p inside;
    is_dart = D.dart;
    is = D.is;
    told = sym (clean_none w p);
    marked = L.marked;
    used = used_none n ms₀ hs₀ ps₀;
    halves_are = sym (run_none w (half_edge w) p);
    points_are = sym (run_none w (point_of c) p);
  }

  module _ {ms hs ps : List ℕ} {d : Dart} {k : ℕ} {b : Bool} (G : Recording c n p ms₀ hs₀ ps₀ ms hs ps d k b) where
    R : Routed c t
    R = L.routed

    abbrev h : ℕ
    h = d.half

    -- what is written of the dart
    abbrev point : ℕ
    point = get_or t (9 * h + 4) 0 + d.index

    pub recording_point : point < 2 * start_limit
    recording_point = omega (arith, start_at R h G.is_dart.half_lt, start_near R h G.is_dart.half_lt, fits R h G.is_dart.half_lt d.index G.is_dart.index_lt)

    pub recording_ready : Ready c t d
    recording_ready = record { routed = R; dart = G.is_dart }

    room : k < n
    room = omega (arith, walking_room G.walking, L.all)

    pub recording_long : (k < n) × (k < length hs) × (k < length ps)
    recording_long = (room, omega (arith, room, G.used.halves_kept.long, L.halves_long), omega (arith, room, G.used.points_kept.long, L.points_long))

    used_more : {ms' : List ℕ} → Kept n ms₀ ms' → Used n ms₀ hs₀ ps₀ ms' (set hs k h) (set ps k point)
    used_more K = record { marks_kept = K; halves_kept = kept_set G.used.halves_kept k h room; points_kept = kept_set G.used.points_kept k point room }

    halves_more : take (k + 1) (set hs k h) ≡ run w (half_edge w) p (k + 1)
    halves_more = rw (run_more w (half_edge w) p k, ← G.is, parts_half G.is_dart) (take_more hs k h recording_long.1 G.halves_are)

    points_more : take (k + 1) (set ps k point) ≡ run w (point_of c) p (k + 1)
    points_more =
        rw (run_more w (point_of c) p k, ← G.is, parts_point G.is_dart, ← start_at R h G.is_dart.half_lt)
        (take_more ps k point recording_long.2 G.points_are)

    none : loop_size w p ≡ 0 → Walked c n p ms₀ hs₀ ps₀ 0 true ms (set hs k h) (set ps k point)
    none z = walked_none z G.marked (used_more G.used.marks_kept)

    -- the curve ends
    pub recording_end : step w (dart_of d) ≡ 2 * crossings w → Walked c n p ms₀ hs₀ ps₀ 0 true ms (set hs k h) (set ps k point)
    recording_end e = none (walking_end G.walking (rw G.is at e))

    -- or goes on at dart e
    module _ {e : Dart} {a : Bool} (S : Leads w d e a) where
      told_more : {r : Bool} → r ≡ (not a && b) → r ≡ clean w p (k + 1)
      told_more q = q ∙ ap₂ (λ x y. not x && y) (sym S.told ∙ ap (folded w) G.is) G.told ∙ sym (clean_more w p k)

      abbrev y : ℕ
      y = step w (dart w p k)

      here : y ≡ dart_of e
      here = ap (step w) (sym G.is) ∙ S.is

      on : y < 2 * crossings w
      on = rw here (parts_lt S.to)

      half_is : y / 2 ≡ e.number
      half_is = ap (λ n. n / 2) here ∙ number_half e.half e.number

      pub recording_lt : (e.number < length ms) × (e.number < most_in_cell)
      recording_lt = (omega (arith, parts_number w S.to, G.marked.long), omega (arith, parts_number w S.to, R.few))

      pub recording_home : {r : Bool} → r ≡ (not a && b) → e.number ≡ p → Walked c n p ms₀ hs₀ ps₀ (k + 1) r ms (set hs k h) (set ps k point)
      unfolding halves_from points_from
      recording_home q f =
          let z = walking_home G.walking on (half_is ∙ f) in
          let U = used_more G.used.marks_kept in
          record {
            marked = G.marked;
            marks_kept = U.marks_kept;
            halves_kept = U.halves_kept;
            points_kept = U.points_kept;
            size = sym z;
            told = told_more q ∙ sym (clean_loop w p (k + 1) z);
            halves_are = halves_more ∙ sym (run_loop w (half_edge w) p (k + 1) z);
            points_are = points_more ∙ sym (run_loop w (point_of c) p (k + 1) z);
          }

      pub recording_met : is_met ms p e.number ≡ true → Walked c n p ms₀ hs₀ ps₀ 0 true ms (set hs k h) (set ps k point)
      recording_met f =
          ⊎_elim (λ f. none (walking_low G.walking on (rw half_is f))) (λ f. none (walking_met G.walking on G.marked (rw half_is f)))
          (met_cases ms p e.number f)

      pub recording_on : {r : Bool} → r ≡ (not a && b) → p < e.number → Recording c n p ms₀ hs₀ ps₀ (set ms e.number p) (set hs k h) (set ps k point) e (k + 1) r
      recording_on q f = record {
        walking = walking_on G.walking on (rw half_is f);
        is_dart = S.to;
        is = sym (dart_next w p k ∙ here);
        told = told_more q;
        marked = rw half_is at (walking_mark G.walking on G.marked);
        used = used_more (kept_set G.used.marks_kept e.number p (omega (arith, parts_number w S.to, L.all)));
        halves_are = halves_more;
        points_are = points_more;
      }

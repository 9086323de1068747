-- The branches of a step, in the terms in which the code meets them: by what it reads from the routes.
use Prim.Native.Nat.{ℕ, ◌+◌, ◌*◌, ◌-◌, ◌%◌, ◌≤◌, ◌<◌}
use mathlib.Core.Path.{◌≡◌, refl, sym, ap, ◌∙◌, subst}
use mathlib.Core.Bool.{Bool, true, false}
use mathlib.Core.List.{List}
use native.Mathlib.Omega.{arith}
use lib.Dec.{eqb, ltb}
use lib.ListN.{get_or}
use Rattle.counting.specs.Pick.{pick}
use Rattle.face.specs.declared.Stand.TheVariants.{Low, High}
use Rattle.slots.specs.Slots.{lower, upper}
use Rattle.face.proofs.Stands.{Stands, Within}
use Rattle.cell.specs.declared.Cell.{Cell}
use Rattle.cell.specs.declared.Dart.{Dart}
use Rattle.std.proofs.Common.{Option, Some, None}
use Rattle.cell.specs.Cell.{Edges, crossings, number, step}
use Rattle.cell.specs.Loop.{folded}
use Rattle.cell.specs.Of.{edges_of}
use Rattle.cell.specs.work.Half.{half_edges, twin}
use Rattle.cell.specs.claims.Half.{rank_of, edge_of, dart_number}
use Rattle.cell.specs.work.Route.{half_corner, columns, low_column, high_column, count_column, round_low_column, round_high_column, twin_column, rank_column, Routed}
use Rattle.cell.specs.work.Limits.{most_in_cell}
use Rattle.cell.specs.work.Dart.{Spot, IsDartAt, Ready, AtLow, AtHigh, Turns, Beside, Leads, Onward, dart_of}
use Rattle.cell.proofs.Reach.{Reach, high_own, low_lt, high_lt, low_fits, high_fits, turn_low, turn_high, between_end, between_up, between_down, low_told, high_told, up_told, down_told}
use Rattle.cell.proofs.Route.{low_at, high_at, count-at, low_next_at, high_next_at, twin_at, place-at, fits}

-- a step comes to index u of the edge of half-edge g, which is read as f
pub spot : {w : Edges} {h x f g u : ℕ} → f ≡ g → Reach w h x g u → Spot w f u
spot e r = rw e (record { half_lt = r.parts.half_lt; index_lt = r.parts.index_lt })

pub leads : {w : Edges} {d r : Dart} {f g u : ℕ} {b : Bool} → f ≡ g → Reach w d.half d.number g u → folded w (dart_of d) ≡ b → IsDartAt w f u r → Leads w d r b
leads {w} {d} {r} e R q A = record {
  to = record {
    half_lt = rw (A.half_is, e) R.parts.half_lt;
    index_lt = rw (A.half_is, A.index_is, e) R.parts.index_lt;
    number_is = rw (A.half_is, A.index_is) A.number_is;
  };
  is = R.is ∙ rw (A.half_is, A.number_is, e) refl;
  told = q;
}

module _ {c : Cell} {t : List ℕ} {d : Dart} (R : Ready c t d) where
  abbrev w : Edges
  w = edges_of c

  abbrev h : ℕ
  h = d.half

  abbrev l : h < half_edges
  l = R.dart.half_lt

  -- column i of the dart's half-edge
  abbrev own : ℕ → ℕ
  own i = get_or t (columns * h + i) 0

  pub low_is : own low_column ≡ half_corner w (lower (rank_of h)) h
  low_is = low_at R.routed h l

  pub high_is : own high_column ≡ half_corner w (upper (rank_of h)) h
  high_is = high_at R.routed h l

  pub count_is : own count_column ≡ w.count (edge_of h)
  count_is = count-at R.routed h l

  pub index_small : d.index < most_in_cell
  index_small = omega (arith, fits R.routed h l d.index R.dart.index_lt)

  -- round the lower end, and round the upper one
  pub to_low : AtLow w d → Turns w d (own round_low_column) d.index (eqb (own rank_column) 2)
  to_low a =
      rw (low_next_at R.routed h l, place-at R.routed h l)
      (record { half_lt = low_lt w h l; room = low_fits w h l d.index a; is = (turn_low w R.dart a).is; told = low_told w R.dart a })

  pub to_high : (k : ℕ) → AtHigh w d k → Turns w d (own round_high_column) k (ltb 0 (own rank_column))
  to_high k A =
      rw (high_next_at R.routed h l, place-at R.routed h l)
      (record { half_lt = high_lt w h l; room = high_fits w h l k A.below; is = (turn_high w R.dart k A.is A.below).is; told = high_told w R.dart k A.is A.below })

  pub twin_is : own twin_column ≡ twin h
  twin_is = twin_at R.routed h l

  -- by where the face call has the dart stand
  pub upper_fits : own high_column ≤ own count_column
  upper_fits = rw (high_is, count_is) (high_own w h l)

  module _ {n p q : ℕ} (en : n ≡ own count_column) (ep : p ≡ own low_column) (eq : q ≡ own high_column) where
    abbrev t₀ : ℕ
    t₀ = d.index

    pub stands_low : Stands p (n - q) t₀ Low → AtLow w d
    stands_low s = omega (arith, s, low_is)

    pub stands_high : Stands p (n - q) t₀ High → AtHigh w d (n - 1 - t₀)
    stands_high s = record { is = rw (en ∙ count_is) refl; below = omega (arith, s.1, high_is, count_is, R.dart.index_lt) }

    counts : (half_corner w (lower (rank_of h)) h ≡ p) × (half_corner w (upper (rank_of h)) h ≡ q) × (w.count (edge_of h) ≡ n)
    counts = (sym (ep ∙ low_is), sym (eq ∙ high_is), sym (en ∙ count_is))

    module _ (W : Within p (n - q) t₀) where
      low : half_corner w (lower (rank_of h)) h ≤ t₀
      low = rw counts.0 W.low

      high : t₀ + half_corner w (upper (rank_of h)) h < w.count (edge_of h)
      high = omega (arith, W.high, counts)

      beside : {u : ℕ} → Reach w h d.number (twin h) u → folded w (dart_of d) ≡ true → Beside w d u
      beside r e = record { spot = record { half_lt = r.parts.half_lt; index_lt = r.parts.index_lt }; is = r.is; told = e }

      pub stands_up : (n - q - t₀) % 2 ≡ 0 → Beside w d (t₀ + 1)
      stands_up z =
          let y : (w.count (edge_of h) - half_corner w (upper (rank_of h)) h - t₀) % 2 ≡ 0 = rw (counts.1, counts.2) z in
          beside (between_up w R.dart low high y) (up_told w R.dart low high y)

      module _ (z : (n - q - t₀) % 2 ≡ 1) where
        y : (w.count (edge_of h) - half_corner w (upper (rank_of h)) h - t₀) % 2 ≡ 1
        y = rw (counts.1, counts.2) z

        pub stands_down : p < t₀ → Beside w d (t₀ - 1)
        stands_down e =
            let f : half_corner w (lower (rank_of h)) h < t₀ = rw counts.0 e in
            beside (between_down w R.dart low high y f) (down_told w R.dart low high y f)

        pub stands_alone : t₀ ≡ p → step w (dart_of d) ≡ 2 * crossings w
        stands_alone e = between_end w R.dart low high y (e ∙ sym counts.0)

-- a dart that a turn comes to
module _ {c : Cell} {t : List ℕ} (R : Routed c t) {d : Dart} {g k : ℕ} {over : Bool} (T : Turns (edges_of c) d g k over) where
  abbrev v : Edges
  v = edges_of c

  -- the crossings of the edge, as they are read
  pub turn_count : get_or t (columns * g + count_column) 0 ≡ v.count (edge_of g)
  turn_count = count-at R g T.half_lt

  to : (b : Bool) (u : ℕ) → over ≡ b → u ≡ pick b (v.count (edge_of g) - 1 - k) k → u < v.count (edge_of g) → Reach v d.half d.number g u
  to b u e q lt = record {
    parts = record { half_lt = T.half_lt; index_lt = lt; number_is = refl };
    is = T.is ∙ ap (λ a. dart_number g (number v (edge_of g) (pick a (v.count (edge_of g) - 1 - k) k))) e ∙ ap (λ a. dart_number g (number v (edge_of g) a)) (sym q);
  }

  pub over_to : over ≡ true → (n : ℕ) → n ≡ get_or t (columns * g + count_column) 0 → Reach v d.half d.number g (n - 1 - k)
  over_to e n q = to true (n - 1 - k) e (ap (λ a. a - 1 - k) (q ∙ turn_count)) (omega (arith, q, turn_count, T.room))

  pub on_to : over ≡ false → Reach v d.half d.number g k
  on_to e = to false k e refl T.room

-- along the edge, whose twin half-edge is read as f
module _ {w : Edges} {d : Dart} {u f : ℕ} (A : Beside w d u) (e : f ≡ twin d.half) where
  pub beside_spot : Spot w f u
  beside_spot = rw e A.spot

  pub beside_leads : {r : Dart} → IsDartAt w f u r → Leads w d r true
  beside_leads D = leads e (record { parts = record { half_lt = A.spot.half_lt; index_lt = A.spot.index_lt; number_is = refl }; is = A.is }) A.told D

-- what a step came to, by its case
pub onward_on : {w : Edges} {d e : Dart} {b : Bool} {r : Option (Dart × Bool)} → Onward w d r → r ≡ Some (e, b) → Leads w d e b
onward_on {w} {d} o q = subst (Onward w d) q o

pub onward_end : (w : Edges) (d : Dart) {r : Option (Dart × Bool)} → Onward w d r → r ≡ None → step w (dart_of d) ≡ 2 * crossings w
onward_end w d o q = subst (Onward w d) q o

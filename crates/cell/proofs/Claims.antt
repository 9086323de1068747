-- The laws of a cell's loops, together.
use Prim.Native.Nat.{ℕ, ◌+◌, ◌*◌, ◌/◌, ◌≤◌, ◌<◌}
use mathlib.Core.Path.{◌≡◌, refl, sym, ap, ◌∙◌}
use mathlib.Core.Logic.{⊎_elim}
use mathlib.Core.Bool.{Bool, true, false}
use mathlib.Core.List.{List, [], ◌∷◌}
use Rattle.std.proofs.Common.{Option, Some, None}
use native.Mathlib.Nat.{eq-or-lt_of_le}
use native.Mathlib.Omega.{arith}
use native.Mathlib.Decide.{dec_lt, ℕ_discrete}
use lib.Dec.{eqb, ltb}
use lib.ListN.{get_or}
use borrow.Author.Tests.{ltb-true, lt-ltb}
use Rattle.counting.specs.Pick.{pick}
use Rattle.counting.specs.Lists.{one}
use Rattle.answer.proofs.Answer.{no_nil}
use Rattle.cell.specs.declared.LoopType.{LoopType}
use Rattle.cell.specs.declared.LoopType.TheVariants.{Contractible, Corner, Diagonal, LowestCorner}
use Rattle.cell.specs.declared.Loop.{Loop}
use Rattle.cell.specs.Cell.{Edges, base, crossings, edge}
use Rattle.cell.specs.Loop.{loop_size, dart, in_grid, leasts}
use Rattle.cell.specs.Answer.{type_numbers, loop_numbers}
use Rattle.cell.specs.claims.Claims.{OneToOne, CellLaws, Separate, Ordered}
use Rattle.cell.proofs.Lay.{lay, lower_numbers}
use Rattle.cell.proofs.Mates.{ports, darts, laws}
use Rattle.cell.proofs.Loops.{the_loop, dart_live, size_le, size_two}
use Rattle.cell.proofs.Follow.{step_of, goes_on, along_most, along_once}
use Rattle.cell.proofs.Folds.{normal_ends}
use Rattle.counting.proofs.Kept.{kept_is, kept_rise, kept_all}
use Rattle.cell.proofs.Three.{three_normal, three_corner}

pub cell_laws : (w : Edges) (v : List ℕ) → CellLaws w v
unfolding dart leasts
cell_laws w v = record {
  lay = lay w;
  ports = ports w;
  darts = darts w;
  walks = laws w;
  longer = size_two w;
  shorter = size_le w;
  distinct = λ p i j l a b e. (laws w).distinct (2 * p) (loop_size w p) (the_loop w p l (omega arith)) i j a b e;
  follows = step_of w;
  goes = goes_on w;
  most = along_most w;
  exactly = λ all s x L. along_once w s x L (all s x L) all;
  normal_ends = normal_ends w;
  three_normal = three_normal w;
  three_corner = λ p l e. three_corner w p l e v;
  rising = kept_rise some (crossings w) 0;
  listed = λ i l. let K = kept_is some (crossings w) 0 i l in (omega (arith, K.high), ltb-true 0 (loop_size w (get_or (leasts w) i 0)) K.passes);
  all = λ p l h. kept_all some (crossings w) 0 p (omega arith) (omega arith) (lt-ltb 0 (loop_size w p) h);
}
  where
    some : ℕ → Bool
    some p = ltb 0 (loop_size w p)

-- where no crossing number belongs to two edges
module _ (w : Edges) (S : Separate w) where
  numbers : (x y : ℕ) → x < y → y < crossings w → in_grid w x < in_grid w y
  unfolding in_grid
  numbers x y h ly =
      let lx : x < crossings w = omega arith in
      let ix = (lay w).index_lt x lx in
      let iy = (lay w).index_lt y ly in
      elim (ℕ_discrete (edge w x) (edge w y)) [
        | yes e ↦ omega (arith, (lay w).back x lx, (lay w).back y ly, ap (base w) e, ap w.start e)
        | no n ↦ ⊎_elim
            (λ a. omega (arith, ix, lower_numbers w S (edge w x) (edge w y) ((lay w).edge_lt x lx) ((lay w).edge_lt y ly) n (omega (arith, ix)) (omega (arith, iy)) a))
            (λ r. absurd (n r.0)) ((lay w).later x y h ly)
      ]

  numbers_le : (x y : ℕ) → x ≤ y → y < crossings w → in_grid w x ≤ in_grid w y
  numbers_le x y h l = ⊎_elim (λ (e : x ≡ y). omega (arith, ap (in_grid w) e)) (λ (g : x < y). omega (arith, numbers x y g l)) (eq-or-lt_of_le h)

lowest : (w : Edges) (p k : ℕ) → p < crossings w → k < loop_size w p → p ≤ dart w p k / 2
unfolding dart loop_size
lowest w p k l h = omega (arith, ((laws w).found p l (omega arith)).1 (dart w p k / 2) (record { at = k; at_lt = h; is = refl }))

pub ordered : Ordered
ordered w S = record {
  numbers = numbers w S;
  least = λ p k l h. numbers_le w S p (dart w p k / 2) (lowest w p k l h) (omega (arith, dart_live w p l k h));
  ordered = λ i j l h. numbers w S (get_or (leasts w) i 0) (get_or (leasts w) j 0) ((cell_laws w []).rising i j l h) ((cell_laws w []).listed j h).0;
}

-- where the numbers of an edge are below those of each later one
pub rising_separate : (w : Edges) → ((j k : ℕ) → j < k → k < 6 → w.start j + w.count j ≤ w.start k) → Separate w
rising_separate w R j k t u lj lk lt lu e =
    elim (ℕ_discrete j k) [
      | yes q ↦ q
      | no n ↦ elim (dec_lt j k) [
        | yes h ↦ absurd (omega (arith, R j k h lk))
        | no h ↦ absurd (omega (arith, R k j (omega (arith, n)) lj))
      ]
    ]

-- the type with these numbers
type_with : List ℕ → LoopType
type_with l =
    pick (eqb (get_or l 0 0) 0) Contractible
    (pick (eqb (get_or l 0 0) 1) (Corner (get_or l 1 0))
    (pick (eqb (get_or l 0 0) 2) (Diagonal (get_or l 1 0))
    (LowestCorner (get_or l 1 0))))

type_back : (t : LoopType) → type_with (type_numbers t) ≡ t
unfolding type_with
type_back Contractible = refl
type_back (Corner v) = refl
type_back (Diagonal v) = refl
type_back (LowestCorner v) = refl

types : (s t : LoopType) → type_numbers s ≡ type_numbers t → s ≡ t
types s t q = sym (type_back s) ∙ ap type_with q ∙ type_back t

flags : (a b : Bool) → one a ≡ one b → a ≡ b
flags true true q = refl
flags true false q = absurd (omega arith)
flags false true q = absurd (omega arith)
flags false false q = refl

made : (p0 len : ℕ) → Bool → LoopType → Loop
made p0 len normal kind = record { p0 = p0; len = len; normal = normal; kind = kind }

loops : (k l : Option Loop) → loop_numbers k ≡ loop_numbers l → k ≡ l
unfolding made
loops (Some k) (Some l) e =
    let f : k.normal ≡ l.normal = flags k.normal l.normal (cc) in
    let g : k.kind ≡ l.kind = types k.kind l.kind (cc) in
    let h : made k.p0 k.len k.normal k.kind ≡ made l.p0 l.len l.normal l.kind = cc in
    ap Some h
loops (Some k) None e = absurd (no_nil {a = k.p0} {l = k.len ∷ one k.normal ∷ type_numbers k.kind} (cc))
loops None (Some k) e = absurd (no_nil {a = k.p0} {l = k.len ∷ one k.normal ∷ type_numbers k.kind} (cc))
loops None None e = refl

pub one_to_one : OneToOne
one_to_one = record { types = types; loops = loops }

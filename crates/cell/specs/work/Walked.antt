-- What the walks along a cell's loops are given, and what they leave.
use Rattle.std.specs.Prelude.{ℕ, ◌*◌, ◌≤◌, ◌<◌, ◌≡◌, Bool, ◌||◌, List, ltb, drop, get_or, length, take}
use Rattle.walk.specs.work.Marks.{Marks}
use Rattle.cell.specs.declared.Cell.{Cell}
use Rattle.cell.specs.declared.Dart.{Dart}
use Rattle.cell.specs.Cell.{Edges, crossings, edge, step}
use Rattle.cell.specs.Loop.{loop_size, normal}
use Rattle.cell.specs.Of.{edges_of}
use Rattle.cell.specs.work.Route.{Near, Routed}
use Rattle.cell.specs.work.Limits.{most_in_cell, few_count}
use Rattle.cell.specs.work.Dart.{IsDart, dart_of}
use Rattle.cell.specs.work.Scratch.{halves_from, points_from}
use Rattle.cell.specs.work.Table.{table_crossings}

-- crossing p of the cell whose routes are t is one of edge e
pub record Located (c : Cell) (t : List ℕ) (p e : ℕ) : Type 0 where
  pub routed : Routed c t
  pub inside : p < crossings (edges_of c)
  pub is : e ≡ edge (edges_of c) p

-- the first dart of crossing p
pub record Starts (w : Edges) (p : ℕ) (d : Dart) : Type 0 where
  pub dart : IsDart w d
  pub is : dart_of d ≡ 2 * p

-- marks that earlier walks left: each mark is the start of a walk that came there
abbrev pub Marked : Cell → List ℕ → Type 0
Marked c m = Marks (crossings (edges_of c)) (step (edges_of c)) m

-- a walk from p ends at crossing x without a loop: x is below p, or an earlier walk has been there
unfoldable pub is_met : (marks : List ℕ) (p x : ℕ) → Bool
is_met marks p x = ltb x p || ltb (get_or marks x 0) p

-- a list that has changed below place n at most
pub record Kept (n : ℕ) (before after : List ℕ) : Type 0 where
  pub long : length after ≡ length before
  pub back : drop n after ≡ drop n before

-- the arrays of the walks have n places or more
pub record Long (n : ℕ) (marks halves points : List ℕ) : Type 0 where
  pub marks_long : n ≤ length marks
  pub halves_long : n ≤ length halves
  pub points_long : n ≤ length points

-- no count is above the lesser limit
abbrev pub Few : List ℕ → Type 0
Few counts = (i : ℕ) → get_or counts i 0 ≤ few_count

-- the arrays have for each cell of the tables as many places as it has crossings
abbrev pub Spacious : (counts sides marks halves points : List ℕ) → Type 0
Spacious counts sides marks halves points = (c : ℕ) → Long (table_crossings counts sides c) marks halves points

-- these arrays before and after: all keep their lengths
pub record Sized (marks halves points marks' halves' points' : List ℕ) : Type 0 where
  pub marks_same : length marks' ≡ length marks
  pub halves_same : length halves' ≡ length halves
  pub points_same : length points' ≡ length points

-- and none has changed from place n on
pub record Used (n : ℕ) (marks halves points marks' halves' points' : List ℕ) : Type 0 where
  pub marks_kept : Kept n marks marks'
  pub halves_kept : Kept n halves halves'
  pub points_kept : Kept n points points'

-- what the walks from all crossings of the cell are given: starts within their limit, how many crossings these are, and room for so many
pub record Room (c : Cell) (n : ℕ) (marks halves points : List ℕ) : Type 0 where
  pub near : Near c
  pub all : n ≡ crossings (edges_of c)
  pub few : n ≤ most_in_cell
  pub long : Long n marks halves points

-- what the walk from p is given: the cell's routes, sound marks, and room for as many darts as the cell has crossings
pub record Lent (c : Cell) (routes : List ℕ) (n p : ℕ) (marks halves points : List ℕ) : Type 0 where
  pub routed : Routed c routes
  pub all : n ≡ crossings (edges_of c)
  pub inside : p < n
  pub marked : Marked c marks
  pub halves_long : n ≤ length halves
  pub points_long : n ≤ length points

-- what it leaves: the loop from p, of m darts, recorded in the first m places; where there is none, m is 0. It tells whether the loop is normal
pub record Walked (c : Cell) (n p : ℕ) (marks halves points : List ℕ) (m : ℕ) (b : Bool) (marks' halves' points' : List ℕ) : Type 0 where
  pub marked : Marked c marks'
  pub marks_kept : Kept n marks marks'
  pub halves_kept : Kept n halves halves'
  pub points_kept : Kept n points points'
  pub size : m ≡ loop_size (edges_of c) p
  pub told : b ≡ normal (edges_of c) p
  pub halves_are : take m halves' ≡ halves_from c p
  pub points_are : take m points' ≡ points_from c p

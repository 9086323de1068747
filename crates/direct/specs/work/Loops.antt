-- The loops that parts write, by the structs that they are handed.
use Rattle.std.specs.Prelude.{ℕ, Bool, List, []}
use Rattle.counting.specs.Pick.{pick}
use Rattle.cell.specs.declared.Cell.{Cell}
use Rattle.cell.specs.declared.Triangle.{Triangle}
use Rattle.direct.specs.declared.level.Threes.{Threes}
use Rattle.direct.specs.declared.level.Fours.{Fours}
use Rattle.direct.specs.declared.level.Nodes.{Nodes}
use Rattle.direct.specs.claims.Direct.{three, four, outwards, inwards, acrosses, rounds}
use Rattle.direct.specs.work.Rows.{in_row}
use Rattle.direct.specs.work.Laid.{ring_on, parting_on, quads_on}

module _ (c : Cell) where
  -- loop i of several along rows
  abbrev pub threes_in : Threes → ℕ → List Triangle
  threes_in t i = three c (in_row t.x i) (in_row t.y i) (in_row t.z i) t.s0 t.s1 t.s2

  abbrev pub fours_in : Fours → ℕ → List Triangle
  fours_in f i = four c (in_row f.x i) (in_row f.y i) (in_row f.z i) (in_row f.u i) f.s0 f.s1 f.s2 f.s3

  -- the loops round a node, outwards or inwards; the quads on the edge ac, over bc and over ad
  abbrev pub round_loops : Bool → Nodes → List Triangle
  round_loops up n = pick up (outwards c n.a n.b n.c n.d) (inwards c n.a n.b n.c n.d)

  abbrev pub across_loops : Nodes → List Triangle
  across_loops n = acrosses c n.a n.b n.c n.d

  abbrev pub rounds_loops : Nodes → List Triangle
  rounds_loops n = rounds c n.a n.b n.c n.d

  -- those that start on edge k
  abbrev pub ring_loops : ℕ → Bool → Nodes → List Triangle
  ring_loops k up n = ring_on c k up n.a n.b n.c n.d

  abbrev pub started_loops : ℕ → Bool → Nodes → List Triangle
  started_loops k over n = parting_on c k over n.a n.b n.c n.d

  -- all quads on edge k, where they are asked for
  abbrev pub middle_loops : Bool → ℕ → Nodes → List Triangle
  middle_loops quads k n = pick quads (quads_on c k n.a n.b n.c n.d) []

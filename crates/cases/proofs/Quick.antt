-- The loops and the triangles of a cell worked out by lists that are made once for it: of its counts, of where its edges are
-- laid, of the edges of its crossings, of the steps of its darts and of the lengths of its loops. By the definitions alone each of these is worked
-- out again wherever it is met, which takes more steps over all entries than the checker allows.
use Prim.Native.Nat.{ℕ, ◌+◌, ◌-◌, ◌*◌, ◌/◌, ◌%◌, ◌^◌}
use mathlib.Core.Bool.{Bool}
use mathlib.Core.List.{List, [], ◌∷◌}
use lib.Dec.{eqb, ltb}
use lib.ListN.{get_or}
use Rattle.counting.specs.Pick.{pick}
use Rattle.counting.specs.Lists.{total, values, tally}
use Rattle.slots.specs.Slots.{slot_edge, edge_rank, first_slot, second_slot}
use Rattle.face.specs.Face.{face_join}
use Rattle.walk.specs.Walk.{orbit}
use Rattle.walk.specs.Step as walks
use Rattle.walk.specs.Walk as walk
use Rattle.manifold.specs.Shape.{shape_of, many_of}
use Rattle.cell.specs.Cell.{Edges, crossings, base, edge}
use Rattle.cell.specs.Level.{by_edge}
use Rattle.cases.specs.Answer.{lone_edges}

-- the step of a dart, as `cell` defines it, with N crossings and the lists of counts, of what is laid before each edge, and of the crossings' edges
module _ (N : ℕ) (counts bases edges : List ℕ) where
  unfoldable pub join_on : ℕ → ℕ → List ℕ
  join_on s x =
      face_join (get_or counts (slot_edge s 0) 0) (get_or counts (slot_edge s 1) 0) (get_or counts (slot_edge s 2) 0)
      (edge_rank s (get_or edges x 0)) (x - get_or bases (get_or edges x 0) 0)

  unfoldable pub joined_on : ℕ → List ℕ → ℕ
  joined_on s a = pick (eqb (get_or a 0 0) 0) (get_or bases (slot_edge s (get_or a 1 0)) 0 + get_or a 2 0) N

  unfoldable pub mate_on : ℕ → ℕ → ℕ
  mate_on s x = joined_on s (join_on s x)

  unfoldable pub step_on : ℕ → ℕ
  step_on = walks.step N (λ x. first_slot (get_or edges x 0)) (λ x. second_slot (get_or edges x 0)) mate_on

-- with the list of the steps: the lengths of the loops, by crossing
module _ (N : ℕ) (edges steps : List ℕ) where
  abbrev pub next : ℕ → ℕ
  next d = get_or steps d 0

  unfoldable pub sizes_on : List ℕ
  sizes_on = values (walk.size N next) N

  unfoldable pub normal_on : ℕ → ℕ → Bool
  normal_on p n = eqb (tally (λ d. eqb (get_or edges (d / 2) 0) (get_or edges (next d / 2) 0)) (orbit next n (2 * p))) 0

  -- with their list: how many loops there are, and how many triangles
  unfoldable pub counts_on : List ℕ → List ℕ
  counts_on l = tally (ltb 0) l ∷ total (λ p. many_of (shape_of (get_or l p 0) (normal_on p (get_or l p 0))) (get_or l p 0)) N 0 ∷ []

  unfoldable pub both_on : List ℕ
  both_on = counts_on sizes_on

unfoldable pub both_by : ℕ → List ℕ → List ℕ → List ℕ → List ℕ
both_by N counts bases edges = both_on N edges (values (step_on N counts bases edges) (2 * N))

unfoldable pub both : Edges → List ℕ
both w = both_by (crossings w) (values w.count 6) (values (base w) 6) (values (edge w) (crossings w))

-- digit k of entry n, and the cell with these counts
unfoldable pub digit : ℕ → ℕ → ℕ
digit n k = n / 3 ^ (5 - k) % 3

unfoldable pub both_for : List ℕ → List ℕ
both_for l = both (lone_edges (by_edge l))

unfoldable pub entry_at : ℕ → List ℕ
entry_at n = both_for (values (digit n) 6)

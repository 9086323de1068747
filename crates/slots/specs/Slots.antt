-- A cell's nodes stand at the positions 0 to 3. Its six edges are 01, 02, 03, 12, 13, 23; its slot s (01) is the face that omits position s.
-- The one table here is that of the edges' ends. All else is found from it.
use Rattle.std.specs.Prelude.{ℕ, suc, ◌-◌, Bool, not, ◌&&◌, [], ◌∷◌, eqb, ltb, get_or}
use Rattle.counting.specs.Pick.{pick}
use Rattle.counting.specs.Search.{first, last}

-- the positions that edge k joins, the lower first
unfoldable pub lo : ℕ → ℕ
lo k = get_or (0 ∷ 0 ∷ 0 ∷ 1 ∷ 1 ∷ 2 ∷ []) k 0

unfoldable pub hi : ℕ → ℕ
hi k = get_or (1 ∷ 2 ∷ 3 ∷ 2 ∷ 3 ∷ 3 ∷ []) k 0

-- the i-th position, of three, of slot s
unfoldable pub position : ℕ → ℕ → ℕ
position s i = pick (ltb i s) i (suc i)

-- a face's nodes a < b < c are 0, 1, 2, and its edges ab, ac, bc are 0, 1, 2: the ends of edge j
unfoldable pub lower : ℕ → ℕ
lower j = pick (eqb j 2) 1 0

unfoldable pub upper : ℕ → ℕ
upper j = pick (eqb j 0) 1 2

-- the edge that joins the positions a and b
unfoldable pub edge_between : ℕ → ℕ → ℕ
unfolding first lo hi
edge_between a b = first (λ k. eqb (lo k) a && eqb (hi k) b) 6

-- the edge of the cell that is edge j, ab ac bc, of slot s
unfoldable pub slot_edge : ℕ → ℕ → ℕ
unfolding edge_between position lower upper
slot_edge s j = edge_between (position s (lower j)) (position s (upper j))

-- which edge, ab ac bc, of slot s the edge k is
unfoldable pub edge_rank : ℕ → ℕ → ℕ
unfolding first slot_edge
edge_rank s k = first (λ j. eqb (slot_edge s j) k) 3

-- slot s contains edge k: it omits neither end
unfoldable pub contains : ℕ → ℕ → Bool
unfolding lo hi
contains k s = not (eqb s (lo k)) && not (eqb s (hi k))

-- the two slots that contain edge k. The first is the face whose third node is lower: the one that omits the higher of the two other positions
unfoldable pub first_slot : ℕ → ℕ
unfolding last contains
first_slot k = last (contains k) 4 - 1

unfoldable pub second_slot : ℕ → ℕ
unfolding first contains
second_slot k = first (contains k) 4

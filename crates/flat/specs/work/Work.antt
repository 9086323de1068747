-- What the functions of this crate ask of each other.
use Rattle.std.specs.Prelude.{ℕ, ◌*◌, ◌+◌, ◌-◌, ◌/◌, ◌%◌, ◌≤◌, ◌<◌, ◌≡◌, ◌⊎◌, ◌≢◌, Bool, false, true, not, ◌&&◌, List, [], ◌∷◌, eqb, ltb, leb, drop, get_or, length, replicate, Option, Some, None}
use Rattle.flat.specs.FlatGrid.{most_flat_triangles, FlatGrid, edge_number, node, triangles_in}
use Rattle.counting.specs.Pick.{pick}
use Rattle.counting.specs.Lists.{one, values, it}
use Rattle.counting.specs.Search.{first, last}
use Rattle.counting.specs.Pack.{row, col}
use Rattle.counting.specs.Stored.{stored_in}
use Rattle.slots.specs.Slots.{lower, upper}
use Rattle.face.specs.work.Corners.{corners}
use Rattle.face.specs.Face.{joined_by, other}
use Rattle.answer.specs.Answer.{result_of}
use Rattle.answer.specs.Rows.{answer_of}
use Rattle.answer.specs.work.Faults.{since}
use Rattle.grid.specs.Grid.{count_of, crossing, crossings, start}
use Rattle.slots.specs.Limits.{highest_node, most_crossings}
use Rattle.counting.specs.work.Tables.{Table, same_key}
use Rattle.grid.specs.work.Work.{found_at}
use Rattle.grid.specs.work.Shared.{join}
use Rattle.walk.specs.Darts.{half, rev, On}
use Rattle.flat.specs.Rows.{bad_pairs, rows}
use Rattle.flat.specs.Answer.{words_answer}
use Rattle.flat.specs.Chains.{chains_words}
use Rattle.flat.specs.Join.{rule_two, largest_edge, lessened, flat_corner_at, flat_join}
use Rattle.flat.specs.declared.guides.Guide.{Guide}
use Rattle.flat.specs.declared.guides.Lane.{Lane}
use Rattle.flat.specs.declared.walks.Chain.{Chain}
use Rattle.flat.specs.Chain.{closes, chain_size, chain_start}

-- the most edges that the triangles of a flat grid have, each counted in each triangle
abbrev pub most_sides : ℕ
most_sides = 3 * most_flat_triangles

-- SEGMENTS: rule 2 is rule 1 over the lessened counts, with the crossing that is left taken out

-- the edge whose count is lessened; 3 where none is
unfoldable pub lessened_edge : ℕ → ℕ → ℕ → ℕ
lessened_edge ab ac bc = pick (rule_two ab ac bc) (largest_edge ab ac bc) 3

-- crossing t of that edge, with its crossing g taken out before it
unfoldable pub squeezed : (g t : ℕ) → ℕ
squeezed g t = t - one (ltb g t)

-- crossing u of edge e, with crossing g of edge m put back before it; and an answer
unfoldable pub stretched_to : (m g e u : ℕ) → ℕ
stretched_to m g e u = u + one (eqb e m && leb g u)

unfoldable pub stretched : (m g : ℕ) → List ℕ → List ℕ
stretched m g a = pick (eqb (get_or a 0 0) 0) (joined_by (get_or a 1 0) (stretched_to m g (get_or a 1 0) (get_or a 2 0)) (drop 3 a)) a

-- rule 2 lessens the count of edge m
pub record LessenedAt (ab ac bc m : ℕ) : Type 0 where
  pub is : m ≡ lessened_edge ab ac bc
  pub edge : m < 3

-- TRIANGLES: their nodes and the ends of their edges packed into keys, so that equal keys are equal nodes

unfoldable pub triangle_key : List ℕ → ℕ → ℕ
triangle_key triangles f = join (join (node triangles f 0) (node triangles f 1)) (node triangles f 2)

-- of edge k of triangle f, at 3 f + k
unfoldable pub side_key : List ℕ → ℕ → ℕ
side_key triangles j = join (node triangles (j / 3) (lower (j % 3))) (node triangles (j / 3) (upper (j % 3)))

-- what rows 1 and 3 leave of the triangles
pub record RisingTriangles (triangles : List ℕ) : Type 0 where
  pub small : (i : ℕ) → get_or triangles i 0 < 65536
  pub few : triangles_in triangles ≤ most_flat_triangles
  pub nodes : (f i : ℕ) → f < triangles_in triangles → i < 3 → node triangles f i ≤ highest_node
  pub rising : (f i : ℕ) → f < triangles_in triangles → i < 2 → node triangles f i < node triangles f (i + 1)

-- place j has an earlier one with its key in the table of earlier places, and that has one too
unfoldable pub twice : List ℕ → ℕ → Bool
twice prev j = pick (eqb (get_or prev j 0) 0) false (not (eqb (get_or prev (get_or prev j 0 - 1) 0) 0))

-- THE WHOLE

-- the number of edge k of triangle f, at 3 f + k
abbrev pub side_at : FlatGrid → ℕ → ℕ
side_at G j = edge_number G (j / 3) (j % 3)

abbrev pub SidesKnown : FlatGrid → List ℕ → Type 0
SidesKnown G sides = Table (side_at G) (3 * triangles_in G.triangles) sides

-- the answer of the rows from number n on
unfoldable pub answer_from : ℕ → FlatGrid → List ℕ
answer_from n G = answer_of (since n (rows G)) (result_of (crossings G.counts ∷ []))

-- what rows 1 and 2 leave, and an empty table of the edges' numbers
pub record PastRow2 (G : FlatGrid) (sides : List ℕ) : Type 0 where
  pub few : triangles_in G.triangles ≤ most_flat_triangles
  pub pairs : bad_pairs G.edges G.counts ≡ false
  pub small : (i : ℕ) → get_or G.edges i 0 < 65536
  pub blank : sides ≡ replicate most_sides 0

-- the same after row 3
pub record PastRow3 (G : FlatGrid) (sides : List ℕ) : Type 0 where
  pub rising : RisingTriangles G.triangles
  pub pairs : bad_pairs G.edges G.counts ≡ false
  pub small : (i : ℕ) → get_or G.edges i 0 < 65536
  pub blank : sides ≡ replicate most_sides 0

-- STEPS: the step from dart to dart, from the counts and the numbers of the triangles' edges at n places

-- one more than the first place with edge e; 0 where there is none
unfoldable pub first_port : List ℕ → ℕ → ℕ → ℕ
first_port sides n e = found_at n (first (same_key sides e) n)

-- one more than the last place with edge e, if that is another; else 0
unfoldable pub second_port : List ℕ → ℕ → ℕ → ℕ
second_port sides n e = pick (eqb (last (same_key sides e) n) (first_port sides n e)) 0 (last (same_key sides e) n)

-- the first of edge e at 2 e, the second at 2 e + 1
unfoldable pub port_at : List ℕ → ℕ → ℕ → ℕ
port_at sides n i = pick (eqb (i % 2) 0) (first_port sides n (i / 2)) (second_port sides n (i / 2))

-- the count of the edge at place j
abbrev pub count_at_place : List ℕ → List ℕ → ℕ → ℕ
count_at_place counts sides j = count_of counts (get_or sides j 0)

-- the corner counts of the triangle whose first place is b
abbrev pub corners_at : List ℕ → List ℕ → ℕ → List ℕ
corners_at counts sides b =
    corners (lessened (count_at_place counts sides b) (count_at_place counts sides (b + 1)) (count_at_place counts sides (b + 2)) 0)
    (lessened (count_at_place counts sides b) (count_at_place counts sides (b + 1)) (count_at_place counts sides (b + 2)) 1)
    (lessened (count_at_place counts sides b) (count_at_place counts sides (b + 1)) (count_at_place counts sides (b + 2)) 2)

-- the dart that the k-th crossing of a lane leads to
unfoldable pub lane_step : Lane → ℕ → ℕ
lane_step l k = pick l.down (l.from - 2 * (k + 1)) (l.from + 2 * k)

-- its numbers are small, and it ends above 0
pub record LaneFits (l : Lane) : Type 0 where
  pub few : l.size < 65536
  pub near : l.from < 131072
  pub ends : l.down ≡ true → 2 * l.size ≤ l.from

-- the dart that crossing t of a guide leads to: round a corner; or, between the corners, up where an even number is left to the upper one, else down, but
-- none at the first. All is as in `flat_join`
unfoldable pub guide_step : Guide → (darts t : ℕ) → ℕ
guide_step g darts t =
    pick (leb g.count t) darts
    (pick (ltb t g.low.size) (lane_step g.low t)
    (pick (leb (g.count - g.high.size) t) (lane_step g.high (g.count - 1 - t))
    (pick (eqb ((g.count - g.high.size - t) % 2) 0) (g.own + 2 * (t + 1))
    (pick (eqb t g.low.size) darts (g.own + 2 * (t - 1))))))

pub record GuideFits (g : Guide) : Type 0 where
  pub low : LaneFits g.low
  pub high : LaneFits g.high
  pub few : g.count < 65536
  pub upper : g.high.size ≤ g.count
  pub near : g.own < 131072

module _ (counts sides : List ℕ) (n : ℕ) where
  -- the dart that goes on from crossing t of the edge at place j, come to by the triangle of that place
  unfoldable pub land_at : ℕ → ℕ → ℕ
  land_at j t = 2 * crossing counts (get_or sides j 0) t + one (eqb (first_port sides n (get_or sides j 0)) (j + 1))

  -- the dart that such an answer in the triangle whose first place is b leads to; no dart where it is not joined
  unfoldable pub arrive_by : ℕ → List ℕ → ℕ
  arrive_by b a = pick (eqb (get_or a 0 0) 0) (land_at (b + get_or a 1 0) (get_or a 2 0)) (2 * crossings counts)

  -- the dart after crossing t of the edge at place j, left by the triangle of that place
  unfoldable pub leave_by : ℕ → ℕ → ℕ
  leave_by j t =
      arrive_by (3 * (j / 3))
      (flat_join (count_at_place counts sides (3 * (j / 3))) (count_at_place counts sides (3 * (j / 3) + 1)) (count_at_place counts sides (3 * (j / 3) + 2)) (j % 3) t)

  -- the same by a port, that is by one more than the place; no dart where there is no triangle
  unfoldable pub port_step : ℕ → ℕ → ℕ
  port_step q t = pick (eqb q 0) (2 * crossings counts) (leave_by (q - 1) t)

  -- the lane of edge e of that triangle, at its end w
  pub record LaneOf (b w e : ℕ) (l : Lane) : Type 0 where
    pub size_is : l.size ≡ flat_corner_at (count_at_place counts sides b) (count_at_place counts sides (b + 1)) (count_at_place counts sides (b + 2)) w e
    pub down_is : l.down ≡ not (eqb w (lower (other w e)))
    pub from_is : l.from ≡ land_at (b + other w e) (pick l.down (count_at_place counts sides (b + other w e)) 0)
    pub fits : LaneFits l

  -- a guide of the edge at place j, in the triangle of that place; and by a port
  pub record Guides (j : ℕ) (g : Guide) : Type 0 where
    pub fits : GuideFits g
    pub steps : (t : ℕ) → guide_step g (2 * crossings counts) t ≡ leave_by j t

  pub record PortGuides (q : ℕ) (g : Guide) : Type 0 where
    pub fits : GuideFits g
    pub steps : (t : ℕ) → guide_step g (2 * crossings counts) t ≡ port_step q t

  -- the dart after dart d
  unfoldable pub dart_step : ℕ → ℕ
  dart_step d =
      port_step (port_at sides n (2 * row (count_of counts) (length counts) (d / 2) + d % 2)) (col (count_of counts) (length counts) (d / 2))

  -- n places of triangles, each with an edge
  pub record Sides : Type 0 where
    pub few : n ≤ most_sides
    pub thirds : n % 3 ≡ 0
    pub room : n ≤ length sides
    pub listed : (j : ℕ) → j < n → get_or sides j 0 < length counts
    pub few_edges : length counts ≤ most_sides
    pub few_crossings : crossings counts ≤ most_crossings

  -- and the tables of ports and of first crossings
  pub record Tabled (ports starts : List ℕ) : Type 0 where
    pub places : Sides
    pub ported : Table (port_at sides n) (2 * length counts) ports
    pub started : Table (start counts) (length counts) starts

-- what `put_ports` starts from
pub record Porting (sides : List ℕ) (n : ℕ) (ports : List ℕ) : Type 0 where
  pub few : n ≤ most_sides
  pub room : n ≤ length sides
  pub within : (j : ℕ) → j < n → 2 * get_or sides j 0 + 1 < length ports
  pub small : length ports ≤ 2 * most_sides
  pub blank : (i : ℕ) → get_or ports i 0 ≡ 0

-- WALKS over a table of the step

-- the dart after d in the table, of 2 N; no dart where d is none
unfoldable pub step_in : ℕ → List ℕ → ℕ → ℕ
step_in N next d = pick (ltb d (2 * N)) (get_or next d 0) (2 * N)

-- the table is one of a step that is undone by turning round, and never comes back to its crossing
pub record StepTable (N : ℕ) (next : List ℕ) : Type 0 where
  pub few : N ≤ most_crossings
  pub whole : length next ≡ 2 * N
  pub back : (d : ℕ) → d < 2 * N → step_in N next d < 2 * N → step_in N next (rev (step_in N next d)) ≡ rev d
  pub apart : (d : ℕ) → d < 2 * N → step_in N next d ≢ rev d

module _ (N : ℕ) (s : ℕ → ℕ) where
  -- k steps lead from d to e, never back to d; the next does, or there is none
  pub record Ran (d k e : ℕ) : Type 0 where
    pub live : (i : ℕ) → i ≤ k → it s i d < 2 * N
    pub is : it s k d ≡ e
    pub away : (i : ℕ) → 0 < i → i ≤ k → it s i d ≢ d
    pub stops : (s e ≡ d) ⊎ (2 * N ≤ s e)

  -- crossing x is in the chain of p
  abbrev pub InChain : ℕ → ℕ → Type 0
  InChain p x = On s half (chain_start N s p) (chain_size N s p) x

  -- crossing p is in no chain with a lower least crossing
  abbrev pub Fresh : ℕ → Type 0
  Fresh p = (q : ℕ) → q < p → InChain q p → ⊥

  -- the marks tell the crossings in the chains whose least crossing is below p
  pub record Swept (p : ℕ) (marks : List ℕ) : Type 0 where
    pub room : N ≤ length marks
    pub hit : (q x : ℕ) → q < p → x < N → InChain q x → get_or marks x 0 ≡ 1
    pub only : (x : ℕ) → x < N → (get_or marks x 0 ≡ 0) ⊎ ((q : ℕ) × (q < p) × InChain q x)

  -- the chain of p
  pub record ChainOf (p : ℕ) (c : Chain) : Type 0 where
    pub some : 0 < chain_size N s p
    pub size_is : c.size ≡ chain_size N s p
    pub start_is : c.start ≡ chain_start N s p
    pub closed_is : c.closed ≡ closes N s p

  -- it is found, or there is none
  abbrev pub Finds : ℕ → Option Chain → Type 0
  Finds p None = chain_size N s p ≡ 0
  Finds p (Some c) = ChainOf p c

  -- its words
  unfoldable pub words_by : Chain → List ℕ
  words_by c = one c.closed ∷ c.size ∷ values (λ i. half (it s i c.start)) c.size

  -- size darts from start on
  abbrev pub DartsFrom : ℕ → ℕ → Type 0
  DartsFrom start size = (i : ℕ) → i < size → it s i start < 2 * N

  -- the crossings of size darts from start on are marked, and no other
  pub record MarkedOn (start size : ℕ) (was marks : List ℕ) : Type 0 where
    pub same : length marks ≡ length was
    pub hit : (x : ℕ) → x < N → On s half start size x → get_or marks x 0 ≡ 1
    pub kept : (x : ℕ) → get_or was x 0 ≡ 1 → get_or marks x 0 ≡ 1
    pub only : (x : ℕ) → x < N → (get_or marks x 0 ≡ get_or was x 0) ⊎ On s half start size x

-- the start of a curve with ends, walked both ways from a crossing: to dart a, and to dart b
unfoldable pub start_by : ℕ → ℕ → ℕ
start_by a b = pick (ltb (half a) (half b)) (rev a) (rev b)

-- what is answered and written for a flat grid that is accepted
pub record TracedIn (G : FlatGrid) (before after answer : List ℕ) : Type 0 where
  pub answered : answer ≡ words_answer (length (chains_words G)) (length before)
  pub area : after ≡ stored_in before 0 (chains_words G)

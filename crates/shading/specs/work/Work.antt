-- Labels of nodes that edges bind together, and the links by which the call finds the parts.
use Rattle.std.specs.Prelude.{ℕ, ◌+◌, ◌*◌, ◌/◌, ◌%◌, ◌≤◌, ◌<◌, ◌≡◌, ◌≢◌, Bool, true, false, List, [], eqb, length, get_or, replicate}
use Rattle.answer.specs.Answer.{result_of, is_result}
use Rattle.answer.specs.Rows.{answer_of}
use Rattle.counting.specs.Pick.{pick}
use Rattle.counting.specs.Stored.{filled}
use Rattle.grid.specs.Grid.{Grid, cell_count, has_node, low, high, count_of}
use Rattle.slots.specs.Limits.{highest_node}
use Rattle.shading.specs.Marks.{most_nodes, unused_byte, side_bytes}
use Rattle.shading.specs.Answer.{shading_rows}

-- a label, or a mark, as seen across an edge with this count: its last bit is changed where the count is odd
abbrev pub across : ℕ → ℕ → ℕ
across count h = 2 * (h / 2) + (h + count) % 2

-- the labels of the ends of each of the first n edges are each other's, as seen across it
abbrev pub Agrees : (edges counts : List ℕ) (n : ℕ) (h : ℕ → ℕ) → Type 0
Agrees edges counts n h = (e : ℕ) → e < n → h (low edges e) ≡ across (count_of counts e) (h (high edges e))

-- A node's link is 2 · parent + side: the side is 0 where it is on its parent's side. A node of no cell has this instead.
abbrev pub no_link : ℕ
no_link = 65535

abbrev pub HasLink : List ℕ → ℕ → Type 0
HasLink links x = (x < most_nodes) × (get_or links x 0 ≢ no_link)

-- a parent is a node, no higher than its children; one that is its own parent is a root
pub record Forest (links : List ℕ) : Type 0 where
  pub long : length links ≡ most_nodes
  pub has : (x : ℕ) → HasLink links x → HasLink links (get_or links x 0 / 2)
  pub low_parent : (x : ℕ) → HasLink links x → get_or links x 0 / 2 ≤ x
  pub root : (x : ℕ) → HasLink links x → get_or links x 0 / 2 ≡ x → get_or links x 0 ≡ 2 * x

-- labels fit the links: each is the parent's, as the link says
abbrev pub Fits : (links : List ℕ) (h : ℕ → ℕ) → Type 0
Fits links h = (x : ℕ) → HasLink links x → h x ≡ across (get_or links x 0) (h (get_or links x 0 / 2))

-- the same nodes are linked
pub record SameNodes (links links' : List ℕ) : Type 0 where
  pub kept : (x : ℕ) → HasLink links x → HasLink links' x
  pub free : (x : ℕ) → x < most_nodes → get_or links x 0 ≡ no_link → get_or links' x 0 ≡ no_link

-- links to other parents, with the same roots, that the same labels fit
pub record Halved (links links' : List ℕ) : Type 0 where
  pub forest : Forest links'
  pub nodes : SameNodes links links'
  pub roots : (x : ℕ) → HasLink links x → get_or links x 0 ≡ 2 * x → get_or links' x 0 ≡ 2 * x
  pub fits : (h : ℕ → ℕ) → Fits links h → Fits links' h
  pub back : (h : ℕ → ℕ) → Fits links' h → Fits links h

-- what `halve` starts from: a node that is no root
pub record Halvable (links : List ℕ) (y : ℕ) : Type 0 where
  pub forest : Forest links
  pub linked : HasLink links y
  pub child : get_or links y 0 / 2 ≢ y

-- r is the new link of y
pub record HalvedAt (links : List ℕ) (y : ℕ) (links' : List ℕ) (r : ℕ) : Type 0 where
  pub halved : Halved links links'
  pub is : r ≡ get_or links' y 0
  pub lower : r / 2 < y

-- what `find` starts from
pub record Rooted (links : List ℕ) (x : ℕ) : Type 0 where
  pub forest : Forest links
  pub linked : HasLink links x

-- r is 2 · root + side
pub record Found (links : List ℕ) (x : ℕ) (links' : List ℕ) (r : ℕ) : Type 0 where
  pub halved : Halved links links'
  pub linked : HasLink links' (r / 2)
  pub root : get_or links' (r / 2) 0 ≡ 2 * (r / 2)
  pub way : (h : ℕ → ℕ) → Fits links' h → h x ≡ across r (h (r / 2))

-- what `unite` starts from
pub record Unitable (links : List ℕ) (u v : ℕ) : Type 0 where
  pub forest : Forest links
  pub low_linked : HasLink links u
  pub high_linked : HasLink links v

-- the labels that fit are those that did and that agree with one more edge
pub record Tied (links : List ℕ) (u v count : ℕ) (links' : List ℕ) : Type 0 where
  pub forest : Forest links'
  pub nodes : SameNodes links links'
  pub fits : (h : ℕ → ℕ) → Fits links h → h u ≡ across count (h v) → Fits links' h
  pub back : (h : ℕ → ℕ) → Fits links' h → Fits links h × (h u ≡ across count (h v))

-- true where the edge can be tied; false where no label that fits agrees with it
pub record United (links : List ℕ) (u v count : ℕ) (links' : List ℕ) (r : Bool) : Type 0 where
  pub tied : r ≡ true → Tied links u v count links'
  pub none : r ≡ false → (h : ℕ → ℕ) → Fits links h → h u ≡ across count (h v) → ⊥

-- what `unite_all` starts from: links that all labels fit
pub record AllUnitable (edges counts links : List ℕ) : Type 0 where
  pub pairs : length edges ≡ 2 * length counts
  pub forest : Forest links
  pub fits : (h : ℕ → ℕ) → Fits links h
  pub low_linked : (e : ℕ) → e < length counts → HasLink links (low edges e)
  pub high_linked : (e : ℕ) → e < length counts → HasLink links (high edges e)

-- the labels that fit are those that agree with the first n edges
pub record TiedAll (edges counts links : List ℕ) (n : ℕ) (links' : List ℕ) : Type 0 where
  pub forest : Forest links'
  pub nodes : SameNodes links links'
  pub fits : (h : ℕ → ℕ) → Agrees edges counts n h → Fits links' h
  pub back : (h : ℕ → ℕ) → Fits links' h → Agrees edges counts n h

pub record UnitedAll (edges counts links links' : List ℕ) (r : Bool) : Type 0 where
  pub tied : r ≡ true → TiedAll edges counts links (length counts) links'
  pub none : r ≡ false → (h : ℕ → ℕ) → Agrees edges counts (length counts) h → ⊥

-- what `make_roots` starts from, and what it leaves: each node of a cell is a root
pub record Rootable (cells links : List ℕ) : Type 0 where
  pub fours : length cells ≡ 4 * cell_count cells
  pub nodes : (j : ℕ) → j < length cells → get_or cells j 0 ≤ highest_node
  pub blank : links ≡ replicate most_nodes no_link

pub record Roots (cells links : List ℕ) : Type 0 where
  pub long : length links ≡ most_nodes
  pub at : (x : ℕ) → x < most_nodes → get_or links x 0 ≡ pick (has_node cells x) (2 * x) no_link

-- what `byte_of` and `write_sides` start from
pub record Writable (links area : List ℕ) : Type 0 where
  pub forest : Forest links
  pub room : length area ≡ most_nodes

-- the byte of node x, by its link and its parent's byte: 255 for a node of no cell, 0 for a root
unfoldable pub byte_by : (links area : List ℕ) → ℕ → ℕ
byte_by links area x =
    pick (eqb (get_or links x 0) no_link) unused_byte
    (pick (eqb (get_or links x 0 / 2) x) 0 ((get_or area (get_or links x 0 / 2) 0 + get_or links x 0) % 2))

-- f gives each node its byte so
pub record BytesBy (links : List ℕ) (f : ℕ → ℕ) : Type 0 where
  pub free : (x : ℕ) → x < most_nodes → get_or links x 0 ≡ no_link → f x ≡ unused_byte
  pub root : (x : ℕ) → HasLink links x → get_or links x 0 / 2 ≡ x → f x ≡ 0
  pub child : (x : ℕ) → HasLink links x → f x ≡ (f (get_or links x 0 / 2) + get_or links x 0) % 2

pub record Sided (links before after : List ℕ) : Type 0 where
  pub area : (f : ℕ → ℕ) → BytesBy links f → after ≡ filled f most_nodes before

-- what the call does for an accepted grid
pub record ShadedIn (G : Grid) (before after answer : List ℕ) : Type 0 where
  pub answered : answer ≡ answer_of (shading_rows G (length before)) (result_of [])
  pub area : after ≡ pick (is_result answer) (side_bytes G) before

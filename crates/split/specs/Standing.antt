-- Where what is drawn of a split cell stands (02, W12): its parts with the places of their nodes, its inner crossings, and the middles of its fans.
use Rattle.std.specs.Prelude.{ℕ, zero, suc, ◌+◌, ◌*◌, true, false, List, [], ◌∷◌, ◌++◌, get_or, Float}
use Rattle.std.specs.Float.{nan}
use Rattle.counting.specs.Pick.{pick}
use Rattle.counting.specs.Lists.{over, values, gather}
use Rattle.slots.specs.Slots.{position}
use Rattle.place.specs.declared.Place.{Place}
use Rattle.place.specs.Place.{part_of, between, middle}
use Rattle.cell.specs.declared.Cell.{Cell}
use Rattle.cell.specs.Cell.{crossings}
use Rattle.cell.specs.Of.{count_of, edges_of}
use Rattle.cell.specs.Middles.{is_fan, corner_place}
use Rattle.booking.specs.Booking.{larger, smaller, is_spiral, is_split}
use Rattle.split.specs.Limits.{first_inner_crossing, first_inner_face, word_step}
use Rattle.split.specs.Labels.{labelled, spoke}
use Rattle.split.specs.SubCell.{sub}
use Rattle.split.specs.Parts.{Part, whole, corners, splits_within}

-- the places of four nodes are listed by position: that of the node at position p
abbrev pub nowhere : Place
nowhere = record { x = nan; y = nan; z = nan }

abbrev pub corner_in : List Place → ℕ → Place
corner_in at p = get_or at p nowhere

-- those of a cell's nodes, from the list of all nodes' places
abbrev pub corners_of : (nodes : List Float) → Cell → List Place
corners_of nodes c = values (corner_place nodes c) 4

-- A split of a cell or sub-cell with the counts w, whose nodes are at `at`
module _ (w : ℕ → ℕ) (at : List Place) where
  -- the new node a: the mean of the four places, added up in the order of labels
  unfoldable pub new_place : Place
  new_place = middle (λ n. corner_in at (labelled w n)) 4

  -- the nodes of the sub-cell that omits the node with the label m: a, and then those that it keeps
  unfoldable pub sub_places : ℕ → List Place
  sub_places m =
      new_place ∷ corner_in at (position (labelled w m) 0) ∷ corner_in at (position (labelled w m) 1) ∷ corner_in at (position (labelled w m) 2) ∷ []

  -- inner crossing h of the new edge to the node with the label n: its fraction from a is (h + 1) / (e + 1), where e is the count of the edge
  unfoldable pub arm_place : (n h : ℕ) → Place
  arm_place n h = between new_place (corner_in at (labelled w n)) (part_of h (spoke w n))

  unfoldable pub arm_places : ℕ → List Place
  arm_places n = values (arm_place n) (spoke w n)

  -- the inner crossings in the order of their numbers: edge by edge in the order of labels, each edge from a on
  unfoldable pub split_places : List Place
  split_places = over arm_places 4 0

-- a part, and the places of its nodes
pub record Standing : Type 0 where
  pub part : Part
  pub at : List Place

abbrev pub stand : List Place → Part → Standing
stand at p = record { part = p; at = at }

-- the parts in order of working, as `parts` lists them (`StandingParts` below), of a cell or sub-cell whose nodes are at `at`
unfoldable pub standing : (fuel cell n b f : ℕ) → List Place → Cell → List Standing
standing zero cell n b f at c = stand at (whole c) ∷ []
standing (suc fuel) cell n b f at c =
    elim (is_spiral (count_of c)) [
      | false ↦ stand at (whole c) ∷ []
      | true ↦
          stand at (corners c)
          ∷ stand (sub_places (count_of c) at 3) (whole (sub c b f (cell + word_step * (n + 1)) 3))
          ∷ (standing fuel cell (n + 2) (b + 2 * (larger (count_of c) + smaller (count_of c))) (f + 6) (sub_places (count_of c) at 2) (sub c b f (cell + word_step * (n + 2)) 2)
          ++ (stand (sub_places (count_of c) at 1) (whole (sub c b f (cell + word_step * (n + 3 + 4 * splits_within (count_of c))) 1))
          ∷ stand (sub_places (count_of c) at 0) (whole (sub c b f (cell + word_step * (n + 4 + 4 * splits_within (count_of c))) 0))
          ∷ []))
    ]

-- a part that is split again has the inner crossings of its split
abbrev pub inner_at : List Place → Part → List Place
inner_at at (whole c) = []
inner_at at (corners c) = split_places (count_of c) at

abbrev pub inner_of : Standing → List Place
inner_of s = inner_at s.at s.part

-- where `mid` tells the middle of the loop from p of a cell, by the places of its nodes: the middles of a cell's fans, and of a part's. Corner triangles
-- have none
module _ (mid : (ℕ → Place) → Cell → ℕ → Place) where
  unfoldable pub fans_in : List Place → Cell → List Place
  fans_in at c = over (λ p. pick (is_fan c p) (mid (corner_in at) c p ∷ []) []) (crossings (edges_of c)) 0

  abbrev pub fans_at : List Place → Part → List Place
  fans_at at (whole c) = fans_in at c
  fans_at at (corners c) = []

  abbrev pub fans_of : Standing → List Place
  fans_of s = fans_at s.at s.part

-- of a cell of a grid: the parts of one that is split, its inner crossings in the order of their numbers, and the middles of its fans in mesh order
module _ (nodes : List Float) (c : Cell) where
  unfoldable pub all_standing : List Standing
  all_standing = standing (larger (count_of c) + smaller (count_of c)) c.index 0 first_inner_crossing first_inner_face (corners_of nodes c) c

  unfoldable pub inner_places : List Place
  inner_places = elim (is_split (count_of c)) [ true ↦ gather inner_of all_standing | false ↦ [] ]

  -- those of a cell that is not split are `others`
  unfoldable pub drawn_middles : (mid : (ℕ → Place) → Cell → ℕ → Place) (others : List Place) → List Place
  drawn_middles mid others = elim (is_split (count_of c)) [ true ↦ gather (fans_of mid) all_standing | false ↦ others ]

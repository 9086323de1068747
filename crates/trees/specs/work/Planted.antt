-- The keys of a list in trees: what the functions ask of each other.
use Rattle.std.specs.Prelude.{ℕ, ◌+◌, ◌*◌, ◌-◌, ◌/◌, ◌%◌, min, ◌≤◌, ◌<◌, ◌≡◌, Bool, List, Option, Some, None, ltb, length, get_or}
use Rattle.counting.specs.Pick.{pick}
use Rattle.counting.specs.Lists.{seek}
use Rattle.trees.specs.work.Trees.{trees, top_for, Tree, Tops}
use Rattle.trees.specs.work.Keys.{most_places, key_in, pair_has, below_or}

-- the branches of a place in a list
abbrev pub key_branches : ℕ
key_branches = 2

-- the most links
abbrev pub most_links : ℕ
most_links = trees + key_branches * most_places

-- one more than the last of n places with place i's key
abbrev pub top_at : List ℕ → ℕ → ℕ → ℕ
top_at keys n i = top_for (key_in keys) n (key_in keys i)

-- what plants place i of n, after all the later ones
pub record Planting (b : ℕ) (key : ℕ → ℕ) (n i : ℕ) (links : List ℕ) : Type 0 where
  pub some : 0 < b
  pub few : n ≤ most_places
  pub one : i < n
  pub tree : Tree b key n (i + 1) links

-- what plants them all: empty links, and room
pub record Growing (b : ℕ) (key : ℕ → ℕ) (n : ℕ) (links tops : List ℕ) : Type 0 where
  pub some : 0 < b
  pub few : n ≤ most_places
  pub room : trees + b * n ≤ length links
  pub blank : (y : ℕ) → get_or links y 0 ≡ 0
  pub tops_room : n ≤ length tops

-- for how many places so many links have room, and how many of so many places are planted: as many as links and tops have room for, 12,288 at most
unfoldable pub link_room : ℕ → ℕ → ℕ
link_room b links = pick (ltb 0 b) ((links - trees) / b) 0

unfoldable pub planted_of : ℕ → ℕ → ℕ → ℕ → ℕ
planted_of b places links tops = min (min (min places tops) (link_room b links)) most_places

-- no place is linked
abbrev pub IsBlank : List ℕ → Type 0
IsBlank links = (y : ℕ) → get_or links y 0 ≡ 0

-- the first n places are planted, where there are any
pub record Grown (b : ℕ) (key : ℕ → ℕ) (n : ℕ) (links : List ℕ) : Type 0 where
  pub some : 0 < b
  pub tree : Tree b key n 0 links

-- what it leaves: for each place from low on, one more than the last with its key; the entries beyond n as they were
pub record KeyTops (key : ℕ → ℕ) (n low : ℕ) (was tops : List ℕ) : Type 0 where
  pub tops_are : Tops key n low tops
  pub same : length tops ≡ length was
  pub rest : (i : ℕ) → n ≤ i → get_or tops i 0 ≡ get_or was i 0

-- what puts the place before in the place of the last: a table of zeros to the tops
pub record Stepping (keys : List ℕ) (n : ℕ) (prev seen : List ℕ) : Type 0 where
  pub few : n ≤ most_places
  pub tops_are : Tops (key_in keys) n 0 prev
  pub room : n < length seen
  pub blank : (i : ℕ) → i ≤ n → get_or seen i 0 ≡ 0

-- the mark of a top that a pair has
abbrev pub met : ℕ
met = 32768

-- the lowest of the pairs from e on with place j's key; m where there is none
abbrev pub pair_from : List ℕ → ℕ → List ℕ → ℕ → ℕ → ℕ
pair_from pairs m keys e j = seek (pair_has pairs (key_in keys j)) (m - e) e

-- the lowest number below m, from e on, that passes, where one does
abbrev pub lowest_from : (ℕ → Bool) → ℕ → ℕ → Option ℕ
lowest_from t m e = pick (ltb (seek t (m - e) e) m) (Some (seek t (m - e) e)) None

-- what marks the tops that a pair has: all the places planted, and room
pub record PairsLent (keys : List ℕ) (n : ℕ) (tops places : List ℕ) : Type 0 where
  pub few : n ≤ most_places
  pub tops_are : Tops (key_in keys) n 0 tops
  pub room : n ≤ length places

-- the pairs from e on have marked the tops with their keys, and stand there
pub record PairsMarked (pairs : List ℕ) (m : ℕ) (keys : List ℕ) (n e : ℕ) (was tops places : List ℕ) : Type 0 where
  pub room : n ≤ length tops
  pub same : length places ≡ length was
  pub own : (j : ℕ) → j < n → j + 1 ≡ top_at keys n j → get_or tops j 0 ≡ pick (ltb (pair_from pairs m keys e j) m) (j + 1 + met) (j + 1)
  pub own_place : (j : ℕ) → j < n → j + 1 ≡ top_at keys n j → get_or places j 0 ≡ below_or m (pair_from pairs m keys e j) (get_or was j 0)
  pub other : (j : ℕ) → j < n → j + 1 < top_at keys n j → get_or tops j 0 ≡ top_at keys n j
  pub other_place : (j : ℕ) → j < n → j + 1 < top_at keys n j → get_or places j 0 ≡ get_or was j 0
  pub rest : (j : ℕ) → n ≤ j → get_or places j 0 ≡ get_or was j 0

-- the last place with j's key where it has a mark, else j; and the entry there
unfoldable pub source_at : List ℕ → ℕ → ℕ
source_at tops j = pick (ltb (get_or tops (get_or tops j 0 % met - 1) 0) met) j (get_or tops j 0 % met - 1)

unfoldable pub spread_at : List ℕ → List ℕ → ℕ → ℕ
spread_at tops places j = get_or places (source_at tops j) 0

-- each of n places has its top, with a mark or without
pub record Topped (n : ℕ) (tops : List ℕ) : Type 0 where
  pub room : n ≤ length tops
  pub up : (j : ℕ) → j < n → j < get_or tops j 0 % met
  pub within : (j : ℕ) → j < n → get_or tops j 0 % met ≤ n

-- What private functions of the reader and the writer ask of their callers, and sizes that they work out.
use Rattle.std.specs.Prelude.{ℕ, ◌+◌, ◌*◌, ◌/◌, ◌≤◌, ◌<◌, ◌≡◌, List, Option, Some, None, length, get_or}
use Rattle.counting.specs.Lists.{over}
use Rattle.counting.specs.Pick.{pick}
use Rattle.counting.specs.Search.{count}
use Rattle.bundle.specs.Record.{word_size, head_bytes, wide_kind, is_wide, count_place, next_record}
use Rattle.bundle.specs.work.Record.{cell_size, edge_size, end_size}
use Rattle.bundle.specs.Bundle.{is_of, cells, edges_from, edges, looks_from, looks, stop, cell_nodes, edge_ends}
use Rattle.bundle.specs.Written.{cell_bytes, edge_bytes}

-- how many of the counts a byte does not hold
unfoldable pub wides : List ℕ → ℕ
wides counts = count (λ k. is_wide (get_or counts k 0)) (length counts)

-- the bytes of a bundle of so many cells and edges, of which so many are of kind 4, which has a byte more
abbrev pub bundle_size : ℕ → ℕ → ℕ → ℕ
bundle_size cells edges wide = cell_size * cells + edge_size * edges + wide + end_size

-- where the record after the one at a place starts, if one of the section stands there
unfoldable pub next_in : List ℕ → ℕ → ℕ → Option ℕ
next_in s section at = pick (is_of s section at) (Some (next_record s at)) None

-- n numbers of 16 bits in a body, and room for them in a list
pub record WordsLent (body : List ℕ) (n : ℕ) (list : List ℕ) (at : ℕ) : Type 0 where
  pub all : word_size * n ≤ length body
  pub room : at + n ≤ length list

-- a record of kind 4 has its count within the bytes
abbrev pub WideLent : List ℕ → ℕ → ℕ → Type 0
WideLent s start kind = kind ≡ wide_kind → start + head_bytes + count_place + word_size ≤ length s

-- the sections of the bytes: how many records, where the edges and the looks start, and where the looks stop
pub record LaidOut (s : List ℕ) (c edges_at e looksAt l stop_at : ℕ) : Type 0 where
  pub cells_are : c ≡ cells s
  pub edges_begin : edges_at ≡ edges_from s
  pub edges_are : e ≡ edges s
  pub looks_begin : looksAt ≡ looks_from s
  pub looks_are : l ≡ looks s
  pub stops : stop_at ≡ stop s

-- all the cells of the bytes, and room for their nodes
pub record CellsLent (s : List ℕ) (count : ℕ) (nodes : List ℕ) : Type 0 where
  pub all : count ≡ cells s
  pub room : cell_nodes * count ≤ length nodes

-- all the edges of the bytes, from their first place on, and room for their ends and counts
pub record EdgesLent (s : List ℕ) (from count : ℕ) (ends counts : List ℕ) : Type 0 where
  pub begin : from ≡ edges_from s
  pub all : count ≡ edges s
  pub ends_room : edge_ends * count ≤ length ends
  pub counts_room : count ≤ length counts

-- cell k, and room for its record
pub record CellFits (area : List ℕ) (at : ℕ) (nodes : List ℕ) (k : ℕ) : Type 0 where
  pub all : cell_nodes * k + cell_nodes ≤ length nodes
  pub room : at + cell_size ≤ length area

-- edge k, and room for its record
pub record EdgeFits (area : List ℕ) (at : ℕ) (ends counts : List ℕ) (k : ℕ) : Type 0 where
  pub pair : edge_ends * k + edge_ends ≤ length ends
  pub all : k < length counts
  pub room : at + length (edge_bytes ends counts k) ≤ length area

-- room for the records of all the cells at the front of the area
pub record CellsFit (nodes area : List ℕ) : Type 0 where
  pub room : length (over (cell_bytes nodes) (length nodes / cell_nodes) 0) ≤ length area

-- two ends to a count, and room for the records of all the edges from a place on
pub record EdgesFit (ends counts : List ℕ) (from : ℕ) (area : List ℕ) : Type 0 where
  pub pairs : length ends ≡ edge_ends * length counts
  pub room : from + length (over (edge_bytes ends counts) (length counts) 0) ≤ length area

-- What the check's functions ask of their tables, over the structs that hold them.
use Rattle.std.specs.Prelude.{ℕ, ◌≡◌, ◌*◌, ◌+◌, ◌≤◌, List}
use Rattle.slots.specs.Limits.{most_cells}
use Rattle.grid.specs.declared.scratch.Chain.{Chain}
use Rattle.grid.specs.declared.scratch.Chains.{Chains}
use Rattle.grid.specs.declared.scratch.NodeTables.{NodeTables}
use Rattle.grid.specs.declared.scratch.SlotTables.{SlotTables}
use Rattle.grid.specs.declared.scratch.EdgeTables.{EdgeTables}
use Rattle.grid.specs.Grid.{Grid}
use Rattle.grid.specs.work.Runs.{NodeChains, SidesPlaceable, Turnable}
use Rattle.grid.specs.work.Walks.{ChainTables, Comparable, Fresh, LabelChains, LowChains, Numerable}
use Rattle.grid.specs.work.Work.{Edging, Siding}

-- the sizes of tables for so many cells
pub record Sized (cells slots labels edges : ℕ) : Type 0 where
  pub few : cells ≤ most_cells
  pub slots_are : slots ≡ 4 * cells
  pub labels_are : labels ≡ 4 * cells + 1
  pub edges_are : edges ≡ 6 * cells + 2

module _ {labels cells : ℕ} where
  abbrev pub NewChain : Chain labels cells → Type 0
  NewChain c = Fresh labels c.head × Fresh cells c.next

  abbrev pub ChainsNew : ℕ → Chains labels cells → Type 0
  ChainsNew n c = ChainTables n c.first.head c.first.next c.second.head c.second.next c.third.head c.third.next

  abbrev pub LabelsChained : List ℕ → (n many : ℕ) → Chains labels cells → Type 0
  LabelsChained of n many c = LabelChains of n many c.first.head c.first.next c.second.head c.second.next c.third.head c.third.next

  abbrev pub NodesChained : List ℕ → NodeTables labels cells → Type 0
  NodesChained of t =
      NodeChains of t.ranks t.chains.first.head t.chains.first.next t.chains.second.head t.chains.second.next t.chains.third.head t.chains.third.next

  abbrev pub LowChained : List ℕ → ℕ → Chain labels cells → Type 0
  LowChained of many c = LowChains of many c.head c.next

  abbrev pub TurnableBy : List ℕ → NodeTables labels cells → ℕ → (tab sides : List ℕ) → Type 0
  TurnableBy of t u tab sides =
      Turnable of t.ranks t.chains.first.head t.chains.first.next t.chains.second.head t.chains.second.next t.chains.third.head t.chains.third.next u tab sides

  abbrev pub PlaceableBy : (of edges : List ℕ) → ℕ → NodeTables labels cells → (tab sides : List ℕ) → Type 0
  PlaceableBy of edges m t tab sides =
      SidesPlaceable of edges m t.ranks t.chains.first.head t.chains.first.next t.chains.second.head t.chains.second.next t.chains.third.head
      t.chains.third.next tab sides

  module _ {edges : ℕ} where
    abbrev pub EdgingBy : Grid → List ℕ → NodeTables labels cells → EdgeTables edges cells → List ℕ → Type 0
    EdgingBy G near t e sides =
        Edging G near t.ranks t.chains.first.head t.chains.first.next t.chains.second.head t.chains.second.next t.chains.third.head t.chains.third.next
        e.tab e.top e.degree e.marks sides

    abbrev pub SidingBy : Grid → List ℕ → NodeTables labels cells → EdgeTables edges cells → List ℕ → Type 0
    SidingBy G near t e sides =
        Siding G near t.ranks t.chains.first.head t.chains.first.next t.chains.second.head t.chains.second.next t.chains.third.head t.chains.third.next
        e.tab e.top e.degree e.marks sides

  module _ {slots : ℕ} where
    abbrev pub NumerableBy : List ℕ → NodeTables labels cells → SlotTables slots labels → Type 0
    NumerableBy of t s = Numerable of s.labels t.ranks s.faces s.same

module _ {slots labels : ℕ} where
  abbrev pub ComparableBy : List ℕ → SlotTables slots labels → Type 0
  ComparableBy of s = Comparable of s.faces s.at s.same

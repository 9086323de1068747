-- What contracts say of the whole as it is lent, with its tables.
use Rattle.std.specs.Prelude.{ℕ, List}
use Rattle.grid.specs.Lent.{lent}
use Rattle.layers.specs.declared.Whole.{Whole}
use Rattle.layers.specs.work.Work.{Tables, RunOf, JoinableRun, Joinable}

module _ (w : Whole) where
  -- the tables are those of an accepted grid
  abbrev pub WholeTabled : Type 0
  WholeTabled = Tables (lent w.grid) w.names.now w.sides.now

  -- a run, a run that is to be joined, and all of them
  abbrev pub WholeRun : (from size : ℕ) → Type 0
  WholeRun = RunOf (lent w.grid) w.names.now w.sides.now

  abbrev pub WholeJoinableRun : (from size m at room : ℕ) (used : List ℕ) → Type 0
  WholeJoinableRun = JoinableRun (lent w.grid) w.names.now w.sides.now

  abbrev pub WholeJoinable : (cuts : List ℕ) (room : ℕ) → Type 0
  WholeJoinable = Joinable (lent w.grid) w.names.now w.sides.now

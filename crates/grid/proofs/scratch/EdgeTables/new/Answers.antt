use mathlib.Core.Path.{◌∙◌, sym}
use native.Mathlib.Nat.{le_refl}
use lib.ListN.{length-replicate}
use Rattle.grid.proofs.Working.{fresh_zeros}
use Rattle.grid.proofs.scratch.EdgeTables.new.Goals as goal

pub returns : goal.returns
returns g c = record {
  tab = fresh_zeros 4096 4096 (le_refl 4096);
  top = fresh_zeros _ _ (le_refl _);
  degree = fresh_zeros _ _ (le_refl _);
  marks = fresh_zeros _ _ (le_refl _);
  long = length-replicate _ _ ∙ sym (length-replicate _ _);
}

use mathlib.Core.Path.{refl}
use Rattle.split.specs.SubCell.{sub, sub_at}
use Rattle.split.proofs.Spiral.sub_of.Goals as goal

pub returns : goal.returns
unfolding sub sub_at
returns c = rw (← c.place_of-p.ensures.0, c.counts_of-counts.ensures, c.starts_of-starts.ensures, c.names_of-names.ensures) refl

use Rattle.std.proofs.Common.{◌∙◌, arith}
use Rattle.trees.proofs.Planted.{key_there}
use Rattle.trees.proofs.planting.FirstPlaced.key.Goals as goal

pub returns : goal.returns
returns g c = let f = c.args.self.now in let k = g.K.Keys in c.key.ensures ∙ key_there (k.key_at f.keys.now) (k.places f.keys.now) c.args.place (omega (arith, f.within, c.requires))

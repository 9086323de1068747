use mathlib.Core.Path.{◌∙◌}
use Rattle.cell.proofs.Ready.{twin_is, beside_spot, beside_leads}
use Rattle.cell.proofs.steps.beside.Goals as goal

pub onto-requires : goal.onto-requires
onto-requires c = record { routed = c.requires.ready.routed; spot = beside_spot c.requires.beside (c.route-g.ensures ∙ twin_is c.requires.ready) }

pub returns : goal.returns
returns c = beside_leads c.requires.beside (c.route-g.ensures ∙ twin_is c.requires.ready) c.onto.ensures

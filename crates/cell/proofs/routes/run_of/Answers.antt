use native.Mathlib.Omega.{arith}
use Prim.Native.Nat.{◌<◌}
use mathlib.Core.Path.{sym, subst}
use Rattle.cell.specs.work.Limits.{start_limit}
use Rattle.cell.proofs.routes.run_of.Goals as goal

pub returns : goal.returns
returns c = record { count_is = c.count_of.ensures; first_is = c.requires.firsts c.args.e (omega (arith, c.requires.e_bound)); start_is = c.start_of.ensures; near = subst (λ n. n < start_limit) (sym (c.start_of.ensures)) (c.requires.near c.args.e c.requires.e_bound) }

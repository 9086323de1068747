use native.Mathlib.Omega.{arith}
use mathlib.Core.Path.{refl}
use Rattle.flat.proofs.Tables.{land_number, land_other, land_own}
use Rattle.flat.proofs.guides.Tables.land.Goals as goal

pub overflow_add-y : goal.overflow_add-y
overflow_add-y c = let P = c.requires in omega (arith, land_number c.args.self.tabled _ _ P.j_lt_n P.t_bound, c.args.self.tabled.places.few_crossings)

pub overflow_mul-result : goal.overflow_mul-result
overflow_mul-result c = let P = c.requires in omega (arith, land_number c.args.self.tabled _ _ P.j_lt_n P.t_bound, c.args.self.tabled.places.few_crossings)

pub overflow_add-result : goal.overflow_add-result
overflow_add-result c = let P = c.requires in omega (arith, land_number c.args.self.tabled _ _ P.j_lt_n P.t_bound, c.args.self.tabled.places.few_crossings)

pub overflow_mul-result-else-p-j : goal.overflow_mul-result-else-p-j
overflow_mul-result-else-p-j c = let P = c.requires in omega (arith, land_number c.args.self.tabled _ _ P.j_lt_n P.t_bound, c.args.self.tabled.places.few_crossings)

pub returns-then-p-j : goal.returns-then-p-j
returns-then-p-j c =
    let P = c.requires in
    record {
      value = land_own c.args.self.tabled _ _ P.j_lt_n P.t_bound _ _ refl refl c.if-p-j.true;
      upper_bound = omega (arith, land_number c.args.self.tabled _ _ P.j_lt_n P.t_bound);
    }

pub returns-else-p-j : goal.returns-else-p-j
returns-else-p-j c =
    let P = c.requires in
    record {
      value = land_other c.args.self.tabled _ _ P.j_lt_n P.t_bound _ _ refl refl c.if-p-j.false;
      upper_bound = omega (arith, land_number c.args.self.tabled _ _ P.j_lt_n P.t_bound);
    }

-- A grid is accepted exactly where it is as the record of acceptance says.
use Prim.Native.Nat.{ℕ, ◌%◌, ◌*◌, ◌+◌, ◌/◌, ◌<◌, ◌≤◌}
use mathlib.Core.Path.{◌≡◌}
use mathlib.Core.Bool.{false}
use native.Mathlib.Decide.{dec_lt}
use native.Mathlib.Omega.{arith}
use lib.ListN.{get_or-eq_default, get_or, length}
use Rattle.counting.specs.claims.Lists.{All}
use Rattle.answer.specs.Rows.{whole, Clear}
use Rattle.answer.specs.claims.Faults.{AllClear, row_at}
use Rattle.answer.specs.work.Faults.{since}
use Rattle.answer.proofs.Rows.{clear_since}
use Rattle.counting.proofs.Lists.{all_at}
use Rattle.grid.specs.claims.Accepted.{Accepted, Sound}
use Rattle.grid.specs.claims.Claims.{AcceptanceYields, AcceptedAnswer, NumbersOfSound}
use Rattle.grid.specs.Grid.{Grid}
use Rattle.grid.specs.Rows.{rows}
use Rattle.grid.specs.work.Work.{RisingCells}
use Rattle.grid.proofs.Claims.{accepts_clear, clear_accepted}
use Rattle.grid.proofs.Linking.{clear_links, links_clear}
use Rattle.grid.proofs.Sound.{Faultless, edge_numbers, faultless, sound}

-- what the check's own functions keep of the cells
pub ordered : (G : Grid) → Sound G → RisingCells G.cells
ordered G S = record {
  small = small;
  few = S.few_cells;
  nodes = S.within;
  rising = λ c i h l. S.increasing c i (i + 1) h (omega arith) (omega arith);
}
  where
    small : (i : ℕ) → get_or G.cells i 0 < 65536
    small i = elim (dec_lt i (length G.cells)) [
      | yes l ↦
          let q : 4 * (i / 4) + i % 4 ≡ i = omega arith in
          let k = S.within (i / 4) (i % 4) (omega (arith, S.fours)) (omega arith) in
          omega (arith, rw q at k)
      | no l ↦ let m : length G.cells ≤ i = omega arith in omega (arith, get_or-eq_default G.cells 0 m)
    ]

module _ (G : Grid) (clear : AllClear (rows G)) where
  none : (n : ℕ) → Clear (row_at (since n (rows G)) 0)
  none n = clear_since (rows G) n clear

  clear_faultless : Faultless G
  unfolding since rows
  clear_faultless = record {
    row_1 = none 1 0 (omega arith);
    row_2 = none 2 0 (omega arith);
    row_3 = none 3;
    row_4 = none 4;
    row_5 = none 5;
    row_6 = none 6;
    row_18 = none 18;
    row_7 = none 7;
    row_8 = none 8;
    row_10 = none 10 0 (omega arith);
  }

  accepted : Accepted G
  unfolding since rows
  accepted = record { sound = sound G clear_faultless; linked = clear_links G (none 9) }

all_clear : (G : Grid) → Accepted G → AllClear (rows G)
unfolding rows All
all_clear G A =
    let F = faultless G A.sound in
    all_at Clear (whole 0 false) (rows G) (λ p h. F.row_1, (λ p h. F.row_2, (F.row_3, (F.row_4, (F.row_5, (F.row_6, (F.row_18, (F.row_7, (F.row_8, (links_clear G A.linked, (λ p h. F.row_10, tt)))))))))))

pub acceptance_yields : AcceptanceYields
acceptance_yields G values e = accepted G (clear_accepted G values e)

pub accepted_answer : AcceptedAnswer
accepted_answer G A = accepts_clear G (all_clear G A)

pub numbers_of_sound : NumbersOfSound
numbers_of_sound G S = edge_numbers G S

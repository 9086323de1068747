use native.Mathlib.Omega.{arith}
use Rattle.bundle.specs.Record.{next_record}
use Rattle.bundle.proofs.OneRecord.{stands}
use Rattle.bundle.proofs.looks.next_at.Goals as goal

pub overflow_add-result : goal.overflow_add-result
overflow_add-result c = omega (arith, (stands _ _ c.requires).inside)

pub word_at-requires : goal.word_at-requires
word_at-requires c = omega (arith, (stands _ _ c.requires).inside)

pub overflow_add-result-2 : goal.overflow_add-result-2
unfolding next_record
overflow_add-result-2 c = omega (arith, (stands _ _ c.requires).fits, c.word_at.ensures)

pub returns : goal.returns
unfolding next_record
returns c = omega (arith, c.word_at.ensures)

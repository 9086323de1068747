use Rattle.counting.specs.work.Stored.{Stored}
use Rattle.bundle.specs.Written.{list_bytes}
use Rattle.bundle.proofs.writer.put_words.Given as goal

abbrev pub invariant-loop-word : goal.invariant-loop-word
invariant-loop-word l = Stored l.initial.area l.at (list_bytes l.words 0 l.word-index) l.area l.next

-- The answer of the face call in numbers, for each case of its enums.
use Rattle.std.specs.Prelude.{ℕ, List}
use Rattle.face.specs.declared.How.{How}
use Rattle.face.specs.declared.How.TheVariants.{Round, Along}
use Rattle.face.specs.declared.Why.{Why}
use Rattle.face.specs.declared.Why.TheVariants.{Left, Skipped}
use Rattle.face.specs.declared.Join.{Join}
use Rattle.face.specs.declared.Join.TheVariants.{Joined, Unjoined, NoCrossing}
use Rattle.face.specs.Face.{round, along, left, skipped, joined_by, unjoined_by, no_crossing}

abbrev pub how_numbers : How → List ℕ
how_numbers (Round w) = round w
how_numbers Along = along

abbrev pub why_number : Why → ℕ
why_number Left = left
why_number Skipped = skipped

abbrev pub join_numbers : Join → List ℕ
join_numbers (Joined e t how) = joined_by e t (how_numbers how)
join_numbers (Unjoined why) = unjoined_by (why_number why)
join_numbers NoCrossing = no_crossing

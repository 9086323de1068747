-- Kinds of records, and sections, by their numbers.
use Rattle.std.specs.Prelude.{ℕ, ◌≡◌, Result, MatchResult}
use Rattle.bundle.specs.Record.{kind_number, length_of}
use Rattle.bundle.specs.Bundle.{cell_section, edge_section, look_section, end_section}
use Rattle.bundle.specs.declared.kinds.Kind.{Kind}
use Rattle.bundle.specs.declared.kinds.UnknownKind.{UnknownKind}
use Rattle.bundle.specs.declared.kinds.Section.{Section}
use Rattle.bundle.specs.declared.kinds.Section.TheVariants.{Cells, Edges, Looks, End}

-- the result is the kind with this number, or the number, which no kind has
abbrev pub Names : ℕ → Result Kind UnknownKind → Type 0
Names number r = MatchResult r (λ kind. kind_number kind ≡ number) (λ e. (e.0 ≡ number) × (length_of number ≡ 0))

-- the number of a section in that order
abbrev pub section_number : Section → ℕ
section_number Cells = cell_section
section_number Edges = edge_section
section_number Looks = look_section
section_number End = end_section

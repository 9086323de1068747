-- What the step from dart to dart is read from, in lent tables.
use Rattle.std.specs.Prelude.{ℕ, length}
use Rattle.flat.specs.declared.guides.Tables.{Tables}
use Rattle.flat.specs.declared.guides.Guide.{Guide}
use Rattle.flat.specs.declared.guides.Lane.{Lane}
use Rattle.flat.specs.work.Work.{count_at_place, land_at, dart_step, LaneOf, Guides, PortGuides}

-- what is read from them
abbrev pub count_in : Tables → ℕ → ℕ
count_in t j = count_at_place t.counts.now t.sides.now j

abbrev pub land_in : Tables → ℕ → ℕ → ℕ
land_in t j k = land_at t.counts.now t.sides.now (length t.sides.now) j k

abbrev pub step_by : Tables → ℕ → ℕ
step_by t = dart_step t.counts.now t.sides.now (length t.sides.now)

abbrev pub LaneIn : (t : Tables) (b w e : ℕ) → Lane → Type 0
LaneIn t b w e l = LaneOf t.counts.now t.sides.now (length t.sides.now) b w e l

abbrev pub GuidesIn : Tables → ℕ → Guide → Type 0
GuidesIn t j g = Guides t.counts.now t.sides.now (length t.sides.now) j g

abbrev pub PortGuidesIn : Tables → ℕ → Guide → Type 0
PortGuidesIn t q g = PortGuides t.counts.now t.sides.now (length t.sides.now) q g

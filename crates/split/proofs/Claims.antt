-- What is proved of splits, by name: each theorem states the claim of specs/ that has its name.
pub use Rattle.booking.proofs.Figures.{figure_laws}
pub use Rattle.split.proofs.SubNumbers.{sub_counts_numbered, sub_cells_numbered}
pub use Rattle.split.proofs.Parts.{parts_counted, parts_numbered}
pub use Rattle.split.proofs.Stands.{standing_parts}
pub use Rattle.split.proofs.Lengths.{drawn_counted, drawn_booked, splits_few}
pub use Rattle.split.proofs.Counted.{booked_by_parts, drawn_by_parts}
pub use Rattle.split.proofs.Answers.{answer_by_parts, booking_right}
pub use Rattle.split.proofs.Gained.{drawn_gained, splits_told}
pub use Rattle.split.proofs.Whole.{parts_refine}
pub use Rattle.split.proofs.Inner.{inner_numbered}
pub use Rattle.split.proofs.Meshed.{parts_meshed, parts_lawful}
pub use Rattle.split.proofs.Sides.{sides_counted}
pub use Rattle.split.proofs.Grid.{cells_refined}
pub use Rattle.split.proofs.GridLaws.{grid_split}
pub use Rattle.split.proofs.GridMesh.{grid_meshed}
pub use Rattle.split.proofs.Curves.{curves_counted}
pub use Rattle.split.proofs.Owners.{drawn_owned}
pub use Rattle.split.proofs.Ordered.{drawn_ordered}
pub use Rattle.split.proofs.Happens.{split_happens, curves_mix}
pub use Rattle.split.proofs.Examples.{examples_hold}
use Rattle.split.specs.claims.Claims.{LabelsFirst}
use Rattle.split.proofs.Labels.{spiral_is, first_labelling}

pub labels_first : LabelsFirst
labels_first w K S = let (some, more) = spiral_is w S in first_labelling w K some more

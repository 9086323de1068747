-- The faults of row 13 (01), each with the place where it starts; and that of row 22 (02, W7). Records are laid from the front by their own lengths, as far as they are whole.
use Rattle.std.specs.Prelude.{ℕ, suc, ◌<◌, ◌≡◌, true, false, List, length}
use Rattle.bundle.specs.Record.{is_record, body}
use Rattle.bundle.specs.Bundle.{end_section, section_at, record_start, edges, looks, edge_at, look_at, same_pair}

-- the first k records are whole
abbrev pub AllWhole : List ℕ → ℕ → Type 0
AllWhole s k = (j : ℕ) → j < k → is_record s (record_start s 0 j) ≡ true

-- the section of record k
abbrev pub section_by : List ℕ → ℕ → ℕ
section_by s k = section_at s (record_start s 0 k)

pub data Fault (s : List ℕ) (place : ℕ) : Type 0 where
  -- a record that is cut short, or has a wrong length or kind
  broken : (k : ℕ) → place ≡ record_start s 0 k → AllWhole s k → place < length s → is_record s place ≡ false → Fault s place
  -- a whole record in a wrong order: one of a later section stands before it
  disordered : (j k : ℕ) → place ≡ record_start s 0 k → AllWhole s (suc k) → j < k → section_by s k < section_by s j → Fault s place
  -- bytes after an end
  trailing : (k : ℕ) → place ≡ record_start s 0 (suc k) → AllWhole s (suc k) → section_by s k ≡ end_section → place < length s → Fault s place
  -- only whole records, and no end
  endless : (k : ℕ) → place ≡ record_start s 0 k → AllWhole s k → place ≡ length s → ((j : ℕ) → j < k → section_by s j ≡ end_section → ⊥) → Fault s place

-- a look whose pair none of the edges has
pub record Stray (s : List ℕ) (place : ℕ) : Type 0 where
  pub look : ℕ
  pub listed : look < looks s
  pub begins : place ≡ look_at s look
  pub unmet : (n : ℕ) → n < edges s → same_pair (body s (edge_at s n)) (body s place) ≡ false

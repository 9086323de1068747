-- What is claimed of the definitions that the contracts cite.
use Rattle.std.specs.Prelude.{ℕ, ◌+◌, ◌*◌, ◌/◌, ◌≤◌, ◌<◌, ◌≡◌, List, [], ◌∷◌, Result, length, take}
use Rattle.answer.specs.Answer.{result_of, refusal}
use Rattle.answer.specs.declared.Refusal.{Refusal}
use Rattle.counting.specs.claims.Lists.{All}
use Rattle.bundle.specs.Record.{byte_values, head_bytes, broken_row, record_answer, body_start, body_size, record_numbers}
use Rattle.bundle.specs.Bundle.{cell_nodes, edge_ends, looks, stray_row, bundle_answer, read_answer, nodes_of, ends_of, counts_of, written_over, nodes_left, ends_left, counts_left, contents_numbers}
use Rattle.bundle.specs.Written.{bundle_bytes, write_answer, area_left, written_numbers}
use Rattle.bundle.specs.declared.records.Record.{Record}
use Rattle.bundle.specs.declared.reader.Lists.{Lists}
use Rattle.bundle.specs.claims.Fault.{Fault, Stray}

-- the readings of the answers into numbers are one to one
pub record OneToOne : Type 0 where
  pub records : (x y : Result Record Refusal) → record_numbers x ≡ record_numbers y → x ≡ y
  pub contents : (x y : Result Lists Refusal) → contents_numbers x ≡ contents_numbers y → x ≡ y
  pub written : (x y : Result ℕ Refusal) → written_numbers x ≡ written_numbers y → x ≡ y

-- a record and its body lie within the bytes
abbrev pub RecordWithin : Type 0
RecordWithin = (s : List ℕ) (at kind next : ℕ) → record_answer s at ≡ result_of (kind ∷ next ∷ []) → (at + head_bytes ≤ next) × (next ≤ length s)

abbrev pub BodyWithin : Type 0
BodyWithin = (s : List ℕ) (at : ℕ) → body_start s at + body_size s at ≤ length s

-- the reader refuses with 13 at a place where a fault starts, and none starts lower; where it accepts, none starts anywhere
abbrev pub LowestFault : Type 0
LowestFault = (s : List ℕ) (place : ℕ) → bundle_answer s ≡ refusal broken_row place → Fault s place × ((q : ℕ) → q < place → Fault s q → ⊥)

abbrev pub NoFault : Type 0
NoFault = (s : List ℕ) (c e : ℕ) → bundle_answer s ≡ result_of (c ∷ e ∷ []) → (q : ℕ) → Fault s q → ⊥

-- with 22 it refuses only where no fault of row 13 starts anywhere, at a stray look, and none stands lower; where it accepts, none stands anywhere;
-- and where a stray look stands and no fault of row 13 starts, it refuses so
abbrev pub LowestStray : Type 0
LowestStray =
    (s : List ℕ) (place : ℕ) → bundle_answer s ≡ refusal stray_row place
    → ((q : ℕ) → Fault s q → ⊥) × (Stray s place × ((q : ℕ) → q < place → Stray s q → ⊥))

abbrev pub NoStray : Type 0
NoStray = (s : List ℕ) (c e : ℕ) → bundle_answer s ≡ result_of (c ∷ e ∷ []) → (q : ℕ) → Stray s q → ⊥

abbrev pub StrayRefused : Type 0
StrayRefused = (s : List ℕ) (q : ℕ) → Stray s q → ((p : ℕ) → Fault s p → ⊥) → (place : ℕ) × (bundle_answer s ≡ refusal stray_row place)

-- a bundle without looks that is read without refusal, into lists of whatever length, and written again from the fronts of the lists as they are
-- left, into an area that holds it, has its bytes back; the area keeps its values beyond them
pub record BytesBack (s nodes ends counts area : List ℕ) : Type 0 where
  pub answer : write_answer nodes ends counts (length area) ≡ result_of (length s ∷ [])
  pub bytes : area_left nodes ends counts area ≡ written_over s area

abbrev pub ReadWritten : Type 0
ReadWritten =
    (s : List ℕ) → All (λ x. x < byte_values) s → looks s ≡ 0
    → (nodes ends counts : List ℕ) (c e : ℕ) → read_answer s (length nodes) (length ends) (length counts) ≡ result_of (c ∷ e ∷ [])
    → (area : List ℕ) → length s ≤ length area
    → BytesBack s
    (take (cell_nodes * c) (nodes_left s nodes ends counts))
    (take (edge_ends * e) (ends_left s nodes ends counts))
    (take e (counts_left s nodes ends counts))
    area

-- lists that are written without refusal, into an area of whatever length, and read again from the front of the area as it is left, into lists
-- that hold them, are the same lists; the lent lists keep their values beyond them
pub record ListsBack (nodes ends counts s ns es cs : List ℕ) : Type 0 where
  pub answer : read_answer s (length ns) (length es) (length cs) ≡ result_of (length nodes / cell_nodes ∷ length counts ∷ [])
  pub nodes_back : nodes_left s ns es cs ≡ written_over nodes ns
  pub ends_back : ends_left s ns es cs ≡ written_over ends es
  pub counts_back : counts_left s ns es cs ≡ written_over counts cs

abbrev pub WrittenRead : Type 0
WrittenRead =
    (nodes ends counts area : List ℕ) (n : ℕ) → write_answer nodes ends counts (length area) ≡ result_of (n ∷ [])
    → (ns es cs : List ℕ) → length nodes ≤ length ns → length ends ≤ length es → length counts ≤ length cs
    → ListsBack nodes ends counts (take n (area_left nodes ends counts area)) ns es cs

-- any bundle that is read without refusal comes back as the bundle of its surviving lists: that is what is written from the fronts of the lists as
-- they are left, and reading it, into lists that hold them, gives the same lists
abbrev pub survivors : List ℕ → List ℕ
survivors s = bundle_bytes (nodes_of s) (ends_of s) (counts_of s)

pub record Survives (s nodes ends counts area : List ℕ) : Type 0 where
  pub back : BytesBack (survivors s) nodes ends counts area
  pub again : (ns es cs : List ℕ) → length nodes ≤ length ns → length ends ≤ length es → length counts ≤ length cs → ListsBack nodes ends counts (survivors s) ns es cs

abbrev pub ReadAgain : Type 0
ReadAgain =
    (s nodes ends counts : List ℕ) (c e : ℕ) → read_answer s (length nodes) (length ends) (length counts) ≡ result_of (c ∷ e ∷ [])
    → (area : List ℕ) → length (survivors s) ≤ length area
    → Survives s
    (take (cell_nodes * c) (nodes_left s nodes ends counts))
    (take (edge_ends * e) (ends_left s nodes ends counts))
    (take e (counts_left s nodes ends counts))
    area

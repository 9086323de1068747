-- The readings of the answers are one to one. Assumes nothing.
use Rattle.std.specs.Prelude.{ℕ, ◌-◌, List, [], ◌∷◌, get_or}
use mathlib.Core.Path.{◌≡◌, refl, sym, ap, ◌∙◌}
use Rattle.answer.proofs.Numbers.{answer_tells}
use Rattle.bundle.specs.Record.{kind_number}
use Rattle.bundle.specs.declared.kinds.Kind.{Kind}
use Rattle.bundle.specs.declared.kinds.Kind.TheVariants.{Cell, Edge, End, Wide, Look}
use Rattle.bundle.specs.declared.records.Record.{Record}
use Rattle.bundle.specs.declared.reader.Lists.{Lists}
use Rattle.bundle.specs.claims.Claims.{OneToOne}

-- a kind by its number
abbrev kinds : List Kind
kinds = Cell ∷ Edge ∷ End ∷ Wide ∷ Look ∷ []

kind_back : (k : Kind) → get_or kinds (kind_number k - 1) Cell ≡ k
kind_back Cell = refl
kind_back Edge = refl
kind_back End = refl
kind_back Wide = refl
kind_back Look = refl

kind_tells : (k l : Kind) → kind_number k ≡ kind_number l → k ≡ l
kind_tells k l e = sym (kind_back k) ∙ ap (λ n. get_or kinds (n - 1) Cell) e ∙ kind_back l

abbrev record_list : Record → List ℕ
record_list r = kind_number r.kind ∷ r.next ∷ []

record_one : (x y : Record) → record_list x ≡ record_list y → x ≡ y
record_one x y e =
    let n : kind_number x.kind ≡ kind_number y.kind = cc in
    let p : x.next ≡ y.next = cc in
    let k = kind_tells x.kind y.kind n in
    let z : record { kind = x.kind; next = x.next } ≡ record { kind = y.kind; next = y.next } = rw (k, p) in
    z

abbrev lists_list : Lists → List ℕ
lists_list l = l.cells ∷ l.edges ∷ []

lists_one : (x y : Lists) → lists_list x ≡ lists_list y → x ≡ y
lists_one x y e =
    let n : x.cells ≡ y.cells = cc in
    let p : x.edges ≡ y.edges = cc in
    let z : record { cells = x.cells; edges = x.edges } ≡ record { cells = y.cells; edges = y.edges } = rw (n, p) in
    z

number_one : (x y : ℕ) → (x ∷ []) ≡ (y ∷ []) → x ≡ y
number_one x y e = cc

pub one-to-one : OneToOne
one-to-one = record { records = answer_tells record_list record_one; contents = answer_tells lists_list lists_one; written = answer_tells (λ n. n ∷ []) number_one }

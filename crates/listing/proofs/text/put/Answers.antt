use Prim.Native.Nat.{ℕ, ◌+◌}
use mathlib.Core.Path.{refl, sym, ap, ◌∙◌}
use mathlib.Core.List.{List, ◌++◌, append_assoc}
use native.Mathlib.Omega.{arith}
use lib.ListN.{length, take, drop}
use lib.Seq.{sets-eq}
use borrow.Rule.Slice.PartMut.{Post-is}
use Rattle.listing.proofs.text.put.Goals as goal

pub returns : goal.returns
returns c = let a = c.args in
    let l = a.out.now in
    let n = length a.text.now in record {
      area = ap (λ (p : List ℕ). take a.at l ++ (c.copy_from_slice.new.self ++ p)) (Post-is a.at (a.at + n) l (omega arith))
          ∙ ap (λ (y : List ℕ). take a.at l ++ (y ++ drop (a.at + n) l)) c.copy_from_slice.ensures.after
          ∙ sym (append_assoc (take a.at l) a.text.now (drop (a.at + n) l))
          ∙ sym (sets-eq a.text.now l a.at c.requires);
      after = refl;
    }

-- Laws of a list's front and of the places of a key.
use Prim.Native.Nat.{ℕ, zero, suc, ◌≤◌}
use mathlib.Core.Path.{◌∙◌, ◌≡◌, ap, refl, sym}
use mathlib.Core.List.{List}
use native.Mathlib.Decide.{dec_lt}
use native.Mathlib.Omega.{arith}
use lib.ListN.{get_or, length, replicate}
use lib.Seq.{ext_get_or}
use Rattle.counting.specs.Search.{last}
use Rattle.counting.specs.Stored.{filled}
use Rattle.counting.proofs.Search.{last_le}
use Rattle.counting.proofs.Stored.{filled_at, filled_beyond, length_filled}
use Rattle.counting.specs.work.Tables.{Table, same_key}

-- a filled front
pub filled_table : (f : ℕ → ℕ) (n : ℕ) (l m : List ℕ) → m ≡ filled f n l → n ≤ length l → Table f n m
filled_table f n l m e r = record {
  room = omega (arith, ap length e, length_filled f n l);
  at = λ i h. ap (λ (m : List ℕ). get_or m i 0) e ∙ filled_at f n l 0 r i h;
}

pub table_filled : (f : ℕ → ℕ) (n : ℕ) (l : List ℕ) → Table f n l → l ≡ filled f n l
table_filled f n l t =
    ext_get_or 0 l (filled f n l) (sym (length_filled f n l))
    (λ i h. elim (dec_lt i n) [ yes b ↦ t.at i b ∙ sym (filled_at f n l 0 t.room i b) | no b ↦ sym (filled_beyond f n l 0 i (omega arith)) ])

-- a new list
pub zeros : (n : ℕ) (i : ℕ) → get_or (replicate {A = ℕ} n 0) i 0 ≡ 0
zeros zero i = refl
zeros (suc n) zero = refl
zeros (suc n) (suc i) = zeros n i

-- the last place with a key
pub top_le : (keys : List ℕ) (key m top : ℕ) → top ≡ last (same_key keys key) m → top ≤ m
top_le keys key m top e = rw e (last_le (same_key keys key) m)

-- The bytes by the links, from the lowest node on.
use Prim.Native.Nat.{ℕ, ◌+◌, ◌/◌, ◌%◌, ◌≤◌, ◌<◌}
use mathlib.Core.Path.{◌≡◌, sym, ap, ◌∙◌}
use mathlib.Core.Logic.{◌≢◌}
use mathlib.Core.List.{List}
use native.Mathlib.Decide.{ℕ_discrete}
use native.Mathlib.Omega.{arith}
use lib.ListN.{length, get_or, set, length-set}
use borrow.Author.Tests.{eq-eqb, ne_eqb}
use Rattle.counting.specs.Stored.{filled}
use Rattle.counting.proofs.Stored.{filled_none, filled_more, filled_at}
use Rattle.shading.specs.Marks.{most_nodes, unused_byte}
use Rattle.shading.specs.work.Work.{no_link, Forest, Writable, byte_by, BytesBy, Sided}

module _ (links area : List ℕ) (x : ℕ) where
  pub byte_free : get_or links x 0 ≡ no_link → unused_byte ≡ byte_by links area x
  unfolding byte_by
  byte_free e = sym (rw (eq-eqb _ _ e))

  pub byte_root : get_or links x 0 ≢ no_link → get_or links x 0 / 2 ≡ x → 0 ≡ byte_by links area x
  unfolding byte_by
  byte_root n e = sym (rw (ne_eqb _ _ n, eq-eqb _ _ e))

  pub byte_child : get_or links x 0 ≢ no_link → get_or links x 0 / 2 ≢ x → (get_or area (get_or links x 0 / 2) 0 + get_or links x 0) % 2 ≡ byte_by links area x
  unfolding byte_by
  byte_child n e = sym (rw (ne_eqb _ _ n, ne_eqb _ _ e))

  -- by the numbers that are read
  module _ (n : get_or links x 0 ≢ no_link) (l : ℕ) (e : l ≡ get_or links x 0) where
    pub root_read : l / 2 ≡ x → 0 ≡ byte_by links area x
    root_read h = byte_root n (ap (λ k. k / 2) (sym e) ∙ h)

    pub child_read : l / 2 ≢ x → (v : ℕ) → v ≡ get_or area (l / 2) 0 → (v + l) % 2 ≡ byte_by links area x
    child_read h v q =
        ap (λ k. (k + l) % 2) q ∙ ap (λ k. (get_or area (k / 2) 0 + k) % 2) e ∙ byte_child n (λ z. h (ap (λ k. k / 2) e ∙ z))

  -- a node's byte is f's where its parent's is
  pub byte_is : Forest links → (f : ℕ → ℕ) → BytesBy links f → x < most_nodes → ((y : ℕ) → y < x → get_or area y 0 ≡ f y) → byte_by links area x ≡ f x
  byte_is F f B h known = elim (ℕ_discrete (get_or links x 0) no_link) [
    | yes e ↦ sym (byte_free e) ∙ sym (B.free x h e)
    | no n ↦ elim (ℕ_discrete (get_or links x 0 / 2) x) [
      | yes e ↦ sym (byte_root n e) ∙ sym (B.root x (h, n) e)
      | no m ↦ (let lower : get_or links x 0 / 2 < x = omega (arith, F.low_parent x (h, n)) in
          sym (byte_child n m) ∙ ap (λ k. (k + get_or links x 0) % 2) (known (get_or links x 0 / 2) lower) ∙ sym (B.child x (h, n)))
    ]
  ]

-- the first x bytes are written
pub record Writing (links before : List ℕ) (x : ℕ) (area : List ℕ) : Type 0 where
  pub long : length area ≡ most_nodes
  pub is : (f : ℕ → ℕ) → BytesBy links f → area ≡ filled f x before

pub writing_none : (links area : List ℕ) → Writable links area → Writing links area 0 area
writing_none links area W = record { long = W.room; is = λ f B. filled_none f area }

module _ (links before : List ℕ) (x : ℕ) (area : List ℕ) (W : Writable links before) (D : Writing links before x area) where
  pub still_writable : Writable links area
  still_writable = record { forest = W.forest; room = D.long }

  pub writing_more : (v : ℕ) → v ≡ byte_by links area x → x < most_nodes → (after : List ℕ) → after ≡ set area x v → Writing links before (x + 1) after
  writing_more v e h after q = record {
    long = ap length q ∙ length-set area x v ∙ D.long;
    is = λ f B. q ∙ filled_more f x before area v (D.is f B)
        (e ∙ byte_is links area x W.forest f B h (λ y k. ap (λ (l : List ℕ). get_or l y 0) (D.is f B) ∙ filled_at f x before 0 (omega (arith, W.room)) y k));
  }

  pub writing_all : most_nodes ≤ x → x ≤ most_nodes → Sided links before area
  writing_all a b = record { area = λ f B. (let e : x ≡ most_nodes = omega arith in D.is f B ∙ ap (λ k. filled f k before) e) }

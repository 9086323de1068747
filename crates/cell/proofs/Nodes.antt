-- The positions of a cell in any order, and what the tables say of them: one computed test over all arrangements, lifted to any of them.
use Prim.Native.Nat.{ℕ, ◌+◌, ◌*◌, ◌<◌}
use mathlib.Core.Path.{◌≡◌, refl, sym}
use mathlib.Core.Logic.{◌⊎◌, inl, inr, ◌≢◌, ⊎_elim}
use mathlib.Core.Bool.{Bool, true, not, ◌&&◌, ◌||◌}
use native.Mathlib.Omega.{arith}
use lib.Dec.{eqb, ltb}
use borrow.Author.Tests.{eqb-true, eqb-false, ltb-true, ne_eqb, not-true}
use Rattle.counting.specs.Pick.{pick}
use Rattle.counting.specs.Search.{every, first}
use Rattle.counting.proofs.Bools.{imply, or_cases, and_left, and_right}
use Rattle.counting.proofs.Search.{every_is}
use Rattle.slots.specs.Slots.{lo, hi, position, edge_between, slot_edge, edge_rank, contains, lower, upper}
use Rattle.slots.specs.claims.Slots.{third_position}
use Rattle.slots.proofs.Slots.{EdgeSlot, two_slots}
use Rattle.slots.proofs.Claims.{slot_laws}
use Rattle.face.specs.Face.{other, opposite}
use Rattle.cell.specs.work.Half.{twin}
use Rattle.cell.specs.claims.Nodes.{Arranged}
use Rattle.cell.specs.Nodes.{joining}
use Rattle.cell.proofs.Follow.{contained}

-- the place of position a in slot d
unfoldable pub pos : ℕ → ℕ → ℕ
pos d a = first (λ i. eqb (position d i) a) 3

-- other orders, each named by where it has the four
module _ {a b c d : ℕ} (A : Arranged a b c d) where
  pub abdc : Arranged a b d c
  abdc = omega arith

  pub acbd : Arranged a c b d
  acbd = omega arith

  pub acdb : Arranged a c d b
  acdb = omega arith

  pub adbc : Arranged a d b c
  adbc = omega arith

  pub adcb : Arranged a d c b
  adcb = omega arith

  pub bacd : Arranged b a c d
  bacd = omega arith

  pub badc : Arranged b a d c
  badc = omega arith

  pub bcad : Arranged b c a d
  bcad = omega arith

  pub bcda : Arranged b c d a
  bcda = omega arith

  pub bdac : Arranged b d a c
  bdac = omega arith

  pub cabd : Arranged c a b d
  cabd = omega arith

  pub cbad : Arranged c b a d
  cbad = omega arith

  pub cbda : Arranged c b d a
  cbda = omega arith

  pub cdab : Arranged c d a b
  cdab = omega arith

  pub cdba : Arranged c d b a
  cdba = omega arith

  pub dacb : Arranged d a c b
  dacb = omega arith

  pub dcab : Arranged d c a b
  dcab = omega arith

  pub dcba : Arranged d c b a
  dcba = omega arith

-- a test that every arrangement passes
differ : ℕ → ℕ → ℕ → ℕ → Bool
differ a b c d = not (eqb a b) && (not (eqb a c) && (not (eqb a d) && (not (eqb b c) && (not (eqb b d) && not (eqb c d)))))

Passes : (ℕ → ℕ → ℕ → ℕ → Bool) → Type 0
Passes t = every (λ a. every (λ b. every (λ c. every (λ d. not (differ a b c d) || t a b c d) 4) 4) 4) 4 ≡ true

module _ {a b c d : ℕ} (A : Arranged a b c d) where
  apart : differ a b c d ≡ true
  unfolding differ
  apart = rw (ne_eqb a b A.ab, ne_eqb a c A.ac, ne_eqb a d A.ad, ne_eqb b c A.bc, ne_eqb b d A.bd, ne_eqb c d A.cd)

  passed : (t : ℕ → ℕ → ℕ → ℕ → Bool) → Passes t → t a b c d ≡ true
  unfolding Passes
  passed t p =
      imply (differ a b c d) (t a b c d) apart
      (every_is (λ d. not (differ a b c d) || t a b c d) 4
      (every_is (λ c. every (λ d. not (differ a b c d) || t a b c d) 4) 4
      (every_is (λ b. every (λ c. every (λ d. not (differ a b c d) || t a b c d) 4) 4) 4
      (every_is (λ a. every (λ b. every (λ c. every (λ d. not (differ a b c d) || t a b c d) 4) 4) 4) 4 p a A.a_lt) b A.b_lt) c A.c_lt) d A.d_lt)

  same : (f g : ℕ → ℕ → ℕ → ℕ → ℕ) → Passes (λ a b c d. eqb (f a b c d) (g a b c d)) → f a b c d ≡ g a b c d
  same f g p = eqb-true (f a b c d) (g a b c d) (passed (λ a b c d. eqb (f a b c d) (g a b c d)) p)

  below : (f : ℕ → ℕ → ℕ → ℕ → ℕ) (n : ℕ) → Passes (λ a b c d. ltb (f a b c d) n) → f a b c d < n
  below f n p = ltb-true (f a b c d) n (passed (λ a b c d. ltb (f a b c d) n) p)

  other_than : (f g : ℕ → ℕ → ℕ → ℕ → ℕ) → Passes (λ a b c d. not (eqb (f a b c d) (g a b c d))) → f a b c d ≢ g a b c d
  other_than f g p = eqb-false (f a b c d) (g a b c d) (not-true (eqb (f a b c d) (g a b c d)) (passed (λ a b c d. not (eqb (f a b c d) (g a b c d))) p))

  -- their sum, and that one of them is the lowest
  pub sum_six : a + b + c + d ≡ 6
  unfolding Passes every differ
  sum_six = same (λ a b c d. a + b + c + d) (λ a b c d. 6) refl

  pub lowest_of : (a ≡ 0) ⊎ ((b ≡ 0) ⊎ ((c ≡ 0) ⊎ (d ≡ 0)))
  unfolding Passes every differ
  lowest_of =
      either (eqb-true a 0) (either (eqb-true b 0) (either (eqb-true c 0) (eqb-true d 0)))
      (passed (λ a b c d. eqb a 0 || (eqb b 0 || (eqb c 0 || eqb d 0))) refl)
    where
      either : {p q : Bool} {A B : Type 0} → (p ≡ true → A) → (q ≡ true → B) → (p || q) ≡ true → A ⊎ B
      either {p} {q} f g e = ⊎_elim (λ h. inl (f h)) (λ h. inr (g h)) (or_cases p q e)

  -- the edge ab: the same both ways, its ends, and that it is neither ac nor cd
  pub both_ways : joining a b ≡ joining b a
  unfolding Passes every differ joining edge_between
  both_ways = same (λ a b c d. joining a b) (λ a b c d. joining b a) refl

  pub lo_is : lo (joining a b) ≡ pick (ltb a b) a b
  unfolding Passes every differ joining edge_between lo
  lo_is = same (λ a b c d. lo (joining a b)) (λ a b c d. pick (ltb a b) a b) refl

  pub hi_is : hi (joining a b) ≡ pick (ltb a b) b a
  unfolding Passes every differ joining edge_between hi
  hi_is = same (λ a b c d. hi (joining a b)) (λ a b c d. pick (ltb a b) b a) refl

  pub beside_edge : joining a b ≢ joining a c
  unfolding Passes every differ joining edge_between
  beside_edge = other_than (λ a b c d. joining a b) (λ a b c d. joining a c) refl

  pub across_edge : joining a b ≢ joining c d
  unfolding Passes every differ joining edge_between
  across_edge = other_than (λ a b c d. joining a b) (λ a b c d. joining c d) refl

  -- its place in slot d, of which a is the lower or the upper end, ac the other edge at a, and bc the opposite edge
  pub place_lt : edge_rank d (joining a b) < 3
  unfolding Passes every differ joining edge_rank
  place_lt = below (λ a b c d. edge_rank d (joining a b)) 3 refl

  pub edge_is : slot_edge d (edge_rank d (joining a b)) ≡ joining a b
  unfolding Passes every differ joining edge_rank slot_edge
  edge_is = same (λ a b c d. slot_edge d (edge_rank d (joining a b))) (λ a b c d. joining a b) refl

  pub end_is : pos d a ≡ pick (ltb a b) (lower (edge_rank d (joining a b))) (upper (edge_rank d (joining a b)))
  unfolding Passes every differ joining edge_rank pos first position lower upper
  end_is = same (λ a b c d. pos d a) (λ a b c d. pick (ltb a b) (lower (edge_rank d (joining a b))) (upper (edge_rank d (joining a b)))) refl

  pub other_is : other (pos d a) (edge_rank d (joining a b)) ≡ edge_rank d (joining a c)
  unfolding Passes every differ joining edge_rank pos first position other
  other_is = same (λ a b c d. other (pos d a) (edge_rank d (joining a b))) (λ a b c d. edge_rank d (joining a c)) refl

  pub opposite_is : opposite (pos d a) ≡ edge_rank d (joining b c)
  unfolding Passes every differ joining edge_rank pos first position opposite
  opposite_is = same (λ a b c d. opposite (pos d a)) (λ a b c d. edge_rank d (joining b c)) refl

  -- the half-edge of ac in slot d has its twin in slot b
  pub twin_is : twin (3 * d + edge_rank d (joining a c)) ≡ 3 * b + edge_rank b (joining a c)
  unfolding Passes every differ joining edge_rank twin
  twin_is = same (λ a b c d. twin (3 * d + edge_rank d (joining a c))) (λ a b c d. 3 * b + edge_rank b (joining a c)) refl

  -- the positions of its ends in that slot
  pub lower_is : position d (lower (edge_rank d (joining a b))) ≡ pick (ltb a b) a b
  unfolding Passes every differ joining edge_rank position lower
  lower_is = same (λ a b c d. position d (lower (edge_rank d (joining a b)))) (λ a b c d. pick (ltb a b) a b) refl

  pub upper_is : position d (upper (edge_rank d (joining a b))) ≡ pick (ltb a b) b a
  unfolding Passes every differ joining edge_rank position upper
  upper_is = same (λ a b c d. position d (upper (edge_rank d (joining a b)))) (λ a b c d. pick (ltb a b) b a) refl

-- edge k joins its ends
ends_pass : every (λ k. eqb (joining (lo k) (hi k)) k) 6 ≡ true
unfolding every joining edge_between lo hi
ends_pass = refl

pub joining_ends : (k : ℕ) → k < 6 → joining (lo k) (hi k) ≡ k
joining_ends k l = eqb-true (joining (lo k) (hi k)) k (every_is (λ k. eqb (joining (lo k) (hi k)) k) 6 ends_pass k l)

-- the ends of an edge, the third position of a slot that contains it, and the omitted one
pub arranged : {k s : ℕ} → k < 6 → EdgeSlot k s → Arranged (lo k) (hi k) (third_position k s) s
unfolding contains
arranged {k} {s} l S =
    let c = contained S in
    let T = slot_laws.third_of k s l S.lt c in
    let E = two_slots k l in
    let a = eqb-false s (lo k) (not-true (eqb s (lo k)) (and_left (not (eqb s (lo k))) (not (eqb s (hi k))) c)) in
    let b = eqb-false s (hi k) (not-true (eqb s (hi k)) (and_right (not (eqb s (lo k))) (not (eqb s (hi k))) c)) in
    record {
      a_lt = omega (arith, E.rising, E.within);
      b_lt = E.within;
      c_lt = T.lt;
      d_lt = S.lt;
      ab = omega (arith, E.rising);
      ac = λ e. T.not_lo (sym e);
      ad = λ e. a (sym e);
      bc = λ e. T.not_hi (sym e);
      bd = λ e. b (sym e);
      cd = T.not_omitted;
    }

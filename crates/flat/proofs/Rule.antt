-- Rule 2: which edge has the largest count, and what lessening it leaves.
use Prim.Native.Nat.{ℕ, ◌+◌, ◌-◌, ◌%◌, ◌<◌, ◌≤◌}
use mathlib.Core.Path.{◌≡◌, ◌∙◌, refl}
use mathlib.Core.Logic.{◌≢◌}
use mathlib.Core.Bool.{Bool, true, false, ◌&&◌}
use native.Mathlib.Omega.{arith}
use native.Mathlib.Decide.{dec_lt}
use lib.Dec.{eqb, leb}
use borrow.Author.Tests.{eq-eqb, eqb-true, ne_eqb, le-leb, leb-true, lt-leb}
use Rattle.counting.specs.Lists.{one, seek}
use Rattle.counting.specs.Search.{first, every}
use Rattle.counting.proofs.Bools.{and_left, and_right, not_clash}
use Rattle.slots.specs.Slots.{lower, upper}
use Rattle.face.specs.Face.{other, count_on, others, corner_count_at}
use Rattle.face.specs.claims.Ends.{Edge, on_ab, on_ac, on_bc}
use Rattle.face.specs.claims.Level.{Level}
use Rattle.face.proofs.Gaps.{corner_room}
use Rattle.face.proofs.Level.{level_full}
use Rattle.flat.specs.Join.{rule_two, largest_edge, lessened, flat_corner_at}

module _ (ab ac bc : ℕ) where
  abbrev n : ℕ → ℕ
  n e = count_on ab ac bc e

  -- the largest count, by its edge
  pub data Largest : Type 0 where
    is_ab : largest_edge ab ac bc ≡ 0 → ac ≤ ab → bc ≤ ab → Largest
    is_ac : largest_edge ab ac bc ≡ 1 → ab < ac → bc ≤ ac → Largest
    is_bc : largest_edge ab ac bc ≡ 2 → ab < bc → ac < bc → Largest

  pub largest_ab : ac ≤ ab → bc ≤ ab → largest_edge ab ac bc ≡ 0
  unfolding largest_edge first seek every count_on
  largest_ab h k = rw (le-leb ac ab h, le-leb ab ab (omega arith), le-leb bc ab k)

  pub largest_ac : ab < ac → bc ≤ ac → largest_edge ab ac bc ≡ 1
  unfolding largest_edge first seek every count_on
  largest_ac h k = rw (lt-leb ac ab h, le-leb ab ab (omega arith), le-leb ab ac (omega arith), le-leb ac ac (omega arith), le-leb bc ac k)

  pub largest_bc : ab < bc → ac < bc → largest_edge ab ac bc ≡ 2
  unfolding largest_edge first seek every count_on
  largest_bc h k = go (leb ac ab) (leb ab ac) refl refl
    where
      go : (b c : Bool) → leb ac ab ≡ b → leb ab ac ≡ c → largest_edge ab ac bc ≡ 2
      go true true p q = rw (p, q, le-leb ab ab (omega arith), lt-leb bc ab h, le-leb ac ac (omega arith), lt-leb bc ac k, le-leb ab bc (omega arith), le-leb ac bc (omega arith), le-leb bc bc (omega arith))
      go true false p q = rw (p, q, le-leb ab ab (omega arith), lt-leb bc ab h, le-leb ab bc (omega arith), le-leb ac bc (omega arith), le-leb bc bc (omega arith))
      go false true p q = rw (p, q, le-leb ab ab (omega arith), le-leb ac ac (omega arith), lt-leb bc ac k, le-leb ab bc (omega arith), le-leb ac bc (omega arith), le-leb bc bc (omega arith))
      go false false p q = rw (p, q, le-leb ab ab (omega arith), le-leb ab bc (omega arith), le-leb ac bc (omega arith), le-leb bc bc (omega arith))

  pub largest_of : Largest
  largest_of =
      elim (dec_lt ab ac) [
        | yes h ↦ elim (dec_lt ac bc) [
          | yes k ↦ is_bc (largest_bc (omega arith) k) (omega arith) k
          | no k ↦ is_ac (largest_ac h (omega arith)) h (omega arith)
        ]
        | no h ↦ elim (dec_lt ab bc) [
          | yes k ↦ is_bc (largest_bc k (omega arith)) k (omega arith)
          | no k ↦ is_ab (largest_ab (omega arith) (omega arith)) (omega arith) (omega arith)
        ]
      ]

  -- rule 2, in numbers
  pub record Two : Type 0 where
    pub odd : (ab + ac + bc) % 2 ≡ 1
    pub first : ab ≤ ac + bc
    pub second : ac ≤ ab + bc
    pub third : bc ≤ ab + ac

  pub two_is : rule_two ab ac bc ≡ true → Two
  unfolding rule_two every count_on others lower upper other
  two_is h =
      let o = and_left (eqb ((ab + ac + bc) % 2) 1) (leb ab (ac + bc) && leb ac (ab + bc) && leb bc (ab + ac)) h in
      let r = and_right (eqb ((ab + ac + bc) % 2) 1) (leb ab (ac + bc) && leb ac (ab + bc) && leb bc (ab + ac)) h in
      let p = and_left (leb ab (ac + bc) && leb ac (ab + bc)) (leb bc (ab + ac)) r in
      record {
        odd = eqb-true ((ab + ac + bc) % 2) 1 o;
        first = leb-true ab (ac + bc) (and_left (leb ab (ac + bc)) (leb ac (ab + bc)) p);
        second = leb-true ac (ab + bc) (and_right (leb ab (ac + bc)) (leb ac (ab + bc)) p);
        third = leb-true bc (ab + ac) (and_right (leb ab (ac + bc) && leb ac (ab + bc)) (leb bc (ab + ac)) r);
      }

  pub not_two : (Two → ⊥) → rule_two ab ac bc ≡ false
  not_two h = not_clash (rule_two ab ac bc) (λ q. h (two_is q))

  pub is_two : Two → rule_two ab ac bc ≡ true
  unfolding rule_two every count_on others lower upper other
  is_two t = rw (eq-eqb ((ab + ac + bc) % 2) 1 t.odd, le-leb ab (ac + bc) t.first, le-leb ac (ab + bc) t.second, le-leb bc (ab + ac) t.third)

  -- rules 1 and 3 take the counts as they are
  pub lessened_none : rule_two ab ac bc ≡ false → (e : ℕ) → lessened ab ac bc e ≡ n e
  unfolding lessened
  lessened_none h e = rw h (omega arith)

  pub corner_none : rule_two ab ac bc ≡ false → (w e : ℕ) → flat_corner_at ab ac bc w e ≡ corner_count_at ab ac bc w e
  unfolding flat_corner_at count_on
  corner_none h w e = rw (lessened_none h 0, lessened_none h 1, lessened_none h 2)

  -- what rule 2 leaves: rule 1, the largest count less by 1 and the others as they are
  pub record Less (m : ℕ) : Type 0 where
    pub edge : Edge m
    pub level : Level (lessened ab ac bc 0) (lessened ab ac bc 1) (lessened ab ac bc 2)
    pub at : lessened ab ac bc m + 1 ≡ n m
    pub else : (e : ℕ) → e ≢ m → lessened ab ac bc e ≡ n e

  module _ (t : rule_two ab ac bc ≡ true) where
    less_at : (e : ℕ) → lessened ab ac bc e ≡ n e - one (eqb e (largest_edge ab ac bc))
    unfolding lessened
    less_at e = rw t

    less_else : {m : ℕ} → largest_edge ab ac bc ≡ m → (e : ℕ) → e ≢ m → lessened ab ac bc e ≡ n e
    less_else q e h = less_at e ∙ rw (q, ne_eqb e _ h) (omega arith)

    less_zero : largest_edge ab ac bc ≡ 0 → (lessened ab ac bc 0 ≡ ab - 1) × (lessened ab ac bc 1 ≡ ac) × (lessened ab ac bc 2 ≡ bc)
    unfolding count_on
    less_zero q = (less_at 0 ∙ rw q, less_at 1 ∙ rw q (omega arith), less_at 2 ∙ rw q (omega arith))

    less_one : largest_edge ab ac bc ≡ 1 → (lessened ab ac bc 0 ≡ ab) × (lessened ab ac bc 1 ≡ ac - 1) × (lessened ab ac bc 2 ≡ bc)
    unfolding count_on
    less_one q = (less_at 0 ∙ rw q (omega arith), less_at 1 ∙ rw q, less_at 2 ∙ rw q (omega arith))

    less_two : largest_edge ab ac bc ≡ 2 → (lessened ab ac bc 0 ≡ ab) × (lessened ab ac bc 1 ≡ ac) × (lessened ab ac bc 2 ≡ bc - 1)
    unfolding count_on
    less_two q = (less_at 0 ∙ rw q (omega arith), less_at 1 ∙ rw q (omega arith), less_at 2 ∙ rw q)

    level_of : {x y z : ℕ} → (x + y + z) % 2 ≡ 0 → x ≤ y + z → y ≤ x + z → z ≤ x + y
        → (lessened ab ac bc 0 ≡ x) × (lessened ab ac bc 1 ≡ y) × (lessened ab ac bc 2 ≡ z) → Level (lessened ab ac bc 0) (lessened ab ac bc 1) (lessened ab ac bc 2)
    level_of even a b c q = rw (q.0, q.1, q.2) (record { even = even; first = a; second = b; third = c })

    pub less : Less (largest_edge ab ac bc)
    unfolding count_on
    less = go largest_of (two_is t)
      where
        go : Largest → Two → Less (largest_edge ab ac bc)
        go (is_ab q h k) w =
            let o = w.odd in
            let c = w.first in
            rw q (record {
              edge = on_ab;
              level = level_of (omega arith) (omega arith) (omega arith) (omega arith) (less_zero q);
              at = omega (arith, less_zero q);
              else = less_else q;
            })
        go (is_ac q h k) w =
            let o = w.odd in
            let c = w.second in
            rw q (record {
              edge = on_ac;
              level = level_of (omega arith) (omega arith) (omega arith) (omega arith) (less_one q);
              at = omega (arith, less_one q);
              else = less_else q;
            })
        go (is_bc q h k) w =
            let o = w.odd in
            let c = w.third in
            rw q (record {
              edge = on_bc;
              level = level_of (omega arith) (omega arith) (omega arith) (omega arith) (less_two q);
              at = omega (arith, less_two q);
              else = less_else q;
            })

  -- the corner counts of an edge fill what is left of it
  pub count_lessened : {e : ℕ} → Edge e → count_on (lessened ab ac bc 0) (lessened ab ac bc 1) (lessened ab ac bc 2) e ≡ lessened ab ac bc e
  unfolding count_on
  count_lessened on_ab = refl
  count_lessened on_ac = refl
  count_lessened on_bc = refl

  pub less_full : {m : ℕ} → Less m → {e : ℕ} → Edge e → flat_corner_at ab ac bc (lower e) e + flat_corner_at ab ac bc (upper e) e ≡ lessened ab ac bc e
  unfolding flat_corner_at
  less_full L d = level_full L.level d ∙ count_lessened d

  -- in every rule
  pub lessened_le : (e : ℕ) → lessened ab ac bc e ≤ n e
  unfolding lessened
  lessened_le e = omega arith

  pub apart : {e : ℕ} → Edge e → flat_corner_at ab ac bc (lower e) e + flat_corner_at ab ac bc (upper e) e ≤ n e
  apart {e} d = go (rule_two ab ac bc) refl
    where
      go : (b : Bool) → rule_two ab ac bc ≡ b → flat_corner_at ab ac bc (lower e) e + flat_corner_at ab ac bc (upper e) e ≤ n e
      go true q = omega (arith, less_full (less q) d, lessened_le e)
      go false q = rw (corner_none q (lower e) e, corner_none q (upper e) e) (corner_room ab ac bc d)

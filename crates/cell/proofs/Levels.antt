-- The cells in which only rule 1 is met: face by face, and by the sums of counts of opposite edges and at nodes.
use Prim.Native.Nat.{ℕ, ◌+◌, ◌%◌, ◌<◌, ◌≤◌, min, max}
use mathlib.Core.Path.{◌≡◌, sym}
use mathlib.Core.Bool.{true, false}
use native.Mathlib.Omega.{arith}
use lib.Dec.{leb}
use borrow.Author.Tests.{leb-true, le-leb}
use Rattle.counting.proofs.Bools.{not_clash, bool_same}
use Rattle.counting.proofs.Below.{below_four}
use Rattle.counting.proofs.Search.{every_is, is_every}
use Rattle.slots.specs.Slots.{slot_edge}
use Rattle.face.specs.Face.{is_level}
use Rattle.face.specs.claims.Level.{Level}
use Rattle.face.proofs.Level.{level_is, is-level}
use Rattle.cell.specs.Level.{is_level_cell}

-- none of x, y, z is above one of a, b, c, d
record Below (x y z a b c d : ℕ) : Type 0 where
  xa : x ≤ a
  xb : x ≤ b
  xc : x ≤ c
  xd : x ≤ d
  ya : y ≤ a
  yb : y ≤ b
  yc : y ≤ c
  yd : y ≤ d
  za : z ≤ a
  zb : z ≤ b
  zc : z ≤ c
  zd : z ≤ d

below_is : (x y z a b c d : ℕ) → max (max x y) z ≤ min (min a b) (min c d) → Below x y z a b c d
below_is x y z a b c d h = omega arith

is_below : {x y z a b c d : ℕ} → Below x y z a b c d → max (max x y) z ≤ min (min a b) (min c d)
is_below B = omega arith

-- a face with the counts a, b, c, where x, y, z are those of the opposite edges: two opposite edges have no more than the three at a node of the face
face : {a b c : ℕ} (x y z : ℕ) {p q r u v t : ℕ} → (a + b + c) % 2 ≡ 0 → p ≤ u → q ≤ v → r ≤ t
    → (p ≡ a + x) × (q ≡ b + y) × (r ≡ c + z) × (u ≡ b + c + x) × (v ≡ a + c + y) × (t ≡ a + b + z) → Level a b c
face x y z e h k l m = omega arith

module _ (w : ℕ → ℕ) where
  abbrev On : ℕ → Type 0
  On s = Level (w (slot_edge s 0)) (w (slot_edge s 1)) (w (slot_edge s 2))

  pub slot_level : is_level_cell w ≡ true → (s : ℕ) → s < 4 → Level (w (slot_edge s 0)) (w (slot_edge s 1)) (w (slot_edge s 2))
  unfolding is_level_cell
  slot_level K s l =
      level_is (w (slot_edge s 0)) (w (slot_edge s 1)) (w (slot_edge s 2)) (every_is (λ s. is_level (w (slot_edge s 0)) (w (slot_edge s 1)) (w (slot_edge s 2))) 4 K s l)

  -- three sums are even
  abbrev Even : Type 0
  Even = ((w 0 + w 1 + w 3) % 2) + ((w 0 + w 2 + w 4) % 2) + ((w 1 + w 2 + w 5) % 2) ≡ 0

  pub not_even : (Even → ⊥) → false ≡ is_level_cell w
  unfolding slot_edge
  not_even n = sym (not_clash (is_level_cell w) (λ K. n (omega (arith, slot_level K 1 (omega arith), slot_level K 2 (omega arith), slot_level K 3 (omega arith)))))

  -- the sums of opposite edges and those at nodes
  abbrev highest : ℕ
  highest = max (max (w 0 + w 5) (w 1 + w 4)) (w 2 + w 3)

  abbrev lowest : ℕ
  lowest = min (min (w 0 + w 1 + w 2) (w 0 + w 3 + w 4)) (min (w 1 + w 3 + w 5) (w 2 + w 4 + w 5))

  abbrev BySums : Type 0
  BySums = Below (w 0 + w 5) (w 1 + w 4) (w 2 + w 3) (w 0 + w 1 + w 2) (w 0 + w 3 + w 4) (w 1 + w 3 + w 5) (w 2 + w 4 + w 5)

  even_face : Even → (s : ℕ) → s < 4 → (w (slot_edge s 0) + w (slot_edge s 1) + w (slot_edge s 2)) % 2 ≡ 0
  unfolding slot_edge
  even_face v = below_four (λ s. (w (slot_edge s 0) + w (slot_edge s 1) + w (slot_edge s 2)) % 2 ≡ 0) (omega arith) (omega arith) (omega arith) (omega arith)

  to_level : Even → BySums → is_level_cell w ≡ true
  unfolding is_level_cell slot_edge
  to_level v B =
      let even = even_face v in
      is_every (λ s. is_level (w (slot_edge s 0)) (w (slot_edge s 1)) (w (slot_edge s 2))) 4
      (λ s l.
      is-level (below_four On
      (face (w 2) (w 1) (w 0) (even 0 (omega arith)) B.zd B.yc B.xb (omega arith))
      (face (w 4) (w 3) (w 0) (even 1 (omega arith)) B.yd B.zc B.xa (omega arith))
      (face (w 5) (w 3) (w 1) (even 2 (omega arith)) B.xd B.zb B.ya (omega arith))
      (face (w 5) (w 4) (w 2) (even 3 (omega arith)) B.xc B.yb B.za (omega arith))
      s l))

  from_level : is_level_cell w ≡ true → BySums
  unfolding slot_edge
  from_level K =
      let a = slot_level K 0 (omega arith) in
      let b = slot_level K 1 (omega arith) in
      let c = slot_level K 2 (omega arith) in
      let d = slot_level K 3 (omega arith) in
      omega arith

  pub by_sums : Even → {m s : ℕ} → m ≡ highest → s ≡ lowest → leb m s ≡ is_level_cell w
  by_sums v {m} {s} e f =
      bool_same (leb m s) (is_level_cell w)
      (λ h. to_level v (below_is _ _ _ _ _ _ _ (rw (e, f) at (leb-true m s h))))
      (λ K. le-leb m s (rw (e, f) (is_below (from_level K))))

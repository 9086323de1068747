-- The parts of a cell with the places of their nodes: one split of the recursion, and what follows from split to split.
use Prim.Native.Nat.{ℕ, zero, suc, ◌+◌, ◌-◌, ◌*◌, ◌≤◌, ◌<◌}
use mathlib.Core.Path.{◌≡◌, refl, sym, ap, ◌∙◌}
use mathlib.Core.Bool.{Bool, true, false}
use mathlib.Core.List.{List, [], ◌∷◌, ◌++◌, map, map-append, append-nil}
use native.Mathlib.Omega.{arith}
use Rattle.counting.specs.Lists.{gather}
use Rattle.counting.proofs.Lists.{gather_append}
use Rattle.place.specs.declared.Place.{Place}
use Rattle.cell.specs.declared.Cell.{Cell}
use Rattle.cell.specs.Of.{count_of}
use Rattle.cell.specs.Level.{is_level_cell}
use Rattle.booking.specs.Booking.{larger, smaller, is_spiral}
use Rattle.split.specs.Limits.{word_step}
use Rattle.split.specs.SubCell.{sub}
use Rattle.split.specs.Parts.{Part, whole, corners, splits_within, parts}
use Rattle.split.specs.Standing.{sub_places, Standing, stand, standing, split_places, inner_of, fans_in, fans_of}
use Rattle.split.specs.claims.Claims.{StandingParts}
use Rattle.split.specs.work.Spots.{standing_inner}
use Rattle.split.proofs.Labels.{spiral_is}
use Rattle.split.proofs.SubNumbers.{sub_cells}
use Rattle.split.proofs.Parts.{not_spiral, stop}
use Rattle.split.proofs.Parts as listed

-- what is listed before and after the nested sub-cell
module _ (cell n b f : ℕ) (at : List Place) (c : Cell) where
  abbrev pub first_of : Standing
  first_of = stand at (corners c)

  abbrev pub omits_l : Standing
  omits_l = stand (sub_places (count_of c) at 3) (whole (sub c b f (cell + word_step * (n + 1)) 3))

  abbrev pub omits_j : Standing
  omits_j = stand (sub_places (count_of c) at 1) (whole (sub c b f (cell + word_step * (n + 3 + 4 * splits_within (count_of c))) 1))

  abbrev pub omits_i : Standing
  omits_i = stand (sub_places (count_of c) at 0) (whole (sub c b f (cell + word_step * (n + 4 + 4 * splits_within (count_of c))) 0))

  -- the nested sub-cell, and where its inner crossings start
  abbrev pub inmost : Cell
  inmost = sub c b f (cell + word_step * (n + 2)) 2

  abbrev pub onward : ℕ
  onward = b + 2 * (larger (count_of c) + smaller (count_of c))

  abbrev pub five : List Standing → List Standing
  five l = first_of ∷ omits_l ∷ (l ++ (omits_j ∷ omits_i ∷ []))

module _ (cell : ℕ) where
  -- no split
  none : (fuel n b f : ℕ) (at : List Place) (c : Cell) → is_spiral (count_of c) ≡ false → standing fuel cell n b f at c ≡ stand at (whole c) ∷ []
  unfolding standing
  none zero n b f at c e = refl
  none (suc fuel) n b f at c e = rw (e, standing)

  more : (fuel n b f : ℕ) (at : List Place) (c : Cell) → is_spiral (count_of c) ≡ true
      → standing (suc fuel) cell n b f at c ≡ five cell n b f at c (standing fuel cell (n + 2) (onward cell n b f at c) (f + 6) (sub_places (count_of c) at 2) (inmost cell n b f at c))
  unfolding standing
  more fuel n b f at c e = rw (e, standing)

  -- more than enough is enough
  enough : (m k n b f : ℕ) (at : List Place) (c : Cell) → is_level_cell (count_of c) ≡ true
      → larger (count_of c) + smaller (count_of c) ≤ m → larger (count_of c) + smaller (count_of c) ≤ k → standing m cell n b f at c ≡ standing k cell n b f at c
  enough zero k n b f at c K h i = go (is_spiral (count_of c)) refl
    where
      go : (s : Bool) → is_spiral (count_of c) ≡ s → standing zero cell n b f at c ≡ standing k cell n b f at c
      go true e = absurd (omega (arith, spiral_is (count_of c) e))
      go false e = none zero n b f at c e ∙ sym (none k n b f at c e)
  enough (suc m) zero n b f at c K h i = go (is_spiral (count_of c)) refl
    where
      go : (s : Bool) → is_spiral (count_of c) ≡ s → standing (suc m) cell n b f at c ≡ standing zero cell n b f at c
      go true e = absurd (omega (arith, spiral_is (count_of c) e))
      go false e = none (suc m) n b f at c e ∙ sym (none zero n b f at c e)
  enough (suc m) (suc k) n b f at c K h i =
      go (is_spiral (count_of c)) refl
      (λ L x y. enough m k (n + 2) (onward cell n b f at c) (f + 6) (sub_places (count_of c) at 2) (inmost cell n b f at c) L x y)
    where
      v : ℕ → ℕ
      v = count_of (inmost cell n b f at c)

      within : ℕ → List Standing
      within fuel = standing fuel cell (n + 2) (onward cell n b f at c) (f + 6) (sub_places (count_of c) at 2) (inmost cell n b f at c)

      go : (s : Bool) → is_spiral (count_of c) ≡ s → (is_level_cell v ≡ true → larger v + smaller v ≤ m → larger v + smaller v ≤ k → within m ≡ within k)
          → standing (suc m) cell n b f at c ≡ standing (suc k) cell n b f at c
      go false e j = none (suc m) n b f at c e ∙ sym (none (suc k) n b f at c e)
      go true e j =
          let (some, apart) = spiral_is (count_of c) e in
          let N = (sub_cells c K some apart b f (cell + word_step * (n + 2))).omits_k in
          more m n b f at c e
          ∙ ap (five cell n b f at c) (j N.level (omega (arith, N.first, N.second)) (omega (arith, N.first, N.second)))
          ∙ sym (more k n b f at c e)

  -- with as much fuel as is enough
  abbrev pub stands : (n b f : ℕ) → List Place → Cell → List Standing
  stands n b f at c = standing (larger (count_of c) + smaller (count_of c)) cell n b f at c

  module _ (n b f : ℕ) (at : List Place) (c : Cell) where
    pub stands_stop : is_spiral (count_of c) ≡ false → stands n b f at c ≡ stand at (whole c) ∷ []
    stands_stop e = none (larger (count_of c) + smaller (count_of c)) n b f at c e

    pub stands_more : is_level_cell (count_of c) ≡ true → is_spiral (count_of c) ≡ true
        → stands n b f at c ≡ five cell n b f at c (stands (n + 2) (onward cell n b f at c) (f + 6) (sub_places (count_of c) at 2) (inmost cell n b f at c))
    stands_more K S =
        let (some, apart) = spiral_is (count_of c) S in
        let N = (sub_cells c K some apart b f (cell + word_step * (n + 2))).omits_k in
        let fuel = larger (count_of c) + smaller (count_of c) - 1 in
        let e : larger (count_of c) + smaller (count_of c) ≡ suc fuel = omega arith in
        let v = inmost cell n b f at c in
        ap (λ m. standing m cell n b f at c) e
        ∙ more fuel n b f at c S
        ∙ ap (five cell n b f at c)
        (enough fuel (larger (count_of v) + smaller (count_of v)) (n + 2) (onward cell n b f at c) (f + 6) (sub_places (count_of c) at 2) v N.level (omega (arith, N.first, N.second)) (omega arith))

  -- what holds where both numbers are the same, and of a split where it holds of the nested sub-cell, holds of all
  pub spin : (P : (n b f : ℕ) → List Place → Cell → Type 0)
      → ((n b f : ℕ) (at : List Place) (c : Cell) → is_level_cell (count_of c) ≡ true → 0 < smaller (count_of c) → larger (count_of c) ≡ smaller (count_of c) → is_spiral (count_of c) ≡ false
      → P n b f at c)
      → ((n b f : ℕ) (at : List Place) (c : Cell) → is_level_cell (count_of c) ≡ true → is_spiral (count_of c) ≡ true
      → P (n + 2) (onward cell n b f at c) (f + 6) (sub_places (count_of c) at 2) (inmost cell n b f at c) → P n b f at c)
      → (n b f : ℕ) (at : List Place) (c : Cell) → is_level_cell (count_of c) ≡ true → 0 < smaller (count_of c) → P n b f at c
  spin P end step n b f at c K h = turn (larger (count_of c) + smaller (count_of c)) n b f at c K h (omega arith)
    where
      turn : (fuel n b f : ℕ) (at : List Place) (c : Cell) → is_level_cell (count_of c) ≡ true → 0 < smaller (count_of c) → larger (count_of c) + smaller (count_of c) ≤ fuel → P n b f at c
      turn zero n b f at c K h l = absurd (omega arith)
      turn (suc fuel) n b f at c K h l =
          go (is_spiral (count_of c)) refl (λ L p q. turn fuel (n + 2) (onward cell n b f at c) (f + 6) (sub_places (count_of c) at 2) (inmost cell n b f at c) L p q)
        where
          v : ℕ → ℕ
          v = count_of (inmost cell n b f at c)

          go : (s : Bool) → is_spiral (count_of c) ≡ s
              → (is_level_cell v ≡ true → 0 < smaller v → larger v + smaller v ≤ fuel → P (n + 2) (onward cell n b f at c) (f + 6) (sub_places (count_of c) at 2) (inmost cell n b f at c))
              → P n b f at c
          go false e i = end n b f at c K h (not_spiral (count_of c) e h) e
          go true e i =
              let (some, apart) = spiral_is (count_of c) e in
              let N = (sub_cells c K some apart b f (cell + word_step * (n + 2))).omits_k in
              step n b f at c K e (i N.level (omega (arith, N.second)) (omega (arith, N.first, N.second)))

-- what is gathered of the five
gather_five : (g : Standing → List Place) (p q r s : Standing) (l : List Standing)
    → gather g (p ∷ q ∷ (l ++ (r ∷ s ∷ []))) ≡ g p ++ (g q ++ (gather g l ++ (g r ++ g s)))
unfolding gather
gather_five g p q r s l = ap (λ m. g p ++ (g q ++ m)) (gather_append g l (r ∷ s ∷ []) ∙ ap (λ m. gather g l ++ (g r ++ m)) (append-nil (g s)))

module _ (cell n b f : ℕ) (at : List Place) (c : Cell) where
  abbrev v : Cell
  v = inmost cell n b f at c

  abbrev at' : List Place
  at' = sub_places (count_of c) at 2

  abbrev b' : ℕ
  b' = onward cell n b f at c

  pub inner_stop : is_spiral (count_of c) ≡ false → standing_inner cell n b f at c ≡ []
  unfolding standing_inner gather
  inner_stop e = ap (gather inner_of) (stands_stop cell n b f at c e)

  pub inner_more : is_level_cell (count_of c) ≡ true → is_spiral (count_of c) ≡ true
      → standing_inner cell n b f at c ≡ split_places (count_of c) at ++ standing_inner cell (n + 2) b' (f + 6) at' v
  unfolding standing_inner
  inner_more K S =
      ap (gather inner_of) (stands_more cell n b f at c K S)
      ∙ gather_five inner_of (first_of cell n b f at c) (omits_l cell n b f at c) (omits_j cell n b f at c) (omits_i cell n b f at c) (stands cell (n + 2) b' (f + 6) at' v)
      ∙ ap (λ (l : List Place). split_places (count_of c) at ++ l) (append-nil (gather inner_of (stands cell (n + 2) b' (f + 6) at' v)))

  -- the fans of a cell, of which each has its middle by `mid`; in a split those of the sub-cells
  module _ (mid : (ℕ → Place) → Cell → ℕ → Place) where
    pub fans_stop : is_spiral (count_of c) ≡ false → gather (fans_of mid) (stands cell n b f at c) ≡ fans_in mid at c
    unfolding gather
    fans_stop e = ap (gather (fans_of mid)) (stands_stop cell n b f at c e) ∙ append-nil (fans_in mid at c)

    pub fans_more : is_level_cell (count_of c) ≡ true → is_spiral (count_of c) ≡ true
        → gather (fans_of mid) (stands cell n b f at c)
        ≡ fans_in mid (omits_l cell n b f at c).at (sub c b f (cell + word_step * (n + 1)) 3)
        ++ (gather (fans_of mid) (stands cell (n + 2) b' (f + 6) at' v)
        ++ (fans_in mid (omits_j cell n b f at c).at (sub c b f (cell + word_step * (n + 3 + 4 * splits_within (count_of c))) 1)
        ++ fans_in mid (omits_i cell n b f at c).at (sub c b f (cell + word_step * (n + 4 + 4 * splits_within (count_of c))) 0)))
    fans_more K S =
        ap (gather (fans_of mid)) (stands_more cell n b f at c K S)
        ∙ gather_five (fans_of mid) (first_of cell n b f at c) (omits_l cell n b f at c) (omits_j cell n b f at c) (omits_i cell n b f at c) (stands cell (n + 2) b' (f + 6) at' v)

-- the parts are those of the mesh
pub standing_parts : StandingParts
unfolding standing parts
standing_parts zero cell n b f at c = refl
standing_parts (suc fuel) cell n b f at c =
    go (is_spiral (count_of c)) refl (standing_parts fuel cell (n + 2) (onward cell n b f at c) (f + 6) (sub_places (count_of c) at 2) (inmost cell n b f at c))
  where
    go : (s : Bool) → is_spiral (count_of c) ≡ s
        → map (λ (s : Standing). s.part) (standing fuel cell (n + 2) (onward cell n b f at c) (f + 6) (sub_places (count_of c) at 2) (inmost cell n b f at c))
        ≡ parts fuel cell (n + 2) (onward cell n b f at c) (f + 6) (inmost cell n b f at c)
        → map (λ (s : Standing). s.part) (standing (suc fuel) cell n b f at c) ≡ parts (suc fuel) cell n b f c
    go false e i = ap (map (λ (s : Standing). s.part)) (none cell (suc fuel) n b f at c e) ∙ sym (stop fuel cell n b f c e)
    go true e i =
        ap (map (λ (s : Standing). s.part)) (more cell fuel n b f at c e)
        ∙ ap (λ (l : List Part). corners c ∷ whole (sub c b f (cell + word_step * (n + 1)) 3) ∷ l)
        (map-append (λ (s : Standing). s.part) (standing fuel cell (n + 2) (onward cell n b f at c) (f + 6) (sub_places (count_of c) at 2) (inmost cell n b f at c)) (omits_j cell n b f at c ∷ omits_i cell n b f at c ∷ [])
        ∙ ap (λ (l : List Part). l ++ (whole (sub c b f (cell + word_step * (n + 3 + 4 * splits_within (count_of c))) 1) ∷ whole (sub c b f (cell + word_step * (n + 4 + 4 * splits_within (count_of c))) 0) ∷ [])) i)
        ∙ sym (listed.more fuel cell n b f c e)

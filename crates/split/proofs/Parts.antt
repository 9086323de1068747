-- The recursion: one step of it, and how many parts it lists.
use Prim.Native.Nat.{ℕ, zero, suc, ◌+◌, ◌*◌, ◌≤◌, ◌<◌}
use mathlib.Core.Path.{◌≡◌, refl, sym, ap₂, ◌∙◌, subst}
use mathlib.Core.Bool.{Bool, true, false}
use mathlib.Core.List.{List, [], ◌∷◌, ◌++◌}
use native.Mathlib.Omega.{arith}
use native.Mathlib.Decide.{dec_lt, ℕ_discrete}
use lib.ListN.{length, get_or, length-append, get_or-append}
use lib.Seq.{get_or-append-add}
use borrow.Author.Tests.{lt-ltb, ltb-false}
use Rattle.cell.specs.declared.Cell.{Cell}
use Rattle.cell.specs.Of.{count_of}
use Rattle.cell.specs.Level.{is_level_cell}
use Rattle.booking.specs.Booking.{larger, smaller, is_spiral, is_split}
use Rattle.booking.proofs.Counts.{own}
use Rattle.split.specs.Limits.{word_step}
use Rattle.booking.specs.Figures.{are_spiral, splits}
use Rattle.split.specs.SubCell.{sub_at, sub}
use Rattle.split.specs.Parts.{Part, whole, corners, splits_within, parts, all_parts, no_part, part_cell, drawn_parts}
use Rattle.split.specs.claims.Claims.{PartsCounted, PartsNumbered}
use Rattle.booking.proofs.Figures.{figure_stop, figure_step}
use Rattle.split.proofs.Labels.{spiral_is}
use Rattle.split.proofs.SubNumbers.{sub_cells}

-- d1 is not below d2
pub in_order : (w : ℕ → ℕ) → smaller w ≤ larger w
in_order w = omega (arith, own w)

-- no spiral with d2 above 0: the numbers are equal
pub not_spiral : (w : ℕ → ℕ) → is_spiral w ≡ false → 0 < smaller w → larger w ≡ smaller w
unfolding is_spiral are_spiral
not_spiral w e h =
    let l = lt-ltb 0 (smaller w) h in
    let m = ltb-false (smaller w) (larger w) (rw l at e) in
    omega (arith, in_order w)

module _ (fuel cell n b f : ℕ) (c : Cell) where
  pub stop : is_spiral (count_of c) ≡ false → parts (suc fuel) cell n b f c ≡ whole c ∷ []
  unfolding parts
  stop e = rw (e, parts)

  pub more : is_spiral (count_of c) ≡ true
      → parts (suc fuel) cell n b f c
      ≡ corners c
      ∷ whole (sub c b f (cell + word_step * (n + 1)) 3)
      ∷ (parts fuel cell (n + 2) (b + 2 * (larger (count_of c) + smaller (count_of c))) (f + 6) (sub c b f (cell + word_step * (n + 2)) 2)
      ++ (whole (sub c b f (cell + word_step * (n + 3 + 4 * splits_within (count_of c))) 1)
      ∷ whole (sub c b f (cell + word_step * (n + 4 + 4 * splits_within (count_of c))) 0)
      ∷ []))
  unfolding parts
  more e = rw (e, parts)

-- the parts that are drawn of a cell that is not split, and of one that is
pub drawn_whole : (c : Cell) → is_split (count_of c) ≡ false → drawn_parts c ≡ whole c ∷ []
unfolding drawn_parts
drawn_whole c e = rw (e, drawn_parts)

pub drawn_all : (c : Cell) → is_split (count_of c) ≡ true → drawn_parts c ≡ all_parts c
unfolding drawn_parts
drawn_all c e = rw (e, drawn_parts)

pub parts_counted : PartsCounted
parts_counted zero cell n b f c K p h = absurd (omega arith)
parts_counted (suc fuel) cell n b f c K p h =
    go (is_spiral (count_of c)) refl
    (λ L x y. parts_counted fuel cell (n + 2) (b + 2 * (larger (count_of c) + smaller (count_of c))) (f + 6) (sub c b f (cell + word_step * (n + 2)) 2) L x y)
  where
    inner : ℕ
    inner = length (parts fuel cell (n + 2) (b + 2 * (larger (count_of c) + smaller (count_of c))) (f + 6) (sub c b f (cell + word_step * (n + 2)) 2))

    v : ℕ → ℕ
    v = count_of (sub c b f (cell + word_step * (n + 2)) 2)

    last : (m s t : ℕ) → m ≡ 1 + 4 * s → t ≡ 1 + s → suc (suc (m + 2)) ≡ 1 + 4 * t
    last m s t u v = omega arith

    go : (s : Bool) → is_spiral (count_of c) ≡ s → (is_level_cell v ≡ true → 0 < smaller v → larger v + smaller v ≤ fuel → inner ≡ 1 + 4 * splits (larger v) (smaller v))
        → length (parts (suc fuel) cell n b f c) ≡ 1 + 4 * splits (larger (count_of c)) (smaller (count_of c))
    go false e i =
        let q = not_spiral (count_of c) e p in
        rw (stop fuel cell n b f c e, q) (omega (arith, figure_stop (λ n. 0) (λ x y. 1) (smaller (count_of c))))
    go true e i =
        let (some, apart) = spiral_is (count_of c) e in
        let N = (sub_cells c K some apart b f (cell + word_step * (n + 2))).omits_k in
        rw (more fuel cell n b f c e, length-append)
        (last inner (splits_within (count_of c)) (splits (larger (count_of c)) (smaller (count_of c)))
        (i N.level (omega (arith, N.second)) (omega (arith, N.first, N.second)) ∙ ap₂ (λ x y. 1 + 4 * splits x y) N.first N.second)
        (figure_step (λ n. 0) (λ x y. 1) (larger (count_of c)) (smaller (count_of c)) some apart))

-- what holds of each part by its place
module _ (P : ℕ → Part → Type 0) (p0 p1 q0 q1 : Part) (l : List Part) (first : P 0 p0) (second : P 1 p1)
    (inside : (y : ℕ) → y < length l → P (suc (suc y)) (get_or l y no_part)) (third : P (suc (suc (length l))) q0) (last : P (suc (suc (suc (length l)))) q1) where
  abbrev listed : List Part
  listed = p0 ∷ p1 ∷ (l ++ (q0 ∷ q1 ∷ []))

  after : (y : ℕ) → length l ≤ y → y < length l + 2 → P (suc (suc y)) (get_or (l ++ (q0 ∷ q1 ∷ [])) y no_part)
  after y a h =
      elim (ℕ_discrete y (length l)) [
        | yes e ↦ let z : length l + 0 ≡ y = omega arith in
            subst (λ y. P (suc (suc y)) (get_or (l ++ (q0 ∷ q1 ∷ [])) y no_part)) z
            (subst (P (suc (suc (length l + 0)))) (sym (get_or-append-add l (q0 ∷ q1 ∷ []) 0 no_part)) (subst (λ n. P n q0) (omega arith) third))
        | no e ↦ let z : length l + 1 ≡ y = omega arith in
            subst (λ y. P (suc (suc y)) (get_or (l ++ (q0 ∷ q1 ∷ [])) y no_part)) z
            (subst (P (suc (suc (length l + 1)))) (sym (get_or-append-add l (q0 ∷ q1 ∷ []) 1 no_part)) (subst (λ n. P n q1) (omega arith) last))
      ]

  pub each : (x : ℕ) → x < length listed → P x (get_or listed x no_part)
  each zero h = first
  each (suc zero) h = second
  each (suc (suc y)) h =
      let n : length (l ++ (q0 ∷ q1 ∷ [])) ≡ length l + 2 = length-append l (q0 ∷ q1 ∷ []) in
      elim (dec_lt y (length l)) [
        | yes z ↦ subst (P (suc (suc y))) (sym (get_or-append l (q0 ∷ q1 ∷ []) no_part y z)) (inside y z)
        | no z ↦ after y (omega arith) (omega arith)
      ]

-- word 0 of each part, and that only rule 1 is met in it
module _ (cell : ℕ) where
  Told : ℕ → ℕ → Part → Type 0
  Told n x p = ((part_cell p).index ≡ cell + word_step * (n + x)) × (is_level_cell (count_of (part_cell p)) ≡ true)

  alone : (n : ℕ) (c : Cell) → is_level_cell (count_of c) ≡ true → c.index ≡ cell + word_step * n → (x : ℕ) → x < 1 → Told n x (get_or (whole c ∷ []) x no_part)
  unfolding Told
  alone n c K i zero h = (i ∙ omega arith, K)
  alone n c K i (suc x) h = absurd (omega arith)

  told : (fuel n b f : ℕ) (c : Cell) → is_level_cell (count_of c) ≡ true → larger (count_of c) + smaller (count_of c) ≤ fuel → c.index ≡ cell + word_step * n
      → (x : ℕ) → x < length (parts fuel cell n b f c) → Told n x (get_or (parts fuel cell n b f c) x no_part)
  unfolding parts sub sub_at Told
  told zero n b f c K h i = alone n c K i
  told (suc fuel) n b f c K h i =
      go (is_spiral (count_of c)) refl
      (λ L x y. told fuel (n + 2) (b + 2 * (larger (count_of c) + smaller (count_of c))) (f + 6) (sub c b f (cell + word_step * (n + 2)) 2) L x y)
    where
      N : Cell
      N = sub c b f (cell + word_step * (n + 2)) 2

      inner : List Part
      inner = parts fuel cell (n + 2) (b + 2 * (larger (count_of c) + smaller (count_of c))) (f + 6) (sub c b f (cell + word_step * (n + 2)) 2)

      Goal : List Part → Type 0
      Goal l = (x : ℕ) → x < length l → Told n x (get_or l x no_part)

      word_is : (word m : ℕ) → (sub c b f word m).index ≡ word
      word_is word m = refl

      go : (s : Bool) → is_spiral (count_of c) ≡ s
          → (is_level_cell (count_of N) ≡ true → larger (count_of N) + smaller (count_of N) ≤ fuel → N.index ≡ cell + word_step * (n + 2)
          → (x : ℕ) → x < length inner → Told (n + 2) x (get_or inner x no_part))
          → Goal (parts (suc fuel) cell n b f c)
      go false e j = subst Goal (sym (stop fuel cell n b f c e)) (alone n c K i)
      go true e j =
          let (some, apart) = spiral_is (count_of c) e in
          let M = (sub_cells c K some apart b f (cell + word_step * (n + 2))).omits_k in
          let J = j M.level (omega (arith, M.first, M.second)) (word_is (cell + word_step * (n + 2)) 2) in
          let m : length inner ≡ 1 + 4 * splits_within (count_of c) =
          parts_counted fuel cell (n + 2) (b + 2 * (larger (count_of c) + smaller (count_of c))) (f + 6) (sub c b f (cell + word_step * (n + 2)) 2) M.level
          (omega (arith, M.second)) (omega (arith, M.first, M.second)) ∙ ap₂ (λ x y. 1 + 4 * splits x y) M.first M.second in
          subst Goal (sym (more fuel cell n b f c e))
          (each (Told n) (corners c) (whole (sub c b f (cell + word_step * (n + 1)) 3))
          (whole (sub c b f (cell + word_step * (n + 3 + 4 * splits_within (count_of c))) 1)) (whole (sub c b f (cell + word_step * (n + 4 + 4 * splits_within (count_of c))) 0)) inner
          (i ∙ omega arith, K)
          (word_is (cell + word_step * (n + 1)) 3, (sub_cells c K some apart b f (cell + word_step * (n + 1))).omits-l.level)
          (λ y l. let (a, d) = J y l in (a ∙ omega arith, d))
          (word_is (cell + word_step * (n + 3 + 4 * splits_within (count_of c))) 1 ∙ omega (arith, m), (sub_cells c K some apart b f (cell + word_step * (n + 3 + 4 * splits_within (count_of c)))).omits-j.level)
          (word_is (cell + word_step * (n + 4 + 4 * splits_within (count_of c))) 0 ∙ omega (arith, m), (sub_cells c K some apart b f (cell + word_step * (n + 4 + 4 * splits_within (count_of c)))).omits-i.level))

pub parts_numbered : PartsNumbered
unfolding Told
parts_numbered fuel cell n b f c K h i = record { words = λ x l. (told cell fuel n b f c K h i x l).0; levels = λ x l. (told cell fuel n b f c K h i x l).1 }

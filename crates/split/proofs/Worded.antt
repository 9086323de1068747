-- The words of the parts, by one split; and what is asked of the sub-cells in turn.
use Prim.Native.Nat.{ℕ, zero, suc, ◌+◌, ◌-◌, ◌*◌, ◌≤◌}
use mathlib.Core.Path.{◌≡◌, refl, sym, ap, ◌∙◌}
use mathlib.Core.Bool.{Bool, true, false}
use mathlib.Core.List.{List, [], ◌∷◌, ◌++◌, append_assoc, append-nil}
use native.Mathlib.Omega.{arith}
use Rattle.counting.specs.Lists.{gather}
use Rattle.counting.proofs.Lists.{gather_append}
use Rattle.cell.specs.declared.Cell.{Cell}
use Rattle.cell.specs.Of.{count_of}
use Rattle.cell.specs.Level.{is_level_cell}
use Rattle.cell.specs.Words.{words, all_words}
use Rattle.cell.specs.Triangles.{cell_triangles, triangles_with}
use Rattle.cell.proofs.Taken.{with_all}
use Rattle.booking.specs.Booking.{larger, smaller, is_spiral}
use Rattle.split.specs.Limits.{word_step}
use Rattle.split.specs.SubCell.{sub}
use Rattle.split.specs.Parts.{Part, whole, corners, splits_within, parts, own_corners, part_triangles}
use Rattle.split.specs.work.Working.{parts_words, start_words, end_words}
use Rattle.split.proofs.Labels.{spiral_is}
use Rattle.split.proofs.SubNumbers.{sub_cells}
use Rattle.split.proofs.Parts.{stop, more}

-- the own corner triangles are those of the loops of length 3
pub own_with : (c : Cell) → triangles_with c 3 ≡ own_corners c
unfolding own_corners
own_with c = refl

-- more than enough is enough
module _ (cell : ℕ) where
  none : (fuel n b f : ℕ) (c : Cell) → is_spiral (count_of c) ≡ false → parts fuel cell n b f c ≡ whole c ∷ []
  unfolding parts
  none zero n b f c e = refl
  none (suc fuel) n b f c e = stop fuel cell n b f c e

  enough : (m k n b f : ℕ) (c : Cell) → is_level_cell (count_of c) ≡ true → larger (count_of c) + smaller (count_of c) ≤ m → larger (count_of c) + smaller (count_of c) ≤ k
      → parts m cell n b f c ≡ parts k cell n b f c
  enough zero k n b f c K h i = go (is_spiral (count_of c)) refl
    where
      go : (s : Bool) → is_spiral (count_of c) ≡ s → parts zero cell n b f c ≡ parts k cell n b f c
      go true e = absurd (omega (arith, spiral_is (count_of c) e))
      go false e = none zero n b f c e ∙ sym (none k n b f c e)
  enough (suc m) zero n b f c K h i = go (is_spiral (count_of c)) refl
    where
      go : (s : Bool) → is_spiral (count_of c) ≡ s → parts (suc m) cell n b f c ≡ parts zero cell n b f c
      go true e = absurd (omega (arith, spiral_is (count_of c) e))
      go false e = none (suc m) n b f c e ∙ sym (none zero n b f c e)
  enough (suc m) (suc k) n b f c K h i =
      go (is_spiral (count_of c)) refl
      (λ L x y. enough m k (n + 2) (b + 2 * (larger (count_of c) + smaller (count_of c))) (f + 6) (sub c b f (cell + word_step * (n + 2)) 2) L x y)
    where
      v : ℕ → ℕ
      v = count_of (sub c b f (cell + word_step * (n + 2)) 2)

      within : ℕ → List Part
      within fuel = parts fuel cell (n + 2) (b + 2 * (larger (count_of c) + smaller (count_of c))) (f + 6) (sub c b f (cell + word_step * (n + 2)) 2)

      go : (s : Bool) → is_spiral (count_of c) ≡ s → (is_level_cell v ≡ true → larger v + smaller v ≤ m → larger v + smaller v ≤ k → within m ≡ within k)
          → parts (suc m) cell n b f c ≡ parts (suc k) cell n b f c
      go false e j = none (suc m) n b f c e ∙ sym (none (suc k) n b f c e)
      go true e j =
          let (some, apart) = spiral_is (count_of c) e in
          let N = (sub_cells c K some apart b f (cell + word_step * (n + 2))).omits_k in
          let same = j N.level (omega (arith, N.first, N.second)) (omega (arith, N.first, N.second)) in
          more m cell n b f c e
          ∙ ap (λ l. corners c ∷ whole (sub c b f (cell + word_step * (n + 1)) 3)
          ∷ (l ++ (whole (sub c b f (cell + word_step * (n + 3 + 4 * splits_within (count_of c))) 1) ∷ whole (sub c b f (cell + word_step * (n + 4 + 4 * splits_within (count_of c))) 0) ∷ []))) same
          ∙ sym (more k cell n b f c e)

-- the words of all parts, where there is no split
pub words_stop : (fuel cell n b f : ℕ) (c : Cell) → is_spiral (count_of c) ≡ false → parts_words fuel cell n b f c ≡ all_words (triangles_with c 0)
unfolding gather
words_stop fuel cell n b f c e = ap (λ l. all_words (gather part_triangles l)) (none cell fuel n b f c e) ∙ ap all_words (append-nil (cell_triangles c) ∙ sym (with_all c))

-- of five parts
five_words : (c s3 s1 s0 : Cell) (l : List Part)
    → all_words (gather part_triangles (corners c ∷ whole s3 ∷ (l ++ (whole s1 ∷ whole s0 ∷ []))))
    ≡ (all_words (triangles_with c 3) ++ all_words (triangles_with s3 0))
    ++ (all_words (gather part_triangles l) ++ (all_words (triangles_with s1 0) ++ all_words (triangles_with s0 0)))
unfolding gather
five_words c s3 s1 s0 l =
    rw (own_with c, with_all s3, with_all s1, with_all s0)
    (gather_append words (own_corners c) _
    ∙ ap (λ m. all_words (own_corners c) ++ m)
    (gather_append words (cell_triangles s3) _
    ∙ ap (λ m. all_words (cell_triangles s3) ++ m)
    (ap all_words (gather_append part_triangles l (whole s1 ∷ whole s0 ∷ []))
    ∙ gather_append words (gather part_triangles l) _
    ∙ ap (λ m. all_words (gather part_triangles l) ++ m)
    (gather_append words (cell_triangles s1) _ ∙ ap (λ m. all_words (cell_triangles s1) ++ all_words m) (append-nil (cell_triangles s0)))))
    ∙ sym (append_assoc (all_words (own_corners c)) (all_words (cell_triangles s3)) _))

-- and where there is one
module _ (cell n b f : ℕ) (c : Cell) (K : is_level_cell (count_of c) ≡ true) (S : is_spiral (count_of c) ≡ true) where
  abbrev inner : Cell
  inner = sub c b f (cell + word_step * (n + 2)) 2

  abbrev b' : ℕ
  b' = b + 2 * (larger (count_of c) + smaller (count_of c))

  pub words_more : parts_words (larger (count_of c) + smaller (count_of c)) cell n b f c
      ≡ start_words c cell n b f ++ (parts_words (larger (count_of inner) + smaller (count_of inner)) cell (n + 2) b' (f + 6) inner ++ end_words c cell (n + 3 + 4 * splits_within (count_of c)) b f)
  words_more =
      let (some, apart) = spiral_is (count_of c) S in
      let N = (sub_cells c K some apart b f (cell + word_step * (n + 2))).omits_k in
      let fuel = larger (count_of c) + smaller (count_of c) - 1 in
      let e : larger (count_of c) + smaller (count_of c) ≡ suc fuel = omega arith in
      let next : n + 3 + 4 * splits_within (count_of c) + 1 ≡ n + 4 + 4 * splits_within (count_of c) = omega arith in
      ap (λ m. parts_words m cell n b f c) e
      ∙ ap (λ l. all_words (gather part_triangles l)) (more fuel cell n b f c S)
      ∙ five_words c (sub c b f (cell + word_step * (n + 1)) 3) (sub c b f (cell + word_step * (n + 3 + 4 * splits_within (count_of c))) 1) (sub c b f (cell + word_step * (n + 4 + 4 * splits_within (count_of c))) 0)
      (parts fuel cell (n + 2) b' (f + 6) inner)
      ∙ rw (next, enough cell fuel (larger (count_of inner) + smaller (count_of inner)) (n + 2) b' (f + 6) inner N.level (omega (arith, N.first, N.second)) (omega arith)) refl

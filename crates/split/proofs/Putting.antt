-- What is written of a split: part after part, and the nested sub-cell's own between.
use Prim.Native.Nat.{ℕ, ◌+◌, ◌-◌, ◌*◌, ◌≤◌, ◌<◌}
use mathlib.Core.Path.{◌≡◌, refl, sym, ap, ◌∙◌, subst}
use mathlib.Core.Bool.{true}
use mathlib.Core.List.{List, ◌++◌}
use native.Mathlib.Omega.{arith}
use lib.ListN.{length, length-append}
use Rattle.counting.specs.Stored.{stored_in}
use Rattle.counting.specs.claims.Lists.{next_in}
use Rattle.counting.specs.work.Stored.{Stored}
use Rattle.counting.proofs.Stored.{stored_long, stored_as, stored_then, stored_room}
use Rattle.counting.proofs.Below.{below_four}
use Rattle.cell.specs.declared.Cell.{Cell}
use Rattle.cell.specs.Of.{count_of}
use Rattle.cell.specs.work.Route.{limited}
use Rattle.cell.specs.Level.{is_level_cell}
use Rattle.cell.specs.Words.{all_words}
use Rattle.cell.specs.Triangles.{triangles_with}
use Rattle.cell.proofs.Using.{limited_same}
use Rattle.booking.specs.Booking.{larger, smaller}
use Rattle.split.specs.Limits.{word_step}
use Rattle.split.specs.SubCell.{sub}
use Rattle.split.specs.Parts.{splits_within}
use Rattle.split.specs.work.Working.{StartsNear, LevelSix, Working, SplitsLeft, parts_words, start_words, end_words}
use Rattle.split.proofs.Labels.{spiral_is}
use Rattle.split.proofs.SubNumbers.{sub_cells}
use Rattle.split.proofs.Worded.{words_stop, words_more}
use Rattle.split.proofs.Nested.{sub_sound, left_none, left_some, left_nested, left_next, left_less}

-- a cell with six starts within their limit is written as it is
pub put_stored : {c : Cell} → StartsNear c → (only at : ℕ) {r : ℕ} {was is : List ℕ} → at + length (all_words (triangles_with c only)) ≤ length was
    → r ≡ next_in was at (all_words (triangles_with (limited c) only)) → is ≡ stored_in was at (all_words (triangles_with (limited c) only))
    → Stored was at (all_words (triangles_with c only)) is r
put_stored {c} S only at {r} {was} {is} h p q =
    let e = limited_same c S.near S.starts_six in
    let R = stored_room was at (all_words (triangles_with c only)) h in
    let p' : r ≡ next_in was at (all_words (triangles_with c only)) = p ∙ ap (λ v. next_in was at (all_words (triangles_with v only))) e in
    let q' : is ≡ stored_in was at (all_words (triangles_with c only)) = q ∙ ap (λ v. stored_in was at (all_words (triangles_with v only))) e in
    record { area = q' ∙ R.area; after = p' ∙ R.after }

pub sound_placed : {c : Cell} → LevelSix c → StartsNear c
sound_placed S = record { near = S.near; starts_six = S.starts_six }

-- a sub-cell of a split is sound, and can be written
module _ {c : Cell} {cell n b f : ℕ} (W : Working c cell n b f) where
  pub working_sub : (word m : ℕ) → m < 4 → LevelSix (sub c b f word m)
  working_sub word m lm =
      let (some, apart) = spiral_is (count_of c) W.spiral in
      let N = sub_cells c W.sound.level some apart b f word in
      sub_sound c W.sound.level W.spiral b f W.below W.b_few word m lm
      (below_four (λ m. is_level_cell (count_of (sub c b f word m)) ≡ true) N.omits-i.level N.omits-j.level N.omits_k.level N.omits-l.level m lm)

  sub_put : (k m : ℕ) {v : Cell} {word : ℕ} → m < 4 → v ≡ sub c b f word m → word ≡ cell + word_step * k → LevelSix v
  sub_put k m {v} lm e g = subst LevelSix (sym (e ∙ ap (λ w. sub c b f w m) g)) (working_sub (cell + word_step * k) m lm)

  -- a sub-cell's words, by its number k and the label m that it omits
  of_sub : (k m : ℕ) {v : Cell} {word : ℕ} → v ≡ sub c b f word m → word ≡ cell + word_step * k → all_words (triangles_with v 0) ≡ all_words (triangles_with (sub c b f (cell + word_step * k) m) 0)
  of_sub k m {v} e g = ap (λ v. all_words (triangles_with v 0)) (e ∙ ap (λ w. sub c b f w m) g)

  -- before the nested sub-cell
  pub start_first : (at : ℕ) {size : ℕ} → at + length (start_words c cell n b f) ≤ size → at + length (all_words (triangles_with c 3)) ≤ size
  start_first at h = omega (arith, length-append (all_words (triangles_with c 3)) (all_words (triangles_with (sub c b f (cell + word_step * (n + 1)) 3) 0)))

  module _ {v : Cell} {word : ℕ} (e : v ≡ sub c b f word 3) (g : word ≡ cell + word_step * (n + 1)) where
    pub start_sound : StartsNear v
    start_sound = sound_placed (sub_put (n + 1) 3 (omega arith) e g)

    module _ {was mid : List ℕ} {at i : ℕ} (S : Stored was at (all_words (triangles_with c 3)) mid i) where
      pub start_second : at + length (start_words c cell n b f) ≤ length was → i + length (all_words (triangles_with v 0)) ≤ length mid
      start_second h =
          omega (
            arith,
            ap length (of_sub (n + 1) 3 e g),
            length-append (all_words (triangles_with c 3)) (all_words (triangles_with (sub c b f (cell + word_step * (n + 1)) 3) 0)),
            S.after,
            stored_long S,
          )

      pub start_stored : {is : List ℕ} {r : ℕ} → Stored mid i (all_words (triangles_with v 0)) is r → Stored was at (start_words c cell n b f) is r
      start_stored T = stored_then S (stored_as T (of_sub (n + 1) 3 e g) refl)

  -- and after it
  module _ {v : Cell} {word : ℕ} (e : v ≡ sub c b f word 1) (g : word ≡ cell + word_step * n) where
    pub end_sound : StartsNear v
    end_sound = sound_placed (sub_put n 1 (omega arith) e g)

    pub end_first : (at : ℕ) {size : ℕ} → at + length (end_words c cell n b f) ≤ size → at + length (all_words (triangles_with v 0)) ≤ size
    end_first at h =
        omega (
          arith,
          ap length (of_sub n 1 e g),
          length-append (all_words (triangles_with (sub c b f (cell + word_step * n) 1) 0)) (all_words (triangles_with (sub c b f (cell + word_step * (n + 1)) 0) 0)),
        )

    module _ {u : Cell} {word' : ℕ} (d : u ≡ sub c b f word' 0) (k : word' ≡ cell + word_step * (n + 1)) where
      pub last_sound : StartsNear u
      last_sound = sound_placed (sub_put (n + 1) 0 (omega arith) d k)

      module _ {was mid : List ℕ} {at i : ℕ} (S : Stored was at (all_words (triangles_with v 0)) mid i) where
        pub end_second : at + length (end_words c cell n b f) ≤ length was → i + length (all_words (triangles_with u 0)) ≤ length mid
        end_second h =
            omega (
              arith,
              ap length (of_sub n 1 e g),
              ap length (of_sub (n + 1) 0 d k),
              length-append (all_words (triangles_with (sub c b f (cell + word_step * n) 1) 0)) (all_words (triangles_with (sub c b f (cell + word_step * (n + 1)) 0) 0)),
              S.after,
              stored_long S,
            )

        pub end_stored : {is : List ℕ} {r : ℕ} → Stored mid i (all_words (triangles_with u 0)) is r → Stored was at (end_words c cell n b f) is r
        end_stored T = stored_then (stored_as S (of_sub n 1 e g) refl) (stored_as T (of_sub (n + 1) 0 d k) refl)

-- the same split with another number
pub working_at : {c : Cell} {cell n b f : ℕ} → Working c cell n b f → (m : ℕ) → m + 4 ≤ 65536 → Working c cell m b f
working_at W m h = record { sound = W.sound; spiral = W.spiral; below = W.below; cell_lt = W.cell_lt; n_few = h; b_few = W.b_few; f_few = W.f_few }

-- where there is no split
module _ {c : Cell} {cell n b f left : ℕ} (L : SplitsLeft c cell n b f left) where
  pub none_left : left ≡ 0 → parts_words (larger (count_of c) + smaller (count_of c)) cell n b f c ≡ all_words (triangles_with c 0)
  none_left z = words_stop (larger (count_of c) + smaller (count_of c)) cell n b f c (left_none L z)

  pub none_room : (at : ℕ) {size : ℕ} → left ≡ 0 → at + length (parts_words (larger (count_of c) + smaller (count_of c)) cell n b f c) ≤ size → at + length (all_words (triangles_with c 0)) ≤ size
  none_room at z h = omega (arith, ap length (none_left z), h)

  -- and where there is one; v is the nested sub-cell, with the next number of inner crossings
  module _ (h : 0 < left) {v : Cell} {word b' : ℕ} (e : v ≡ sub c b f word 2) (g : word ≡ cell + word_step * (n + 2)) (k : b' ≡ b + 2 * (larger (count_of c) + smaller (count_of c))) where
    is : v ≡ sub c b f (cell + word_step * (n + 2)) 2
    is = e ∙ ap (λ w. sub c b f w 2) g

    pub inner_left : SplitsLeft v cell (n + 2) b' (f + 6) (left - 1)
    inner_left = rw (is, k) (left_next L h)

    pub inner_less : larger (count_of v) + smaller (count_of v) < larger (count_of c) + smaller (count_of c)
    inner_less = rw is (left_less L h)

    pub all-words : parts_words (larger (count_of c) + smaller (count_of c)) cell n b f c
        ≡ start_words c cell n b f ++ (parts_words (larger (count_of v) + smaller (count_of v)) cell (n + 2) b' (f + 6) v ++ end_words c cell (n + 4 * left - 1) b f)
    all-words =
        let q : n + 4 * left - 1 ≡ n + 3 + 4 * splits_within (count_of c) = omega (arith, left_nested L h) in
        rw (is, k, q) (words_more cell n b f c L.sound.level (left_some L h))

    abbrev S : List ℕ
    S = start_words c cell n b f

    abbrev Q : List ℕ
    Q = parts_words (larger (count_of v) + smaller (count_of v)) cell (n + 2) b' (f + 6) v

    abbrev E : List ℕ
    E = end_words c cell (n + 4 * left - 1) b f

    -- what is written: first, the nested sub-cell's, and last
    module _ (was : List ℕ) (at : ℕ) (room : at + length (parts_words (larger (count_of c) + smaller (count_of c)) cell n b f c) ≤ length was) where
      sizes : length (parts_words (larger (count_of c) + smaller (count_of c)) cell n b f c) ≡ length S + (length Q + length E)
      sizes = ap length all-words ∙ length-append S (Q ++ E) ∙ ap (λ m. length S + m) (length-append Q E)

      pub room_start : at + length S ≤ length was
      room_start = omega (arith, room, sizes)

      module _ {mid : List ℕ} {i : ℕ} (A : Stored was at S mid i) where
        pub room_nested : i + length Q ≤ length mid
        room_nested = omega (arith, room, sizes, A.after, stored_long A)

        module _ {on : List ℕ} {j : ℕ} (N : Stored mid i Q on j) where
          pub room_end : j + length E ≤ length on
          room_end = omega (arith, room, sizes, A.after, stored_long A, N.after, stored_long N)

          pub all_stored : {is : List ℕ} {r : ℕ} → Stored on j E is r → Stored was at (parts_words (larger (count_of c) + smaller (count_of c)) cell n b f c) is r
          all_stored T = stored_as (stored_then A (stored_then N T)) (sym all-words) refl

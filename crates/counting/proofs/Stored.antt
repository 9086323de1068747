-- Laws of what is stored or summed so far, over the type of the entries, their number and their width.
use Prim.Native.Nat.{ℕ, ◌+◌, ◌-◌, ◌*◌, ◌≤◌, ◌<◌}
use mathlib.Core.Path.{◌≡◌, refl, sym, ap, ap₂, ◌∙◌}
use mathlib.Core.Logic.{inr}
use mathlib.Core.Bool.{Bool, true, false}
use mathlib.Core.List.{List, [], ◌∷◌, ◌++◌, append-nil, append_assoc}
use native.Mathlib.Nat.{zero-add, add-zero, mul-suc}
use native.Mathlib.Numerals.{add-one}
use native.Mathlib.Omega.{arith}
use native.Mathlib.Decide.{dec_lt}
use lib.Dec.{leb}
use lib.ListN.{length, get_or, take, drop, set, length-append, length-drop, take-append-drop}
use lib.Seq.{sets, length-sets, sets-eq, drop-drop, drop-length, take-suc, take_all}
use borrow.Author.Tests.{le-leb, lt-leb}
use borrow.Rule.Slice.PartMut.{put_mid, Post-is}
use Rattle.counting.specs.Pick.{pick}
use Rattle.counting.specs.Lists.{over, total, values}
use Rattle.counting.specs.work.Stored.{Stored, Summed}
use Rattle.counting.specs.Stored.{filled, stored_in}
use Rattle.counting.specs.claims.Lists.{next_in}
use Rattle.counting.proofs.Range.{total_next}
use Rattle.counting.proofs.Lists.{length_singles, values_ext, values_at}
use Rattle.counting.proofs.Fronts.{sets_append, sets_front, over_more, over_split, over_shift, over_within}
use Rattle.counting.proofs.Stores.{get_or_sets_in, get_or_sets_out, sets_again}

module _ {A : Type 0} where
  pub stored_none : (was : List A) (at : ℕ) → Stored was at [] was at
  stored_none was at = record { area = refl; after = sym (add-zero at) }

  pub stored_one : (was : List A) (at : ℕ) (v : A) → Stored was at (v ∷ []) (set was at v) (at + 1)
  stored_one was at v = record { area = refl; after = refl }

  module _ {was : List A} {at : ℕ} {vs mid : List A} {m : ℕ} (S : Stored was at vs mid m) where
    pub stored_long : length mid ≡ length was
    stored_long = ap length S.area ∙ length-sets was at vs

    -- the same values, or the same place, by another name
    pub stored_as : {us : List A} {n : ℕ} → vs ≡ us → m ≡ n → Stored was at us mid n
    stored_as e f = rw (← e, ← f) S

    -- some values and then others
    pub stored_then : {us is : List A} {n : ℕ} → Stored mid m us is n → Stored was at (vs ++ us) is n
    stored_then {us} {is} {n} T = record {
      area = T.area ∙ ap (λ (x : List A). sets x m us) S.area ∙ ap (λ k. sets (sets was at vs) k us) S.after ∙ sym (sets_append was at vs us);
      after = omega (arith, S.after, T.after, length-append vs us);
    }

  -- from the front on
  pub stored_front : {was vs is : List A} {n : ℕ} → Stored was 0 vs is n → length vs ≤ length was → is ≡ vs ++ drop (length vs) was
  stored_front {was} {vs} S h = S.area ∙ sets_front vs was h

  -- one list more of a range
  pub stored_more : (f : ℕ → List A) (k : ℕ) {was mid is : List A} {at m n : ℕ} → Stored was at (over f k 0) mid m → Stored mid m (f k) is n → Stored was at (over f (k + 1) 0) is n
  stored_more f k S T = stored_as (stored_then S T) (sym (over_more f k)) refl

  -- the next one of n has room
  pub stored_fits : (f : ℕ → List A) (n k : ℕ) {was is : List A} {at m : ℕ} → Stored was at (over f k 0) is m → k < n → at + length (over f n 0) ≤ length was → m + length (f k) ≤ length is
  stored_fits f n k S h r = omega (arith, S.after, stored_long S, over_within f n k h)

  -- one entry more of a list
  pub stored_entry : (l : List A) (i : ℕ) (d : A) {was mid : List A} {at m : ℕ} → Stored was at (take i l) mid m → i < length l
      → Stored was at (take (i + 1) l) (set mid m (get_or l i d)) (m + 1)
  stored_entry l i d {was} {mid} {at} {m} S h =
      stored_as (stored_then S (stored_one mid m (get_or l i d))) (sym (ap (λ k. take k l) (add-one i) ∙ take-suc l i d h)) refl

  pub stored_all : (l : List A) (i : ℕ) {was is : List A} {at n : ℕ} → Stored was at (take i l) is n → length l ≤ i → Stored was at l is n
  stored_all l i S h = stored_as S (take_all i l h) refl

  -- where the values have room, and where they have none
  pub stored_room : (was : List A) (at : ℕ) (vs : List A) → at + length vs ≤ length was → Stored was at vs (stored_in was at vs) (next_in was at vs)
  unfolding stored_in next_in
  stored_room was at vs h = let e = le-leb (at + length vs) (length was) h in record { area = rw e; after = rw e }

  pub stored_not : (was : List A) (at : ℕ) (vs : List A) → length was < at + length vs → (was ≡ stored_in was at vs) × (at ≡ next_in was at vs)
  unfolding stored_in next_in
  stored_not was at vs h = let e = lt-leb (at + length vs) (length was) h in (rw e, rw e)

  pub stored_nothing : (was : List A) (at : ℕ) → (was ≡ stored_in was at []) × (at ≡ next_in was at [])
  unfolding stored_in next_in
  stored_nothing was at = go (leb (at + 0) (length was))
    where
      go : (b : Bool) → (was ≡ pick b was was) × (at ≡ pick b (at + 0) at)
      go true = (refl, sym (add-zero at))
      go false = (refl, refl)

  pub stored_same : (was : List A) (at : ℕ) (vs : List A) → length (stored_in was at vs) ≡ length was
  unfolding stored_in
  stored_same was at vs = go (leb (at + length vs) (length was))
    where
      go : (b : Bool) → length (pick b (sets was at vs) was) ≡ length was
      go true = length-sets was at vs
      go false = refl

  -- what is stored at the front of the part of a list from a place on
  pub part_stored : (l vs : List A) (at : ℕ) → at ≤ length l → take at l ++ stored_in (drop at l) 0 vs ≡ stored_in l at vs
  part_stored l vs at h =
      elim (dec_lt (length l) (at + length vs)) [
        | yes k ↦ ap (λ (r : List A). take at l ++ r) (sym (stored_not (drop at l) 0 vs (omega (arith, length-drop at l))).0) ∙ take-append-drop at l ∙ (stored_not l at vs k).0
        | no k ↦ ap (λ (r : List A). take at l ++ r) ((stored_room (drop at l) 0 vs (omega (arith, length-drop at l))).area ∙ sets_front vs (drop at l) (omega (arith, length-drop at l)) ∙ ap (λ (r : List A). vs ++ r) (drop-drop (length vs) at l))
            ∙ sym (append_assoc (take at l) vs (drop (at + length vs) l))
            ∙ sym (sets-eq vs l at (omega arith))
            ∙ sym (stored_room l at vs (omega arith)).area
      ]

  -- and the part is put back
  pub part_back : (l vs : List A) {ys : List A} (at : ℕ) → at ≤ length l → ys ≡ stored_in (take (length l - at) (drop at l)) 0 vs → put_mid at (length l - at) l ys ≡ stored_in l at vs
  part_back l vs {ys} at h e =
      ap (λ (p : List A). take at l ++ (ys ++ p)) (Post-is at (length l) l h ∙ drop-length l)
      ∙ ap (λ (y : List A). take at l ++ y) (append-nil ys ∙ e ∙ ap (λ (p : List A). stored_in p 0 vs) (take_all (length l - at) (drop at l) (omega (arith, length-drop at l))))
      ∙ part_stored l vs at h

  -- one value more, after k of them from the place a on
  pub sets_more : (f : ℕ → A) (a k : ℕ) (l m : List A) (i : ℕ) (x : A) → m ≡ sets l a (values f k) → i ≡ a + k → x ≡ f k → set m i x ≡ sets l a (values f (k + 1))
  sets_more f a k l m i x e p q =
      ap₂ (λ (m : List A) x. set m i x) e q
      ∙ ap (λ i. set (sets l a (values f k)) i (f k)) (p ∙ ap (λ n. a + n) (sym (length_singles f k 0)))
      ∙ sym (sets_append l a (values f k) (f k ∷ []))
      ∙ ap (sets l a) (sym (over_more (λ i. f i ∷ []) k))

  -- a list filled from the front
  module _ (f : ℕ → A) where
    pub filled_none : (l : List A) → l ≡ filled f 0 l
    unfolding filled over
    filled_none l = refl

    pub filled_more : (n : ℕ) (l m : List A) (x : A) → m ≡ filled f n l → x ≡ f n → set m n x ≡ filled f (n + 1) l
    unfolding filled
    filled_more n l m x e q = sets_more f 0 n l m n x e (sym (zero-add n)) q

    -- w values more
    pub filled_block : (n w : ℕ) (l m : List A) → m ≡ filled f n l → sets m n (values (λ k. f (n + k)) w) ≡ filled f (n + w) l
    unfolding filled
    filled_block n w l m e =
        let g : ℕ → List A = λ i. f i ∷ [] in
        let z : n + 0 ≡ 0 + n = omega arith in
        let k : n ≡ 0 + length (values f n) = omega (arith, length_singles f n 0) in
        ap₂ (λ (m v : List A). sets m n v) e (over_shift g n w 0 ∙ ap (over g w) z)
        ∙ ap (λ i. sets (sets l 0 (values f n)) i (over g w (0 + n))) k
        ∙ sym (sets_append l 0 (values f n) (over g w (0 + n)))
        ∙ ap (sets l 0) (sym (over_split g n w 0))

    pub length_filled : (n : ℕ) (l : List A) → length (filled f n l) ≡ length l
    unfolding filled
    length_filled n l = length-sets l 0 (values f n)

    -- the entries
    pub filled_at : (n : ℕ) (l : List A) (d : A) → n ≤ length l → (i : ℕ) → i < n → get_or (filled f n l) i d ≡ f i
    unfolding filled
    filled_at n l d r i h =
        let e = length_singles f n 0 in
        ap (λ k. get_or (sets l 0 (values f n)) k d) (sym (zero-add i))
        ∙ get_or_sets_in (values f n) l 0 i d (omega arith) (omega arith) ∙ values_at f n i d h

    pub filled_beyond : (n : ℕ) (l : List A) (d : A) (i : ℕ) → n ≤ i → get_or (filled f n l) i d ≡ get_or l i d
    unfolding filled
    filled_beyond n l d i h = get_or_sets_out (values f n) l 0 i d (inr (omega (arith, length_singles f n 0)))

    -- its front
    pub filled_front : (n : ℕ) (l : List A) → n ≤ length l → filled f n l ≡ values f n ++ drop n l
    unfolding filled
    filled_front n l h =
        let e = length_singles f n 0 in
        sets_front (values f n) l (omega arith) ∙ ap (λ k. values f n ++ drop k l) e

    -- the whole of a list
    pub filled_whole : (n : ℕ) (l : List A) → length l ≡ n → filled f n l ≡ values f n
    unfolding filled
    filled_whole n l e =
        let s = length_singles f n 0 in
        sets_front (values f n) l (omega arith)
        ∙ ap (λ (r : List A). values f n ++ r) (ap (λ i. drop i l) (s ∙ sym e) ∙ drop-length l)
        ∙ append-nil (values f n)

  pub filled_again : (f g : ℕ → A) (n : ℕ) (l : List A) → n ≤ length l → filled f n (filled g n l) ≡ filled f n l
  unfolding filled
  filled_again f g n l h = sets_again (values f n) (values g n) l 0 (length_singles f n 0 ∙ sym (length_singles g n 0)) (omega (arith, length_singles g n 0))

  pub filled_ext : (f g : ℕ → A) (n : ℕ) (l : List A) → ((i : ℕ) → i < n → f i ≡ g i) → filled f n l ≡ filled g n l
  unfolding filled
  filled_ext f g n l h = ap (sets l 0) (values_ext f g n h)

module _ (g : ℕ → ℕ) (most : ℕ) where
  pub summed_none : Summed g most 0 0
  unfolding total
  summed_none = record { is = refl; few = omega arith }

  pub summed_more : {n t : ℕ} → Summed g most n t → (x : ℕ) → x ≡ g n → x ≤ most → Summed g most (n + 1) (t + x)
  summed_more {n} {t} S x e h =
      let q : most * (n + 1) ≡ most * n + most = ap (λ k. most * k) (add-one n) ∙ mul-suc most n in
      record {
        is = omega (arith, S.is, e, total_next g n);
        few = omega (arith, S.few, q);
      }

  pub summed_all : {k n t : ℕ} → Summed g most k t → k ≡ n → t ≡ total g n 0
  summed_all S e = rw (← e) S.is

-- Points as numbers in a list.
use Rattle.std.proofs.Common.{◌≡◌, ℕ, zero, suc, ◌+◌, ◌*◌, ◌<◌, ◌≤◌, List, [], ◌∷◌, ◌++◌, length, get_or, drop, set, sym, refl, ap, ◌∙◌, inl, not-suc-le-zero, arith, get_or-append-add}
use lib.ListN.{get_or-append}
use lib.Seq.{sets}
use lib.Ieee.{Float, nan}
use Rattle.counting.specs.Lists.{gather}
use Rattle.counting.specs.work.Stored.{Stored}
use Rattle.counting.specs.Stored.{stored_in}
use Rattle.counting.proofs.Below.{below_three}
use Rattle.counting.proofs.Fronts.{sets_two, sets_front}
use Rattle.counting.proofs.Lists.{gather_append, length_gather}
use Rattle.counting.proofs.Stored.{stored_as, stored_then, stored_room}
use Rattle.counting.proofs.Stores.{get_or_sets_out}
use Rattle.place.specs.declared.Place.{Place}
use Rattle.place.specs.Place.{interpolated, between, coordinates, place_at, numbers, all_numbers}

-- three stores, as code writes them
pub sets_three : {A : Type 0} (l : List A) (n : ℕ) (a b c : A) → set (set (set l n a) (n + 1) b) (n + 2) c ≡ sets l n (a ∷ b ∷ c ∷ [])
sets_three {A} l n a b c =
    let e : n + 2 ≡ suc (suc n) = omega arith in
    ap (λ (x : List A). set x (n + 2) c) (sets_two l n a b) ∙ ap (λ k. set (sets l n (a ∷ b ∷ [])) k c) e

pub length_numbers : (l : List Place) → length (all_numbers l) ≡ coordinates * length l
length_numbers l = length_gather numbers (λ p. refl) l

-- number t of point g
pub numbers_at : (l : List Place) (g t : ℕ) (p : Place) → g < length l → t < coordinates → get_or (all_numbers l) (coordinates * g + t) nan ≡ get_or (numbers (get_or l g p)) t nan
unfolding gather
numbers_at [] g t p h k = absurd (not-suc-le-zero h)
numbers_at (q ∷ l) zero t p h k = let e : coordinates * 0 + t ≡ t = omega arith in ap (λ n. get_or (numbers q ++ all_numbers l) n nan) e ∙ get_or-append (numbers q) (all_numbers l) nan t k
numbers_at (q ∷ l) (suc g) t p h k =
    let e : coordinates * suc g + t ≡ length (numbers q) + (coordinates * g + t) = omega arith in
    ap (λ n. get_or (numbers q ++ all_numbers l) n nan) e ∙ get_or-append-add (numbers q) (all_numbers l) (coordinates * g + t) nan ∙ numbers_at l g t p (omega arith) k

-- and of the same in a list with these points at its front
pub front_at : (ps : List Place) (l : List Float) (g t : ℕ) (p : Place) → coordinates * length ps ≤ length l → g < length ps → t < coordinates
    → get_or (sets l 0 (all_numbers ps)) (coordinates * g + t) nan ≡ get_or (numbers (get_or ps g p)) t nan
front_at ps l g t p r h k =
    let n = length_numbers ps in
    ap (λ (x : List Float). get_or x (coordinates * g + t) nan) (sets_front (all_numbers ps) l (omega (arith, n)))
    ∙ get_or-append (all_numbers ps) (drop (length (all_numbers ps)) l) nan (coordinates * g + t) (omega (arith, n))
    ∙ numbers_at ps g t p h k

pub front_place : (ps : List Place) (l : List Float) (g : ℕ) (p : Place) → coordinates * length ps ≤ length l → g < length ps → place_at (sets l 0 (all_numbers ps)) g ≡ get_or ps g p
front_place ps l g p r h =
    let e : coordinates * g ≡ coordinates * g + 0 = omega arith in
    let a = ap (λ n. get_or (sets l 0 (all_numbers ps)) n nan) e ∙ front_at ps l g 0 p r h (omega arith) in
    let b = front_at ps l g 1 p r h (omega arith) in
    let c = front_at ps l g 2 p r h (omega arith) in
    rw (a, b, c)

-- points stored after others, and one point
pub points-then : {was mid is : List Float} {at m n : ℕ} (ps qs : List Place) → Stored was at (all_numbers ps) mid m → Stored mid m (all_numbers qs) is n
    → Stored was at (all_numbers (ps ++ qs)) is n
points-then ps qs S T = stored_as (stored_then S T) (sym (gather_append numbers ps qs)) refl

pub point_stored : {was is : List Float} (k : ℕ) (p : Place) → coordinates * k + coordinates ≤ length was → is ≡ stored_in was (coordinates * k) (numbers p)
    → Stored was (coordinates * k) (all_numbers (p ∷ [])) is (coordinates * (k + 1))
unfolding gather
point_stored {was} k p h e = record { area = e ∙ (stored_room was (coordinates * k) (numbers p) h).area; after = omega arith }

-- the points before what is stored stay
pub place_kept : {was is vs : List Float} {m n : ℕ} → Stored was (coordinates * m) vs is n → (g : ℕ) → g < m → place_at is g ≡ place_at was g
place_kept {was} {is} {vs} {m} S g h =
    let at : (k : ℕ) → k < coordinates * m → get_or is k nan ≡ get_or was k nan =
    λ k l. ap (λ (x : List Float). get_or x k nan) S.area ∙ get_or_sets_out vs was (coordinates * m) k nan (inl l) in
    rw (at (coordinates * g) (omega arith), at (coordinates * g + 1) (omega arith), at (coordinates * g + 2) (omega arith))

-- a number of a place that is loaded, and of one between two
pub number_loaded : (l : List Float) (k t : ℕ) → t < coordinates → get_or (numbers (place_at l k)) t nan ≡ get_or l (coordinates * k + t) nan
number_loaded l k =
    let e : coordinates * k ≡ coordinates * k + 0 = omega arith in
    below_three (λ t. get_or (numbers (place_at l k)) t nan ≡ get_or l (coordinates * k + t) nan) (ap (λ n. get_or l n nan) e) refl refl

pub number_between : (u v : Place) (s : Float) (t : ℕ) → t < coordinates → get_or (numbers (between u v s)) t nan ≡ interpolated (get_or (numbers u) t nan) (get_or (numbers v) t nan) s
number_between u v s = below_three (λ t. get_or (numbers (between u v s)) t nan ≡ interpolated (get_or (numbers u) t nan) (get_or (numbers v) t nan) s) refl refl refl

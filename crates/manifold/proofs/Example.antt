-- Two pieces with the same three crossings and the same three faces. Each has one loop, of three segments: two triangles that share all sides.
-- The premises of the claims hold, so its rings are there.
use Prim.Native.Nat.{ℕ, ◌*◌, ◌-◌, ◌/◌, ◌<◌}
use mathlib.Core.Path.{◌≡◌, refl}
use mathlib.Core.Logic.{◌⊎◌, inl, inr}
use mathlib.Core.Bool.{Bool, true, not, ◌&&◌, ◌||◌}
use mathlib.Core.List.{[], ◌∷◌}
use native.Mathlib.Omega.{arith}
use lib.Dec.{eqb, ltb}
use lib.ListN.{get_or}
use borrow.Author.Tests.{eqb-true, eqb-false, ltb-true, not-true}
use Rattle.counting.specs.Lists.{over, it}
use Rattle.counting.specs.Search.{every}
use Rattle.counting.proofs.Bools.{and_left, and_right, or_cases}
use Rattle.counting.proofs.Search.{every_is}
use Rattle.walk.specs.Step.{face, step}
use Rattle.walk.specs.Walk.{size}
use Rattle.manifold.specs.Triangle.{cross, seg}
use Rattle.manifold.specs.claims.Plain.{tri, OneRing}
use Rattle.manifold.specs.claims.Polygon.{shape, triangles}
use Rattle.manifold.specs.claims.Piece.{Local, Piece, slot_of, mate_of}
use Rattle.manifold.specs.claims.Complex.{Complex, mesh}
use Rattle.manifold.specs.work.Faces.{Faced, FacesShut, FacesLinked}
use Rattle.manifold.proofs.Faces.{faces_lawful, faces-shut, faces-linked}
use Rattle.manifold.proofs.Claims.{manifold}

-- face f joins the crossings f and f + 1, the last back to 0
abbrev part : Local
part = record {
  N = 3;
  fa = λ x. get_or (0 ∷ 0 ∷ 1 ∷ []) x 0;
  fb = λ x. get_or (2 ∷ 1 ∷ 2 ∷ []) x 0;
  mate = λ f x. get_or (get_or ((1 ∷ 0 ∷ 3 ∷ []) ∷ (3 ∷ 2 ∷ 1 ∷ []) ∷ (2 ∷ 3 ∷ 0 ∷ []) ∷ []) f []) x 3;
  number = λ x. x;
  slots = 3;
  name = λ s. s;
}

abbrev pair : Complex
pair = record { pieces = 2; at = λ c. part; tag = λ c. c; normal = λ c p. true }

two_triangles : mesh pair
    ≡ tri (cross 0) (cross 1) (cross 2) (seg 0 0) (seg 1 1) (seg 2 0) ∷ tri (cross 0) (cross 1) (cross 2) (seg 0 0) (seg 1 1) (seg 2 0) ∷ []
unfolding mesh triangles shape over face step size it
two_triangles = refl

-- what is asked of each dart and each crossing, by a test
good : ℕ → Bool
good d =
    (ltb (slot_of part d) 3 && ltb (mate_of part d) 3) && ((eqb (part.mate (slot_of part d) (mate_of part d)) (d / 2) && not (eqb (mate_of part d) (d / 2)))
    && (eqb (part.fa (mate_of part d)) (slot_of part d) || eqb (part.fb (mate_of part d)) (slot_of part d)))

all_good : every good 6 ≡ true
unfolding every good face
all_good = refl

apart : every (λ x. not (eqb (part.fa x) (part.fb x))) 3 ≡ true
unfolding every
apart = refl

is_piece : Piece part
unfolding good
is_piece = record {
  ports = record {
    apart = λ x l. eqb-false (part.fa x) (part.fb x) (not-true (eqb (part.fa x) (part.fb x)) (every_is (λ x. not (eqb (part.fa x) (part.fb x))) 3 apart x l));
    both = λ d l h. eqb-true (part.mate (slot_of part d) (mate_of part d)) (d / 2) (and_left (back d) (ne d) (mates d l));
    other = λ d l. eqb-false (mate_of part d) (d / 2) (not-true (eqb (mate_of part d) (d / 2)) (and_right (back d) (ne d) (mates d l)));
    lies = λ d l h. on d (or_cases (eqb (part.fa (mate_of part d)) (slot_of part d)) (eqb (part.fb (mate_of part d)) (slot_of part d))
        (and_right (back d && ne d) (lies d) (and_right (below d) (back d && ne d && lies d) (test d l))));
  };
  numbers = λ x y a b e. e;
  slot = λ d l. ltb-true (slot_of part d) 3 (and_left (ltb (slot_of part d) 3) (ltb (mate_of part d) 3) (and_left (below d) (back d && ne d && lies d) (test d l)));
  names = λ s t a b e. e;
}
  where
    below : ℕ → Bool
    below d = ltb (slot_of part d) 3 && ltb (mate_of part d) 3

    back : ℕ → Bool
    back d = eqb (part.mate (slot_of part d) (mate_of part d)) (d / 2)

    ne : ℕ → Bool
    ne d = not (eqb (mate_of part d) (d / 2))

    lies : ℕ → Bool
    lies d = eqb (part.fa (mate_of part d)) (slot_of part d) || eqb (part.fb (mate_of part d)) (slot_of part d)

    test : (d : ℕ) → d < 6 → good d ≡ true
    test d l = every_is good 6 all_good d l

    mates : (d : ℕ) → d < 6 → (back d && ne d) ≡ true
    mates d l = and_left (back d && ne d) (lies d) (and_right (below d) (back d && ne d && lies d) (test d l))

    on : (d : ℕ) → (eqb (part.fa (mate_of part d)) (slot_of part d) ≡ true) ⊎ (eqb (part.fb (mate_of part d)) (slot_of part d) ≡ true)
        → (part.fa (mate_of part d) ≡ slot_of part d) ⊎ (part.fb (mate_of part d) ≡ slot_of part d)
    on d (inl e) = inl (eqb-true (part.fa (mate_of part d)) (slot_of part d) e)
    on d (inr e) = inr (eqb-true (part.fb (mate_of part d)) (slot_of part d) e)

joined : (d : ℕ) → d < 6 → mate_of part d < 3
unfolding good
joined d l = ltb-true (mate_of part d) 3 (and_right (ltb (slot_of part d) 3) (ltb (mate_of part d) 3) (and_left _ _ (every_is good 6 all_good d l)))

faced : Faced pair
faced = record {
  piece = λ c l. is_piece;
  tags = λ a b la lb e. e;
  few = λ a b c r s t la lb lc lr ls lt p q ab ac bc. omega (arith, ab, ac, bc);
  agree = λ a b s d la lb ls ld e. record { e = d; lt = ld; slot = e; point = refl; mate = λ h. (h, refl) };
}

other_piece : ℕ → ℕ
other_piece c = 1 - c

faces_shut : FacesShut pair
unfolding other_piece
faces_shut = record {
  full = λ c d lc ld. joined d ld;
  paired = λ c d lc ld. (other_piece c, omega arith, (λ e. omega (arith, e)), slot_of part d, is_piece.slot d ld, refl);
}

linked : (g : ℕ) → FacesLinked pair g
linked g Q pass a b ha hb =
    pass a b (record {
      a_lt = ha.lt;
      b_lt = hb.lt;
      d = ha.d;
      d_lt = ha.on.lt;
      at_d = ha.is;
      s = slot_of part ha.d;
      s_lt = is_piece.slot ha.d ha.on.lt;
      face = refl;
    })

-- a ring at each of the three crossings
rings : (g : ℕ) → g < 3 → OneRing (mesh pair) (cross g)
rings g l =
    (manifold pair (faces_lawful pair faced)).ring (faces-shut pair faced faces_shut) g 0
    (record { lt = omega arith; d = 2 * g; on = record { lt = omega arith; joined = joined (2 * g) (omega arith) }; is = omega arith })
    (faces-linked pair faced faces_shut g (linked g))

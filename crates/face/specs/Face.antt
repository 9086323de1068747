-- The segments of a face (01): what each of its crossings is joined to, from the counts of its edges.
-- The nodes a < b < c are 0, 1, 2; the edges ab, ac, bc are 0, 1, 2.
use Rattle.std.specs.Prelude.{ℕ, ◌+◌, ◌-◌, ◌/◌, ◌%◌, Bool, ◌&&◌, List, [], ◌∷◌, eqb, ltb, leb, get_or, take}
use Rattle.counting.specs.Pick.{pick}
use Rattle.slots.specs.Slots.{lower, upper}

-- how a crossing is joined (02, W10): round a corner, with the node; along its edge
abbrev pub round : ℕ → List ℕ
round w = 0 ∷ w ∷ []

abbrev pub along : List ℕ
along = 1 ∷ []

-- why a crossing is unjoined (02, W10): left by rule 2, skipped by rule 3
abbrev pub left : ℕ
left = 0

abbrev pub skipped : ℕ
skipped = 1

-- the answer of the face call in numbers, its cases in 01's order: joined, with the partner's edge and index, and how; unjoined, and why; no such
-- crossing
abbrev pub joined_by : ℕ → ℕ → List ℕ → List ℕ
joined_by e t how = 0 ∷ e ∷ t ∷ how

abbrev pub unjoined_by : ℕ → List ℕ
unjoined_by why = 1 ∷ why ∷ []

abbrev pub no_crossing : List ℕ
no_crossing = 2 ∷ []

-- the answer of 01, without how and why
abbrev pub joined : ℕ → ℕ → List ℕ
joined e t = 0 ∷ e ∷ t ∷ []

-- an answer says: joined along its edge
abbrev pub is_along : List ℕ → Bool
is_along l = eqb (get_or l 0 0) 0 && eqb (get_or l 3 0) 1

-- an answer without how and why: the first three numbers of a joined one, the first of any other
abbrev pub bare : List ℕ → List ℕ
bare l = pick (eqb (get_or l 0 0) 0) (take 3 l) (take 1 l)

-- the other edge at the end w of the edge e: the numbers of the two edges at w add up to w + 1
unfoldable pub other : ℕ → ℕ → ℕ
other w e = w + 1 - e

-- the edge that the node w is no end of
unfoldable pub opposite : ℕ → ℕ
opposite w = 2 - w

-- half of what two counts have above a third: the corner count of rule 1
unfoldable pub half_above : ℕ → ℕ → ℕ → ℕ
half_above p q o = (p + q - o) / 2

-- the corner count (01) of a corner whose edges have p and q crossings, and whose opposite edge has o.
-- Rule 3 with the one edge, the other, or the opposite one above the other two; rule 1; rule 2 with all counts less 1
unfoldable pub corner_count : ℕ → ℕ → ℕ → ℕ
corner_count p q o =
    pick (ltb (q + o) p) q
    (pick (ltb (p + o) q) p
    (pick (ltb (p + q) o) 0
    (pick (eqb ((p + q + o) % 2) 0) (half_above p q o)
    (half_above (p - 1) (q - 1) (o - 1)))))

-- residual (01) s of r, at the index t of the edge e: neighbours in pairs from the lower node, the first skipped if r is odd
unfoldable pub residual : ℕ → ℕ → ℕ → ℕ → List ℕ
residual e r s t = pick (ltb s (r % 2)) (unjoined_by skipped) (joined_by e (pick (eqb ((s - r % 2) % 2) 0) (t + 1) (t - 1)) along)

module _ (ab ac bc : ℕ) where
  -- the count of an edge; a number over 2 is no edge, and has none
  unfoldable pub count_on : ℕ → ℕ
  count_on e = pick (eqb e 0) ab (pick (eqb e 1) ac (pick (eqb e 2) bc 0))

  -- the sum of the counts of the other two edges
  unfoldable pub others : ℕ → ℕ
  others e = count_on (other (lower e) e) + count_on (other (upper e) e)

  -- the index of the k-th crossing from the end w of the edge e (01)
  unfoldable pub kth : ℕ → ℕ → ℕ → ℕ
  kth w e k = pick (eqb w (lower e)) k (count_on e - 1 - k)

  -- the corner count at the end w of the edge e
  unfoldable pub corner_count_at : ℕ → ℕ → ℕ
  corner_count_at w e = corner_count (count_on e) (count_on (other w e)) (count_on (opposite w))

  -- the partner of the k-th crossing from w on the edge e, where k is below the corner count: the k-th from w on the other edge
  unfoldable pub partner : ℕ → ℕ → ℕ → List ℕ
  partner w e k = joined_by (other w e) (kth w (other w e) k) (round w)

  -- the face call (01) for the crossing t of the edge e, which is the t-th from the lower end and the (count e - 1 - t)-th from the upper
  unfoldable pub face_answer : ℕ → ℕ → List ℕ
  face_answer e t =
      pick (leb (count_on e) t) no_crossing
      (pick (ltb t (corner_count_at (lower e) e)) (partner (lower e) e t)
      (pick (ltb (count_on e - 1 - t) (corner_count_at (upper e) e)) (partner (upper e) e (count_on e - 1 - t))
      (pick (ltb (others e) (count_on e)) (residual e (count_on e - others e) (t - corner_count_at (lower e) e) t)
      (unjoined_by left))))

  -- what the crossing is joined to: the face call's answer without how and why
  unfoldable pub face_join : ℕ → ℕ → List ℕ
  face_join e t = bare (face_answer e t)

-- three counts, in any order: an even sum, and none above the other two
unfoldable pub is_level : ℕ → ℕ → ℕ → Bool
is_level p q o = eqb ((p + q + o) % 2) 0 && (leb p (q + o) && (leb q (p + o) && leb o (p + q)))

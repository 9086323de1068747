-- The edges of slots: which slots have an edge, and what two of them have in common.
use Prim.Native.Nat.{ℕ, ◌<◌}
use mathlib.Core.Path.{◌≡◌, refl, sym, ◌∙◌, subst}
use mathlib.Core.Logic.{◌⊎◌, inl, inr, ◌≢◌, ⊎_elim}
use mathlib.Core.Bool.{Bool, true, ◌&&◌, ◌||◌}
use native.Mathlib.Omega.{arith}
use lib.Dec.{eqb, ltb}
use borrow.Author.Tests.{eqb-true, ltb-true, ne_eqb}
use Rattle.counting.specs.Search.{first, every}
use Rattle.counting.proofs.Search.{every_is}
use Rattle.counting.proofs.Bools.{and_left, and_right, or_cases}
use Rattle.slots.specs.Slots.{lo, hi, lower, upper, slot_edge, edge_rank, contains, first_slot, second_slot}
use Rattle.slots.specs.claims.Claims.{SlotEdge}
use Rattle.slots.proofs.Slots.{slot-edge, two_slots, face_ends}
use Rattle.slots.proofs.Claims.{slot_laws}

-- two slots have an edge in common; a position that neither omits is one of its ends
common : ℕ → ℕ → ℕ
common M N = first (λ e. contains e M && contains e N) 6

common_test : ℕ → ℕ → Bool
common_test M N = eqb M N || (ltb (common M N) 6 && (contains (common M N) M && contains (common M N) N))

end_test : ℕ → ℕ → ℕ → Bool
end_test M N a = (eqb M N || (eqb a M || eqb a N)) || (eqb (lo (common M N)) a || eqb (hi (common M N)) a)

common_pass : every (λ M. every (λ N. common_test M N) 4) 4 ≡ true
unfolding every common_test common first contains lo hi
common_pass = refl

ends_pass : every (λ M. every (λ N. every (λ a. end_test M N a) 4) 4) 4 ≡ true
unfolding every end_test common first contains lo hi
ends_pass = refl

-- slot M has edge e, at place i
pub record Sits (M i e : ℕ) : Type 0 where
  pub M-lt : M < 4
  pub i_lt : i < 3
  pub e_lt : e < 6
  pub is : slot_edge M i ≡ e

sits : (M e : ℕ) → M < 4 → e < 6 → contains e M ≡ true → (i : ℕ) × Sits M i e
sits M e l_m le h = let u = slot_laws.has e M le l_m h in (edge_rank M e, record { M-lt = l_m; i_lt = u.place_lt; e_lt = le; is = u.edge_is })

pub sits_at : (M i : ℕ) → M < 4 → i < 3 → Sits M i (slot_edge M i)
sits_at M i l_m li = record { M-lt = l_m; i_lt = li; e_lt = (slot-edge M i l_m li).lt; is = refl }

-- one of the two slots of its edge
sits_on : {M i e : ℕ} → Sits M i e → (first_slot e ≡ M) ⊎ (second_slot e ≡ M)
sits_on {M} {i} {e} h = subst (λ e. (first_slot e ≡ M) ⊎ (second_slot e ≡ M)) h.is (slot-edge M i h.M-lt h.i_lt).on

-- no three slots have an edge
pub not_three : {M N K i j k e : ℕ} → Sits M i e → Sits N j e → Sits K k e → M ≢ N → M ≢ K → N ≢ K → ⊥
not_three {M} {N} {K} {e = e} a b c x y z = go (sits_on a) (sits_on b) (sits_on c)
  where
    go : (first_slot e ≡ M) ⊎ (second_slot e ≡ M) → (first_slot e ≡ N) ⊎ (second_slot e ≡ N) → (first_slot e ≡ K) ⊎ (second_slot e ≡ K) → ⊥
    go (inl p) (inl q) r = x (sym p ∙ q)
    go (inr p) (inr q) r = x (sym p ∙ q)
    go (inl p) (inr q) (inl r) = y (sym p ∙ r)
    go (inl p) (inr q) (inr r) = z (sym q ∙ r)
    go (inr p) (inl q) (inl r) = z (sym q ∙ r)
    go (inr p) (inl q) (inr r) = y (sym p ∙ r)

-- another slot with the edge
pub another : {M i e : ℕ} → Sits M i e → (N : ℕ) × (N ≢ M) × (j : ℕ) × Sits N j e
another {M} {i} {e} h = go (sits_on h)
  where
    apart : second_slot e < first_slot e
    apart = (two_slots e h.e_lt).apart

    go : (first_slot e ≡ M) ⊎ (second_slot e ≡ M) → (N : ℕ) × (N ≢ M) × (j : ℕ) × Sits N j e
    go (inl p) =
        let (j, x) = sits (second_slot e) e (two_slots e h.e_lt).second_lt h.e_lt (two_slots e h.e_lt).second_has in
        (second_slot e, (λ q. omega (arith, apart, p, q)), j, x)
    go (inr p) =
        let (j, x) = sits (first_slot e) e (two_slots e h.e_lt).first_lt h.e_lt (two_slots e h.e_lt).first_has in
        (first_slot e, (λ q. omega (arith, apart, p, q)), j, x)

-- the ends of an edge of slot M are not M
pub end_not : {M i e : ℕ} → Sits M i e → (lo e ≢ M) × (hi e ≢ M)
end_not {M} {i} {e} h =
    subst (λ e. (lo e ≢ M) × (hi e ≢ M)) h.is
    ((λ q. (slot_laws.omits M (lower i) h.M-lt f.0).1 (sym u.lo_is ∙ q)), (λ q. (slot_laws.omits M (upper i) h.M-lt f.1).1 (sym u.hi_is ∙ q)))
  where
    u : SlotEdge M i
    u = slot-edge M i h.M-lt h.i_lt

    f : (lower i < 3) × (upper i < 3)
    f = let e = face_ends i h.i_lt in (omega (arith, e), omega (arith, e))

-- two different slots, and a position that neither omits
pub meets_at : (M N : ℕ) → M < 4 → N < 4 → M ≢ N → (e : ℕ) × (i : ℕ) × (j : ℕ) × Sits M i e × Sits N j e × ((a : ℕ) → a < 4 → a ≢ M → a ≢ N → (lo e ≡ a) ⊎ (hi e ≡ a))
unfolding common_test end_test
meets_at M N l_m lN ne =
    let h : common_test M N ≡ true = every_is (λ N. common_test M N) 4 (every_is (λ M. every (λ N. common_test M N) 4) 4 common_pass M l_m) N lN in
    let k : (ltb (common M N) 6 && (contains (common M N) M && contains (common M N) N)) ≡ true = simp (ne_eqb M N ne) at h in
    let le = ltb-true (common M N) 6 (and_left (ltb (common M N) 6) (contains (common M N) M && contains (common M N) N) k) in
    let c = and_right (ltb (common M N) 6) (contains (common M N) M && contains (common M N) N) k in
    let (i, x) = sits M (common M N) l_m le (and_left (contains (common M N) M) (contains (common M N) N) c) in
    let (j, y) = sits N (common M N) lN le (and_right (contains (common M N) M) (contains (common M N) N) c) in
    (common M N, i, j, x, y, ends)
  where
    ends : (a : ℕ) → a < 4 → a ≢ M → a ≢ N → (lo (common M N) ≡ a) ⊎ (hi (common M N) ≡ a)
    ends a la p q =
        let h : end_test M N a ≡ true = every_is (λ a. end_test M N a) 4 (every_is (λ N. every (λ a. end_test M N a) 4) 4 (every_is (λ M. every (λ N. every (λ a. end_test M N a) 4) 4) 4 ends_pass M l_m) N lN) a la in
        let k : (eqb (lo (common M N)) a || eqb (hi (common M N)) a) ≡ true = simp (ne_eqb M N ne, ne_eqb a M p, ne_eqb a N q) at h in
        ⊎_elim (λ e. inl (eqb-true (lo (common M N)) a e)) (λ e. inr (eqb-true (hi (common M N)) a e)) (or_cases (eqb (lo (common M N)) a) (eqb (hi (common M N)) a) k)

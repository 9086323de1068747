-- The places of an edge in a list: the first and the last, and a table of both.
use Prim.Native.Nat.{ℕ, zero, suc, ◌+◌, ◌*◌, ◌/◌, ◌%◌, ◌≤◌, ◌<◌}
use mathlib.Core.Path.{◌≡◌, sym, ap, ◌∙◌}
use mathlib.Core.Logic.{◌≢◌}
use mathlib.Core.Bool.{Bool, true, false}
use mathlib.Core.List.{List}
use native.Mathlib.Decide.{dec_lt, ℕ_discrete}
use native.Mathlib.Omega.{arith}
use lib.Dec.{eqb}
use lib.ListN.{get_or, length, length-set, set}
use lib.Seq.{get_or-set_other, get_or-set_same}
use borrow.Author.Tests.{eq-eqb, le-ltb, lt-ltb, ne_eqb}
use Rattle.counting.specs.Pick.{pick}
use Rattle.counting.specs.Search.{first, last}
use Rattle.counting.proofs.Search.{first_at, first_below, first_is, last_hit, last_le, last_miss, last_none, none_first}
use Rattle.counting.specs.work.Tables.{Table, same_key}
use Rattle.grid.specs.work.Work.{found_at}
use Rattle.flat.specs.work.Work.{first_port, port_at, second_port}

-- a search, as one more than what it finds
module _ (t : ℕ → Bool) (n : ℕ) where
  pub found_some : first t n < n → found_at n (first t n) ≡ suc (first t n)
  found_some h = rw (lt-ltb (first t n) n h)

  pub found_none : n ≤ first t n → found_at n (first t n) ≡ 0
  found_none h = rw (le-ltb (first t n) n h)

  pub found_le : found_at n (first t n) ≤ n
  found_le = elim (dec_lt (first t n) n) [
    | yes h ↦ omega (arith, found_some h)
    | no h ↦ omega (arith, found_none (omega arith))
  ]

  pub found_there : 0 < found_at n (first t n) → first t n < n
  found_there p = elim (dec_lt (first t n) n) [
    | yes h ↦ h
    | no h ↦ absurd (omega (arith, found_none (omega arith)))
  ]

-- one more number
module _ (t : ℕ → Bool) (n : ℕ) where
  more_again : 0 < found_at n (first t n) → found_at (n + 1) (first t (n + 1)) ≡ found_at n (first t n)
  more_again p =
      let h = found_there t n p in
      let e = first_at t (n + 1) (first t n) (omega arith) (first_is t n h) (λ j l. first_below t n j l) in
      found_some t (n + 1) (omega arith) ∙ ap suc e ∙ sym (found_some t n h)

  none_yet : found_at n (first t n) ≡ 0 → (i : ℕ) → i < n → t i ≡ false
  none_yet z i h = first_below t n i (elim (dec_lt (first t n) n) [
    | yes l ↦ absurd (omega (arith, found_some t n l))
    | no l ↦ omega arith
  ])

  more_hit : found_at n (first t n) ≡ 0 → t n ≡ true → found_at (n + 1) (first t (n + 1)) ≡ n + 1
  more_hit z h =
      let e = first_at t (n + 1) n (omega arith) h (none_yet z) in
      found_some t (n + 1) (omega arith) ∙ omega arith

  more_miss : t n ≡ false → found_at (n + 1) (first t (n + 1)) ≡ found_at n (first t n)
  more_miss h = elim (ℕ_discrete (found_at n (first t n)) 0) [
    | yes z ↦ found_none t (n + 1) (omega (
      arith,
      none_first t (n + 1) (λ i l. elim (dec_lt i n) [
        | yes m ↦ none_yet z i m
        | no m ↦ let q : i ≡ n = omega arith in rw q h
      ]),
    )) ∙ sym z
    | no z ↦ more_again (omega arith)
  ]

  last_zero : found_at n (first t n) ≡ 0 → last t n ≡ 0
  unfolding last
  last_zero z = go n (omega arith)
    where
      go : (m : ℕ) → m ≤ n → last t m ≡ 0
      go zero h = last_none t
      go (suc m) h = rw (none_yet z m (omega arith)) (go m (omega arith))

-- the ports of edge e over j places and one more
module _ (sides : List ℕ) (j e : ℕ) where
  t : ℕ → Bool
  t = same_key sides e

  pub first_again : 0 < first_port sides j e → first_port sides (j + 1) e ≡ first_port sides j e
  unfolding first_port t
  first_again = more_again t j

  pub first_le_at : first_port sides j e ≤ j
  unfolding first_port t
  first_le_at = found_le t j

  module _ (h : get_or sides j 0 ≡ e) where
    hit : same_key sides e j ≡ true
    unfolding same_key
    hit = eq-eqb (get_or sides j 0) e h

    pub first_hit : first_port sides j e ≡ 0 → first_port sides (j + 1) e ≡ j + 1
    unfolding first_port t
    first_hit z = more_hit t j z hit

    pub second_blank : first_port sides j e ≡ 0 → second_port sides (j + 1) e ≡ second_port sides j e
    unfolding second_port first_port t
    second_blank z =
        rw (last_hit t j hit, more_hit t j z hit, last_zero t j z, z, eq-eqb (j + 1) (j + 1) (omega arith))

    pub second_hit : 0 < first_port sides j e → second_port sides (j + 1) e ≡ j + 1
    unfolding second_port t
    second_hit z = rw (last_hit t j hit, first_again z, ne_eqb (j + 1) (first_port sides j e) (λ q. omega (arith, first_le_at)))

  module _ (h : get_or sides j 0 ≢ e) where
    miss : same_key sides e j ≡ false
    unfolding same_key
    miss = ne_eqb (get_or sides j 0) e h

    pub first_miss : first_port sides (j + 1) e ≡ first_port sides j e
    unfolding first_port t
    first_miss = more_miss t j miss

    pub second_miss : second_port sides (j + 1) e ≡ second_port sides j e
    unfolding second_port t
    second_miss = rw (last_miss t j miss, first_miss)

pub port_le : (sides : List ℕ) (n i : ℕ) → port_at sides n i ≤ n
unfolding port_at second_port
port_le sides n i = elim (ℕ_discrete (i % 2) 0) [
  | yes z ↦ rw (eq-eqb (i % 2) 0 z) (first_le_at sides n (i / 2))
  | no z ↦ rw (ne_eqb (i % 2) 0 z) (go (eqb (last (same_key sides (i / 2)) n) (first_port sides n (i / 2))))
]
  where
    go : (b : Bool) → pick b 0 (last (same_key sides (i / 2)) n) ≤ n
    go true = omega arith
    go false = last_le (same_key sides (i / 2)) n

pub port_first : (sides : List ℕ) (n e : ℕ) → port_at sides n (2 * e) ≡ first_port sides n e
unfolding port_at
port_first sides n e =
    let a : (2 * e) % 2 ≡ 0 = omega arith in let b : (2 * e) / 2 ≡ e = omega arith in rw (a, b)

pub port_second : (sides : List ℕ) (n e : ℕ) → port_at sides n (2 * e + 1) ≡ second_port sides n e
unfolding port_at
port_second sides n e =
    let a : (2 * e + 1) % 2 ≡ 1 = omega arith in let b : (2 * e + 1) / 2 ≡ e = omega arith in rw (a, b)

-- the loop of `put_ports` has passed j places
pub record Ported (sides : List ℕ) (j : ℕ) (was ports : List ℕ) : Type 0 where
  pub same : length ports ≡ length was
  pub at : (i : ℕ) → i < length was → get_or ports i 0 ≡ port_at sides j i

pub ported_none : (sides ports : List ℕ) → ((i : ℕ) → get_or ports i 0 ≡ 0) → Ported sides 0 ports ports
unfolding port_at second_port first_port first last
ported_none sides ports z = record { same = omega arith; at = λ i h. z i ∙ go (eqb (i % 2) 0) }
  where
    go : (b : Bool) → 0 ≡ pick {A = ℕ} b 0 0
    go true = omega arith
    go false = omega arith

module _ {sides : List ℕ} {j : ℕ} {was ports : List ℕ} (P : Ported sides j was ports) (e : ℕ) (q : get_or sides j 0 ≡ e) (l : 2 * e + 1 < length was) where
  entry : get_or ports (2 * e) 0 ≡ first_port sides j e
  entry = P.at (2 * e) (omega arith) ∙ port_first sides j e

  -- the ports of an edge, by those of each side
  by_side : (ports : List ℕ) → length ports ≡ length was → get_or ports (2 * e) 0 ≡ first_port sides (j + 1) e → get_or ports (2 * e + 1) 0 ≡ second_port sides (j + 1) e
      → ((i : ℕ) → i < length was → i / 2 ≢ e → get_or ports i 0 ≡ port_at sides j i) → Ported sides (j + 1) was ports
  unfolding port_at
  by_side ports s a b c = record {
    same = s;
    at = λ i h. elim (ℕ_discrete (i / 2) e) [
      | yes r ↦ elim (ℕ_discrete (i % 2) 0) [
        | yes z ↦ let y : i ≡ 2 * e = omega arith in rw y (a ∙ sym (port_first sides (j + 1) e))
        | no z ↦ let y : i ≡ 2 * e + 1 = omega arith in rw y (b ∙ sym (port_second sides (j + 1) e))
      ]
      | no r ↦
          c i h r
          ∙ rw (first_miss sides j (i / 2) (λ y. r (sym y ∙ q)), second_miss sides j (i / 2) (λ y. r (sym y ∙ q)))
    ];
  }

  pub ported_first : get_or ports (2 * e) 0 ≡ 0 → Ported sides (j + 1) was (set ports (2 * e) (j + 1))
  ported_first z =
      by_side (set ports (2 * e) (j + 1)) (length-set ports (2 * e) (j + 1) ∙ P.same)
      (get_or-set_same ports (2 * e) (j + 1) 0 (omega (arith, P.same)) ∙ sym (first_hit sides j e q (sym entry ∙ z)))
      (get_or-set_other ports (2 * e) (2 * e + 1) (j + 1) 0 (λ y. omega arith) ∙ P.at (2 * e + 1) (omega arith) ∙ port_second sides j e
      ∙ sym (second_blank sides j e q (sym entry ∙ z)))
      (λ i h r. get_or-set_other ports (2 * e) i (j + 1) 0 (λ y. r (omega arith)) ∙ P.at i h)

  pub ported_second : get_or ports (2 * e) 0 ≢ 0 → Ported sides (j + 1) was (set ports (2 * e + 1) (j + 1))
  ported_second z =
      by_side (set ports (2 * e + 1) (j + 1)) (length-set ports (2 * e + 1) (j + 1) ∙ P.same)
      (get_or-set_other ports (2 * e + 1) (2 * e) (j + 1) 0 (λ y. omega arith) ∙ entry ∙ sym (first_again sides j e (omega (arith, entry))))
      (get_or-set_same ports (2 * e + 1) (j + 1) 0 (omega (arith, P.same)) ∙ sym (second_hit sides j e q (omega (arith, entry))))
      (λ i h r. get_or-set_other ports (2 * e + 1) i (j + 1) 0 (λ y. r (omega arith)) ∙ P.at i h)

pub ported_table : {sides : List ℕ} {j n : ℕ} {was ports : List ℕ} → Ported sides j was ports → j ≡ n → Table (port_at sides n) (length was) ports
ported_table {sides} P q = record { room = omega (arith, P.same); at = λ i h. P.at i h ∙ ap (λ (n : ℕ). port_at sides n i) q }

-- Where the walk from a crossing starts: on the edge whose range holds the crossing.
use Prim.Native.Nat.{ℕ, ◌+◌, ◌*◌, ◌-◌, ◌<◌, ◌≤◌}
use mathlib.Core.Path.{◌≡◌, refl, sym, ap, ◌∙◌}
use mathlib.Core.Bool.{Bool, true, false, ◌&&◌}
use mathlib.Core.List.{List}
use native.Mathlib.Omega.{arith}
use native.Mathlib.Decide.{dec_lt}
use lib.Dec.{leb}
use lib.ListN.{get_or}
use borrow.Author.Tests.{le-leb, lt-ltb, le-ltb}
use Rattle.counting.proofs.Bools.{clash}
use Rattle.counting.proofs.Search as search
use Rattle.slots.specs.Slots.{first_slot}
use Rattle.cell.specs.declared.Cell.{Cell}
use Rattle.cell.specs.declared.Dart.{Dart}
use Rattle.cell.specs.Cell.{Edges, base, crossings, holds, edge, index}
use Rattle.cell.specs.Of.{edges_of}
use Rattle.cell.specs.work.Half.{half_edges, half_of}
use Rattle.cell.specs.work.Route.{columns, count_column, first_column, Routed}
use Rattle.cell.specs.work.Walked.{Located, Starts}
use Rattle.cell.proofs.Lay.{lay}
use Rattle.cell.proofs.Half.{first_half}
use Rattle.cell.proofs.Step.{number_first}
use Rattle.cell.proofs.Route.{count-at, first_at}

-- a test that adds nothing
and_true : (b : Bool) → b ≡ (b && true)
and_true true = refl
and_true false = refl

-- what is read there tells whether crossing p is one of edge e
module _ {c : Cell} {t : List ℕ} (R : Routed c t) (e p : ℕ) {h : ℕ} (le : e < 6) (q : h ≡ half_of (first_slot e) e) (l : h < half_edges) where
  first_is : get_or t (columns * h + first_column) 0 ≡ base (edges_of c) e
  first_is = first_at R h l ∙ ap (base (edges_of c)) (first_half le q).0

  count_is : get_or t (columns * h + count_column) 0 ≡ (edges_of c).count e
  count_is = count-at R h l ∙ ap (edges_of c).count (first_half le q).0

  pub not_on : get_or t (columns * h + first_column) 0 + get_or t (columns * h + count_column) 0 ≤ p → false ≡ holds (edges_of c) p e
  unfolding holds
  not_on b = rw (le-leb (base (edges_of c) e) p (omega (arith, first_is)), le-ltb p (base (edges_of c) e + (edges_of c).count e) (omega (arith, first_is, count_is)))

  pub may_on : p < get_or t (columns * h + first_column) 0 + get_or t (columns * h + count_column) 0 → leb (get_or t (columns * h + first_column) 0) p ≡ holds (edges_of c) p e
  unfolding holds
  may_on b = rw (lt-ltb p (base (edges_of c) e + (edges_of c).count e) (omega (arith, first_is, count_is)), first_is) (and_true (leb (base (edges_of c) e) p))

-- the edge of crossing p is found by its range
module _ (w : Edges) (p : ℕ) (l : p < crossings w) where
  pub on-edge : (e : ℕ) → e < 6 → holds w p e ≡ true → ((i : ℕ) → i < e → holds w p i ≡ false) → e ≡ edge w p
  unfolding edge
  on-edge e le h b = sym (search.first_at (holds w p) 6 e le h b)

  pub on_last : ((i : ℕ) → i < 5 → holds w p i ≡ false) → 5 ≡ edge w p
  unfolding edge
  on_last b =
      let le = (lay w).edge_lt p l in
      elim (dec_lt (edge w p) 5) [
        | yes h ↦ clash (search.first_is (holds w p) 6 le) (b (edge w p) h)
        | no h ↦ omega arith
      ]

-- what is read for the start on edge e
module _ {c : Cell} {t : List ℕ} {p e : ℕ} (L : Located c t p e) where
  pub located_lt : e < 6
  located_lt = rw L.is ((lay (edges_of c)).edge_lt p L.inside)

  pub located_first : {h : ℕ} → h ≡ half_of (first_slot e) e → h < half_edges → get_or t (columns * h + first_column) 0 ≤ p
  located_first q l = omega (arith, first_is L.routed e p located_lt q l, ap (base (edges_of c)) L.is, (lay (edges_of c)).back p L.inside)

-- the first dart of a crossing of edge e
pub starts : {c : Cell} {t : List ℕ} {p e : ℕ} → Located c t p e → (h : ℕ) → h ≡ half_of (first_slot e) e → h < half_edges
    → (d : Dart) → d.half ≡ h → d.index ≡ p - get_or t (columns * h + first_column) 0 → d.number ≡ p → Starts (edges_of c) p d
unfolding index
starts {c} {t} {p} {e} L h q l d dh dt dp =
    let w = edges_of c in
    let (k, s, m) = first_half (located_lt L) q in
    let i : d.index ≡ index w p = dt ∙ ap (λ n. p - n) (first_at L.routed h l ∙ ap (base w) (k ∙ L.is)) in
    record {
      dart = record {
        half_lt = rw dh l;
        index_lt = rw (dh, k, i, L.is) ((lay w).index_lt p L.inside);
        number_is = rw (dh, k, i, dp, L.is) (sym ((lay w).back p L.inside));
      };
      is = rw (dh, dp) (number_first h p (ap first_slot k ∙ sym s));
    }

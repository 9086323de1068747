-- Laws of places in trees. Assumes nothing.
use Prim.Native.Nat.{ℕ, zero, suc, ◌+◌, ◌-◌, ◌*◌, ◌/◌, ◌%◌, ◌≤◌, ◌<◌}
use mathlib.Core.HLevel.{⊥_prop}
use mathlib.Core.Logic.{∥∥₁_prop, ∥∥₁_elim, ∥∥₁_map}
use mathlib.Core.Path.{◌≡◌, refl, sym, ap, ◌∙◌}
use mathlib.Core.List.{List}
use native.Mathlib.Nat.{mod-lt, mul-add, mul-one, mul-le-mul_left}
use native.Mathlib.Decide.{dec_lt, ℕ_discrete}
use native.Mathlib.Omega.{arith}
use lib.Dec.{ltb}
use lib.ListN.{length, get_or, set, length-set}
use lib.Seq.{get_or-set_same, get_or-set_other}
use borrow.Author.Tests.{eqb-true, eq-eqb, lt-ltb, le-ltb}
use Rattle.counting.specs.Pick.{pick}
use Rattle.counting.proofs.Bools.{clash}
use Rattle.counting.proofs.Below.{trichotomy}
use Rattle.counting.proofs.Search.{last_is, last_le, last_above}
use Rattle.trees.specs.work.Trees.{trees, root_of, branch_of, has_key, top_for, Comes, Leads, Tree, Tops, Keeps, Sought}

-- the branches of a place stand side by side
branch_in : (b i n r : ℕ) → i < n → r < b → b * i + r < b * n
branch_in b i n r h l = omega (arith, mul-le-mul_left b (add_le i n h), mul-add b i 1, mul-one b)
  where
    add_le : (i n : ℕ) → i < n → i + 1 ≤ n
    add_le i n h = omega arith

branch-of : (b i k r s : ℕ) → r < b → s < b → b * i + r ≡ b * k + s → i ≡ k
branch-of b i k r s hr hs e =
    trichotomy i k
    (λ h. absurd (omega (arith, e, branch_in b i k r h hr)))
    (λ h. absurd (omega (arith, e, branch_in b k i s h hs)))
    (λ h. h)

-- ways
module _ (b : ℕ) (links : List ℕ) where
  -- more links keep them
  comes_keeps : (more : List ℕ) → Keeps links more → (d at rest t : ℕ) → 0 < t → Comes b links d at rest t → Comes b more d at rest t
  unfolding Comes
  comes_keeps more k zero at rest t pos c = k at (omega (arith, c, pos)) ∙ c
  comes_keeps more k (suc d) at rest t pos c = rw (k at c.0) (c.0, comes_keeps more k d (branch_of b (get_or links at 0) rest) (rest / b) t pos c.1)

  -- none goes through an empty link
  no_way : (d at rest t : ℕ) → get_or links at 0 ≡ 0 → 0 < t → Comes b links d at rest t → ⊥
  unfolding Comes
  no_way zero at rest t z pos c = omega (arith, z, pos, c)
  no_way (suc d) at rest t z pos c = omega (arith, z, c.0)

-- the last place with a key
module _ (key : ℕ → ℕ) (n : ℕ) where
  pub top_le : (x : ℕ) → top_for key n x ≤ n
  top_le x = last_le (has_key key x) n

  pub top_key : (x : ℕ) → 0 < top_for key n x → key (top_for key n x - 1) ≡ x
  unfolding has_key
  top_key x h = eqb-true _ _ (last_is (has_key key x) n h)

  pub top_self : (i : ℕ) → i < n → i < top_for key n (key i)
  unfolding has_key
  top_self i h = elim (dec_lt i (top_for key n (key i))) [
    | yes l ↦ l
    | no l ↦ clash (eq-eqb (key i) (key i) refl) (last_above (has_key key (key i)) n i (omega arith) h)
  ]

-- the loop of `seek` has come to a link that holds j, with `rest` of the key left
pub record Descending (b : ℕ) (key : ℕ → ℕ) (n low : ℕ) (links : List ℕ) (x at rest j : ℕ) : Type 0 where
  pub within : at < length links
  pub here : j ≡ get_or links at 0
  pub below : (i r : ℕ) → r < b → at ≡ trees + b * i + r → low ≤ i
  pub back : (more : List ℕ) → Keeps links more → (t : ℕ) → Leads b more at rest t → Leads b more (root_of x) x t
  pub ahead : low < top_for key n x → Leads b links at rest (top_for key n x)

module _ (b : ℕ) (some : 0 < b) (key : ℕ → ℕ) (n low : ℕ) (links : List ℕ) (w : Tree b key n low links) (x : ℕ) where
  pub descending_start : (j : ℕ) → j ≡ get_or links (x % trees) 0 → Descending b key n low links x (x % trees) x j
  descending_start j e =
      record {
        within = omega (arith, w.room, mod-lt x {m = trees} (omega arith));
        here = e;
        below = λ i r h q. absurd (omega (arith, q, mod-lt x {m = trees} (omega arith)));
        back = λ more k t l. l;
        ahead = λ h. rw (top_key key n x (omega arith)) at (w.leads (top_for key n x - 1) (omega arith) (omega (arith, top_le key n x)));
      }

  module _ (at rest j : ℕ) (g : Descending b key n low links x at rest j) where
    -- an empty link
    pub descending_end : j ≤ 0 → Sought b key n low links x at
    unfolding Comes
    descending_end z =
        record {
          within = g.within;
          is = elim (dec_lt low (top_for key n x)) [
            | yes h ↦ absurd (∥∥₁_elim (g.ahead h) ⊥_prop (λ l. no_way b links l.0 at rest (top_for key n x) (omega (arith, g.here)) (omega arith) l.1))
            | no h ↦ rw (le-ltb low (top_for key n x) (omega arith)) (omega (arith, g.here))
          ];
          below = g.below;
          way = λ more k. g.back more k (get_or more at 0) ∣ (0, refl) ∣₁;
        }

    module _ (pos : 0 < j) where
      linked : 0 < get_or links at 0
      linked = omega (arith, g.here)

      pub descending_after : low < j
      descending_after = omega (arith, g.here, w.after at linked)

      pub descending_le : j ≤ n
      descending_le = omega (arith, g.here, w.top at linked, top_le key n (key (get_or links at 0 - 1)))

      -- the key
      pub descending_hit : key (j - 1) ≡ x → Sought b key n low links x at
      unfolding Comes
      descending_hit q =
          let k : key (get_or links at 0 - 1) ≡ x = ap (λ i. key (i - 1)) (sym g.here) ∙ q in
          let e : get_or links at 0 ≡ top_for key n x = w.top at linked ∙ ap (top_for key n) k in
          record {
            within = g.within;
            is = rw (← e, lt-ltb low (get_or links at 0) (w.after at linked));
            below = g.below;
            way = λ more k. g.back more k (get_or more at 0) ∣ (0, refl) ∣₁;
          }

      pub descending_less : get_or links (trees + b * (j - 1) + rest % b) 0 < j
      descending_less = omega (arith, w.down (j - 1) (rest % b) (mod-lt rest {m = b} (omega arith)))

      pub descending_room : trees + b * (j - 1) + rest % b < length links
      descending_room = omega (arith, w.room, branch_in b (j - 1) n (rest % b) (omega (arith, descending_le)) (mod-lt rest {m = b} (omega arith)))

      -- another one
      pub descending_more : (key (j - 1) ≡ x → ⊥) → (j' : ℕ) → j' ≡ get_or links (trees + b * (j - 1) + rest % b) 0
          → Descending b key n low links x (trees + b * (j - 1) + rest % b) (rest / b) j'
      unfolding Comes
      descending_more ne j' e =
          record {
            within = descending_room;
            here = e;
            below = λ i r h q. omega (arith, descending_after, branch-of b (j - 1) i (rest % b) r (mod-lt rest {m = b} (omega arith)) h (omega (arith, q)));
            back = λ more k t w. g.back more k t (∥∥₁_map w (λ l. (suc l.0, rw (k at linked ∙ sym g.here) (pos, l.1))));
            ahead = λ h. ∥∥₁_elim (g.ahead h) ∥∥₁_prop (λ l. go h l.0 l.1);
          }
        where
          go : low < top_for key n x → (d : ℕ) → Comes b links d at rest (top_for key n x) → Leads b links (branch_of b j rest) (rest / b) (top_for key n x)
          go h zero c = absurd (ne (ap (λ i. key (i - 1)) (g.here ∙ c) ∙ top_key key n x (omega arith)))
          go h (suc d) c = ∣ (d, rw g.here c.1) ∣₁

-- place i is planted after all the later ones, where its key's way ends
module _ (b : ℕ) (key : ℕ → ℕ) (n i : ℕ) (links : List ℕ) (hi : i < n) (w : Tree b key n (i + 1) links) (at : ℕ) (f : Sought b key n (i + 1) links (key i) at) where
  abbrev L : ℕ
  L = top_for key n (key i)

  -- a later one has its key
  later : 0 < get_or links at 0 → i + 1 < L
  later pos = elim (dec_lt (i + 1) L) [
    | yes h ↦ h
    | no h ↦ absurd (omega (arith, pos, f.is ∙ ap (λ c. pick c L 0) (le-ltb (i + 1) L (omega arith))))
  ]

  pub plant_top : 0 < get_or links at 0 → get_or links at 0 ≡ L
  plant_top pos = f.is ∙ ap (λ c. pick c L 0) (lt-ltb (i + 1) L (later pos))

  pub plant_hit : 0 < get_or links at 0 → Tree b key n i links
  plant_hit pos =
      record {
        room = w.room;
        after = λ y h. omega (arith, w.after y h);
        top = w.top;
        down = w.down;
        leads = λ k l h. elim (dec_lt i k) [
          | yes a ↦ w.leads k (omega arith) h
          | no a ↦
              let e : k ≡ i = omega arith in
              rw e (rw (top_key key n (key i) (omega (arith, later pos))) at (w.leads (L - 1) (omega (arith, later pos)) (omega (arith, later pos, top_le key n (key i)))))
        ];
      }

  -- none has
  module _ (z : get_or links at 0 ≡ 0) where
    pub plant_own : i + 1 ≡ L
    plant_own = elim (dec_lt (i + 1) L) [
      | yes h ↦ absurd (omega (arith, z, f.is ∙ ap (λ c. pick c L 0) (lt-ltb (i + 1) L h)))
      | no h ↦ omega (arith, top_self key n i hi)
    ]

    abbrev new : List ℕ
    new = set links at (i + 1)

    there : get_or new at 0 ≡ i + 1
    there = get_or-set_same links at (i + 1) 0 f.within

    other : (y : ℕ) → (at ≡ y → ⊥) → get_or new y 0 ≡ get_or links y 0
    other y h = get_or-set_other links at y (i + 1) 0 (λ q. h (sym q))

    keeps : Keeps links new
    keeps y h = other y (λ q. omega (arith, z, rw (← q) at h))

    pub plant_new : Tree b key n i new
    plant_new =
        record {
          room = omega (arith, w.room, length-set links at (i + 1));
          after = λ y h. elim (ℕ_discrete at y) [ yes q ↦ rw (← q, there) (omega arith) | no q ↦ omega (arith, other y q, w.after y (omega (arith, other y q))) ];
          top = λ y h. elim (ℕ_discrete at y) [
            | yes q ↦ let e : i + 1 - 1 ≡ i = omega arith in rw (← q, there, e) plant_own
            | no q ↦ rw (other y q) (w.top y (omega (arith, other y q)))
          ];
          down = λ k r h. elim (ℕ_discrete at (trees + b * k + r)) [
            | yes q ↦ rw (← q, there) (f.below k r h q)
            | no q ↦ rw (other (trees + b * k + r) q) (w.down k r h)
          ];
          leads = λ k l h. elim (dec_lt i k) [
            | yes a ↦ ∥∥₁_map (w.leads k (omega arith) h) (λ c. (c.0, comes_keeps b links new keeps c.0 (root_of (key k)) (key k) (top_for key n (key k)) (omega (arith, top_self key n k h)) c.1))
            | no a ↦ let e : k ≡ i = omega arith in rw e (rw (there ∙ plant_own) at (f.way new keeps))
          ];
        }

-- the loop of `grow`
module _ (key : ℕ → ℕ) (n : ℕ) where
  pub grown_none : (b : ℕ) (links : List ℕ) → trees + b * n ≤ length links → ((y : ℕ) → get_or links y 0 ≡ 0) → Tree b key n n links
  grown_none b links r z =
      record {
        room = r;
        after = λ y h. absurd (omega (arith, z y, h));
        top = λ y h. absurd (omega (arith, z y, h));
        down = λ i s h. omega (arith, z (trees + b * i + s));
        leads = λ i l h. absurd (omega arith);
      }

  pub tops_none : (tops : List ℕ) → n ≤ length tops → Tops key n n tops
  tops_none tops r = record { room = r; at = λ i l h. absurd (omega arith) }

  pub tops_more : (tops : List ℕ) (i p : ℕ) → i < n → p ≡ top_for key n (key i) → Tops key n (i + 1) tops → Tops key n i (set tops i p)
  tops_more tops i p hi e w =
      record {
        room = omega (arith, w.room, length-set tops i p);
        at = λ k l h. elim (ℕ_discrete i k) [
          | yes q ↦ rw (← q, get_or-set_same tops i p 0 (omega (arith, w.room))) e
          | no q ↦ get_or-set_other tops i k p 0 (λ x. q (sym x)) ∙ w.at k (omega arith) h
        ];
      }

  -- a whole tree tells the last place with any key
  pub sought_all : (b : ℕ) (links : List ℕ) (x at : ℕ) → Sought b key n 0 links x at → get_or links at 0 ≡ top_for key n x
  sought_all b links x at f = f.is ∙ go (top_for key n x)
    where
      go : (t : ℕ) → pick (ltb 0 t) t 0 ≡ t
      go zero = refl
      go (suc t) = rw (lt-ltb 0 (suc t) (omega arith))

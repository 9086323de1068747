-- Where a crossing stands on its edge, by what the code is told of it.
use Prim.Native.Nat.{ℕ, ◌-◌, ◌%◌, ◌<◌, ◌≤◌}
use mathlib.Core.Path.{◌≡◌, sym, ap, ◌∙◌, subst}
use native.Mathlib.Omega.{arith}
use native.Mathlib.Decide.{dec_lt, ℕ_discrete}
use borrow.Author.Tests.{lt-ltb, le-ltb, le-leb, lt-leb, eq-eqb, ne_eqb}
use Rattle.face.specs.declared.Stand.{Stand}
use Rattle.face.specs.declared.Stand.TheVariants.{Low, High, Up, Down, Alone}
use Rattle.face.specs.work.Stand.{stand_number, stand_on}

module _ (p end t : ℕ) where
  pub stand_low : t < p → stand_on p end t ≡ 0
  unfolding stand_on
  stand_low h = simp (lt-ltb t p h)

  module _ (a : p ≤ t) where
    pub stand_high : end ≤ t → stand_on p end t ≡ 1
    unfolding stand_on
    stand_high h = simp (le-ltb t p a, le-leb end t h)

    module _ (b : t < end) where
      pub stand_up : (end - t) % 2 ≡ 0 → stand_on p end t ≡ 2
      unfolding stand_on
      stand_up h = simp (le-ltb t p a, lt-leb end t b, eq-eqb ((end - t) % 2) 0 h)

      module _ (z : (end - t) % 2 ≡ 0 → ⊥) where
        pub stand_alone : t ≡ p → stand_on p end t ≡ 4
        unfolding stand_on
        stand_alone h = simp (le-ltb t p a, lt-leb end t b, ne_eqb ((end - t) % 2) 0 z, eq-eqb t p h)

        pub stand_down : (t ≡ p → ⊥) → stand_on p end t ≡ 3
        unfolding stand_on
        stand_down h = simp (le-ltb t p a, lt-leb end t b, ne_eqb ((end - t) % 2) 0 z, ne_eqb t p h)

  -- between the corners
  pub record Within : Type 0 where
    pub low : p ≤ t
    pub high : t < end

  -- what each case says
  abbrev pub Stands : Stand → Type 0
  Stands Low = t < p
  Stands High = (p ≤ t) × (end ≤ t)
  Stands Up = Within × ((end - t) % 2 ≡ 0)
  Stands Down = Within × ((end - t) % 2 ≡ 1) × (p < t)
  Stands Alone = Within × ((end - t) % 2 ≡ 1) × (t ≡ p)

  -- where it stands, with its number
  data Told : ℕ → Type 0 where
    low : t < p → Told 0
    high : p ≤ t → end ≤ t → Told 1
    up : Within → (end - t) % 2 ≡ 0 → Told 2
    down : Within → (end - t) % 2 ≡ 1 → p < t → Told 3
    alone : Within → (end - t) % 2 ≡ 1 → t ≡ p → Told 4

  between : p ≤ t → t < end → Told (stand_on p end t)
  between a b =
      let W : Within = record { low = a; high = b } in
      elim (ℕ_discrete ((end - t) % 2) 0) [
        | yes z ↦ rw (stand_up a b z) (up W z)
        | no z ↦ elim (ℕ_discrete t p) [
          | yes e ↦ rw (stand_alone a b z e) (alone W (omega arith) e)
          | no e ↦ rw (stand_down a b z e) (down W (omega arith) (omega arith))
        ]
      ]

  told : Told (stand_on p end t)
  told =
      elim (dec_lt t p) [
        | yes h ↦ rw (stand_low h) (low h)
        | no h ↦ elim (dec_lt t end) [
          | yes k ↦ between (omega arith) k
          | no k ↦ rw (stand_high (omega arith) (omega arith)) (high (omega arith) (omega arith))
        ]
      ]

  pub stands : {r : Stand} (s : Stand) → stand_number r ≡ stand_on p end t → r ≡ s → Stands s
  stands s e f = go s (subst Told (sym e ∙ ap stand_number f) told)
    where
      go : (s : Stand) → Told (stand_number s) → Stands s
      go Low (low h) = h
      go High (high h k) = (h, k)
      go Up (up W z) = (W, z)
      go Down (down W z h) = (W, z, h)
      go Alone (alone W z h) = (W, z, h)

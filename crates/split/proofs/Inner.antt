-- The inner crossings of a split cell are numbered without a gap.
use Prim.Native.Nat.{ℕ, zero, suc, ◌+◌, ◌-◌, ◌*◌, ◌/◌, ◌≤◌, ◌<◌}
use mathlib.Core.Path.{◌≡◌, refl, sym, ap, ap₂, ◌∙◌, subst}
use mathlib.Core.Logic.{◌⊎◌, inl, inr, ◌≢◌, ⊎_elim}
use mathlib.Core.Bool.{Bool, true, false}
use mathlib.Core.List.{List, [], ◌∷◌, ◌++◌}
use native.Mathlib.Omega.{arith}
use native.Mathlib.Decide.{dec_lt, ℕ_discrete}
use lib.ListN.{length, get_or, length-append, get_or-append}
use lib.Seq.{get_or-append-add}
use Rattle.counting.specs.Lists.{pre}
use Rattle.counting.specs.Pack.{row, col}
use Rattle.counting.proofs.Pack.{row_lt, col_lt, unpack}
use Rattle.slots.specs.Slots.{position}
use Rattle.slots.specs.claims.Slots.{rank_in}
use Rattle.slots.proofs.Slots.{rank-of}
use Rattle.cell.specs.declared.Cell.{Cell}
use Rattle.cell.specs.Cell.{number}
use Rattle.cell.specs.Of.{count_of, start_of, edges_of}
use Rattle.cell.specs.Loop.{in_grid}
use Rattle.cell.specs.Triangles.{number_of}
use Rattle.cell.specs.claims.Polygons.{local_of}
use Rattle.cell.proofs.Lay.{lay}
use Rattle.booking.specs.Booking.{larger, smaller, is_spiral}
use Rattle.split.specs.Limits.{word_step}
use Rattle.booking.specs.Figures.{inner_crossings}
use Rattle.split.specs.Labels.{labelled, label, spoke}
use Rattle.split.specs.SubCell.{arm_start, sub_at, sub}
use Rattle.split.specs.Parts.{Part, whole, corners, splits_within, parts, no_part}
use Rattle.split.specs.claims.Family.{Meets}
use Rattle.split.specs.claims.Five.{Firm, FirmBelow}
use Rattle.split.specs.claims.Claims.{part_local, InnerNumbered}
use Rattle.booking.proofs.Figures.{figure_stop, figure_step}
use Rattle.split.proofs.Labels.{spiral_is, labelled_lt, labelled_once, label_at}
use Rattle.split.proofs.SubCells.{sub_omits}
use Rattle.split.proofs.SubNumbers.{sub_cells}
use Rattle.split.proofs.Shows.{all_joined}
use Rattle.split.proofs.Sub.{spokes, new_start, sub_ready}
use Rattle.split.proofs.Parts.{not_spiral, stop, more, each}
use Rattle.split.proofs.Whole.{meets_below, own_below}

-- every crossing of a firm cell is met
meets_edge : (c : Cell) → Firm c → (k t : ℕ) → k < 6 → t < count_of c k → Meets (local_of c) (start_of c k + t)
unfolding number_of in_grid
meets_edge c H k t lk lt =
    let E = edges_of c in
    let l = (lay (edges_of c)).number_lt k t lk lt in
    let h : 2 * number (edges_of c) k t / 2 ≡ number (edges_of c) k t = omega arith in
    record {
      d = 2 * number (edges_of c) k t;
      on = all_joined c H (2 * number (edges_of c) k t) (omega arith);
      is = ap (number_of c) h ∙ ap₂ (λ k t. start_of c k + t) ((lay (edges_of c)).number_edge k t lk lt) ((lay (edges_of c)).number_index k t lk lt);
    }

module _ (c : Cell) (b f : ℕ) (R : FirmBelow c b f) (some : 0 < smaller (count_of c)) (apart : smaller (count_of c) < larger (count_of c)) where
  -- crossing t of the new edge to the label n is in each sub-cell that has that node
  meets_arm : (word m n t : ℕ) → m < 4 → n < 4 → n ≢ m → t < spoke (count_of c) n → Meets (local_of (sub c b f word m)) (b + pre (spoke (count_of c)) n + t)
  unfolding sub arm_start
  meets_arm word m n t lm ln ne lt =
      let K = R.firm.level in
      let M = labelled (count_of c) m in
      let l_m = labelled_lt (count_of c) R.firm.level some apart m lm in
      let lp = labelled_lt (count_of c) R.firm.level some apart n ln in
      let (r, e) = rank-of (labelled (count_of c) m) (labelled (count_of c) n) l_m lp (λ q. ne (labelled_once (count_of c) R.firm.level some apart n m ln lm q)) in
      let q = rank_in (labelled (count_of c) m) (labelled (count_of c) n) in
      let a : label (count_of c) (position (labelled (count_of c) m) (rank_in (labelled (count_of c) m) (labelled (count_of c) n))) ≡ n = ap (label (count_of c)) e ∙ label_at (count_of c) R.firm.level some apart n ln in
      let x = (sub_omits c R.firm.level some apart b f word (labelled (count_of c) m) l_m).new (rank_in (labelled (count_of c) m) (labelled (count_of c) n)) r ∙ ap (spoke (count_of c)) a in
      let y = new_start c b f R some apart word (labelled (count_of c) m) l_m (rank_in (labelled (count_of c) m) (labelled (count_of c) n)) r ∙ ap (λ l. b + pre (spoke (count_of c)) l) a in
      subst (Meets (local_of (sub_at c b f word (labelled (count_of c) m)))) (ap (λ s. s + t) y)
      (meets_edge (sub_at c b f word (labelled (count_of c) m)) (sub_ready c b f R some apart word m lm).firm (rank_in (labelled (count_of c) m) (labelled (count_of c) n)) t (omega arith) (omega (arith, x, lt)))

  -- a new crossing is in the sub-cell that omits l, or else in the one that omits i
  pub meets_new : (word word' g : ℕ) → b ≤ g → g < b + 2 * (larger (count_of c) + smaller (count_of c)) → Meets (local_of (sub c b f word 3)) g ⊎ Meets (local_of (sub c b f word' 0)) g
  meets_new word word' g h l =
      let s = spoke (count_of c) in
      let lt : g - b < pre (spoke (count_of c)) 4 = omega (arith, spokes c b f R some apart) in
      let u = unpack (spoke (count_of c)) 4 (g - b) lt in
      let n = row (spoke (count_of c)) 4 (g - b) in
      let is : b + pre (spoke (count_of c)) (row (spoke (count_of c)) 4 (g - b)) + col (spoke (count_of c)) 4 (g - b) ≡ g = omega (arith, u) in
      elim (ℕ_discrete (row (spoke (count_of c)) 4 (g - b)) 3) [
        | no e ↦ inl (subst (Meets (local_of (sub c b f word 3))) is (meets_arm word 3 (row (spoke (count_of c)) 4 (g - b)) (col (spoke (count_of c)) 4 (g - b)) (omega arith) (row_lt (spoke (count_of c)) 4 (g - b) lt) e (col_lt (spoke (count_of c)) 4 (g - b) lt)))
        | yes e ↦ inr (subst (Meets (local_of (sub c b f word' 0))) is (meets_arm word' 0 (row (spoke (count_of c)) 4 (g - b)) (col (spoke (count_of c)) 4 (g - b)) (omega arith) (row_lt (spoke (count_of c)) 4 (g - b) lt) (λ z. omega (arith, e, z)) (col_lt (spoke (count_of c)) 4 (g - b) lt)))
      ]

-- a part of the list that has the property
abbrev Some : (Part → Type 0) → List Part → Type 0
Some P l = (x : ℕ) × (x < length l) × P (get_or l x no_part)

module _ (P : Part → Type 0) (p0 p1 q0 q1 : Part) (l : List Part) where
  abbrev listed : List Part
  listed = p0 ∷ p1 ∷ (l ++ (q0 ∷ q1 ∷ []))

  long : length (l ++ (q0 ∷ q1 ∷ [])) ≡ length l + 2
  long = length-append l (q0 ∷ q1 ∷ [])

  some_second : P p1 → Some P listed
  some_second h = (1, omega (arith, long), h)

  some_inside : Some P l → Some P listed
  some_inside (y, ly, h) = (suc (suc y), omega (arith, long), subst P (sym (get_or-append l (q0 ∷ q1 ∷ []) no_part y ly)) h)

  some_last : P q1 → Some P listed
  some_last h = (suc (suc (length l + 1)), omega (arith, long), subst P (sym (get_or-append-add l (q0 ∷ q1 ∷ []) 1 no_part)) h)

module _ (cell : ℕ) where
  abbrev Below : ℕ → Part → Type 0
  Below top p = (g : ℕ) → Meets (part_local p) g → g < top

  abbrev Met : ℕ → Part → Type 0
  Met g p = Meets (part_local p) g

  -- both laws, of a list of parts
  record Gapless (b top : ℕ) (l : List Part) : Type 0 where
    under : (x : ℕ) → x < length l → Below top (get_or l x no_part)
    over : (g : ℕ) → b ≤ g → g < top → Some (Met g) l

  alone : (c : Cell) (b f : ℕ) → FirmBelow c b f → Gapless b b (whole c ∷ [])
  alone c b f R = record { under = here; over = λ g h l. absurd (omega arith) }
    where
      here : (x : ℕ) → x < 1 → (g : ℕ) → Meets (part_local (get_or (whole c ∷ []) x no_part)) g → g < b
      here zero h g v = meets_below c b f g R v
      here (suc x) h g v = absurd (omega arith)

  numbered : (fuel n b f : ℕ) (c : Cell) → FirmBelow c b f → 0 < smaller (count_of c) → larger (count_of c) + smaller (count_of c) ≤ fuel
      → Gapless b (b + inner_crossings (larger (count_of c)) (smaller (count_of c))) (parts fuel cell n b f c)
  numbered zero n b f c R p h = absurd (omega arith)
  numbered (suc fuel) n b f c R p h =
      go (is_spiral (count_of c)) refl
      (λ Q x y. numbered fuel (n + 2) (b + 2 * (larger (count_of c) + smaller (count_of c))) (f + 6) (sub c b f (cell + word_step * (n + 2)) 2) Q x y)
    where
      b' : ℕ
      b' = b + 2 * (larger (count_of c) + smaller (count_of c))

      N : Cell
      N = sub c b f (cell + word_step * (n + 2)) 2

      top : ℕ
      top = b + inner_crossings (larger (count_of c)) (smaller (count_of c))

      inner : List Part
      inner = parts fuel cell (n + 2) (b + 2 * (larger (count_of c) + smaller (count_of c))) (f + 6) (sub c b f (cell + word_step * (n + 2)) 2)

      go : (s : Bool) → is_spiral (count_of c) ≡ s
          → (FirmBelow N b' (f + 6) → 0 < smaller (count_of N) → larger (count_of N) + smaller (count_of N) ≤ fuel → Gapless b' (b' + inner_crossings (larger (count_of N)) (smaller (count_of N))) inner)
          → Gapless b top (parts (suc fuel) cell n b f c)
      go false e i =
          let q = not_spiral (count_of c) e p in
          let z : inner_crossings (larger (count_of c)) (smaller (count_of c)) ≡ 0 = ap (λ x. inner_crossings x (smaller (count_of c))) q ∙ figure_stop (λ n. 0) (λ x y. 2 * (x + y)) (smaller (count_of c)) in
          subst (λ t. Gapless b t (parts (suc fuel) cell n b f c)) (omega (arith, z)) (subst (Gapless b b) (sym (stop fuel cell n b f c e)) (alone c b f R))
      go true e i =
          let (some, apart) = spiral_is (count_of c) e in
          let M = (sub_cells c R.firm.level some apart b f (cell + word_step * (n + 2))).omits_k in
          let J = i (sub_ready c b f R some apart (cell + word_step * (n + 2)) 2 (omega arith)) (omega (arith, M.second)) (omega (arith, M.first, M.second)) in
          let s : inner_crossings (larger (count_of c)) (smaller (count_of c)) ≡ 2 * (larger (count_of c) + smaller (count_of c)) + inner_crossings (larger (count_of N)) (smaller (count_of N)) =
          figure_step (λ n. 0) (λ x y. 2 * (x + y)) (larger (count_of c)) (smaller (count_of c)) some apart
          ∙ ap (λ m. 2 * (larger (count_of c) + smaller (count_of c)) + m) (sym (ap₂ inner_crossings M.first M.second)) in
          let w1 = cell + word_step * (n + 1) in
          let w3 = cell + word_step * (n + 3 + 4 * splits_within (count_of c)) in
          let w4 = cell + word_step * (n + 4 + 4 * splits_within (count_of c)) in
          subst (Gapless b top) (sym (more fuel cell n b f c e))
          (record {
            under = each (λ x. Below top) (corners c) (whole (sub c b f (cell + word_step * (n + 1)) 3)) (whole (sub c b f (cell + word_step * (n + 3 + 4 * splits_within (count_of c))) 1))
                (whole (sub c b f (cell + word_step * (n + 4 + 4 * splits_within (count_of c))) 0)) inner
                (λ g v. omega (arith, own_below c b f g R v))
                (λ g v. omega (arith, s, meets_below (sub c b f (cell + word_step * (n + 1)) 3) b' (f + 6) g (sub_ready c b f R some apart (cell + word_step * (n + 1)) 3 (omega arith)) v))
                (λ y l g v. omega (arith, s, J.under y l g v))
                (λ g v. omega (arith, s, meets_below (sub c b f (cell + word_step * (n + 3 + 4 * splits_within (count_of c))) 1) b' (f + 6) g (sub_ready c b f R some apart (cell + word_step * (n + 3 + 4 * splits_within (count_of c))) 1 (omega arith)) v))
                (λ g v. omega (arith, s, meets_below (sub c b f (cell + word_step * (n + 4 + 4 * splits_within (count_of c))) 0) b' (f + 6) g (sub_ready c b f R some apart (cell + word_step * (n + 4 + 4 * splits_within (count_of c))) 0 (omega arith)) v));
            over = λ g h l. pick_part g h some apart (λ a. J.over g a (omega (arith, s, l)));
          })
        where
          pick_part : (g : ℕ) → b ≤ g → 0 < smaller (count_of c) → smaller (count_of c) < larger (count_of c) → (b' ≤ g → Some (Met g) inner)
              → Some (Met g) (corners c ∷ whole (sub c b f (cell + word_step * (n + 1)) 3) ∷ (inner ++ (whole (sub c b f (cell + word_step * (n + 3 + 4 * splits_within (count_of c))) 1) ∷ whole (sub c b f (cell + word_step * (n + 4 + 4 * splits_within (count_of c))) 0) ∷ [])))
          pick_part g h some apart j =
              elim (dec_lt g (b + 2 * (larger (count_of c) + smaller (count_of c)))) [
                | yes l ↦ ⊎_elim
                    (λ v. some_second (Met g) (corners c) (whole (sub c b f (cell + word_step * (n + 1)) 3)) (whole (sub c b f (cell + word_step * (n + 3 + 4 * splits_within (count_of c))) 1))
                    (whole (sub c b f (cell + word_step * (n + 4 + 4 * splits_within (count_of c))) 0)) inner v)
                    (λ v. some_last (Met g) (corners c) (whole (sub c b f (cell + word_step * (n + 1)) 3)) (whole (sub c b f (cell + word_step * (n + 3 + 4 * splits_within (count_of c))) 1))
                    (whole (sub c b f (cell + word_step * (n + 4 + 4 * splits_within (count_of c))) 0)) inner v)
                    (meets_new c b f R some apart (cell + word_step * (n + 1)) (cell + word_step * (n + 4 + 4 * splits_within (count_of c))) g h l)
                | no l ↦ some_inside (Met g) (corners c) (whole (sub c b f (cell + word_step * (n + 1)) 3)) (whole (sub c b f (cell + word_step * (n + 3 + 4 * splits_within (count_of c))) 1))
                    (whole (sub c b f (cell + word_step * (n + 4 + 4 * splits_within (count_of c))) 0)) inner (j (omega arith))
              ]

pub inner_numbered : InnerNumbered
inner_numbered fuel cell n b f c R p h = let N = numbered cell fuel n b f c R p h in record { below = λ x g l v. N.under x l g v; met = N.over }

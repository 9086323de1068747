-- What is proved of the segments and chains of an accepted flat grid (02, W11). A segment of triangle f is a crossing with a mate there.
use Rattle.std.specs.Prelude.{ℕ, ◌*◌, ◌<◌, ◌≡◌, ◌≢◌, true}
use Rattle.grid.specs.Grid.{crossings}
use Rattle.walk.specs.Darts.{half}
use Rattle.walk.specs.Step as walk
use Rattle.flat.specs.FlatGrid.{FlatGrid, triangles_in, has_edge}
use Rattle.flat.specs.Accepted.{Accepted}
use Rattle.flat.specs.ChainClaims.{ChainLaws}
use Rattle.flat.specs.Chains.{crossing_edge, mate, first_triangle, second_triangle, step}

-- dart d leads over the segment of crossing x in triangle f
pub record LeadsOver (G : FlatGrid) (f x d : ℕ) : Type 0 where
  pub dart : d < 2 * crossings G.counts
  pub from : half d ≡ x
  pub through : walk.face (crossings G.counts) (first_triangle G) (second_triangle G) (mate G) d ≡ f
  pub onward : step G d < 2 * crossings G.counts
  pub to : half (step G d) ≡ mate G f x

pub record SegmentLaws (G : FlatGrid) : Type 0 where
  -- the mate of a crossing in a triangle is another crossing, of which it is the mate there
  pub back : (f x : ℕ) → x < crossings G.counts → mate G f x < crossings G.counts → mate G f (mate G f x) ≡ x
  pub another : (f x : ℕ) → x < crossings G.counts → mate G f x ≢ x
  -- a triangle leaves no more than one crossing of its edges unjoined
  pub one_left : (f x y : ℕ) → f < triangles_in G.triangles → x < crossings G.counts → y < crossings G.counts
      → has_edge G (crossing_edge G x) f ≡ true → has_edge G (crossing_edge G y) f ≡ true → mate G f x ≡ crossings G.counts → mate G f y ≡ crossings G.counts → x ≡ y
  -- no crossing is in more than two segments: not in three triangles
  pub two : (x f g h : ℕ) → x < crossings G.counts → mate G f x < crossings G.counts → mate G g x < crossings G.counts → mate G h x < crossings G.counts
      → f ≢ g → f ≢ h → g ≢ h → ⊥
  -- each segment has a dart, so that what is said of darts is said of segments
  pub leads : (f x : ℕ) → x < crossings G.counts → mate G f x < crossings G.counts → (d : ℕ) × LeadsOver G f x d
  -- and chains are as said of darts: each segment in exactly one, once
  pub chains : ChainLaws (crossings G.counts) (step G)

abbrev pub SegmentsHold : Type 0
SegmentsHold = (G : FlatGrid) → Accepted G → SegmentLaws G

use Rattle.std.specs.Prelude.{ℕ, ◌<◌, ◌≡◌, false}
use Rattle.flat.specs.Rows.{bad_triangle}
use Rattle.flat.proofs.triangles.row_3.Given as goal

abbrev pub invariant-loop-f : goal.invariant-loop-f
invariant-loop-f l = (i : ℕ) → i < l.f → bad_triangle l.triangles i ≡ false

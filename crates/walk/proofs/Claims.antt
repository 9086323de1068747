-- The laws of the loops, together.
use Prim.Native.Nat.{ℕ, ◌*◌}
use Rattle.walk.specs.claims.Claims.{Darts, WalkLaws}
use Rattle.walk.specs.Darts.{half}
use Rattle.walk.proofs.Curve.{closes, loop_distinct, loop_length, loop_later, loop_short}
use Rattle.walk.proofs.Found.{finds}
use Rattle.walk.proofs.Once.{listed, at_most_once, closed_once, each-once}
use Rattle.walk.proofs.All.{ring_all}

pub walk_laws : (N : ℕ) (s rv : ℕ → ℕ) → Darts (2 * N) N s rv half → WalkLaws N s
walk_laws N s rv D = record {
  closes = λ d. closes (2 * N) N s rv half D d;
  distinct = λ d k L. loop_distinct (2 * N) N s rv half D L;
  found = λ p l. listed N s rv D p l;
  finds = λ p k l L. finds N s rv D p k (loop_short (2 * N) N s rv half D L) l L;
  one_length = λ d k l i K L. loop_length (2 * N) N s rv half D (loop_later (2 * N) N s rv half D K i) L;
  most = λ x. at_most_once N s rv D x;
  closed = λ d k L i. closed_once N s rv D d k L i;
  exactly = λ total x l. each-once N s rv D total x l;
  all = λ d L x l. ring_all (2 * N) N s rv half D L x l;
}

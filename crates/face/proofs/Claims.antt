-- The laws of a face, together.
use Prim.Native.Nat.{ℕ}
use Rattle.face.specs.claims.Claims.{FaceLaws}
use Rattle.face.proofs.Answers.{joined_unjoined}
use Rattle.face.proofs.Links.{at_corner}
use Rattle.face.proofs.Laws.{there_joined, partner_there, partner_differs, symmetric, is_off, off_only, joined_or, even_joined}
use Rattle.face.proofs.Rim as round
use Rattle.face.proofs.Tally as tally

pub face_laws : (ab ac bc : ℕ) → FaceLaws ab ac bc
face_laws ab ac bc = record {
  corner = λ w e k d h. at_corner ab ac bc k d h;
  there = λ e t e' t' j. (there_joined ab ac bc e t e' t' j, partner_there ab ac bc e t e' t' j);
  another = partner_differs ab ac bc;
  back = symmetric ab ac bc;
  off = is_off ab ac bc;
  only_off = off_only ab ac bc;
  cases = joined_or ab ac bc;
  not_both = λ e t e' t' j u. joined_unjoined j u;
  even = even_joined ab ac bc;
  sum = tally.sum_law ab ac bc;
  unjoined_even = tally.unjoined_even ab ac bc;
  unjoined_odd = tally.unjoined_odd ab ac bc;
  unjoined_long = tally.unjoined_long ab ac bc;
  rim_within = round.rim_within ab ac bc;
  rim_once = round.rim_once ab ac bc;
  no_alternation = round.never_alternate ab ac bc;
}

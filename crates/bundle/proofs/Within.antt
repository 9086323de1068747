-- What the record reader answers lies within the bytes. Assumes nothing.
use Prim.Native.Nat.{◌+◌, ◌-◌, ◌≤◌}
use mathlib.Core.Path.{◌≡◌, refl, sym}
use mathlib.Core.Bool.{Bool, true, false}
use native.Mathlib.Omega.{arith}
use lib.ListN.{length}
use Rattle.counting.specs.Pick.{pick}
use Rattle.bundle.specs.Record.{head_bytes, next_record, is_record, body_start, body_size}
use Rattle.bundle.specs.claims.Claims.{RecordWithin, BodyWithin}
use Rattle.bundle.proofs.OneRecord.{found, stands, next_ge}

pub record_within : RecordWithin
record_within s at kind next h =
    let f = found s at kind next (sym h) in
    let e = f.next_is in
    (omega (arith, e, next_ge s at f.whole), omega (arith, e, (stands s at f.whole).fits))

pub body_within : BodyWithin
unfolding body_start body_size
body_within s at = go (is_record s at) refl
  where
    go : (b : Bool) → is_record s at ≡ b → pick b (at + head_bytes) 0 + pick b (next_record s at - (at + head_bytes)) 0 ≤ length s
    go true h = omega (arith, next_ge s at h, (stands s at h).fits)
    go false h = omega arith

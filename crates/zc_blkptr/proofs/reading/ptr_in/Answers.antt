-- Five fields, each from what the one before left.
use Rattle.std.proofs.Common.{length, sym, ap, ◌∙◌, arith, rules}
use Rattle.zc_wire.specs.Cursor.{Reading}
use Rattle.zc_blkptr.specs.declared.ptr.Ptr.{Ptr}
use Rattle.zc_blkptr.proofs.Spelling.{five_read}
use Rattle.zc_blkptr.proofs.reading.ptr_in.Goals as goal

pub returns-clause-found : goal.returns-clause-found
returns-clause-found c =
    let ptr : Ptr = record { device = c.in_ok-device.device; place = c.in_ok-place.place; logical = c.in_ok-logical.logical; physical = c.in_ok-physical.physical; digest = c.digest_in-digest.result } in
    let begun = ap (λ (cursor : Reading). cursor.left) c.new-cursor.ensures in (
      record { device = omega arith; place = omega arith; logical = omega arith; physical = omega arith; digest = search rules; digest_fits = search rules },
      five_read ptr c.args.bytes.now c.u32.new.self.left c.u32-2.new.self.left c.u64.new.self.left c.u64-2.new.self.left c.take.new.self.left c.in_ok-take.field-0.now
          (sym begun ∙ c.in_ok-device.ensures.read) c.in_ok-place.ensures.read c.in_ok-logical.ensures.read c.in_ok-physical.ensures.read
          c.in_ok-take.ensures.read c.digest_in-digest.ensures
          (omega (arith, ap length begun, c.in_ok-device.ensures.rest, c.in_ok-place.ensures.rest, c.in_ok-logical.ensures.rest, c.in_ok-physical.ensures.rest, c.in_ok-take.ensures.rest)),
    )

-- The end mark, and what is none.
use Rattle.zc_catalog.proofs.ChainLaws.{next_is_none, next_is_some}
use Rattle.zc_catalog.proofs.linking.next_of.Goals as goal
use Rattle.zc_catalog.proofs.linking.next_of.Goals.{else-device-via-then-device+else-place, else-device-via-else-device}

pub returns-then-place : goal.returns-then-place
returns-then-place c =
    next_is_none c.args.block.now c.number_at-device.result c.number_at-place.result c.number_at-device.ensures c.number_at-place.ensures c.if-device.true c.if-place.true

pub returns-else-device : goal.returns-else-device
returns-else-device c =
    next_is_some c.args.block.now c.number_at-device.result c.number_at-place.result c.number_at-device.ensures c.number_at-place.ensures
    (λ both. elim c.else-device.branch [
      | else-device-via-then-device+else-place w ↦ w.if-place.false both.1
      | else-device-via-else-device w ↦ w.if-device.false both.0
    ])

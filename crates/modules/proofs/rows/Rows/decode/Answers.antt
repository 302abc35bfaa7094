use Rattle.std.proofs.Common.{rules}
use Rattle.modules.proofs.Decoding.{begins, room_for_one, onward, bounded}
use Rattle.modules.proofs.rows.Rows.decode.Goals as goal

pub loop-placed-init : goal.loop-placed-init
loop-placed-init c = begins c.clear.ensures (search rules) c.if-bytes-gt-MAX_MODULE.false

pub add-requires : goal.add-requires
add-requires c = room_for_one c.loop-placed.invariant c.in-Some.ensures.steps

pub loop-placed-preserved : goal.loop-placed-preserved
loop-placed-preserved c = onward c.loop-placed.invariant c.in-Some.ensures.steps c.add.ensures

pub returns-clause-bounded : goal.returns-clause-bounded
returns-clause-bounded c = bounded c.loop-placed.invariant c.in-None.ensures.steps.0

use Rattle.std.proofs.Common.{◌≡◌, ◌-◌, length}
use Rattle.codec.proofs.Turns.{Going}
use Rattle.codec.proofs.modules.read_module.Given as goal

abbrev pub invariant-loop-progress : goal.invariant-loop-progress
invariant-loop-progress l =
    (l.walk.«module».now ≡ l.bytes) × Going l.bytes l.progress l.records l.walk.place

abbrev pub decreases-loop-progress : goal.decreases-loop-progress
decreases-loop-progress l = length l.bytes - l.walk.place

use Rattle.std.specs.Ordering.{partial_lt}
use Rattle.std.proofs.Common.{◌-◌}
use Rattle.table.proofs.Halves.{Halving}
use Rattle.table.proofs.search.lower_bound.Given as goal

abbrev pub invariant-loop-low : goal.invariant-loop-low
invariant-loop-low g l = Halving g.R.Keyed.keyof (partial_lt g.R.Key.PartialOrd.partial_cmp) l.rows l.key l.low l.high

abbrev pub decreases-loop-low : goal.decreases-loop-low
decreases-loop-low g l = l.high - l.low

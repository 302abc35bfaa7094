use Rattle.std.specs.Ordering.{partial_lt}
use Rattle.std.proofs.Common.{◌≡◌, true, false, refl, arith}
use Rattle.table.proofs.Halves.{begins, ends, go_up, go_down}
use Rattle.table.proofs.search.lower_bound.Goals as goal

pub loop-low-init : goal.loop-low-init
loop-low-init g c = begins _ _ _ _

pub loop-low-preserved-then-lt : goal.loop-low-preserved-then-lt
loop-low-preserved-then-lt g c =
    let b : (partial_lt g.R.Key.PartialOrd.partial_cmp) (g.R.Keyed.keyof c.index-rows-middle.result) c.args.key ≡ true = cc c.if-lt.ensures in
    go_up _ _ c.loop-low.invariant (omega arith) _ refl c.index-rows-middle.result c.index-rows-middle.is b

pub loop-low-preserved : goal.loop-low-preserved
loop-low-preserved g c =
    let b : (partial_lt g.R.Key.PartialOrd.partial_cmp) (g.R.Keyed.keyof c.index-rows-middle.result) c.args.key ≡ false = cc c.if-lt.ensures in
    go_down _ _ c.loop-low.invariant (omega arith) _ refl c.index-rows-middle.result c.index-rows-middle.is b

pub returns : goal.returns
returns g c = ends _ _ c.loop-low.invariant (omega arith)

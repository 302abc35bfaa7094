use Rattle.std.proofs.Common.{arith}
use Rattle.std.proofs.lemmas.Grind.{common_steps}
use Rattle.table.proofs.Less.{less_order}
use Rattle.table.proofs.Nexts.{next-sorted}
use Rattle.table.proofs.search.next.Goals as goal

pub returns-clause-sorted : goal.returns-clause-sorted
returns-clause-sorted g c s =
    let f = next-sorted _ _ (less_order g.met.R.Key.Ord.matches_partial_cmp g.met.R.Key.Ord.total) c.args.key _ s in
    grind (arith, common_steps)

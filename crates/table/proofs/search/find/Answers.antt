use Rattle.std.proofs.Common.{◌≡◌, take, Ok, Err, ◌∙◌, arith}
use Rattle.std.proofs.lemmas.Grind.{common_steps}
use Rattle.std.specs.Ordering.{partial_lt}
use Rattle.table.specs.Searching.{found}
use Rattle.table.proofs.Less.{less_order}
use Rattle.table.proofs.Halves.{spot_bound, found_sorted_lem}
use Rattle.table.proofs.search.find.Goals as goal

pub returns-in-Some-clause-sorted : goal.returns-in-Some-clause-sorted
returns-in-Some-clause-sorted g c s =
    let e : Ok c.lower_bound-at.result ≡ found g.R.Keyed.keyof (partial_lt g.R.Key.PartialOrd.partial_cmp) c.args.key (take c.args.used c.args.rows.now) = grind (arith, common_steps) in
    e ∙ found_sorted_lem _ _ (less_order g.met.R.Key.Ord.matches_partial_cmp g.met.R.Key.Ord.total) c.args.key _ s

pub returns-in_default-clause-sorted : goal.returns-in_default-clause-sorted
returns-in_default-clause-sorted g c s =
    let e : Err c.lower_bound-at.result ≡ found g.R.Keyed.keyof (partial_lt g.R.Key.PartialOrd.partial_cmp) c.args.key (take c.args.used c.args.rows.now) = grind (arith, common_steps) in
    e ∙ found_sorted_lem _ _ (less_order g.met.R.Key.Ord.matches_partial_cmp g.met.R.Key.Ord.total) c.args.key _ s

pub returns-in_default-2-clause-bound : goal.returns-in_default-2-clause-bound
returns-in_default-2-clause-bound g c = grind (arith, spot_bound)

pub returns-in_default-2-clause-sorted : goal.returns-in_default-2-clause-sorted
returns-in_default-2-clause-sorted g c s =
    let f = found_sorted_lem _ _ (less_order g.met.R.Key.Ord.matches_partial_cmp g.met.R.Key.Ord.total) c.args.key _ s in
    grind (arith, common_steps)

use Rattle.std.proofs.Common.{◌≡◌, true, length, subst, arith}
use Rattle.std.proofs.lemmas.Grind.{common_steps}
use Rattle.std.proofs.lemmas.List.{take_all}
use Rattle.std.specs.Ordering.{partial_lt}
use Rattle.table.proofs.Found.{at_found_sorted}
use Rattle.table.specs.Rows.{sorted}
use Rattle.table.specs.Searching.{found_sorted}
use Rattle.table.proofs.search.get.Goals as goal

pub returns-clause-sorted : goal.returns-clause-sorted
returns-clause-sorted g c s =
    let rows = c.args.rows.now in
    let key = g.R.Keyed.keyof in
    let before = partial_lt g.R.Key.PartialOrd.partial_cmp in
    let all = take_all (length rows) rows (omega arith) in
    let f = subst (λ rs. sorted key before rs ≡ true → c.find.result ≡ found_sorted key before c.args.key rs) all c.find.ensures.sorted s in
    let l = at_found_sorted key before c.args.key rows in
    grind (arith, common_steps)

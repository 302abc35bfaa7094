use Rattle.std.proofs.Common.{◌≡◌, ◌-◌, take, Some, ◌∙◌, arith}
use Rattle.std.proofs.lemmas.Grind.{common_steps}
use Rattle.std.specs.Ordering.{partial_lt}
use Rattle.table.specs.Editing.{remove_answer}
use Rattle.table.specs.Searching.{found}
use Rattle.table.proofs.Less.{less_order}
use Rattle.table.proofs.Shifts.{shifted_out}
use Rattle.table.proofs.SortedEdits.{remove-sorted}
use Rattle.table.proofs.edits.remove.Goals as goal

pub returns-clause-after : goal.returns-clause-after
returns-clause-after g c = grind (arith, common_steps, shifted_out)

pub returns-clause-sorted : goal.returns-clause-sorted
returns-clause-sorted g c s =
    let old = c.args.rows.now in
    let rs = take c.args.used old in
    let e : Some (c.min-used.result - 1) ≡ remove_answer rs (found g.R.Keyed.keyof (partial_lt g.R.Key.PartialOrd.partial_cmp) c.args.key rs) = grind (arith, common_steps) in
    let t = remove-sorted _ _ (less_order g.met.R.Key.Ord.matches_partial_cmp g.met.R.Key.Ord.total) old c.args.used c.args.key s in
    (e ∙ t.0, grind (arith, common_steps, shifted_out) ∙ t.1)

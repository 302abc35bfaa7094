use Rattle.std.proofs.Common.{◌≡◌, ◌+◌, take, Ok, ◌∙◌, arith}
use Rattle.std.proofs.lemmas.Grind.{common_steps}
use Rattle.std.specs.Ordering.{partial_lt}
use Rattle.table.specs.Editing.{insert_answer}
use Rattle.table.specs.Searching.{found}
use Rattle.table.proofs.Less.{less_order}
use Rattle.table.proofs.Shifts.{shifted_in}
use Rattle.table.proofs.SortedEdits.{insert-sorted}
use Rattle.table.proofs.edits.insert.Goals as goal

pub returns-in-Ok-clause-sorted : goal.returns-in-Ok-clause-sorted
returns-in-Ok-clause-sorted g c s =
    let old = c.args.rows.now in
    let rs = take c.args.used old in
    let e : Ok c.min-used.result ≡ insert_answer old rs (found g.R.Keyed.keyof (partial_lt g.R.Key.PartialOrd.partial_cmp) (g.R.Keyed.keyof c.args.x) rs) = grind (arith, common_steps) in
    let t = insert-sorted _ _ (less_order g.met.R.Key.Ord.matches_partial_cmp g.met.R.Key.Ord.total) old c.args.used c.args.x s in
    (e ∙ t.0, grind (arith, common_steps) ∙ t.1)

pub returns-in-Err-2-clause-after : goal.returns-in-Err-2-clause-after
returns-in-Err-2-clause-after g c = grind (arith, common_steps, shifted_in)

pub returns-in-Err-2-clause-sorted : goal.returns-in-Err-2-clause-sorted
returns-in-Err-2-clause-sorted g c s =
    let old = c.args.rows.now in
    let rs = take c.args.used old in
    let e : Ok (c.min-used.result + 1) ≡ insert_answer old rs (found g.R.Keyed.keyof (partial_lt g.R.Key.PartialOrd.partial_cmp) (g.R.Keyed.keyof c.args.x) rs) = grind (arith, common_steps) in
    let t = insert-sorted _ _ (less_order g.met.R.Key.Ord.matches_partial_cmp g.met.R.Key.Ord.total) old c.args.used c.args.x s in
    (e ∙ t.0, grind (arith, common_steps, shifted_in) ∙ t.1)

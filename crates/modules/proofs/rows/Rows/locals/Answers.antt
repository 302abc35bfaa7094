use Rattle.std.proofs.Common.{sym, ap, ◌∙◌}
use Rattle.modules.proofs.Columns.{function_at_lem}
use Rattle.modules.proofs.rows.Rows.locals.Goals as goal

pub returns : goal.returns
returns c = c.get.ensures ∙ sym (ap (λ f. f.locals) (function_at_lem c.self.inside c.args.index c.self.invariant c.self.view_is))

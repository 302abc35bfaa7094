use Rattle.std.proofs.Common.{◌∙◌, arith}
use Rattle.std.proofs.lemmas.Grind.{common_steps}
use Rattle.std.proofs.lemmas.Option.{gets}
use Rattle.modules.proofs.Columns.{struct_head_lem}
use Rattle.modules.proofs.rows.Rows.struct_head.Goals as goal

pub returns : goal.returns
returns c = c.copied.ensures ∙ grind (arith, common_steps, gets) ∙ struct_head_lem c.self.inside c.args.index c.self.invariant c.self.view_is

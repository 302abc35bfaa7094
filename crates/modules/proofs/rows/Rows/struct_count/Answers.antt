use Rattle.std.proofs.Common.{length, ap, ◌∙◌}
use Rattle.std.proofs.lemmas.List.{length-map}
use Rattle.modules.proofs.Columns.{columns_at}
use Rattle.modules.proofs.rows.Rows.struct_count.Goals as goal

pub returns : goal.returns
returns c = c.len.ensures ∙ c.self.inside.structs.ok.0 ∙ ap length (columns_at c.self.invariant c.self.view_is).structs ∙ length-map _ _

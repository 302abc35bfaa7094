use Rattle.std.proofs.Common.{is_some, sym, ap, ◌∙◌}
use Rattle.store.specs.TableLaws.{is_some_mapped}
use Rattle.draft.proofs.LayerLaws.{touched_entries}
use Rattle.draft.proofs.layers.DraftStore.touches.Goals as goal

pub returns : goal.returns
returns g c =
    c.is_some.ensures ∙ sym (is_some_mapped _ c.get.result) ∙ ap is_some c.get.ensures ∙ sym (touched_entries c.args.self.now.changes c.args.key)

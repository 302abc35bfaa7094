use Rattle.std.proofs.Common.{◌≡◌, true, cond, is_ok, sym, refl, ap, ◌∙◌}
use Rattle.store.specs.Model.{fits}
use Rattle.store.specs.Pairs.{put_in}
use Rattle.store.specs.WordLaws.{fits-in}
use Rattle.draft.proofs.LayerLaws.{put_answered, put_left}
use Rattle.draft.specs.Soundness.{ordered-entries, few_entries}
use Rattle.draft.specs.Layer.{entries}
use Rattle.draft.proofs.layers.DraftStore.put.Goals as goal

pub returns : goal.returns
returns g c =
    let d = c.args.self.now in
    let m = g.S.Store.means d.below in
    let s = g.met.S.Store.sound d.below in
    let ts = entries d.changes in
    let is = c.in_ok-try_from.ensures in
    let f : fits c.args.words.now ≡ true = ap fits (sym is) ∙ fits-in c.in_ok-try_from.field-0 in
    record {
      answer = c.note.ensures.answer ∙ put_answered m ts c.args.key c.args.words.now s (ordered-entries d.changes) (few_entries d.changes) f;
      after = put_left m ts _ c.args.key c.args.words.now _ s (ordered-entries d.changes) f (c.note.ensures.after ∙ ap (λ ws. cond (is_ok c.note.result) (put_in c.args.key ws ts) ts) is);
      under = refl;
    }

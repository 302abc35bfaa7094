use Rattle.std.proofs.Common.{length, ap, ◌∙◌}
use Rattle.store.specs.Pairs.{words_of, shown}
use Rattle.draft.proofs.LayerLaws.{read_words, read_emptied, unchanged_entry}
use Rattle.draft.proofs.layers.DraftStore.read.Goals as goal

pub returns-in-Some-words : goal.returns-in-Some-words
returns-in-Some-words g c =
    let d = c.args.self.now in
    let r = read_words (g.S.Store.means d.below) d.changes c.args.key _ (g.met.S.Store.sound d.below) c.in-Some.ensures _ c.args.place.now c.in-Some-words.is in
    record { count = c.fill.ensures.count ∙ r.0; place = c.fill.ensures.place ∙ r.1 }

pub returns-in-None-words : goal.returns-in-None-words
returns-in-None-words g c =
    let d = c.args.self.now in
    let r = read_emptied (g.S.Store.means d.below) d.changes c.args.key _ (g.met.S.Store.sound d.below) c.in-Some.ensures c.args.place.now c.in-None-words.is in
    record { count = r.0; place = r.1 }

pub returns-in-None : goal.returns-in-None
returns-in-None g c =
    let d = c.args.self.now in
    let e = unchanged_entry (g.S.Store.means d.below) d.changes c.args.key (g.met.S.Store.sound d.below) c.in-None.ensures in
    record {
      count = c.read.ensures.count ∙ ap (λ z. length (words_of z)) e;
      place = c.read.ensures.place ∙ ap (λ z. shown z c.args.place.now) e;
    }

-- The laws that callers of drafts rely on.
use Rattle.std.proofs.Common.{◌≡◌, true, false, map, is_some, Some, sym, ap, ◌∙◌}
use Rattle.store.specs.Keys.{key_before}
use Rattle.store.specs.Model.{own, may_touch}
use Rattle.store.specs.Pairs.{key_of, entry, holds}
use Rattle.store.specs.Orders.{key_order}
use Rattle.store.specs.TableLaws.{is_some_mapped}
use Rattle.table.specs.Rows as rows
use Rattle.table.proofs.Lookups.{look-put-same}
use Rattle.table.proofs.Maps.{map-look}
use Rattle.draft.specs.Layer.{layer}
use Rattle.draft.specs.Laws.{ChangesHideWhatIsBelow, EmptiedKeyTakesWords}
use Rattle.draft.specs.Overlay.{overlay, shadow}
use Rattle.draft.proofs.LayerLaws.{put_taken, room_in_layer}
use Rattle.draft.specs.Overlays.{entry-overlay}

pub changes_hide_what_is_below : ChangesHideWhatIsBelow
changes_hide_what_is_below k ts ps s u = entry-overlay k ts ps s u

pub emptied_key_takes_words : EmptiedKeyTakesWords
emptied_key_takes_words m ts k ws sound s few emptied fit =
    let absent : holds k (overlay ts m.pairs) ≡ false = ap is_some (entry-overlay k ts m.pairs s sound.rises ∙ ap (λ z. shadow z (entry k m.pairs)) emptied) in
    let touched : is_some (rows.look own key_before k (map key_of ts)) ≡ true = ap is_some (map-look key_of own key_before k ts) ∙ is_some_mapped key_of (entry k ts) ∙ ap is_some emptied in
    let may : may_touch (Some (map key_of ts)) k ≡ true = rw touched in
    (absent, (sym (put_taken (layer m ts) k ws fit may (room_in_layer m ts k sound s few may)), look-put-same key_of key_before key_order (k, ws) (overlay ts m.pairs)))

-- What a draft means, by what the store below means.
use Rattle.std.specs.Prelude.{◌+◌, List, map, take, Some}
use Rattle.store.specs.Model.{Model, cap}
use Rattle.store.specs.Pairs.{Entry, key_of}
use Rattle.draft.specs.declared.changes.Changes.{Changes}
use Rattle.draft.specs.Changes.{changed}
use Rattle.draft.specs.Overlay.{overlay}

-- the touched keys, in order, each with its words or none
abbrev pub entries : Changes → List Entry
entries c = map changed (take c.used c.rows)

-- a draft over m: its changes over the pairs of m, and room for each key that it may touch
abbrev pub layer : Model → List Entry → Model
layer m ts = record { pairs = overlay ts m.pairs; limit = m.limit + cap; touched = Some (map key_of ts) }

-- What the rows of a table store stand for.
use Rattle.std.specs.Prelude.{ℕ, Bool, List, map, length, take, None}
use Rattle.store.specs.declared.keys.Key.{Key}
use Rattle.store.specs.declared.pair.Pair.{Pair}
use Rattle.store.specs.Keys.{key_before}
use Rattle.store.specs.Model.{Model}
use Rattle.store.specs.Pairs.{Entry}
use Rattle.store.specs.WordLists.{words_in}
use Rattle.table.specs.Rows.{sorted}

abbrev pub pair_key : Pair → Key
pair_key p = p.key

abbrev pub meant : Pair → Entry
meant p = (p.key, words_in p.words)

abbrev pub rising : List Pair → Bool
rising rs = sorted pair_key key_before rs

-- the rows, of which the first n are in use
abbrev pub table_model : List Pair → ℕ → Model
table_model rs n = record { pairs = map meant (take n rs); limit = length rs; touched = None }

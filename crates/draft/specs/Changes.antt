-- What a change stands for: a key, and the words that it has then, or none.
use Rattle.std.specs.Prelude.{ℕ, Bool, List, [], Some, None, Option}
use Rattle.store.specs.declared.keys.Key.{Key}
use Rattle.store.specs.Keys.{key_before}
use Rattle.store.specs.declared.words.Words.{Words}
use Rattle.store.specs.Pairs.{Entry}
use Rattle.store.specs.WordLists.{words_in}
use Rattle.table.specs.Rows.{sorted}
use Rattle.draft.specs.declared.change.Change.{Change}

abbrev pub change_key : Change → Key
change_key c = c.key

abbrev pub words_left : Option Words → List ℕ
words_left None = []
words_left (Some w) = words_in w

abbrev pub changed : Change → Entry
changed c = (c.key, words_left c.words)

abbrev pub rising : List Change → Bool
rising cs = sorted change_key key_before cs

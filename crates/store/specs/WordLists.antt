-- The words that a value of 1 to 16 words holds.
use Rattle.std.specs.Prelude.{ℕ, List, take}
use Rattle.store.specs.declared.words.Words.{Words}

abbrev pub words_in : Words → List ℕ
words_in w = take w.count w.words

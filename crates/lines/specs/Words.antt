-- The words of a text, which blanks set apart.
use Rattle.std.specs.Prelude.{ℕ, suc, Bool, cond, ◌||◌, List, [], ◌∷◌, take, drop, ◌==◌}

-- a space, a tab or a carriage return
abbrev pub blank : ℕ → Bool
blank c = c == 32 || (c == 9 || c == 13)

-- the text from its first character that is no blank
unfoldable pub past_blanks : List ℕ → List ℕ
past_blanks [] = []
past_blanks (c ∷ cs) = cond (blank c) (past_blanks cs) (c ∷ cs)

-- how many characters stand before the first blank
unfoldable pub word_length : List ℕ → ℕ
word_length [] = 0
word_length (c ∷ cs) = cond (blank c) 0 (suc (word_length cs))

abbrev pub first_word : List ℕ → List ℕ
first_word cs = take (word_length (past_blanks cs)) (past_blanks cs)

abbrev pub after_word : List ℕ → List ℕ
after_word cs = drop (word_length (past_blanks cs)) (past_blanks cs)

-- Where a word begins and where it ends, by the library's first position at which a test holds.
use Rattle.std.proofs.Common.{◌≡◌, ℕ, ◌+◌, Bool, true, false, cond, not, List, [], ◌∷◌, length, drop, Option, refl, ap, sym, arith}
use Rattle.std.specs.Option.{unwrap_or}
use Rattle.std.specs.List.{position, position_or_len}
use Rattle.std.proofs.lemmas.List.Recursion.{is_position_or_len}
use Rattle.std.proofs.lemmas.List.Sums.{prefix_len-le-length}
use Rattle.std.proofs.lemmas.Grind.{common_steps}
use Rattle.lines.specs.Words.{blank, past_blanks, word_length}

pub first_or_end : (p : ℕ → Bool) (cs : List ℕ) (o : Option ℕ) → o ≡ position p cs → unwrap_or o (length cs) ≡ position_or_len p cs
first_or_end p cs o is =
    let in_text = prefix_len-le-length (λ c. not (p c)) cs in
    grind (arith, common_steps)

pub word_ends : (cs : List ℕ) → position_or_len blank cs ≡ word_length cs
unfolding word_length
word_ends cs = sym (is_position_or_len word_length blank refl (λ c cs. ap (cond (blank c) 0) (omega arith)) cs)

begins : (b : Bool) (c : ℕ) (cs rest : List ℕ) (n : ℕ) → drop n cs ≡ rest → drop (cond (not (not b)) (1 + n) 0) (c ∷ cs) ≡ cond b rest (c ∷ cs)
begins true c cs rest n is = grind (arith, common_steps)
begins false c cs rest n is = refl

pub word_begins : (cs : List ℕ) → drop (position_or_len (λ c. not (blank c)) cs) cs ≡ past_blanks cs
unfolding past_blanks
word_begins [] = refl
word_begins (c ∷ cs) = begins (blank c) c cs _ _ (word_begins cs)

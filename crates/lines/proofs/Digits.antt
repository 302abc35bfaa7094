-- One turn of the loop over pairs of hex digits: a pair comes off the front of the text that is left.
use Rattle.std.proofs.Common.{◌≡◌, ℕ, ◌+◌, ◌*◌, ◌<◌, min, List, [], ◌∷◌, ◌++◌, length, get_or, Some, None, Ok, Err, Result, Vec, sym, refl, ap, ◌∙◌, append_assoc, append-nil, arith}
use Rattle.std.specs.Result.{IsErrAnd}
use Rattle.lines.specs.declared.bad_lines.BadLine.{BadLine}
use Rattle.lines.specs.declared.bad_lines.BadLine.TheVariants.{NoHexDigit, OddHexDigits}
use Rattle.lines.specs.declared.bad_lines.LineError.{LineError}
use Rattle.lines.specs.declared.bad_lines.LineError.TheVariants.{Bad, OutOfMemory}
use Rattle.lines.specs.BadLines.{UnlessOutOfMemory}
use Rattle.lines.specs.Hex.{Bytes, digit_value, items_of, on_digit, onto, unhex}

abbrev joined : List ℕ → ℕ → ℕ → Bytes
joined cs x y = onto ((x * 16 + y) ∷ []) (unhex cs)

pub no_digit : (pair tail : List ℕ) → 0 < length pair → None ≡ digit_value (get_or pair 0 0) → Err NoHexDigit ≡ unhex (pair ++ tail)
unfolding unhex
no_digit [] tail some bad = absurd (omega arith)
no_digit (a ∷ []) [] some bad = ap (λ o. on_digit o (λ x. Err OddHexDigits)) bad
no_digit (a ∷ []) (b ∷ tail) some bad = ap (λ o. on_digit o (λ x. on_digit (digit_value b) (joined tail x))) bad
no_digit (a ∷ b ∷ pair) tail some bad = ap (λ o. on_digit o (λ x. on_digit (digit_value b) (joined (pair ++ tail) x))) bad

pub odd : (pair tail : List ℕ) (x : ℕ) → 0 < length pair → length pair < 2 → length pair ≡ min 2 (length (pair ++ tail)) → Some x ≡ digit_value (get_or pair 0 0) → Err OddHexDigits ≡ unhex (pair ++ tail)
unfolding unhex
odd [] tail x some short all is = absurd (omega arith)
odd (a ∷ []) [] x some short all is = ap (λ o. on_digit o (λ x. Err OddHexDigits)) is
odd (a ∷ []) (b ∷ tail) x some short all is = absurd (omega arith)
odd (a ∷ b ∷ pair) tail x some short all is = absurd (omega arith)

pub no_second : (pair tail : List ℕ) (x : ℕ) → 1 < length pair → Some x ≡ digit_value (get_or pair 0 0) → None ≡ digit_value (get_or pair 1 0) → Err NoHexDigit ≡ unhex (pair ++ tail)
unfolding unhex
no_second [] tail x long is bad = absurd (omega arith)
no_second (a ∷ []) tail x long is bad = absurd (omega arith)
no_second (a ∷ b ∷ pair) tail x long is bad = λ i. on_digit (is i) (λ x. on_digit (bad i) (joined (pair ++ tail) x))

pub both : (pair tail : List ℕ) (x y : ℕ) → 1 < length pair → length pair ≡ min 2 (length (pair ++ tail)) → Some x ≡ digit_value (get_or pair 0 0) → Some y ≡ digit_value (get_or pair 1 0) → joined tail x y ≡ unhex (pair ++ tail)
unfolding unhex
both [] tail x y long all is also = absurd (omega arith)
both (a ∷ []) tail x y long all is also = absurd (omega arith)
both (a ∷ b ∷ []) tail x y long all is also = λ i. on_digit (is i) (λ x. on_digit (also i) (joined tail x))
both (a ∷ b ∷ c ∷ pair) tail x y long all is also = absurd (omega arith)

pub onto_more : (xs ys : List ℕ) (r : Bytes) → onto (xs ++ ys) r ≡ onto xs (onto ys r)
onto_more xs ys (Ok zs) = ap (λ l. Ok l) (append_assoc xs ys zs)
onto_more xs ys (Err why) = refl

pub no_more : (xs cs : List ℕ) (r : Bytes) → length cs ≡ 0 → onto xs (unhex cs) ≡ r → Ok xs ≡ r
unfolding unhex
no_more xs [] r none is = ap (λ l. Ok l) (sym (append-nil xs)) ∙ is
no_more xs (c ∷ cs) r none is = absurd (omega arith)

-- what is wrong with the text that is left is wrong with the whole
pub refused : {Z : Type 0} (answer : Result (Vec ℕ Z) LineError) (old cs pair tail : List ℕ) (found why : BadLine) (whole : Bytes) → cs ≡ pair ++ tail → onto old (unhex cs) ≡ whole
    → IsErrAnd answer (λ error. error ≡ Bad found) → found ≡ why → Err why ≡ unhex (pair ++ tail) → UnlessOutOfMemory answer (λ o. items_of o ≡ whole)
refused (Ok bytes) old cs pair tail found why whole joins told is same wrong = absurd is
refused (Err (Bad reason)) old cs pair tail found why whole joins told is same wrong =
    let reasons : reason ≡ why = cc in
    ap (λ w. Err w) reasons ∙ ap (onto old) (wrong ∙ ap unhex (sym joins)) ∙ told
refused (Err (OutOfMemory error)) old cs pair tail found why whole joins told is same wrong = tt

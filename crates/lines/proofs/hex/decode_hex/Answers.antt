use Rattle.std.proofs.Common.{◌≡◌, ◌+◌, ◌*◌, ◌<◌, min, [], ◌∷◌, length, vec_items, Some, None, get_or, refl, sym, ap, ◌∙◌, arith}
use Rattle.std.proofs.lemmas.Slice.{pushed}
use Rattle.std.specs.Slice.Iter.{chunks_rest}
use Rattle.lines.specs.Hex.{digit_value, onto, unhex}
use Rattle.lines.specs.declared.bad_lines.BadLine.TheVariants.{NoHexDigit, OddHexDigits}
use Rattle.lines.proofs.Digits.{no_digit, odd, no_second, both, onto_more, no_more, refused}
use Rattle.lines.proofs.hex.decode_hex.Goals as goal

pub returns-in_err-high : goal.returns-in_err-high
returns-in_err-high c =
    let pair = c.in-Some.pair.now in
    let tail = chunks_rest c.next.new.self in
    let cut = c.in-Some.ensures.steps.1 in
    let bad : None ≡ digit_value (get_or pair 0 0) = grind arith in
    let why : c.in_err-high.field-0.0 ≡ NoHexDigit = grind arith in
    refused c.from_residual.result (vec_items c.loop-pair.bytes) _ pair tail _ NoHexDigit _ cut.0 c.loop-pair.invariant.told c.from_residual.ensures.1 why (no_digit pair tail (omega arith) bad)

pub returns-in_err-second : goal.returns-in_err-second
returns-in_err-second c =
    let pair = c.in-Some.pair.now in
    let tail = chunks_rest c.next.new.self in
    let cut = c.in-Some.ensures.steps.1 in
    let high : Some c.in_ok-high.high ≡ digit_value (get_or pair 0 0) = grind arith in
    let why : c.in_err-second.field-0.0 ≡ OddHexDigits = grind arith in
    let short : length pair < 2 = grind arith in
    let all = cut.1 ∙ (λ i. min (c.loop-pair.invariant.pairs i) (length (cut.0 i))) in
    refused c.from_residual-in_err-second.result (vec_items c.loop-pair.bytes) _ pair tail _ OddHexDigits _ cut.0 c.loop-pair.invariant.told c.from_residual-in_err-second.ensures.1 why (odd pair tail _ (omega arith) short all high)

pub returns-in_err-low : goal.returns-in_err-low
returns-in_err-low c =
    let pair = c.in-Some.pair.now in
    let tail = chunks_rest c.next.new.self in
    let cut = c.in-Some.ensures.steps.1 in
    let high : Some c.in_ok-high.high ≡ digit_value (get_or pair 0 0) = grind arith in
    let long : 1 < length pair = grind arith in
    let bad : None ≡ digit_value (get_or pair 1 0) = grind arith in
    let why : c.in_err-low.field-0.0 ≡ NoHexDigit = grind arith in
    refused c.from_residual-in_err-low.result (vec_items c.loop-pair.bytes) _ pair tail _ NoHexDigit _ cut.0 c.loop-pair.invariant.told c.from_residual-in_err-low.ensures.1 why (no_second pair tail _ long high bad)

pub loop-pair-preserved : goal.loop-pair-preserved
loop-pair-preserved c =
    let pair = c.in-Some.pair.now in
    let tail = chunks_rest c.next.new.self in
    let cut = c.in-Some.ensures.steps.1 in
    let old = vec_items c.loop-pair.bytes in
    let byte = (c.in_ok-high.high * 16 + c.in_ok-low.low) ∷ [] in
    let high : Some c.in_ok-high.high ≡ digit_value (get_or pair 0 0) = grind arith in
    let long : 1 < length pair = grind arith in
    let low : Some c.in_ok-low.low ≡ digit_value (get_or pair 1 0) = grind arith in
    let all = cut.1 ∙ (λ i. min (c.loop-pair.invariant.pairs i) (length (cut.0 i))) in
    record {
      pairs = c.in-Some.ensures.steps.0 ∙ c.loop-pair.invariant.pairs;
      told =
          ap (λ l. onto l (unhex tail)) (pushed byte refl c.in_ok-push.was c.push.ensures.items)
          ∙ onto_more old byte (unhex tail)
          ∙ ap (onto old) (both pair tail _ _ long all high low ∙ ap unhex (sym cut.0))
          ∙ c.loop-pair.invariant.told;
    }

pub returns : goal.returns
returns c = no_more (vec_items c.loop-pair.bytes) (chunks_rest c.loop-pair.pair-iterator) _ c.in-None.ensures.steps.1.0 c.loop-pair.invariant.told

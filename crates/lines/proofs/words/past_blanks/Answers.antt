use Rattle.std.proofs.Common.{◌∙◌, not, drop, ap, rules}
use Rattle.std.proofs.lemmas.List.{take_rest}
use Rattle.std.proofs.lemmas.Iterator.{YieldsList-from_slice}
use Rattle.std.proofs.lemmas.Iterator.Search.{position_from_yields_List}
use borrow.Author.Tests.{tests}
use Rattle.lines.specs.Words.{blank}
use Rattle.lines.proofs.Blanks.{first_or_end, word_begins}
use Rattle.lines.proofs.words.past_blanks.Goals as goal

pub returns : goal.returns
returns c =
    let text = c.args.text.now in
    let found = position_from_yields_List (λ x. not (blank x)) _ _ c.position-blanks.result c.position-blanks.ensures.ran (YieldsList-from_slice text cc) (λ x b q k. search (rules, tests)) in
    let start = c.unwrap_or.ensures ∙ first_or_end (λ x. not (blank x)) text c.position-blanks.result found in
    take_rest text c.unwrap_or.result ∙ ap (λ n. drop n text) start ∙ word_begins text

use Rattle.std.proofs.Common.{◌≡◌, ℕ, Bool, List, [], ◌∷◌, ◌++◌, is_ok, Ok, string_bytes, codes, decimal, Result, sym, ap, ◌∙◌, append_assoc}
use Rattle.bytecode.specs.declared.refusals.Fault.{Fault}
use Rattle.script.specs.Answers.{same_text, read_answer}
use Rattle.listing.specs.Listing.{listing}
use Rattle.script.proofs.answers.answer_read.Goals as goal

-- the head, the listing and the last line are written one after another
in_turn : (old first second third again bs : List ℕ) (n : ℕ) (same : Bool) (r : Result ℕ Fault) → first ≡ old ++ (codes "read: ok, " ++ (decimal n ++ (codes " records" ++ (10 ∷ []))))
    → second ≡ first ++ listing bs → third ≡ second ++ (codes "written again: " ++ (again ++ (10 ∷ []))) → again ≡ same_text same → same ≡ is_ok r → Ok n ≡ r → third ≡ old ++ read_answer bs r
in_turn old first second third again bs n same r p q s e all is =
    let head = codes "read: ok, " ++ (decimal n ++ (codes " records" ++ (10 ∷ []))) in
    let tail : List ℕ → List ℕ = λ l. codes "written again: " ++ (l ++ (10 ∷ [])) in
    let told : again ≡ codes "the same bytes" = e ∙ ap same_text (all ∙ ap is_ok (sym is)) in
    s ∙ (λ i. (q ∙ ap (λ l. l ++ listing bs) p ∙ append_assoc old head (listing bs)) i ++ tail (told i))
    ∙ append_assoc old (head ++ listing bs) (tail (codes "the same bytes")) ∙ ap (λ x. old ++ read_answer bs x) is

pub returns-in_ok-writeln-in-Ok-2 : goal.returns-in_ok-writeln-in-Ok-2
returns-in_ok-writeln-in-Ok-2 c =
    let written = c.in_ok-writeln-in-Ok.ensures.bytes in
    let last = c.in_ok-writeln-in-Ok-2.ensures.bytes in
    in_turn (string_bytes c.args.out.now) (string_bytes c.writeln-in-Ok.new.self) (string_bytes c.list_records.new.out) (string_bytes c.writeln-in-Ok-2.new.self)
    c.same_words-again.result.now c.args.bytes.now c.in-Ok.records c.in_ok-same_again-in-Ok.field-0 _ written c.in_ok-list_records-in-Ok.ensures last c.same_words-again.ensures
    c.in_ok-same_again-in-Ok.ensures c.in-Ok.ensures.answer

-- What every value of words holds: 1 to 16 of them.
use Rattle.std.specs.Prelude.{◌≡◌, true, length}
use Rattle.std.proofs.Common.{sym, arith}
use Rattle.std.proofs.lemmas.List.{length-take-le}
use Rattle.std.proofs.lemmas.Bool.{and_from, lt-ltb, le-leb}
use Rattle.store.specs.declared.words.Words.{Words}
use Rattle.store.specs.Model.{fits}
use Rattle.store.specs.WordLists.{words_in}

count-in : (w : Words) → w.count ≡ length (words_in w)
count-in w = sym (length-take-le _ _ (omega (arith, w.long, w.few)))

pub fits-in : (w : Words) → fits (words_in w) ≡ true
fits-in w =
    let n : w.count ≡ length (words_in w) = count-in w in
    and_from _ _ (lt-ltb 0 (length (words_in w)) (omega (arith, w.some))) (le-leb (length (words_in w)) 16 (omega (arith, w.few)))

-- Rows in use after a row is put behind them and turned to its place.
use Rattle.std.proofs.Common.{◌≡◌, ℕ, ◌+◌, ◌-◌, ◌<◌, ◌≤◌, List, [], ◌∷◌, ◌++◌, length, set, take, drop, sym, ap, ◌∙◌, arith, length-drop, length-append}
use Rattle.std.proofs.lemmas.List.{take-take, drop-take, take_more_set, take-set-le, drop-append-le, length-take-le, length-set}
use Rattle.std.proofs.lemmas.Slice.{take-put_mid}
use Rattle.std.proofs.Math.Seq.{drop-append_seam, take-append_seam}
use Rattle.std.specs.List.{insert}
use borrow.Rule.Slice.PartMut.{put_mid, mid_of, post_of}

pub turned_in : {X : Type 0} (at used k : ℕ) (rs : List X) (x : X) (ys : List X) → at ≤ used → used < length rs → used + 1 ≡ at + k
    → ys ≡ drop (length (mid_of at k (set rs used x)) - 1) (mid_of at k (set rs used x)) ++ take (length (mid_of at k (set rs used x)) - 1) (mid_of at k (set rs used x))
    → take (used + 1) (put_mid at k (set rs used x) ys) ≡ insert (take used rs) at x
turned_in at used k rs x ys h l e y =
    let new = set rs used x in
    let old = take used rs in
    let lo : length old ≡ used = length-take-le used rs (omega arith) in
    let ld = length-drop at old in
    let ls = length-set rs used x in
    let mid : mid_of at k new ≡ drop at old ++ x ∷ [] =
    sym (drop-take at k new) ∙ ap (λ n. drop at (take n new)) (sym e) ∙ ap (drop at) (take_more_set rs used x l) ∙ drop-append-le at old (x ∷ []) (omega arith) in
    let n : length (mid_of at k new) - 1 ≡ length (drop at old) = omega (arith, ap length mid, length-append (drop at old) (x ∷ [])) in
    let last : drop (length (mid_of at k new) - 1) (mid_of at k new) ≡ x ∷ [] = (λ i. drop (n i) (mid i)) ∙ drop-append_seam (drop at old) (x ∷ []) in
    let front : take (length (mid_of at k new) - 1) (mid_of at k new) ≡ drop at old = (λ i. take (n i) (mid i)) ∙ take-append_seam (drop at old) (x ∷ []) in
    let part : ys ≡ x ∷ drop at old = y ∙ (λ i. last i ++ front i) in
    let before : take at new ≡ take at old = take-set-le at rs used x h ∙ sym (take-take at used rs h) in
    take-put_mid at k new ys (used + 1) (omega (arith, ap length part)) (omega arith) ∙ (λ i. before i ++ part i)

-- a part that is as long as it was leaves as many rows
pub turned-length : {X : Type 0} (at k : ℕ) (xs ys : List X) → length ys ≡ length (mid_of at k xs) → at + k ≤ length xs → length (put_mid at k xs ys) ≡ length xs
turned-length at k xs ys l h =
    omega
    (arith, l, length-append (take at xs) (ys ++ post_of at k xs), length-append ys (post_of at k xs), length-take-le at xs (omega arith), length-take-le k (drop at xs) (omega (arith, length-drop at xs)), length-drop k (drop at xs), length-drop at xs)

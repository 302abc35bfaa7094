-- The laws of cutting bytes into records: what the first record leaves is cut in turn, and the writing of records is cut into them again.
use Rattle.std.proofs.Common.{◌≡◌, ℕ, zero, suc, ◌≤◌, List, [], ◌∷◌, length, Ok, Err, Result, refl, ap, ◌∙◌, arith}
use Rattle.bytecode.specs.declared.refusals.Reason.{Reason}
use Rattle.bytecode.specs.Records.{Shown, formed}
use Rattle.codec.proofs.FirstRecord.{read_length, reads_front}
use Rattle.codec.specs.FirstRecord.{Read, read_one}
use Rattle.codec.specs.Readable.{written}
use Rattle.codec.specs.Reading.{on_read, cutting, cut}
use Rattle.codec.specs.RoundTrip.{only}

-- the turns past the bytes change nothing
enough : (turns more : ℕ) (bs : List ℕ) → length bs ≤ turns → length bs ≤ more → cutting turns bs ≡ cutting more bs
unfolding cutting
enough zero zero bs h k = refl
enough zero (suc more) [] h k = refl
enough zero (suc more) (b ∷ bs) h k = absurd (omega arith)
enough (suc turns) zero [] h k = refl
enough (suc turns) zero (b ∷ bs) h k = absurd (omega arith)
enough (suc turns) (suc more) bs h k = same (read_one bs) refl (enough turns more)
  where
    same : (r : Result Read Reason) → read_one bs ≡ r → ((rest : List ℕ) → length rest ≤ turns → length rest ≤ more → cutting turns rest ≡ cutting more rest)
        → on_read r (cutting turns) ≡ on_read r (cutting more)
    same (Err why) e fewer = refl
    same (Ok x) e fewer = let l = read_length bs x e in ap (λ c. on_read (Ok x) (λ _. c)) (fewer x.1 (omega arith) (omega arith))

-- a record first, and then those of the bytes behind it
pub cut_read : (bs : List ℕ) (x : Read) → read_one bs ≡ Ok x → cut bs ≡ on_read (Ok x) cut
unfolding cutting
cut_read [] x e = absurd (let z : ◌≡◌ {A = ℕ} 0 1 = cc in omega arith)
cut_read (b ∷ bs) x e =
    let l = read_length (b ∷ bs) x e in
    ap (λ r. on_read r (cutting (length bs))) e ∙ ap (λ c. on_read (Ok x) (λ _. c)) (enough (length bs) (length x.1) x.1 (omega arith) (omega arith))

-- no record where none can be read
pub cut_unread : (bs : List ℕ) (why : Reason) → read_one bs ≡ Err why → cut bs ≡ on_read (Err why) cut
unfolding cutting
cut_unread [] why e = ap (λ r. on_read r cut) e
cut_unread (b ∷ bs) why e = ap (λ r. on_read r (cutting (length bs))) e

abbrev pub AllFormed : List Shown → Type 0
AllFormed [] = Unit {0}
AllFormed (x ∷ xs) = (formed x ≡ Ok x) × AllFormed xs

pub cut-written : (xs : List Shown) → AllFormed xs → cut (written xs) ≡ only xs
unfolding cutting
cut-written [] f = refl
cut-written (x ∷ xs) f =
    cut_read (written (x ∷ xs)) (x, written xs) (reads_front x (written xs) f.0) ∙ ap (λ c. on_read (Ok (x, written xs)) (λ _. c)) (cut-written xs f.1)

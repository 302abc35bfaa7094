-- The laws of reading one record.
use Rattle.std.proofs.Common.{◌≡◌, ℕ, ◌+◌, List, [], ◌∷◌, ◌++◌, length, Ok, Err, ap, arith, length-append, length-drop, take-append-drop}
use Rattle.std.proofs.lemmas.List.{take_at, drop_at, length-take-le}
use Rattle.std.proofs.lemmas.Bool.Decides.{nat_tests}
use Rattle.bytecode.specs.declared.refusals.Reason.{Reason}
use Rattle.bytecode.specs.declared.refusals.Reason.TheVariants.{MissingEnd}
use Rattle.bytecode.specs.Kinds.{body_length}
use Rattle.codec.specs.FirstRecord.{Read, read_one}
use Rattle.bytecode.specs.Records.{Shown, formed, bytes_of}
use Rattle.bytecode.specs.Refusals.{number}

-- a record that is read is as long as the bytes that are gone
pub read_length : (bs : List ℕ) (x : Read) → read_one bs ≡ Ok x → length bs ≡ length (bytes_of x.0) + length x.1
read_length [] x e = absurd (let z : ◌≡◌ {A = ℕ} 0 1 = cc in omega arith)
read_length (k ∷ rest) x e =
    let d = length-drop (body_length k) rest in
    let t = length-take-le (body_length k) rest in
    grind (arith, nat_tests)

-- what is read stands at the front
pub read_front : (bs : List ℕ) (x : Read) → read_one bs ≡ Ok x → bytes_of x.0 ++ x.1 ≡ bs
read_front [] x e = absurd (let z : ◌≡◌ {A = ℕ} 0 1 = cc in omega arith)
read_front (k ∷ rest) x e =
    let t = take-append-drop (body_length k) rest in
    grind (arith, nat_tests)

-- what is read has a kind that there is, and a body of its length
pub read_formed : (bs : List ℕ) (x : Read) → read_one bs ≡ Ok x → formed x.0 ≡ Ok x.0
read_formed [] x e = absurd (let z : ◌≡◌ {A = ℕ} 0 1 = cc in omega arith)
read_formed (k ∷ rest) x e =
    let t = length-take-le (body_length k) rest in
    grind (arith, nat_tests)

-- such a record at the front is read
pub reads_front : (x : Shown) (rest : List ℕ) → formed x ≡ Ok x → read_one (bytes_of x ++ rest) ≡ Ok (x, rest)
reads_front x rest f =
    let t = take_at x.1 rest (body_length x.0) in
    let d = drop_at x.1 rest (body_length x.0) in
    let l = length-append x.1 rest in
    grind (arith, nat_tests)

-- a record that can't be read is refused by 1
pub unread_number : (bs : List ℕ) (why : Reason) → read_one bs ≡ Err why → number why ≡ 1
unread_number [] why e = let same : why ≡ MissingEnd = cc in ap number same
unread_number (k ∷ rest) why e = grind (arith, nat_tests)

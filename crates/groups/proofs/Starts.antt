-- What the parts of a row are, and what they become with a part or an item more.
use Rattle.std.proofs.Common.{◌≡◌, ℕ, zero, suc, ◌+◌, ◌-◌, ◌<◌, ◌≤◌, List, [], ◌∷◌, ◌++◌, length, get_or, drop, sym, refl, ap, ◌∙◌, add-one, arith, length-take, length-drop}
use Rattle.std.proofs.lemmas.List.{drop-append-le, take-append-le, drop_all}
use Rattle.std.proofs.lemmas.Slice.{between_to_end}
use Rattle.std.proofs.Math.Seq.{take-nil}
use Rattle.std.specs.List.{slice_range}
use Rattle.groups.specs.Groups.{size, last_of, lastly}
use Rattle.groups.specs.Starts.{parts, Rises, Tiled}

pub parts-length : {X : Type 0} (xs : List X) (ss : List ℕ) → length (parts xs ss) ≡ length ss
parts-length xs [] = refl
parts-length xs (s ∷ ss) = ap suc (parts-length xs ss)

last_of_push : {X : Type 0} (f : X → X) (y : X) (xs : List X) (x : X) → last_of f y (xs ++ x ∷ []) ≡ y ∷ (xs ++ f x ∷ [])
last_of_push f y [] x = refl
last_of_push f y (z ∷ zs) x = ap (λ l. y ∷ l) (last_of_push f z zs x)

pub lastly_push : {X : Type 0} (f : X → X) (xs : List X) (x : X) → lastly f (xs ++ x ∷ []) ≡ xs ++ f x ∷ []
lastly_push f [] x = refl
lastly_push f (y ∷ ys) x = last_of_push f y ys x

part_at : {X : Type 0} (xs : List X) (ss : List ℕ) (i : ℕ) → i < length ss → get_or (parts xs ss) i [] ≡ slice_range xs (get_or ss i 0) (get_or ss (suc i) (length xs))
part_at xs [] i h = absurd (omega arith)
part_at xs (s ∷ ss) zero h = refl
part_at xs (s ∷ ss) (suc i) h = part_at xs ss i (omega arith)

first_le : (n : ℕ) (ss : List ℕ) → Rises n ss → get_or ss 0 n ≤ n
first_le n [] h = omega arith
first_le n (s ∷ ss) h = omega (arith, first_le n ss h.1, h.0)

inside : (n : ℕ) (ss : List ℕ) (i : ℕ) → i < length ss → Rises n ss → (get_or ss i 0 ≤ get_or ss (suc i) n) × (get_or ss (suc i) n ≤ n)
inside n [] i l h = absurd (omega arith)
inside n (s ∷ ss) zero l h = (h.0, first_le n ss h.1)
inside n (s ∷ ss) (suc i) l h = inside n ss i (omega arith) h.1

-- what lies from s to e is a part
pub record IsPart {X : Type 0} (xs : List X) (gs : List (List X)) (i s e : ℕ) : Type 0 where
  pub rises : s ≤ e
  pub within : e ≤ length xs
  pub value : slice_range xs s e ≡ get_or gs i []

pub part_read : {X : Type 0} (xs : List X) (ss : List ℕ) (i s e : ℕ) → Tiled (length xs) ss → i < length ss → s ≡ get_or ss i 0 → e ≡ get_or ss (i + 1) (length xs) → IsPart xs (parts xs ss) i s e
part_read xs ss i s e t l a b =
    let b' : e ≡ get_or ss (suc i) (length xs) = rw add-one at b in
    let k = inside (length xs) ss i l t.rises in
    record { rises = rw (a, b') k.0; within = rw b' k.1; value = rw (a, b') (sym (part_at xs ss i l)) }

-- all items lie in the parts
pub size-parts : {X : Type 0} (xs : List X) (ss : List ℕ) → Rises (length xs) ss → size (parts xs ss) + get_or ss 0 (length xs) ≡ length xs
size-parts xs [] h = omega arith
size-parts xs (s ∷ ss) h =
    let ih = size-parts xs ss h.1 in
    let f = first_le (length xs) ss h.1 in
    let a = h.0 in
    simp (length-take, length-drop) (omega arith)

-- one part more, with nothing in it
rises_open : (n : ℕ) (ss : List ℕ) → Rises n ss → Rises n (ss ++ n ∷ [])
rises_open n [] h = (omega arith, tt)
rises_open n (s ∷ []) h = (h.0, (omega arith, tt))
rises_open n (s ∷ t ∷ ss) h = (h.0, rises_open n (t ∷ ss) h.1)

first_open : (n : ℕ) (ss : List ℕ) → get_or (ss ++ n ∷ []) 0 n ≡ get_or ss 0 n
first_open n [] = refl
first_open n (s ∷ ss) = refl

pub tiled_open : (n : ℕ) (ss : List ℕ) → Tiled n ss → Tiled n (ss ++ n ∷ [])
tiled_open n ss t = record { whole = first_open n ss ∙ t.whole; rises = rises_open n ss t.rises }

pub parts_open : {X : Type 0} (xs : List X) (ss : List ℕ) → parts xs (ss ++ length xs ∷ []) ≡ parts xs ss ++ [] ∷ []
parts_open xs [] = ap (λ l. l ∷ []) (let e : drop (length xs) xs ≡ [] = drop_all (length xs) xs (omega arith) in rw e (take-nil _))
parts_open xs (s ∷ ss) = let e = first_open (length xs) ss in let ih = parts_open xs ss in rw (e, ih)

-- one item more in the last part
rises_up : (n m : ℕ) (ss : List ℕ) → n ≤ m → Rises n ss → Rises m ss
rises_up n m [] l h = tt
rises_up n m (s ∷ []) l h = (omega arith, tt)
rises_up n m (s ∷ t ∷ ss) l h = (h.0, rises_up n m (t ∷ ss) l h.1)

pub tiled_add : (n : ℕ) (ss : List ℕ) → 0 < length ss → Tiled n ss → Tiled (n + 1) ss
tiled_add n [] l t = absurd (omega arith)
tiled_add n (s ∷ ss) l t = record { whole = t.whole; rises = rises_up n (n + 1) (s ∷ ss) (omega arith) t.rises }

part_kept : {X : Type 0} (xs ys : List X) (s e : ℕ) → e ≤ length xs → s ≤ e → slice_range (xs ++ ys) s e ≡ slice_range xs s e
part_kept xs ys s e h l =
    let b : e - s ≤ length (drop s xs) = simp length-drop (omega arith) in
    let a : s ≤ length xs = omega arith in
    rw (drop-append-le, take-append-le)

last_part : {X : Type 0} (xs : List X) (x : X) (s : ℕ) → s ≤ length xs → slice_range (xs ++ x ∷ []) s (length (xs ++ x ∷ [])) ≡ slice_range xs s (length xs) ++ x ∷ []
last_part xs x s h =
    between_to_end (xs ++ x ∷ []) s (length (xs ++ x ∷ [])) (omega arith) ∙ drop-append-le s xs (x ∷ []) h
    ∙ ap (λ l. l ++ x ∷ []) (sym (between_to_end xs s (length xs) (omega arith)))

parts_add : {X : Type 0} (xs : List X) (x : X) (s : ℕ) (ss : List ℕ) → Rises (length xs) (s ∷ ss) → parts (xs ++ x ∷ []) (s ∷ ss) ≡ last_of (λ l. l ++ x ∷ []) (slice_range xs s (get_or ss 0 (length xs))) (parts xs ss)
parts_add xs x s [] h = ap (λ l. l ∷ []) (last_part xs x s h.0)
parts_add xs x s (t ∷ ss) h =
    let k = part_kept xs (x ∷ []) s t (first_le (length xs) (t ∷ ss) h.1) h.0 in
    let ih = parts_add xs x t ss h.1 in
    rw (k, ih)

pub parts_more : {X : Type 0} (xs : List X) (x : X) (ss : List ℕ) → Rises (length xs) ss → 0 < length ss → parts (xs ++ x ∷ []) ss ≡ lastly (λ l. l ++ x ∷ []) (parts xs ss)
parts_more xs x [] h l = absurd (omega arith)
parts_more xs x (s ∷ ss) h l = parts_add xs x s ss h

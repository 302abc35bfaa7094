-- A module is what its records add, one by one.
use Rattle.std.proofs.Common.{◌≡◌, ℕ, Bool, true, false, cond, List, [], ◌∷◌, ◌++◌, map, sym, refl, ap, ◌∙◌, append_assoc, append-nil}
use Rattle.std.specs.List.{fold}
use Rattle.std.proofs.lemmas.List.{map_push, flat_map_more}
use Rattle.operands.specs.Operands.{low_first}
use Rattle.codec.specs.Walking.{At}
use Rattle.groups.specs.Groups.{last_of, lastly}
use Rattle.modules.specs.Modules.{Section, is_kind, up_to, sections, within, body_of, struct_of, function_of, field_in, param_in, result_in, local_in, line_in, number_from, said, no_module}
use Rattle.modules.specs.Adding.{longer_struct, longer_function, with_record, added}

-- one record more in a section
abbrev longer : At → Section → Section
longer r s = (s.0, s.1 ++ r ∷ [])

module _ (k : ℕ) (r : At) where
  up_to_same : is_kind k r ≡ true → (rs : List At) → up_to k (rs ++ r ∷ []) ≡ up_to k rs
  unfolding up_to
  up_to_same h [] = rw h
  up_to_same h (q ∷ qs) = let ih = up_to_same h qs in rw ih

  -- a record of the kind begins a section
  sections_more : is_kind k r ≡ true → (rs : List At) → sections k (rs ++ r ∷ []) ≡ sections k rs ++ (r, []) ∷ []
  unfolding sections up_to
  sections_more h [] = rw h
  sections_more h (q ∷ qs) =
      let ih = sections_more h qs in
      let u = up_to_same h qs in
      rw (ih, u) (elim (is_kind k q) as (λ b. cond b ((q, up_to k qs) ∷ (sections k qs ++ (r, []) ∷ [])) (sections k qs ++ (r, []) ∷ []) ≡ cond b ((q, up_to k qs) ∷ sections k qs) (sections k qs) ++ (r, []) ∷ []) [ true ↦ refl | false ↦ refl ])

  module _ (other : is_kind k r ≡ false) where
    up_to_longer : (rs : List At) → sections k rs ≡ [] → up_to k (rs ++ r ∷ []) ≡ up_to k rs ++ r ∷ []
    unfolding sections up_to
    up_to_longer [] e = rw other
    up_to_longer (q ∷ qs) e =
        let P : Bool → Type 0 = λ b. cond b ((q, up_to k qs) ∷ sections k qs) (sections k qs) ≡ [] → cond b [] (q ∷ up_to k (qs ++ r ∷ [])) ≡ cond b [] (q ∷ up_to k qs) ++ r ∷ [] in
        elim (is_kind k q) as P [ true ↦ λ s. absurd cc | false ↦ λ s. ap (λ l. q ∷ l) (up_to_longer qs s) ] e

    up_to_kept : (rs : List At) (s : Section) (ss : List Section) → sections k rs ≡ s ∷ ss → up_to k (rs ++ r ∷ []) ≡ up_to k rs
    unfolding sections up_to
    up_to_kept [] s ss e = absurd cc
    up_to_kept (q ∷ qs) s ss e =
        let P : Bool → Type 0 = λ b. cond b ((q, up_to k qs) ∷ sections k qs) (sections k qs) ≡ s ∷ ss → cond b [] (q ∷ up_to k (qs ++ r ∷ [])) ≡ cond b [] (q ∷ up_to k qs) in
        elim (is_kind k q) as P [ true ↦ λ _. refl | false ↦ λ e'. ap (λ l. q ∷ l) (up_to_kept qs s ss e') ] e

    -- behind a record of the kind: what comes belongs to it if no other section follows
    begun : (q : At) (qs : List At) (ss : List Section) → sections k qs ≡ ss → sections k (qs ++ r ∷ []) ≡ lastly (longer r) ss
        → (q, up_to k (qs ++ r ∷ [])) ∷ sections k (qs ++ r ∷ []) ≡ last_of (longer r) (q, up_to k qs) ss
    begun q qs [] e ih = let u = up_to_longer qs e in rw (u, ih)
    begun q qs (s ∷ ss) e ih = let u = up_to_kept qs s ss e in rw (u, ih)

    -- any other record belongs to the last section
    sections-longer : (rs : List At) → sections k (rs ++ r ∷ []) ≡ lastly (longer r) (sections k rs)
    unfolding sections up_to
    sections-longer [] = rw other
    sections-longer (q ∷ qs) =
        let P : Bool → Type 0 = λ b. cond b ((q, up_to k (qs ++ r ∷ [])) ∷ sections k (qs ++ r ∷ [])) (sections k (qs ++ r ∷ [])) ≡ lastly (longer r) (cond b ((q, up_to k qs) ∷ sections k qs) (sections k qs)) in
        elim (is_kind k q) as P [ true ↦ begun q qs (sections k qs) refl (sections-longer qs) | false ↦ sections-longer qs ]

map-last_of : {X Y : Type 0} (f : X → Y) (h : X → X) (g : Y → Y) → ((x : X) → f (h x) ≡ g (f x)) → (x : X) (xs : List X) → map f (last_of h x xs) ≡ last_of g (f x) (map f xs)
map-last_of f h g e x [] = let i = e x in rw i
map-last_of f h g e x (y ∷ ys) = ap (λ l. f x ∷ l) (map-last_of f h g e y ys)

pub map-lastly : {X Y : Type 0} (f : X → Y) (h : X → X) (g : Y → Y) → ((x : X) → f (h x) ≡ g (f x)) → (xs : List X) → map f (lastly h xs) ≡ lastly g (map f xs)
map-lastly f h g e [] = refl
map-lastly f h g e (x ∷ xs) = map-last_of f h g e x xs

-- what is said of the sections, with one record more
module _ {X : Type 0} (k : ℕ) (of : Section → X) (more : At → X → X) (r : At) (rs : List At) (e : (s : Section) → of (longer r s) ≡ more r (of s)) where
  parts_by : (b : Bool) → is_kind k r ≡ b → map of (sections k (rs ++ r ∷ [])) ≡ cond b (map of (sections k rs) ++ of (r, []) ∷ []) (lastly (more r) (map of (sections k rs)))
  parts_by true h = ap (map of) (sections_more k r h rs) ∙ map_push of (sections k rs) (r, [])
  parts_by false h = ap (map of) (sections-longer k r h rs) ∙ map-lastly of (longer r) (more r) e (sections k rs)

  parts_more : map of (sections k (rs ++ r ∷ [])) ≡ with_record k of more (map of (sections k rs)) r
  parts_more = parts_by (is_kind k r) refl

number_more : (rs : List At) (n : ℕ) (r : At) → number_from n (rs ++ r ∷ []) ≡ cond (is_kind 0x01 r) (low_first 2 (body_of r)) (number_from n rs)
unfolding number_from
number_more [] n r = refl
number_more (q ∷ qs) n r = number_more qs (cond (is_kind 0x01 q) (low_first 2 (body_of q)) n) r

within_more : {X : Type 0} (say : At → List X) (r : At) (s : Section) → within say (longer r s) ≡ within say s ++ say r
within_more say r s = sym (flat_map_more say [] s.1 r)

struct_more : (r : At) (s : Section) → struct_of (longer r s) ≡ longer_struct r (struct_of s)
struct_more r s = let f = within_more field_in r s in rw f

function_more : (r : At) (s : Section) → function_of (longer r s) ≡ longer_function r (function_of s)
function_more r s =
    let p = within_more param_in r s in
    let a = within_more result_in r s in
    let l = within_more local_in r s in
    let c = within_more line_in r s in
    rw (p, a, l, c)

said_more : (rs : List At) (r : At) → said (rs ++ r ∷ []) ≡ added (said rs) r
said_more rs r =
    let n = number_more rs 0 r in
    let s = parts_more 0x02 struct_of longer_struct r rs (struct_more r) in
    let f = parts_more 0x04 function_of longer_function r rs (function_more r) in
    rw (n, s, f)

said_then : (ps rs : List At) → fold added (said ps) rs ≡ said (ps ++ rs)
said_then ps [] = ap said (sym (append-nil ps))
said_then ps (r ∷ rs) = ap (λ m. fold added m rs) (sym (said_more ps r)) ∙ said_then (ps ++ r ∷ []) rs ∙ ap said (append_assoc ps (r ∷ []) rs)

pub said_is : (rs : List At) → fold added no_module rs ≡ said rs
unfolding sections number_from
said_is rs = said_then [] rs

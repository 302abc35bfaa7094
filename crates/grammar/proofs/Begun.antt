-- Records that are taken one by one begin a module, and one that is refused there goes on to none.
use Rattle.std.proofs.Common.{◌≡◌, ◌<◌, true, false, List, [], ◌∷◌, ◌++◌, Ok, Err, sym, refl, subst, append_assoc, append-nil, arith}
use Rattle.bytecode.specs.declared.refusals.Reason.{Reason}
use Rattle.bytecode.specs.Kinds.{body_length}
use Rattle.bytecode.specs.Records.{Shown, formed}
use Rattle.grammar.specs.declared.order.Part.{Part}
use Rattle.grammar.specs.declared.order.Part.TheVariants.{Start, Module, Struct, Field, Function, Param, Result as Answer, Local, Code, End}
use Rattle.grammar.specs.declared.order.Progress.{Progress}
use Rattle.grammar.specs.Grammar.{Is, ModuleRow, Begins}
use Rattle.grammar.specs.Order.{is_end, may_follow, most, had, after, advance, start}
use Rattle.grammar.proofs.Built.{module_taken}
use Rattle.grammar.proofs.Parsed.{module_parsed}
use Rattle.grammar.proofs.Steps.{Accepts, over, next, step_to}

-- the records lead from one progress to another
pub data Takes : Progress → List Shown → Progress → Type 0 where
  still : {p : Progress} → Takes p [] p
  also : {p q r : Progress} {x : Shown} {xs : List Shown} → formed x ≡ Ok x → advance p x ≡ Ok q → Takes q xs r → Takes p (x ∷ xs) r

pub takes_one_more : {p q r : Progress} {x : Shown} {xs : List Shown} → Takes p xs q → formed x ≡ Ok x → advance q x ≡ Ok r → Takes p (xs ++ x ∷ []) r
takes_one_more still w a = also w a still
takes_one_more (also v b t) w a = also v b (takes_one_more t w a)

takes_then : {p q : Progress} {xs ys : List Shown} → Takes p xs q → Accepts q ys → Accepts p (xs ++ ys)
takes_then still a = a
takes_then (also w b t) a = next w b (takes_then t a)

-- what is taken behind these records
taken_behind : {p q : Progress} {xs : List Shown} (ys : List Shown) → Takes p xs q → Accepts p (xs ++ ys) → Accepts q ys
taken_behind ys still a = a
taken_behind ys (also {q = q} {xs = xs} w b t) (next {q = r} v c a) =
    let same_next : r ≡ q = cc in
    taken_behind ys t (subst (λ s. Accepts s (xs ++ ys)) same_next a)

-- the shortest ways to the end of a module
is_module : Is Module (0x01, 1 ∷ 0 ∷ [])
unfolding body_length
is_module = record { kind = refl; whole = refl; ranged = refl }

is_field : Is Field (0x03, 0 ∷ 0 ∷ 0 ∷ [])
unfolding body_length
is_field = record { kind = refl; whole = refl; ranged = refl }

is_ret : Is Code (0x25, [])
unfolding body_length
is_ret = record { kind = refl; whole = refl; ranged = refl }

is_end_lem : Is End (0x00, [])
unfolding body_length
is_end_lem = record { kind = refl; whole = refl; ranged = refl }

record Ending (p : Progress) : Type 0 where
  pub further : List Shown
  pub taken : Accepts p further

-- one record more on the way to the end
by : (p : Progress) (part : Part) {x : Shown} → Is part x → may_follow p.last part ≡ true → had p part < most part → Ending (after p part) → Ending p
by p part {x} i follows fits e =
    record { further = x ∷ e.further; taken = next i.whole (step_to p part x i follows fits) e.taken }

ended : (p : Progress) → is_end p.last ≡ true → Ending p
ended p e = record { further = []; taken = over e }

ending : (p : Progress) (last : Part) → p.last ≡ last → Ending p
ending p Start e = by p Module is_module (rw e) (rw e (omega arith)) (by (after p Module) End is_end_lem refl (omega arith) (ended (after (after p Module) End) refl))
ending p Module e = by p End is_end_lem (rw e) (rw e (omega arith)) (ended (after p End) refl)
ending p Struct e = by p Field is_field (rw e) (rw e (omega arith)) (by (after p Field) End is_end_lem refl (omega arith) (ended (after (after p Field) End) refl))
ending p Field e = by p End is_end_lem (rw e) (rw e (omega arith)) (ended (after p End) refl)
ending p Function e = by p Code is_ret (rw e) (rw e (omega arith)) (by (after p Code) End is_end_lem refl (omega arith) (ended (after (after p Code) End) refl))
ending p Param e = by p Code is_ret (rw e) (rw e (omega arith)) (by (after p Code) End is_end_lem refl (omega arith) (ended (after (after p Code) End) refl))
ending p Answer e = by p Code is_ret (rw e) (rw e (omega arith)) (by (after p Code) End is_end_lem refl (omega arith) (ended (after (after p Code) End) refl))
ending p Local e = by p Code is_ret (rw e) (rw e (omega arith)) (by (after p Code) End is_end_lem refl (omega arith) (ended (after (after p Code) End) refl))
ending p Code e = by p End is_end_lem (rw e) (rw e (omega arith)) (ended (after p End) refl)
ending p End e = ended p (rw e)

-- records that are taken begin a module
pub taken_begins : {p : Progress} {xs : List Shown} → Takes start xs p → Begins xs
taken_begins {p} t =
    let e = ending p p.last refl in
    record { further = e.further; whole = module_parsed _ (takes_then t e.taken) }

-- no module goes on with a record that is refused
pub refused_begins_none : {p : Progress} {xs : List Shown} (x : Shown) (why : Reason) → Takes start xs p → advance p x ≡ Err why → Begins (xs ++ x ∷ []) → ⊥
refused_begins_none {p} {xs} x why t refused b =
    let whole : Accepts start (xs ++ (x ∷ b.further)) = subst (Accepts start) (append_assoc xs (x ∷ []) b.further) (module_taken _ b.whole) in
    not_next (taken_behind (x ∷ b.further) t whole) refused
  where
    not_next : {p : Progress} {x : Shown} {xs : List Shown} {why : Reason} → Accepts p (x ∷ xs) → advance p x ≡ Err why → ⊥
    not_next (next w a further) e = cc

-- records that are taken up to the end are a module, and no others
pub taken_whole : {p : Progress} {xs : List Shown} → Takes start xs p → is_end p.last ≡ true → ModuleRow xs
taken_whole {p} {xs} t e = subst ModuleRow (append-nil xs) (module_parsed _ (takes_then t (over e)))

pub taken_part : {p : Progress} {xs : List Shown} → Takes start xs p → is_end p.last ≡ false → ModuleRow xs → ⊥
taken_part {p} {xs} t e m = not_over (taken_behind [] t (subst (Accepts start) (sym (append-nil xs)) (module_taken _ m))) e
  where
    not_over : {p : Progress} → Accepts p [] → is_end p.last ≡ false → ⊥
    not_over (over y) n = cc

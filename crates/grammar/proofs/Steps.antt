-- A row of records taken one by one, and what one step asks and keeps.
use Rattle.std.proofs.Common.{◌≡◌, ◌<◌, ◌≤◌, Bool, true, false, cond, ltb, List, [], ◌∷◌, Ok, Err, Result, arith}
use Rattle.std.proofs.lemmas.Bool.Decides.{nat_tests}
use Rattle.bytecode.specs.declared.refusals.Reason.{Reason}
use Rattle.bytecode.specs.declared.refusals.Reason.TheVariants.{OutOfOrder, TooMany, OutOfRange}
use Rattle.bytecode.specs.Ranges.{in_range}
use Rattle.bytecode.specs.Records.{Shown, formed}
use Rattle.bytecode.specs.Refusals.{number}
use Rattle.grammar.specs.declared.order.Part.{Part}
use Rattle.grammar.specs.declared.order.Progress.{Progress}
use Rattle.grammar.specs.Grammar.{Is}
use Rattle.grammar.specs.Order.{part_of, is_end, may_follow, most, had, after, advance}

-- from this progress on, the row ends the module
pub data Accepts : Progress → List Shown → Type 0 where
  over : {p : Progress} → is_end p.last ≡ true → Accepts p []
  next : {p q : Progress} {x : Shown} {xs : List Shown} → formed x ≡ Ok x → advance p x ≡ Ok q → Accepts q xs → Accepts p (x ∷ xs)

-- what a step that succeeds says
pub record Step (p : Progress) (x : Shown) (q : Progress) : Type 0 where
  pub follows : may_follow p.last (part_of x.0) ≡ true
  pub fits : had p (part_of x.0) < most (part_of x.0)
  pub ranged : in_range x ≡ true
  pub then : q ≡ after p (part_of x.0)

chosen : (a b c : Bool) (p q : Progress)
    → ◌≡◌ {A = Result Progress Reason} (cond a (cond b (cond c (Ok p) (Err OutOfRange)) (Err TooMany)) (Err OutOfOrder)) (Ok q)
    → (a ≡ true) × (b ≡ true) × (c ≡ true) × (q ≡ p)
chosen a b c p q e = grind arith

pub step_from : (p : Progress) (x : Shown) (q : Progress) → advance p x ≡ Ok q → Step p x q
step_from p x q e =
    let t = chosen (may_follow p.last (part_of x.0)) (ltb (had p (part_of x.0)) (most (part_of x.0))) (in_range x) (after p (part_of x.0)) q e in
    grind (arith, nat_tests)

-- a record of a part that may come, and of which there is room for one more
pub step_to : (p : Progress) (part : Part) (x : Shown) → Is part x → may_follow p.last part ≡ true → had p part < most part → advance p x ≡ Ok (after p part)
step_to p part x i follows fits = grind (arith, nat_tests)

-- nothing follows the end
follows_open : (last part : Part) → may_follow last part ≡ true → is_end last ≡ false
follows_open last part h = grind (arith, nat_tests)

pub step_open : (p : Progress) (x : Shown) (q : Progress) → advance p x ≡ Ok q → is_end p.last ≡ false
step_open p x q e = follows_open p.last (part_of x.0) (step_from p x q e).follows

unchosen : (a b c : Bool) (p : Progress) (why : Reason)
    → ◌≡◌ {A = Result Progress Reason} (cond a (cond b (cond c (Ok p) (Err OutOfRange)) (Err TooMany)) (Err OutOfOrder)) (Err why)
    → (2 ≤ number why) × (number why ≤ 4)
unchosen a b c p why e = grind arith

-- a step is refused by 2, 3 or 4
pub step_number : (p : Progress) (x : Shown) (why : Reason) → advance p x ≡ Err why → (2 ≤ number why) × (number why ≤ 4)
step_number p x why e = unchosen (may_follow p.last (part_of x.0)) (ltb (had p (part_of x.0)) (most (part_of x.0))) (in_range x) (after p (part_of x.0)) why e

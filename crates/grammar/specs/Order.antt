-- Which record may follow which, and how many of each there may be.
use Rattle.std.specs.Prelude.{ℕ, ◌+◌, Bool, false, cond, ◌||◌, List, [], ◌∷◌, Result, ◌==◌, nat_lt}
use Rattle.std.specs.declared.result.Result.TheVariants as result
use Rattle.bytecode.specs.declared.refusals.Reason.{Reason}
use Rattle.bytecode.specs.declared.refusals.Reason.TheVariants.{OutOfOrder, TooMany, OutOfRange}
use Rattle.bytecode.specs.Ranges.{in_range}
use Rattle.bytecode.specs.Records.{Shown}
use Rattle.grammar.specs.declared.order.Part.{Part}
use Rattle.grammar.specs.declared.order.Part.TheVariants.{Start, Module, Struct, Field, Function, Param, Result as Res, Local, Code, End}
use Rattle.grammar.specs.declared.order.Progress.{Progress}

-- the part that a kind of record is: every instruction is code
abbrev pub part_of : ℕ → Part
part_of k =
    cond (k == 0x00) End
    (cond (k == 0x01) Module
    (cond (k == 0x02) Struct
    (cond (k == 0x03) Field
    (cond (k == 0x04) Function
    (cond (k == 0x05) Param
    (cond (k == 0x06) Res
    (cond (k == 0x07) Local Code)))))))

abbrev pub rank : Part → ℕ
rank Start = 0
rank Module = 1
rank Struct = 2
rank Field = 3
rank Function = 4
rank Param = 5
rank Res = 6
rank Local = 7
rank Code = 8
rank End = 9

abbrev pub same : Part → Part → Bool
same p q = rank p == rank q

abbrev pub is_end : Part → Bool
is_end p = same p End

-- the parts that a part may stand directly behind
abbrev pub behind : Part → List Part
behind Start = []
behind Module = Start ∷ []
behind Struct = Module ∷ Field ∷ []
behind Field = Struct ∷ Field ∷ []
behind Function = Module ∷ Field ∷ Code ∷ []
behind Param = Function ∷ Param ∷ []
behind Res = Function ∷ Param ∷ Res ∷ []
behind Local = Function ∷ Param ∷ Res ∷ Local ∷ []
behind Code = Function ∷ Param ∷ Res ∷ Local ∷ Code ∷ []
behind End = Module ∷ Field ∷ Code ∷ []

abbrev pub one_of : Part → List Part → Bool
one_of p [] = false
one_of p (q ∷ qs) = same p q || one_of p qs

abbrev pub may_follow : Part → Part → Bool
may_follow last part = one_of last (behind part)

-- the most that a module may have of structs and functions, and a struct or a function of its own parts
abbrev pub most : Part → ℕ
most Start = 0
most Module = 1
most Struct = 8
most Field = 8
most Function = 16
most Param = 8
most Res = 4
most Local = 16
most Code = 128
most End = 1

-- the count of a part that stands in one row: none yet, unless it is last
abbrev pub in_row : Progress → Part → ℕ → ℕ
in_row p part none = cond (same p.last part) p.count none

-- how many of this part there are so far; a local counts with the parameters
abbrev pub had : Progress → Part → ℕ
had p Start = in_row p Start 0
had p Module = in_row p Module 0
had p Struct = p.structs
had p Field = in_row p Field 0
had p Function = p.functions
had p Param = p.params
had p Res = in_row p Res 0
had p Local = in_row p Local p.params
had p Code = in_row p Code 0
had p End = in_row p End 0

-- the progress where this part is last, and there are n of it
abbrev pub counting : Progress → Part → ℕ → Progress
counting p part n = record {
  last = part;
  count = n;
  structs = cond (same part Struct) n p.structs;
  functions = cond (same part Function) n p.functions;
  params = cond (same part Function) 0 (cond (same part Param) n p.params);
}

abbrev pub after : Progress → Part → Progress
after p part = counting p part (had p part + 1)

-- one record more: in its order, then within its count, then in its range
abbrev pub advance : Progress → Shown → Result Progress Reason
advance p x =
    cond (may_follow p.last (part_of x.0))
    (cond (nat_lt (had p (part_of x.0)) (most (part_of x.0)))
    (cond (in_range x) (result.Ok (after p (part_of x.0))) (result.Err OutOfRange))
    (result.Err TooMany))
    (result.Err OutOfOrder)

abbrev pub start : Progress
start = record { last = Start; count = 0; structs = 0; functions = 0; params = 0 }

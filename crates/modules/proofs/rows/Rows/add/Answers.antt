use Rattle.std.proofs.Common.{sym, refl, rules, arith}
use Rattle.codec.specs.Walking.{shown_at}
use Rattle.modules.proofs.Columns.{fits, end_adds, line_added, means_more, aligned_more}
use Rattle.modules.proofs.rows.Rows.add.Goals as goal

pub push_reserved-requires : goal.push_reserved-requires
push_reserved-requires c = let k = fits c.self.invariant c.self.view_is c.requires in omega arith

pub open-requires : goal.open-requires
open-requires c = let k = fits c.self.invariant c.self.view_is c.requires in omega arith

pub add-requires : goal.add-requires
add-requires c = let k = fits c.self.invariant c.self.view_is c.requires in omega arith

pub invariant_of-self-in-Field : goal.invariant_of-self-in-Field
invariant_of-self-in-Field c = aligned_more (shown_at c.args.placed.now) c.self.invariant (search rules) refl refl

pub push_reserved-requires-in-Function : goal.push_reserved-requires-in-Function
push_reserved-requires-in-Function c = let k = fits c.self.invariant c.self.view_is c.requires in omega arith

pub open-requires-in-Function : goal.open-requires-in-Function
open-requires-in-Function c = let k = fits c.self.invariant c.self.view_is c.requires in omega arith

pub open-requires-in-Function-2 : goal.open-requires-in-Function-2
open-requires-in-Function-2 c = let k = fits c.self.invariant c.self.view_is c.requires in omega arith

pub open-requires-in-Function-3 : goal.open-requires-in-Function-3
open-requires-in-Function-3 c = let k = fits c.self.invariant c.self.view_is c.requires in omega arith

pub open-requires-in-Function-4 : goal.open-requires-in-Function-4
open-requires-in-Function-4 c = let k = fits c.self.invariant c.self.view_is c.requires in omega arith

pub add-requires-in-Param : goal.add-requires-in-Param
add-requires-in-Param c = let k = fits c.self.invariant c.self.view_is c.requires in omega arith

pub add-requires-in-Param-2 : goal.add-requires-in-Param-2
add-requires-in-Param-2 c = let k = fits c.self.invariant c.self.view_is c.requires in omega arith

pub invariant_of-self-in-Param : goal.invariant_of-self-in-Param
invariant_of-self-in-Param c = aligned_more (shown_at c.args.placed.now) c.self.invariant (search rules) refl refl

pub add-requires-in-Result : goal.add-requires-in-Result
add-requires-in-Result c = let k = fits c.self.invariant c.self.view_is c.requires in omega arith

pub invariant_of-self-in-Result : goal.invariant_of-self-in-Result
invariant_of-self-in-Result c = aligned_more (shown_at c.args.placed.now) c.self.invariant (search rules) refl refl

pub add-requires-in-Local : goal.add-requires-in-Local
add-requires-in-Local c = let k = fits c.self.invariant c.self.view_is c.requires in omega arith

pub invariant_of-self-in-Local : goal.invariant_of-self-in-Local
invariant_of-self-in-Local c = aligned_more (shown_at c.args.placed.now) c.self.invariant (search rules) refl refl

pub add-requires-in-Some : goal.add-requires-in-Some
add-requires-in-Some c = let k = fits c.self.invariant c.self.view_is c.requires in omega arith

pub invariant_of-self-in-Some : goal.invariant_of-self-in-Some
invariant_of-self-in-Some c = aligned_more (shown_at c.args.placed.now) c.self.invariant (line_added (shown_at c.args.placed.now) c.in-Some.instruction c.self.inside _ (sym c.in-Some.ensures) c.add-in-Some.ensures) refl refl

pub returns-in-End : goal.returns-in-End
returns-in-End c = rw c.in-End.is (sym (end_adds c.args.self.now c.args.placed.now.place))

pub returns-in-Module : goal.returns-in-Module
returns-in-Module c = means_more (shown_at c.args.placed.now) c.self.invariant c.self.view_is (search rules)

pub returns-in-Struct : goal.returns-in-Struct
returns-in-Struct c = means_more (shown_at c.args.placed.now) c.self.invariant c.self.view_is (search rules)

pub returns-in-Field : goal.returns-in-Field
returns-in-Field c = means_more (shown_at c.args.placed.now) c.self.invariant c.self.view_is (search rules)

pub returns-in-Function : goal.returns-in-Function
returns-in-Function c = means_more (shown_at c.args.placed.now) c.self.invariant c.self.view_is (search rules)

pub returns-in-Param : goal.returns-in-Param
returns-in-Param c = means_more (shown_at c.args.placed.now) c.self.invariant c.self.view_is (search rules)

pub returns-in-Result : goal.returns-in-Result
returns-in-Result c = means_more (shown_at c.args.placed.now) c.self.invariant c.self.view_is (search rules)

pub returns-in-Local : goal.returns-in-Local
returns-in-Local c = means_more (shown_at c.args.placed.now) c.self.invariant c.self.view_is (search rules)

pub returns-in-Some : goal.returns-in-Some
returns-in-Some c = means_more (shown_at c.args.placed.now) c.self.invariant c.self.view_is (line_added (shown_at c.args.placed.now) c.in-Some.instruction c.self.inside _ (sym c.in-Some.ensures) c.add-in-Some.ensures)

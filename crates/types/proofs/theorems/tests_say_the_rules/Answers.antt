use Rattle.std.proofs.Common.{arith}
use Rattle.types.proofs.Declared.{decl_type}
use Rattle.types.proofs.Rules.{allows_allowed, test_rule}
use Rattle.types.proofs.Structs.{struct-fits}
use Rattle.types.proofs.theorems.tests_say_the_rules.Goals as goal

pub returns : goal.returns
returns c = record { abilities = allows_allowed; types = λ a b. grind arith; structs = test_rule; later = λ tab l t d e. (decl_type tab t d e, struct-fits tab l t d e) }

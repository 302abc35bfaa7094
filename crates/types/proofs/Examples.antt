-- The example structs are judged and measured by computing.
use Rattle.std.proofs.Common.{refl}
use Rattle.types.specs.Examples.{ExamplesAreJudgedSo, ExamplesMeasureSo}
use Rattle.types.specs.Types.{over, layout, inside}
use Rattle.types.proofs.Rules.{lawful_more}

pub judged : ExamplesAreJudgedSo
unfolding over layout
judged = (lawful_more _ _ refl (lawful_more _ _ refl (lawful_more _ _ refl (lawful_more _ _ refl tt))), (refl, (refl, (refl, (refl, (refl, (refl, (refl, (refl, (refl, tt))))))))))

pub measured : ExamplesMeasureSo
unfolding over layout inside
measured = (refl, refl, refl, refl)

-- What a Vec holds once its slice was written.
use Rattle.std.proofs.Common.{◌≡◌, List, Vec, length, sym, ap, ◌∙◌}
use Rattle.std.proofs.lemmas.List.{with_items_is}
use Rattle.std.specs.Vec.{with_items}

pub written_back : {X Z : Type 0} (v : Vec X Z) (slice new : List X) → slice ≡ v.items → length new ≡ length slice
    → ((with_items v new).items ≡ new) × (length (with_items v new).items ≡ length v.items)
written_back v slice new e l =
    let w = with_items_is v new (l ∙ ap length e ∙ sym v.ok.0) in
    (w, ap length w ∙ l ∙ ap length e)

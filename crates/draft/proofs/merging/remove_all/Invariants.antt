use Rattle.std.proofs.Common.{◌≡◌, map, drop}
use Rattle.draft.specs.Changes.{changed}
use Rattle.draft.specs.Merging.{each, remove_one}
use Rattle.draft.proofs.merging.remove_all.Given as goal

abbrev pub invariant-loop-change : goal.invariant-loop-change
invariant-loop-change g l =
    record {
      below : each remove_one (map changed (drop l.change-index l.changes)) (g.S.Store.means l.below) ≡ each remove_one (map changed l.changes) (g.S.Store.means l.fn.below);
      under : g.S.Store.under l.below ≡ g.S.Store.under l.fn.below;
    }

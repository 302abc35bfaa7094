use Rattle.std.proofs.Common.{rules}
use Rattle.draft.proofs.Merges.{anew_counted}
use Rattle.draft.proofs.drafts.Draft.touched_anew.Goals as goal

pub returns : goal.returns
returns g c = search (rules, anew_counted)

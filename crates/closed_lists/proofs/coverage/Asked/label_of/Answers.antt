use Rattle.std.proofs.Common.{◌≡◌, ◌<◌, length, sym, subst}
use Rattle.std.specs.Prelude.{slice_index_or}
use Rattle.piece_fn.specs.declared.label.Label.{Label}
use Rattle.closed_lists.specs.Asking.{Asking}
use Rattle.closed_lists.proofs.coverage.Asked.label_of.Goals as goal

pub label-requires : goal.label-requires
label-requires c = subst (λ (a : Asking). c.args.entry.now.number < length a.question.labels) (sym c.self.view_is) c.requires

pub returns : goal.returns
returns c = subst (λ (a : Asking). (d : Label) → c.label.result.now ≡ slice_index_or a.question.labels c.args.entry.now.number d) c.self.view_is c.label.ensures.value

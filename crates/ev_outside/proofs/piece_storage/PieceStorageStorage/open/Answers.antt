use Rattle.std.proofs.Common.{◌∙◌, sym, ap, List, ℕ, [], Option, unwrap_or}
use Rattle.ev_outside.specs.Shelf.{bytes_under}
use Rattle.ev_outside.specs.Storage.{Told}
use Rattle.ev_outside.proofs.piece_storage.PieceStorageStorage.open.Goals as goal

pub returns-clause-opens : goal.returns-clause-opens
returns-clause-opens c = c.in-Ok.ensures.items ∙ sym (ap (λ (known : Option (List ℕ)). unwrap_or known []) c.in-Some.ensures.some) ∙ ap (λ (t : Told). bytes_under t.files c.args.name.now) c.is_to_fail.ensures.told

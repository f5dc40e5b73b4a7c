use Rattle.std.proofs.Common.{◌∙◌, ap, refl, ℕ, List, Some, string_bytes, subst}
use Rattle.std.specs.BTreeMap.{UpdatesBy}
use Rattle.std.specs.String.{string_cmp}
use Rattle.std.specs.Cmp.Lexicographic.{slice_cmp}
use Rattle.std.specs.Ordering.{nat_cmp}
use Rattle.ev_outside.proofs.MemoryShelfLemmas.{items_under-same, items_under-other}
use Rattle.ev_outside.proofs.memory_shelf.MemoryShelf.set.Goals as goal

pub returns-clause-ok : goal.returns-clause-ok
returns-clause-ok c =
    let P : List ℕ → Type 0 = λ name. UpdatesBy string_cmp (λ key. slice_cmp nat_cmp name (string_bytes key)) c.args.self.now.files c.insert.new.self (Some c.in_ok-bytes.bytes) in
    let updates : P c.args.name.now = subst P c.in_ok-name.ensures.ok c.in_ok-insert.ensures.updates in
    record {
      changed = items_under-same c.args.name.now c.args.self.now.files c.insert.new.self c.in_ok-bytes.bytes updates ∙ ap (λ items. Some items) c.in_ok-bytes.ensures.items;
      others = λ other ne. items_under-other c.args.name.now other c.args.self.now.files c.insert.new.self c.in_ok-bytes.bytes updates ne;
      failed_reads = refl;
      failed_writes = refl;
      calls = refl;
      fails = refl;
    }

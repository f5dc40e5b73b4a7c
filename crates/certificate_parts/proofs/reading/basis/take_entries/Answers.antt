use Rattle.std.proofs.Common.{arith, rules, ◌∙◌, ◌+◌, ◌-◌, ◌∷◌, ◌++◌, [], List, ap, subst, sym}
use Rattle.std.proofs.lemmas.Grind.{common_steps}
use Rattle.certificate_parts.specs.declared.entry.BasisEntry.{BasisEntry}
use Rattle.certificate_parts.proofs.RowReading.{Breaks, Reads, entries-begin, entries-break, entries-go_on, entries-no_mark, no_first_entry}
use Rattle.certificate_parts.proofs.reading.basis.take_entries.Goals as goal

pub loop-init : goal.loop-init
loop-init c =
    entries-begin c.args.inst.now c.args.columns c.args.scan.now c.take_entry.new.scan c.args.count c.in_ok-first.first c.deref.result.now c.push.new.self.items
    (omega arith) (c.deref.ensures.value ∙ c.new-basis.ensures.items) c.in_ok-first.ensures.ok c.in_ok-first.ensures.fits (c.in_ok-push.ensures.items ∙ ap (λ xs. xs ++ c.in_ok-first.first ∷ []) (sym c.deref.ensures.value))

pub returns-in_err-first-clause-fault : goal.returns-in_err-first-clause-fault
returns-in_err-first-clause-fault c =
    let broken = no_first_entry c.args.inst.now c.args.columns c.args.scan.now c.args.count c.deref.result.now _ (omega arith) (c.deref.ensures.value ∙ c.new-basis.ensures.items) c.in_err-first.ensures.fault in
    search rules

pub returns-in_err-word-clause-fault : goal.returns-in_err-word-clause-fault
returns-in_err-word-clause-fault c =
    let broken = entries-no_mark c.args.inst.now c.args.columns c.args.scan.now c.args.count c.loop.scan (c.args.count - c.loop.counter) (c.args.count - (c.loop.counter + 1)) c.loop.basis.items _ (omega arith) c.loop.invariant c.in_err-word.ensures.fault in
    search rules

pub returns-in_err-entry-clause-fault : goal.returns-in_err-entry-clause-fault
returns-in_err-entry-clause-fault c =
    let found = subst (λ (xs : List BasisEntry). Breaks c.args.inst.now c.args.columns xs c.word.new.self c.in_err-entry.field-0.0) c.deref-in-loop.ensures.value c.in_err-entry.ensures.fault in
    let broken = entries-break c.args.inst.now c.args.columns c.args.scan.now c.args.count c.loop.scan c.word.new.self (c.args.count - c.loop.counter) (c.args.count - (c.loop.counter + 1)) c.loop.basis.items _ (omega arith) c.loop.invariant c.in_ok-word.ensures.ok found in
    search rules

pub loop-preserved : goal.loop-preserved
loop-preserved c =
    let found = subst (λ (xs : List BasisEntry). Reads c.args.inst.now c.args.columns xs c.word.new.self c.take_entry-in-loop.new.scan c.in_ok-entry.entry) c.deref-in-loop.ensures.value c.in_ok-entry.ensures.ok in
    entries-go_on c.args.inst.now c.args.columns c.args.scan.now c.args.count c.loop.scan c.word.new.self c.take_entry-in-loop.new.scan (c.args.count - c.loop.counter) (c.args.count - (c.loop.counter + 1)) c.loop.basis.items c.push-in-loop.new.self.items c.in_ok-entry.entry
    (omega arith) c.loop.invariant c.in_ok-word.ensures.ok found c.in_ok-entry.ensures.fits c.in_ok-push-2.ensures.items

pub take_entry-requires-in-loop : goal.take_entry-requires-in-loop
take_entry-requires-in-loop = grind (arith, common_steps)

use Rattle.std.proofs.Common.{◌≡◌, [], refl}
use Rattle.std.proofs.lemmas.Bool.{both_ways}
use Rattle.decimal_import.proofs.Steps.{converted_from-end, finished-open, finished-closed}
use Rattle.decimal_import.proofs.conversion.Conversion.finish.Goals as goal

pub returns-then-is_empty-clause-ok : goal.returns-then-is_empty-clause-ok
returns-then-is_empty-clause-ok c =
    rw (converted_from-end c.args.self.digits c.args.at c.args.self.nesting)
    (finished-closed c.args.at c.args.self.nesting c.args.self.text.items (c.is_empty.ensures.0 c.if-is_empty.true))

pub returns-else-is_empty-clause-fault : goal.returns-else-is_empty-clause-fault
returns-else-is_empty-clause-fault c =
    let some : c.args.self.nesting ≡ [] → ⊥ = λ closed. both_ways c.is_empty.result c.if-is_empty.false (c.is_empty.ensures.1 closed) in
    let fault = finished-open c.args.at c.args.self.nesting some in
    rw (converted_from-end c.args.self.digits c.args.at c.args.self.nesting, fault) refl

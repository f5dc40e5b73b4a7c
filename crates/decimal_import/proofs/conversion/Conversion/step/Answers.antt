use Rattle.std.proofs.Common.{arith, refl}
use Rattle.std.proofs.lemmas.Result.{err_from_is_err_and}
use Rattle.decimal_import.specs.Token.{token_text}
use Rattle.decimal_import.specs.View.{token_of}
use Rattle.decimal_import.proofs.Cuts.{token_in_front-shorter}
use Rattle.decimal_import.proofs.Fronts.{token_stands}
use Rattle.decimal_import.proofs.Steps.{converted_from-none, step-some, step-unmatched, step-refused, take-front}
use Rattle.decimal_import.proofs.conversion.Conversion.step.Goals as goal

pub returns-in_default-clause-fault : goal.returns-in_default-clause-fault
returns-in_default-clause-fault c = rw (converted_from-none c.args.self.now.digits c.args.at c.args.self.now.nesting c.args.bytes.now c.in_default.ensures.none c.requires) refl

pub slice_bounds-spelling-count : goal.slice_bounds-spelling-count
slice_bounds-spelling-count c = omega (arith, token_in_front-shorter c.args.bytes.now (token_of c.in-Some.token) c.in-Some.rest.now c.in-Some.ensures.some)

pub returns-in_err-pass-clause-fault : goal.returns-in_err-pass-clause-fault
returns-in_err-pass-clause-fault c =
    let p = err_from_is_err_and c.from_residual.result c.from_residual.ensures.1 in
    rw (p.1, p.2) (step-unmatched c.args.self.now.digits c.args.at c.args.self.now.nesting c.args.bytes.now (token_of c.in-Some.token) c.in-Some.rest.now c.args.self.now.text.items c.in_err-pass.field-0.0 c.in-Some.ensures.some c.in_err-pass.ensures.fault)

pub push-requires-clause-token : goal.push-requires-clause-token
push-requires-clause-token c = (token_stands c.args.bytes.now (token_of c.in-Some.token) c.in-Some.rest.now c.in-Some.ensures.some).token

pub push-requires-clause-spelling : goal.push-requires-clause-spelling
push-requires-clause-spelling c = take-front c.args.bytes.now (token_text (token_of c.in-Some.token)) c.in-Some.rest.now (token_stands c.args.bytes.now (token_of c.in-Some.token) c.in-Some.rest.now c.in-Some.ensures.some).in_front

pub returns-in_err-push-clause-fault : goal.returns-in_err-push-clause-fault
returns-in_err-push-clause-fault c =
    let p = err_from_is_err_and c.from_residual-in_err-push.result c.from_residual-in_err-push.ensures.1 in
    rw (p.1, p.2) (step-refused c.args.self.now.digits c.args.at c.args.self.now.nesting c.pass.new.self c.args.bytes.now (token_of c.in-Some.token) c.in-Some.rest.now c.args.self.now.text.items c.in_err-push.field-0.0 c.in-Some.ensures.some c.in_ok-pass.ensures.ok (rw (← c.unit-unit.ensures) c.in_err-push.ensures.fault))

pub returns-clause-ok : goal.returns-clause-ok
returns-clause-ok c = step-some c.args.self.now.digits c.args.at c.args.self.now.nesting c.pass.new.self c.args.bytes.now (token_of c.in-Some.token) c.in-Some.rest.now c.args.self.now.text.items c.push.new.text.items c.in-Some.ensures.some c.in_ok-pass.ensures.ok (rw (← c.unit-unit.ensures) c.in_ok-push.ensures.ok)

pub returns-clause-shorter : goal.returns-clause-shorter
returns-clause-shorter c =
    let some = (token_stands c.args.bytes.now (token_of c.in-Some.token) c.in-Some.rest.now c.in-Some.ensures.some).some in
    omega (arith, token_in_front-shorter c.args.bytes.now (token_of c.in-Some.token) c.in-Some.rest.now c.in-Some.ensures.some)

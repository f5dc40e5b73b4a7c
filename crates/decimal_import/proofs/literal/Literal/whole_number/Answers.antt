use Rattle.decimal_import.proofs.Wholes.{whole_number-zero, whole_number-negative, whole_number-within, whole_number-past, pos_of-test}
use Rattle.decimal_import.specs.Rounding.{coefficient}
use Rattle.decimal_import.specs.View.{literal_of}
use Rattle.decimal_import.proofs.literal.Literal.whole_number.Goals as goal

pub returns-then-is_zero-clause-ok : goal.returns-then-is_zero-clause-ok
returns-then-is_zero-clause-ok c = whole_number-zero c.args.digits c.args.at (literal_of c.args.self.now) (c.is_zero.ensures.0 c.if-is_zero.true)

pub rounded_up-requires-clause-some : goal.rounded_up-requires-clause-some
rounded_up-requires-clause-some c = pos_of-test (coefficient (literal_of c.args.self.now)) c.is_zero.result c.is_zero.ensures.1 c.if-is_zero.false

pub returns-then-self-clause-err : goal.returns-then-self-clause-err
returns-then-self-clause-err c =
    whole_number-negative c.args.digits c.args.at (literal_of c.args.self.now)
    (pos_of-test (coefficient (literal_of c.args.self.now)) c.is_zero.result c.is_zero.ensures.1 c.if-is_zero.false) c.if-self.true

pub returns-in-Some-clause-ok : goal.returns-in-Some-clause-ok
returns-in-Some-clause-ok c =
    whole_number-within c.args.digits c.args.at c.in-Some.number (literal_of c.args.self.now)
    (pos_of-test (coefficient (literal_of c.args.self.now)) c.is_zero.result c.is_zero.ensures.1 c.if-is_zero.false) c.if-self.false c.in-Some.ensures.some.0 c.in-Some.ensures.some.1

pub returns-in-None-clause-err : goal.returns-in-None-clause-err
returns-in-None-clause-err c =
    whole_number-past c.args.digits c.args.at (literal_of c.args.self.now)
    (pos_of-test (coefficient (literal_of c.args.self.now)) c.is_zero.result c.is_zero.ensures.1 c.if-is_zero.false) c.if-self.false c.in-None.ensures.none

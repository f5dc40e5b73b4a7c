use Rattle.std.proofs.Common.{inl, inr, arith}
use Rattle.std.proofs.lemmas.Result.{IfOk-weaker}
use Rattle.decimal_import.proofs.Conversions.{converted_from-IsConverted}
use Rattle.decimal_import.proofs.Faults.{not_too_long, not_digits}
use Rattle.decimal_import.proofs.conversion.convert.Goals as goal

pub returns-clause-too_long : goal.returns-clause-too_long
returns-clause-too_long c = λ len. (
  λ is. absurd (not_too_long (record { time = c.args.time_digits; energy = c.args.energy_digits }) c.args.bytes.now len _ c.convert_tokens.result c.convert_tokens.ensures.fault is),
  λ both. let same = both.0 in let past = both.1 in absurd (omega arith),
)

pub returns-clause-digits : goal.returns-clause-digits
returns-clause-digits c = (
  λ is. absurd (not_digits (record { time = c.args.time_digits; energy = c.args.energy_digits }) c.args.bytes.now _ c.convert_tokens.result c.convert_tokens.ensures.fault is),
  λ both. absurd (elim both.1 [ inl time ↦ omega arith | inr energy ↦ omega arith ]),
)

pub returns-clause-converted : goal.returns-clause-converted
returns-clause-converted c = IfOk-weaker c.convert_tokens.result _ _ (λ text is. converted_from-IsConverted c.args.time_digits c.args.energy_digits c.args.bytes.now text.items is) c.convert_tokens.ensures.ok

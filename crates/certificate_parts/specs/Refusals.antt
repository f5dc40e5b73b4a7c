-- What a refused text is told as.
use Rattle.std.specs.Prelude.{Result, Ok, Err}
use Rattle.ev_text.specs.declared.TextFault.{TextFault}
use Rattle.ev_text.specs.declared.TextFault.TheVariants.{NotWhole, TooLarge, Word, End}
use Rattle.route_plan.specs.declared.text.plan_text.PlanText.{PlanText}
use Rattle.route_plan.specs.declared.text.plan_text.PlanText.TheVariants as plan
use Rattle.certificate_parts.specs.declared.cert_text.CertText.{CertText}
use Rattle.certificate_parts.specs.declared.cert_text.CertText.TheVariants.{Memory, Range, Text, TooLong}

-- a fault of the text: a number out of range, or no text of a certificate
abbrev pub as_refusal : TextFault → CertText
as_refusal (NotWhole at) = Text at
as_refusal (TooLarge at) = Range at
as_refusal (Word at) = Text at
as_refusal (End at) = Text at

-- the same of the fault of a plan
abbrev pub of_plan : PlanText → CertText
of_plan (plan.Bad fault) = as_refusal fault
of_plan (plan.TooLong len) = TooLong len
of_plan plan.Memory = Memory

abbrev pub or_refused : {A : Type 0} → Result A TextFault → Result A CertText
or_refused (Ok value) = Ok value
or_refused (Err fault) = Err (as_refusal fault)

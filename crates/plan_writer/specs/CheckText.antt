-- What `check` puts: that a plan and a certificate are accepted, with cost, bound and gap, or the first broken rule.
use Rattle.std.specs.Prelude.{◌≢◌, ℕ, ◌++◌, ◌∷◌, [], List, Option, decimal, codes}
use Rattle.certificate_check.specs.declared.verdict.Verdict.{Verdict}
use Rattle.certificate_check.specs.declared.verdict.Verdict.TheVariants as verdict
use Rattle.report_lines.specs.Lines.{IsBoundOf, bounds_text}
use Rattle.refusal_lines.specs.RejectedText.{rejected_text}
use Rattle.plan_writer.specs.declared.check.Judgement.{Judgement}
use Rattle.plan_writer.specs.declared.check.Judgement.TheVariants.{Accepted, Certificate, Plan}

-- the number of the rule that a certificate breaks, and the section, label, node or leaf that breaks it. No rule is broken by
-- one that is accepted; the text is empty here
abbrev pub verdict_text : Verdict → List ℕ
verdict_text verdict.Accepted = []
verdict_text (verdict.Start section) = codes "1 section " ++ decimal section
verdict_text (verdict.Step section label node) =
    codes "2 section " ++ decimal section ++ codes " label " ++ decimal label
    ++ codes " node " ++ decimal node
verdict_text (verdict.End section label) =
    codes "3 section " ++ decimal section ++ codes " label " ++ decimal label
verdict_text (verdict.Pairs leaf) = codes "4 leaf " ++ decimal leaf
verdict_text (verdict.Bound leaf) = codes "5 leaf " ++ decimal leaf
verdict_text verdict.Root = codes "6"

-- what is accepted has no bound above its cost, and a broken rule of a certificate is one
abbrev pub IsJudged : Judgement → Type 0
IsJudged (Accepted cost bound) = IsBoundOf cost bound
IsJudged (Plan fault) = Unit {0}
IsJudged (Certificate found) = found ≢ verdict.Accepted

-- a line `accepted`, and what the plan costs, the bound of the certificate, and how far this is below it
abbrev pub accepted_text : ℕ → Option ℕ → Option ℕ → List ℕ
accepted_text denominator cost bound =
    codes "accepted" ++ 10 ∷ bounds_text denominator cost bound

abbrev pub check_text : ℕ → Judgement → List ℕ
check_text denominator (Accepted cost bound) = accepted_text denominator cost bound
check_text denominator (Plan fault) = rejected_text fault
check_text denominator (Certificate found) =
    codes "rejected certificate " ++ verdict_text found ++ 10 ∷ []

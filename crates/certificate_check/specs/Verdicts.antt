-- What the verdict on a certificate says.
use Rattle.ev_model.specs.Network.{Network}
use Rattle.fleet_model.specs.ClosedListRules.{at_home, at_start, at_step}
use Rattle.bound_certificate.specs.declared.certificate.Certificate.{Certificate}
use Rattle.certificate_check.specs.Accepted.{IsAccepted}
use Rattle.certificate_check.specs.Rules.{at_bound, at_pairs, at_root, in_section, IsFirstBroken}
use Rattle.certificate_check.specs.declared.verdict.Verdict.{Verdict}
use Rattle.certificate_check.specs.declared.verdict.Verdict.TheVariants.{Accepted, Bound, End, Pairs, Root, Start, Step}

-- the certificate is accepted, or the verdict names the first rule that it breaks
abbrev pub IsVerdict : Network → Certificate → Verdict → Type 0
IsVerdict g c Accepted = IsAccepted g c
IsVerdict g c (Start section) = IsFirstBroken g c (in_section section at_start)
IsVerdict g c (Step section label node) =
    IsFirstBroken g c (in_section section (at_step label node))
IsVerdict g c (End section label) = IsFirstBroken g c (in_section section (at_home label))
IsVerdict g c (Pairs leaf) = IsFirstBroken g c (at_pairs leaf)
IsVerdict g c (Bound leaf) = IsFirstBroken g c (at_bound leaf)
IsVerdict g c Root = IsFirstBroken g c at_root

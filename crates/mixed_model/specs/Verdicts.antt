-- The verdict on a proof for several kinds of vehicles: that it is accepted, or the first rule that
-- it breaks.
use Rattle.std.specs.Prelude.{List}
use Rattle.ev_model.specs.Network.{Network}
use Rattle.fleet_model.specs.ClosedListRules.{at_home, at_start, at_step}
use Rattle.mixed_model.specs.Accepted.{IsMixedAccepted}
use Rattle.mixed_model.specs.Broken.{at_bound, at_root, in_kind, IsFirstBroken}
use Rattle.mixed_model.specs.declared.proof.MixedProof.{MixedProof}
use Rattle.mixed_model.specs.declared.verdict.MixedVerdict.{MixedVerdict}
use Rattle.mixed_model.specs.declared.verdict.MixedVerdict.TheVariants.{Accepted, Bound, End, Root, Start, Step}

abbrev pub IsVerdict : List Network → MixedProof → MixedVerdict → Type 0
IsVerdict kinds p Accepted = IsMixedAccepted kinds p
IsVerdict kinds p (Start kind) = IsFirstBroken kinds p (in_kind kind at_start)
IsVerdict kinds p (Step kind label node) = IsFirstBroken kinds p (in_kind kind (at_step label node))
IsVerdict kinds p (End kind label) = IsFirstBroken kinds p (in_kind kind (at_home label))
IsVerdict kinds p Bound = IsFirstBroken kinds p at_bound
IsVerdict kinds p Root = IsFirstBroken kinds p at_root

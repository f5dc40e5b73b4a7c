-- The verdict on a near proof: that it is accepted, or the first rule that it breaks.
use Rattle.ev_model.specs.Network.{Network}
use Rattle.near_proof.specs.Accepted.{IsAccepted}
use Rattle.near_proof.specs.Broken.{at_bound, at_home, at_start, at_step, at_tight, IsFirstBroken}
use Rattle.near_proof.specs.declared.proof.NearProof.{NearProof}
use Rattle.near_proof.specs.declared.verdict.NearVerdict.{NearVerdict}
use Rattle.near_proof.specs.declared.verdict.NearVerdict.TheVariants.{Accepted, Bound, End, Start, Step, Tight}

abbrev pub IsVerdict : Network → NearProof → NearVerdict → Type 0
IsVerdict g p Accepted = IsAccepted g p
IsVerdict g p Start = IsFirstBroken g p at_start
IsVerdict g p (Step label node) = IsFirstBroken g p (at_step label node)
IsVerdict g p (End label) = IsFirstBroken g p (at_home label)
IsVerdict g p Bound = IsFirstBroken g p at_bound
IsVerdict g p (Tight customer) = IsFirstBroken g p (at_tight customer)

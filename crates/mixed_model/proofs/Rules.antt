-- No rule of an accepted proof is broken.
use Rattle.std.specs.Prelude.{List}
use Rattle.ev_model.specs.Network.{Network}
use Rattle.fleet_model.proofs.Rules.{closed_by_rules}
use Rattle.mixed_model.specs.Accepted.{IsMixedAccepted}
use Rattle.mixed_model.specs.Broken.{at_bound, at_root, in_kind, IsBroken, Place}
use Rattle.mixed_model.specs.Kinds.{network_of}
use Rattle.mixed_model.specs.Meaning.{section_of}
use Rattle.mixed_model.specs.declared.proof.MixedProof.{MixedProof}

pub not_broken : (kinds : List Network) (p : MixedProof) (at : Place) → IsMixedAccepted kinds p → IsBroken kinds p at → ⊥
not_broken kinds p (in_kind kind fault) accepted broken = (closed_by_rules (network_of kinds kind) (section_of p kind)).0 (accepted.closed kind broken.0) fault broken.1
not_broken kinds p at_bound accepted broken = broken accepted.bound
not_broken kinds p at_root accepted broken = broken accepted.root

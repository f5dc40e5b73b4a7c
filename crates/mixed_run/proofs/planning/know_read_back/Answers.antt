use Rattle.std.proofs.Common.{refl}
use Rattle.mixed_run.proofs.planning.know_read_back.Goals as goal

pub returns : goal.returns
returns c =
    λ short. record {
      read = c.written_mixed_proofs_are_read.ensures c.args.kinds.now c.requires.networks c.requires.kinds c.args.proof.now c.requires.fits short;
      spelled = record { fits = c.requires.fits; kept = c.requires.kept; text = refl };
    }

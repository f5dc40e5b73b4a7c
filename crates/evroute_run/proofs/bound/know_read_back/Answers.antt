use Rattle.std.proofs.Common.{refl}
use Rattle.evroute_run.proofs.bound.know_read_back.Goals as goal

pub returns : goal.returns
returns c =
    let g = c.args.inst.now in
    let p = c.args.proof.now in
    λ short. record {
      read = c.written_near_proofs_are_read.ensures g c.nodes-nodes.ensures.network c.requires.few p c.requires.fits short;
      spelled = record { fits = c.requires.fits; kept = c.requires.kept; text = refl };
    }

use Rattle.evroute_run.proofs.planning.know_read_back.Goals as goal

pub returns : goal.returns
returns c =
    λ short. record {
      read = c.written_certificates_are_read.ensures c.args.inst.now c.requires.network c.requires.few c.args.cert.now c.requires.fits short;
      fits = c.requires.fits;
      kept = c.requires.kept;
    }

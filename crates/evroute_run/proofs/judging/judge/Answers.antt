use Rattle.std.proofs.Common.{rules}
use Rattle.std.specs.Option.{option_map}
use Rattle.certificate_check.specs.Truth.{IsTrueCertificate}
use Rattle.evroute_run.proofs.AcceptedCertificates.{is_bound_of_cost}
use Rattle.evroute_run.proofs.judging.judge.Goals as goal

pub returns-in-Accepted-clause-bound : goal.returns-in-Accepted-clause-bound
returns-in-Accepted-clause-bound c =
    let shows : IsTrueCertificate c.args.inst.now c.args.cert.now = search rules in
    is_bound_of_cost c.args.inst.now (option_map (λ p. p.now) c.args.plan) c.in-Ok.cost c.args.cert.now.bound c.in-Ok.ensures.ok shows.bound

use Rattle.certificate_check.proofs.Truths.{shown}
use Rattle.certificate_check.proofs.judge.check_certificate.Goals as goal

pub returns-clause-shows : goal.returns-clause-shows
returns-clause-shows c = shown c.args.inst.now c.args.cert.now c.verdict_on.result c.nodes-nodes.ensures.network c.requires.fits c.verdict_on.ensures

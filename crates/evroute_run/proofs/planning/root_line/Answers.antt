use Rattle.std.proofs.Common.{◌≡◌, List, subst, arith}
use Rattle.std.proofs.lemmas.Grind.{common_steps}
use Rattle.std.specs.Prelude.{get_or}
use Rattle.bound_certificate.specs.declared.certificate.Section.{Section}
use Rattle.evroute_run.proofs.SearchReports.{first_stands, tells_exact}
use Rattle.evroute_run.proofs.planning.root_line.Goals as goal

pub returns-in-Exact-clause-told : goal.returns-in-Exact-clause-told
returns-in-Exact-clause-told c =
    let cert = c.args.cert.now in
    let s = c.index-sections-0.result in
    let is = subst (λ (ss : List Section). s ≡ get_or ss 0 s) c.as_slice-sections.ensures c.index-sections-0.is in
    tells_exact c.args.inst.now cert c.in-Exact.over c.in-Exact.shares s c.exact_line.result c.requires.network c.requires.fits c.requires.accepted c.in-Exact.is
    (first_stands cert.sections s c.requires.fits.some is) c.exact_line.ensures.value

pub exact_line-requires-clause-fits : goal.exact_line-requires-clause-fits
exact_line-requires-clause-fits = grind (arith, common_steps)

use Rattle.std.proofs.Common.{arith}
use Rattle.std.proofs.lemmas.Grind.{common_steps}
use Rattle.bound_certificate.proofs.certificate.Certificate.fits.Goals as goal

pub returns-else-lines_fit : goal.returns-else-lines_fit
returns-else-lines_fit = grind (arith, common_steps)

pub returns-then-lines_fit : goal.returns-then-lines_fit
returns-then-lines_fit = grind (arith, common_steps)

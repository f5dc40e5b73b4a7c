use Rattle.std.proofs.Common.{◌≡◌, ◌↔◌, [], length, drop, arith}
use Rattle.std.proofs.lemmas.Bool.Decides.{nat_tests}
use Rattle.ev_text.proofs.Readings.{at_end}
use Rattle.ev_text.proofs.scan.Scan.is_end.Goals as goal

pub returns-clause-rest : goal.returns-clause-rest
returns-clause-rest c =
    let text = c.self.inside.bytes.now in
    let place = c.self.inside.at in
    let ends : (place ≡ length text) ↔ (drop place text ≡ []) = at_end text place c.self.invariant in
    rw (← c.self.view_is) (λ test. ends.0 (grind (arith, nat_tests)), λ none. let same = ends.1 none in grind (arith, nat_tests))

use Rattle.std.proofs.Common.{◌≤◌, List, length, subst, sym, arith}
use Rattle.std.proofs.lemmas.Grind.{common_steps}
use Rattle.std.specs.List.{All}
use Rattle.ng_pricing.specs.declared.met.MetRoute.{MetRoute}
use Rattle.ng_pricing.proofs.PriceLimits.{all_few}
use Rattle.ng_pricing.proofs.setting.Setting.first_limit.Goals as goal

pub least_limit-requires-clause-few : goal.least_limit-requires-clause-few
least_limit-requires-clause-few c =
    subst (λ (ms : List MetRoute). All (λ (r : MetRoute). length r.numbers ≤ 128) ms) (sym c.as_slice.ensures.value)
    (all_few c.args.self.now.inst.now c.args.self.now.sets.now c.meet_own.new.met.items c.requires.setting.few c.in_ok-meet_own.ensures)

pub sought_limit-requires-clause-open : goal.sought_limit-requires-clause-open
sought_limit-requires-clause-open = grind (arith, common_steps)

pub least_limit-requires-clause-known : goal.least_limit-requires-clause-known
least_limit-requires-clause-known = grind (arith, common_steps)

pub returns-in-Some-clause-first : goal.returns-in-Some-clause-first
returns-in-Some-clause-first = grind (arith, common_steps)

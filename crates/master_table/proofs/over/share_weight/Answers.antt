use Rattle.std.proofs.Common.{◌≡◌, ◌<◌, ◌≤◌, arith, rules, subst}
use Rattle.ev_units.specs.Units.{IsLcm, IsLcmPast}
use Rattle.master_table.specs.Tableau.{size}
use Rattle.master_table.proofs.Bases.{body_some}
use Rattle.master_table.proofs.BasisShares.{first_weight, next_weight, weight_past}
use Rattle.master_table.proofs.over.share_weight.Goals as goal

pub loop-row-init : goal.loop-row-init
loop-row-init c = record {
  weight = first_weight c.args.t.now;
  within = body_some c.args.t.now c.rows-row-end.ensures.tableau c.rows-row-end.ensures.within;
}

pub returns-in_default-clause-past : goal.returns-in_default-clause-past
returns-in_default-clause-past c e =
    let limit : c.from-limit.result ≡ c.args.t.now.caps.body = search rules in
    let inside : c.loop-row.row < size c.args.t.now = search (rules, arith) in
    let past : IsLcmPast c.from-limit.result c.loop-row.over c.divisor.result = search rules in
    weight_past c.args.t.now c.rows-row-end.ensures.tableau c.args.t.now.caps.body c.loop-row.row c.loop-row.over c.divisor.result inside c.loop-row.invariant.weight c.divisor.ensures.some c.divisor.ensures.value
    (subst (λ cap. IsLcmPast cap c.loop-row.over c.divisor.result) limit past)

pub loop-row-preserved : goal.loop-row-preserved
loop-row-preserved c =
    let limit : c.from-limit.result ≡ c.args.t.now.caps.body = search rules in
    let lcm : IsLcm c.loop-row.over c.divisor.result c.in-Some.next = search rules in
    let within : c.in-Some.next ≤ c.from-limit.result = search rules in
    record {
      weight = next_weight c.args.t.now c.loop-row.row c.loop-row.over c.divisor.result c.in-Some.next c.loop-row.invariant.weight c.divisor.ensures.some c.divisor.ensures.value lcm;
      within = subst (λ cap. c.in-Some.next ≤ cap) limit within;
    }

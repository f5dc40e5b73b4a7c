use Rattle.std.proofs.Common.{◌∙◌, ◌+◌, ◌-◌, ◌≤◌, ◌^◌, ap, subst, arith}
use Rattle.std.proofs.Math.Nat.{min-le_left}
use Rattle.charge_curve.specs.Points.{last_level}
use Rattle.ev_model.specs.Network.{energy}
use Rattle.route_steps.specs.Trips.{Journey}
use Rattle.label_steps.specs.Arrivals.{drive_time}
use Rattle.frvcp_labels.specs.Search.{Reached}
use Rattle.frvcp_labels.proofs.ChargedStates.{highest_there, none_there_low}
use Rattle.frvcp_labels.proofs.trip.Trip.highest_sight.Goals as goal

pub returns-then-top-energy : goal.returns-then-top-energy
returns-then-top-energy c _ =
    let less = c.if-top-energy.true in
    let energy = c.energy-energy.ensures in
    none_there_low c.args.self.now c.args.pool.now.labels c.args.from.now c.args.passed c.args.to c.highest-top.result c.points.ensures.valid (c.highest-top.ensures ∙ ap last_level c.points.ensures.value) (omega (arith, less, energy))

pub returns : goal.returns
returns c is =
    let early : c.saturating_add-time.result ≤ c.least_from-least.result + drive_time c.args.self.now.network c.args.from.now.node c.args.to =
    (let sum = c.saturating_add-time.ensures in
    let drive = c.drive_time.ensures.value in
    let most = min-le_left (c.least_from-least.result + c.drive_time.result) (2 ^ 64 - 1) in
    omega (arith, sum, most, drive)) in
    let enough : c.saturating_add-lowest.result ≤ energy c.args.self.now.network c.args.from.now.node c.args.to + c.args.self.now.network.reserve =
    (let sum = c.saturating_add-lowest.ensures in
    let own = c.energy-energy.ensures in
    let reserve = c.min_q.ensures.value ∙ ap (λ (j : Journey). j.network.reserve) c.self.view_is in
    let most = min-le_left (c.energy-energy.result + c.min_q.result) (2 ^ 64 - 1) in
    omega (arith, sum, most, own, reserve)) in
    highest_there c.args.self.now c.args.pool.now.labels c.args.from.now c.args.passed c.args.to c.highest-top.result c.least_from-least.result c.saturating_add-time.result c.points.ensures.valid (c.highest-top.ensures ∙ ap last_level c.points.ensures.value)
    (λ high there arrives. c.least_from-least.ensures high there (omega (arith, enough, arrives))) early
    (subst (λ e. Reached c.args.pool.now.labels (record { passed = c.args.passed; node = c.args.to; level = c.highest-top.result - e; time = c.saturating_add-time.result })) c.energy-energy.ensures (c.sight.ensures is))

use Rattle.std.proofs.Common.{◌∙◌, ◌&&◌, ◌-◌, ap, false, get_or, length, sym}
use Rattle.ev_model.specs.declared.Stop.{Stop}
use Rattle.route_plan.specs.Walking.{is_end}
use Rattle.route_plan.proofs.Ends.{ends_pass-two}
use Rattle.route_plan.proofs.walking.both_ends.Goals as goal

pub returns-then-is_end : goal.returns-then-is_end
returns-then-is_end c =
    let d : Stop = record { node = 0; added = 0; via = false } in
    let last = is_end (get_or c.args.stops.now (length c.args.stops.now - 1) d) in
    c.is_end-then-is_end.ensures ∙ ap (λ b. b && last) c.if-is_end.ensures ∙ sym (ends_pass-two is_end c.args.stops.now d c.if-stops-lt2.false)

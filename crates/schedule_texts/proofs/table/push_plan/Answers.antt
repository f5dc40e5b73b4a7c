use Rattle.std.proofs.Common.{◌≡◌, ◌∙◌, ℕ, ◌++◌, List, ap, codes}
use Rattle.plan_schedule.specs.declared.schedule.RouteSchedule.{RouteSchedule}
use Rattle.ev_text.specs.Texts.{joined_texts}
use Rattle.schedule_texts.specs.Tables.{route_text, sums_text}
use Rattle.schedule_texts.specs.Tables.{plan_text}
use Rattle.schedule_texts.proofs.Joined.{join}
use Rattle.schedule_texts.proofs.table.push_plan.Goals as goal

pub returns : goal.returns
unfolding plan_text
returns c =
    let x = c.args.out.now.items in
    let a1 : List ℕ = joined_texts (route_text c.args.columns c.args.places.now) c.args.schedule.now.routes in
    let y1 = c.push_routes.new.out.items in
    let a2 : List ℕ = codes "total of the plan: " in
    let y2 = c.push_word.new.out.items in
    let a3 : List ℕ = sums_text c.args.columns c.args.schedule.now.totals in
    let y3 = c.push_sums.new.out.items in
    let e1 : y1 ≡ x ++ a1 = c.in_ok-push_routes.ensures ∙ ap (λ (w : List ℕ). x ++ w) (ap (λ (rs : List RouteSchedule). joined_texts (route_text c.args.columns c.args.places.now) rs) c.as_slice.ensures) in
    let e2 : y2 ≡ y1 ++ a2 = c.in_ok-push_word.ensures.ok in
    let e3 : y3 ≡ y2 ++ a3 = c.in_ok-push_sums.ensures in
    let t2 = join x y1 y2 (a1) a2 e1 e2 in
    let t3 = join x y2 y3 (a1 ++ a2) a3 t2 e3 in
    t3

use Rattle.std.proofs.Common.{◌≡◌, ◌∙◌, ℕ, Option, ap, subst, arith}
use Rattle.std.specs.Prelude.{IfSome}
use Rattle.dominance.specs.LevelTimes.{IsLevel, time_at}
use Rattle.piece_fn.specs.PieceFn.{level_times}
use Rattle.frvcp_labels.proofs.FirstLevel.{first_is_least, higher_is_later}
use Rattle.frvcp_labels.proofs.there.least_from.Goals as goal

pub returns-in-Some : goal.returns-in-Some
returns-in-Some c high is up =
    let v = level_times c.args.value.now in
    let has = subst (λ (o : Option ℕ). IfSome o (λ time. IsLevel (level_times c.args.value.now) c.args.level × (time ≡ time_at (level_times c.args.value.now) c.args.level))) c.in-Some.is c.at-found.ensures.some in
    let later = higher_is_later v c.least-least.ensures.valid c.args.level high has.0 is up in
    omega (arith, has.1, later)

pub returns-in-None : goal.returns-in-None
returns-in-None c high is up =
    let least = first_is_least (level_times c.args.value.now) c.least-least.ensures.valid high is in
    let time = c.least-least.ensures.time ∙ ap (λ x. time_at (level_times c.args.value.now) x) c.least-least.ensures.level in
    omega (arith, least, time)

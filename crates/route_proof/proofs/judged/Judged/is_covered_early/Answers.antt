use Rattle.std.proofs.Common.{◌∙◌, ap, arith}
use Rattle.dominance.specs.LevelTimes.{time_at}
use Rattle.ev_model.specs.Network.{Network}
use Rattle.label_steps.specs.Arrivals.{drive_time}
use Rattle.piece_fn.specs.PieceFn.{level_times}
use Rattle.std.specs.Prelude.{nat_eq}
use Rattle.route_proof.proofs.Early.{full_step, past_step}
use Rattle.route_proof.proofs.judged.Judged.is_covered_early.Goals as goal

pub returns-then-bar-time : goal.returns-then-bar-time
returns-then-bar-time c is =
    let l = c.args.label.now in
    let drive = c.drive_time-drive.ensures.value ∙ ap (λ (g : Network). drive_time g c.args.label.now.node c.args.to.node) c.instance.ensures.value in
    let least = c.least-least.ensures.time ∙ ap (λ y. time_at (level_times c.args.label.now.value) y) c.least-least.ensures.level in
    past_step c.args.self.now l c.args.to c.requires.label.valid c.saturating_add-time.result (omega (arith, c.saturating_add-time.ensures, drive, least)) (nat_eq c.args.label.now.passed c.args.to.passed) (omega (arith, c.if-bar-time.true, c.bar.ensures))

pub returns : goal.returns
returns c is =
    let l = c.args.label.now in
    let drive = c.drive_time-drive.ensures.value ∙ ap (λ (g : Network). drive_time g c.args.label.now.node c.args.to.node) c.instance.ensures.value in
    let least = c.least-least.ensures.time ∙ ap (λ y. time_at (level_times c.args.label.now.value) y) c.least-least.ensures.level in
    full_step c.args.self.now l c.args.to c.requires.label.valid c.saturating_add-time.result (omega (arith, c.saturating_add-time.ensures, drive, least)) c.requires.next (c.is_full_by.ensures is)

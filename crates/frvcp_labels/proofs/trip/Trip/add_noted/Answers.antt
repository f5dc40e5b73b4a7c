use Rattle.std.proofs.Common.{◌≡◌, ◌<◌, subst, sym}
use Rattle.std.specs.Prelude.{IfSome}
use Rattle.dominance.specs.LevelTimes.{IsLevel, time_at}
use Rattle.piece_fn.specs.PieceFn.{level_times}
use Rattle.frvcp_labels.proofs.FullBattery.{full_added}
use Rattle.frvcp_labels.proofs.trip.Trip.add_noted.Goals as goal

pub note-requires : goal.note-requires
note-requires c = subst (λ n. c.bucket-bucket.result < n) (sym c.requires.full.count) c.bucket-bucket.ensures.within

pub returns-clause-full : goal.returns-clause-full
returns-clause-full c =
    full_added c.args.self.now c.args.pool.now.labels c.add.new.pool.labels c.args.full.now c.note.new.full c.args.state c.at-full_by.result c.bucket-bucket.result c.requires.full c.in_ok-add.ensures.grown c.in_ok-add.ensures.reached
    c.requires.state.node c.bucket-bucket.ensures.value
    (subst (λ q. IfSome c.at-full_by.result (λ time. IsLevel (level_times c.args.state.value) q × (time ≡ time_at (level_times c.args.state.value) q))) c.capacity.ensures c.at-full_by.ensures.some) c.note.ensures.count c.note.ensures.noted

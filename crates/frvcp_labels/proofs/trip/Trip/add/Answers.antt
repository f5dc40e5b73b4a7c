use Rattle.std.proofs.Common.{false, refl, true, arith}
use Rattle.std.proofs.lemmas.Grind.{elements}
use Rattle.label_pool.specs.declared.label.Label.{Label}
use Rattle.route_steps.specs.declared.state.State.{State}
use Rattle.frvcp_labels.proofs.MoreLabels.{IsAdded, added_is, new_sound}
use Rattle.frvcp_labels.proofs.LevelPlans.{origin_plans}
use Rattle.frvcp_labels.proofs.trip.Trip.add.Goals as goal

abbrev label : goal.In_ok-add → Label State
label c = record { bucket = c.bucket-bucket.result; value = c.args.state; key = c.key-key.result; parent = c.args.parent; live = true; settled = false }

whole : (c : goal.In_ok-add) → IsAdded c.args.self.now c.args.pool.now c.add.new.self c.args.state
whole c =
    added_is c.args.self.now c.args.pool.now c.add.new.self (label c) c.in_ok-add.field-0 c.requires.pool
    (new_sound c.args.self.now c.args.pool.now.labels c.args.state c.bucket-bucket.result c.key-key.result c.args.parent c.requires.state c.bucket-bucket.ensures.value c.key-key.ensures.valid c.key-key.ensures.below c.key-key.ensures.home c.requires.origin
    (origin_plans c.args.self.now c.args.pool.now.labels c.args.parent c.args.state c.requires.pool.trip c.requires.pool.labels c.requires.origin))
    refl c.in_ok-add.ensures.unchanged c.in_ok-add.ensures.added c.in_ok-add.ensures.own c.in_ok-add.ensures.keeps

pub returns-clause-pool : goal.returns-clause-pool
returns-clause-pool c = (whole c).pool

pub returns-clause-grown : goal.returns-clause-grown
returns-clause-grown c = (whole c).grown

pub returns-clause-reached : goal.returns-clause-reached
returns-clause-reached c = (whole c).reached

pub returns-clause-only : goal.returns-clause-only
returns-clause-only c = (whole c).only

pub add-requires-clause-parent : goal.add-requires-clause-parent
add-requires-clause-parent = grind (arith, elements)

use Rattle.std.proofs.Common.{Option, refl, subst, sym, ℕ, arith}
use Rattle.std.proofs.lemmas.Grind.{common_steps}
use Rattle.std.specs.Prelude.{IsNone}
use Rattle.frvcp_labels.proofs.SearchTurns.{bar_home, late_home, none_below}
use Rattle.frvcp_labels.proofs.trip.Trip.take_in_time.Goals as goal

pub returns-in_default-clause-none : goal.returns-in_default-clause-none
returns-in_default-clause-none c none = none_below c.args.self.now c.args.pool.now.labels c.args.bar c.requires.spread (c.next_key.ensures.none.0 (subst (λ (o : Option ℕ). IsNone o) (sym c.in_default.is) refl))

pub returns-then-scaled_limit-key-clause-none : goal.returns-then-scaled_limit-key-clause-none
returns-then-scaled_limit-key-clause-none c none =
    let next = c.in-Some.ensures.key in
    late_home c.args.self.now c.args.pool.now.labels c.args.bar c.requires.spread c.scaled_limit.result next.0 c.in-Some.key next.1 c.requires.pool.labels next.2 next.3 c.scaled_limit.ensures.value c.if-scaled_limit-key.true

pub returns-clause-none : goal.returns-clause-none
returns-clause-none = grind (arith, common_steps)

pub returns-then-bar-from-clause-none : goal.returns-then-bar-from-clause-none
returns-then-bar-from-clause-none c none =
    let next = c.in-Some.ensures.key in
    bar_home c.args.self.now c.args.pool.now.labels c.args.bar c.requires.spread next.0 c.in-Some.key next.1 c.requires.pool.labels next.2 next.3 (let is = c.from.ensures in let at_bar = c.if-bar-from.true in omega (arith, is, at_bar))

use Rattle.ev_fleet.specs.Held.{cost_at}
use Rattle.ev_fleet.proofs.SearchSteps.{advanced_search, some_open}
use Rattle.ev_fleet.proofs.state.step.Goals as goal

pub advance-requires-clause-open : goal.advance-requires-clause-open
advance-requires-clause-open c =
    let old = c.args.search.now in
    some_open c.args.inst.now old.tree old.sections.items (cost_at old.held) c.requires.searching.search c.requires.promising

pub returns-clause-searching : goal.returns-clause-searching
returns-clause-searching c =
    advanced_search c.args.inst.now c.args.search.now c.advance.new.search c.in_ok-advance.field-0 c.requires.searching c.requires.promising c.in_ok-advance.ensures.advanced

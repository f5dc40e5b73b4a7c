use Rattle.bound_certificate.specs.Ranges.{customer_count}
use Rattle.ev_fleet.proofs.SearchStarts.{begun, root_open}
use Rattle.ev_fleet.proofs.state.begin.Goals as goal

pub advance-requires-clause-open : goal.advance-requires-clause-open
advance-requires-clause-open c = root_open (customer_count c.args.inst.now) c.in_ok-search.search.tree c.in_ok-search.ensures.root

pub returns : goal.returns
returns c = begun c.args.inst.now c.in_ok-search.search c.advance.new.search c.in_ok-root.root c.in_ok-search.ensures c.in_ok-root.ensures.advanced

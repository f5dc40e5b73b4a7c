use Rattle.bound_certificate.proofs.TreeLines.{whole_where_closed}
use Rattle.bound_certificate.proofs.ranges.tree.is_whole_tree.Goals as goal

pub returns : goal.returns
returns c =
    let whole = whole_where_closed c.args.lines.now in
    (λ yes. whole.0 (c.closes.ensures.0 yes), λ is. c.closes.ensures.1 (whole.1 is))

use Rattle.std.proofs.Common.{subst, sym, ◌+◌}
use Rattle.label_pool.specs.Labels.{IsFirstLive, IsLive, Labels}
use Rattle.label_pool.proofs.Ties.{next_live_is}
use Rattle.label_pool.proofs.pool.Pool.next_live.Goals as goal

pub next-requires : goal.next-requires
next-requires g c =
    let is = subst (λ (p : Labels g.row.V.Denot). IsLive p.labels c.requires.0 c.args.i) (sym c.self.view_is) c.requires.1 in
    (c.requires.0, (c.self.invariant.listed c.requires.0 c.args.i).1 is)

pub returns : goal.returns
returns g c bucket is =
    let here = subst (λ (p : Labels g.row.V.Denot). IsLive p.labels bucket c.args.i) (sym c.self.view_is) is in
    subst (λ (p : Labels g.row.V.Denot). IsFirstLive p.labels bucket (c.args.i + 1) c.next.result) c.self.view_is
    (next_live_is c.self.inside.labels.items c.self.inside.live c.self.inside.queue bucket c.args.i c.next.result c.self.invariant c.next.ensures.next here)

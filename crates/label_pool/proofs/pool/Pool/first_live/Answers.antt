use Rattle.std.proofs.Common.{[], subst, arith, refl}
use Rattle.index_links.specs.Lists.{list_at}
use Rattle.label_pool.specs.Labels.{IsFirstLive, Labels}
use Rattle.label_pool.proofs.Ties.{first_live_is}
use Rattle.label_pool.proofs.pool.Pool.first_live.Goals as goal

pub returns : goal.returns
returns g c =
    let live = c.self.inside.live in
    let tied = c.self.invariant in
    subst (λ (p : Labels g.row.V.Denot). IsFirstLive p.labels c.args.bucket 0 c.first.result) c.self.view_is
    (first_live_is c.self.inside.labels.items live c.args.bucket 0 [] (list_at live.lists c.args.bucket) c.first.result (tied.rising c.args.bucket) tied.listed refl (λ j m. absurd m) (λ j m. omega arith) c.first.ensures.first)

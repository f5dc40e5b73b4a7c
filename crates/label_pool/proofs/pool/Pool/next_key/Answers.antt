use Rattle.std.proofs.Common.{◌≡◌, ℕ, subst}
use Rattle.std.specs.Prelude.{IfSome, IsNone, ◌↔◌}
use Rattle.label_pool.specs.declared.label.Label.{Label}
use Rattle.label_pool.specs.Labels.{IsNext, Labels, NoneWaits}
use Rattle.label_pool.proofs.Ties.{empty_is_none, next_key_is}
use Rattle.label_pool.proofs.pool.Pool.next_key.Goals as goal

pub returns-clause-none : goal.returns-clause-none
returns-clause-none g c =
    let e = empty_is_none c.self.inside.labels.items c.self.inside.live c.self.inside.queue c.self.invariant in
    subst (λ (p : Labels g.row.V.Denot). IsNone c.least_key.result ↔ NoneWaits p.labels) c.self.view_is
    (λ n. e.0 (c.least_key.ensures.empty.0 n), λ n. c.least_key.ensures.empty.1 (e.1 n))

pub returns-clause-key : goal.returns-clause-key
returns-clause-key g c =
    subst (λ (p : Labels g.row.V.Denot). IfSome c.least_key.result (λ key. (i : ℕ) × (label : Label g.row.V.Denot) × IsNext p.labels i label × (key ≡ label.key))) c.self.view_is
    (next_key_is c.self.inside.labels.items c.self.inside.live c.self.inside.queue c.least_key.result c.self.invariant c.least_key.ensures.least)

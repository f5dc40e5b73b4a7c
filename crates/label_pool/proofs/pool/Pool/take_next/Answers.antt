use Rattle.std.proofs.Common.{◌≡◌, ℕ, List, length, set, sym, ◌∙◌, subst, refl, true, Option, arith}
use Rattle.std.proofs.lemmas.Grind.{common_steps, elements}
use Rattle.std.proofs.lemmas.Bool.{false≢true}
use Rattle.std.proofs.lemmas.Option.{same_Some}
use Rattle.label_pool.specs.declared.label.Label.{Label}
use Rattle.label_pool.specs.Labels.{IsNext, Labels, NoneWaits}
use Rattle.label_pool.specs.Tied.{IsTied}
use Rattle.label_pool.proofs.Elements.{read_at}
use Rattle.label_pool.proofs.Ties.{least_is_next, tied_settled}
use Rattle.label_pool.proofs.pool.Pool.take_next.Goals as goal

pub invariant_of-self-2 : goal.invariant_of-self-2
invariant_of-self-2 g c =
    let labels = c.self.inside.labels.items in
    let next = least_is_next labels c.self.inside.live c.self.inside.queue c.in-Some.i c.in-Some.ensures.least.0 c.self.invariant c.in-Some.ensures.least.1 in
    let label = c.index_mut.result.now in
    subst (λ (q : List (Option ℕ)). IsTied (set labels c.in-Some.i (record label { settled = true })) c.self.inside.live q) (sym c.in-Some.ensures.taken)
    (tied_settled labels c.self.inside.live c.self.inside.queue c.in-Some.i label c.self.invariant (read_at labels c.in-Some.i next.0 label next.1.here c.index_mut.ensures.value))

pub returns-clause-none : goal.returns-clause-none
returns-clause-none g c =
    let labels = c.self.inside.labels.items in
    let next = least_is_next labels c.self.inside.live c.self.inside.queue c.in-Some.i c.in-Some.ensures.least.0 c.self.invariant c.in-Some.ensures.least.1 in (
      λ f. absurd (false≢true (sym f)),
      λ none. absurd (subst (λ (p : Labels g.row.V.Denot). NoneWaits p.labels) (sym c.self.view_is) none c.in-Some.i next.0 next.1.here next.1.waits),
    )

pub returns-clause-next : goal.returns-clause-next
returns-clause-next g c =
    let labels = c.self.inside.labels.items in
    let i = c.in-Some.i in
    let next = least_is_next labels c.self.inside.live c.self.inside.queue i c.in-Some.ensures.least.0 c.self.invariant c.in-Some.ensures.least.1 in
    let label = c.index_mut.result.now in
    let here = read_at labels i next.0 label next.1.here c.index_mut.ensures.value in
    let is = subst (λ (l : Label g.row.V.Denot). IsNext labels i l) (same_Some next.0 label (sym next.1.here ∙ here)) next.1 in
    subst
    (λ (p : Labels g.row.V.Denot). (x : Label g.row.V.Denot) × IsNext p.labels i x × ((record { labels = set labels i (record label { settled = true }); buckets = length c.self.inside.live.lists }) ≡ (record p { labels = set p.labels i (record x { settled = true }) })))
    c.self.view_is (label, is, refl)

pub returns-clause-small : goal.returns-clause-small
returns-clause-small = grind (arith, common_steps)

pub invariant_of-self : goal.invariant_of-self
invariant_of-self = grind (arith, common_steps)

pub returns-in_default-clause-none : goal.returns-in_default-clause-none
returns-in_default-clause-none = grind (arith, common_steps)

pub index_mut-requires : goal.index_mut-requires
index_mut-requires = grind (arith, elements)

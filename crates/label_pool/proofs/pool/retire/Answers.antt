use Rattle.std.proofs.Common.{◌≡◌, ℕ, List, length, sym, ◌∙◌, subst, arith, refl, ap, false, set, length-set, Option, None}
use Rattle.std.proofs.lemmas.Option.{same_Some, slice_get_within}
use Rattle.index_links.specs.Lists.{Lists}
use Rattle.index_links.specs.Queue.{key_at}
use Rattle.index_links.proofs.QueueChanges.{key_at-removed, key_at-removed_other}
use Rattle.label_pool.specs.declared.label.Label.{Label}
use Rattle.label_pool.specs.Tied.{IsTied}
use Rattle.label_pool.proofs.Ties.{not_held, tied_retired}
use Rattle.label_pool.proofs.Elements.{read_at}
use Rattle.label_pool.proofs.pool.retire.Goals as goal

pub unlink-requires : goal.unlink-requires
unlink-requires g c = (c.requires.live.0, (c.requires.tied.listed c.requires.live.0 c.args.i).1 c.requires.live.1)

pub holds-requires : goal.holds-requires
holds-requires g c =
    let within = slice_get_within c.args.labels.now.items c.args.i c.requires.live.1.label c.requires.live.1.here in
    let room = c.requires.tied.queue_room in
    omega arith

pub returns-then-holds-clause-labels : goal.returns-then-holds-clause-labels
returns-then-holds-clause-labels g c label here =
    ap (λ (l : Label g.row.V.Denot). set c.args.labels.now.items c.args.i (record l { live = false })) (same_Some c.index_mut.result.now label (sym (read_at c.args.labels.now.items c.args.i c.requires.live.1.label c.index_mut.result.now c.requires.live.1.here c.index_mut.ensures.value) ∙ here))

pub returns-then-holds-clause-tied : goal.returns-then-holds-clause-tied
returns-then-holds-clause-tied g c =
    let label = c.index_mut.result.now in
    subst (λ (o : Lists). IsTied (set c.args.labels.now.items c.args.i (record label { live = false })) o c.remove.new.self) (sym c.unlink.ensures)
    (tied_retired c.args.labels.now.items c.args.live.now c.args.queue.now c.remove.new.self c.args.i label c.requires.tied (read_at c.args.labels.now.items c.args.i c.requires.live.1.label c.index_mut.result.now c.requires.live.1.here c.index_mut.ensures.value)
    (subst (λ (k : List (Option ℕ)). key_at k c.args.i ≡ None) (sym c.remove.ensures) (key_at-removed c.args.queue.now c.args.i))
    (λ j n. subst (λ (k : List (Option ℕ)). key_at k j ≡ key_at c.args.queue.now j) (sym c.remove.ensures) (key_at-removed_other c.args.queue.now c.args.i j n))
    (ap length c.remove.ensures ∙ length-set c.args.queue.now c.args.i None))

pub returns-else-holds-clause-labels : goal.returns-else-holds-clause-labels
returns-else-holds-clause-labels g c label here =
    ap (λ (l : Label g.row.V.Denot). set c.args.labels.now.items c.args.i (record l { live = false })) (same_Some c.index_mut.result.now label (sym (read_at c.args.labels.now.items c.args.i c.requires.live.1.label c.index_mut.result.now c.requires.live.1.here c.index_mut.ensures.value) ∙ here))

pub returns-else-holds-clause-tied : goal.returns-else-holds-clause-tied
returns-else-holds-clause-tied g c =
    let label = c.index_mut.result.now in
    subst (λ (o : Lists). IsTied (set c.args.labels.now.items c.args.i (record label { live = false })) o c.args.queue.now) (sym c.unlink.ensures)
    (tied_retired c.args.labels.now.items c.args.live.now c.args.queue.now c.args.queue.now c.args.i label c.requires.tied (read_at c.args.labels.now.items c.args.i c.requires.live.1.label c.index_mut.result.now c.requires.live.1.here c.index_mut.ensures.value)
    (not_held (key_at c.args.queue.now c.args.i) (sym c.holds.ensures ∙ c.if-holds.false)) (λ j n. refl) refl)

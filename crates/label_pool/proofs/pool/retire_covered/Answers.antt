use Rattle.std.proofs.Common.{◌<◌, ℕ, length, sym, ◌∙◌, subst, arith, refl, ap, Option}
use Rattle.std.proofs.lemmas.Option.{slice_get_within}
use Rattle.std.proofs.lemmas.List.{length-map}
use Rattle.index_links.specs.Lists.{Lists, without}
use Rattle.label_pool.proofs.Elements.{read_at}
use Rattle.label_pool.proofs.LiveCoverage.{IsRetiring, retire_drops, retire_ends, retire_in, retire_keeps, retire_start}
use Rattle.label_pool.proofs.pool.retire_covered.Goals as goal

pub loop-at-init : goal.loop-at-init
loop-at-init g c = record {
  walk = retire_start g.V.Covers.dominates c.args.bucket c.args.value.now c.args.labels.now.items c.args.live.now c.args.queue.now c.first-at.result c.first-at.ensures.disjoint c.first-at.ensures.first c.requires.tied;
  lists = refl;
  items = refl;
  capacity = refl;
  queue = refl;
}

pub next-at-requires : goal.next-at-requires
next-at-requires g c =
    let is = retire_in g.V.Covers.dominates c.args.bucket c.args.value.now c.args.labels.now.items c.loop-at.labels.items c.loop-at.live c.loop-at.queue c.loop-at.at c.in-Some.i c.in-Some.is c.loop-at.invariant.walk in
    (c.args.bucket, (c.loop-at.invariant.walk.tied.listed c.args.bucket c.in-Some.i).1 is)

pub retire-requires : goal.retire-requires
retire-requires g c =
    let is = retire_in g.V.Covers.dominates c.args.bucket c.args.value.now c.args.labels.now.items c.loop-at.labels.items c.loop-at.live c.loop-at.queue c.loop-at.at c.in-Some.i c.in-Some.is c.loop-at.invariant.walk in
    record { tied = c.loop-at.invariant.walk.tied; live = (c.args.bucket, is) }

pub index-requires : goal.index-requires
index-requires g c =
    let is = retire_in g.V.Covers.dominates c.args.bucket c.args.value.now c.args.labels.now.items c.loop-at.labels.items c.loop-at.live c.loop-at.queue c.loop-at.at c.in-Some.i c.in-Some.is c.loop-at.invariant.walk in
    let within : c.in-Some.i < length c.loop-at.labels.items = slice_get_within c.loop-at.labels.items c.in-Some.i is.label is.here in
    omega arith

pub loop-at-preserved-then-covers_whole : goal.loop-at-preserved-then-covers_whole
loop-at-preserved-then-covers_whole g c =
    let is = retire_in g.V.Covers.dominates c.args.bucket c.args.value.now c.args.labels.now.items c.loop-at.labels.items c.loop-at.live c.loop-at.queue c.loop-at.at c.in-Some.i c.in-Some.is c.loop-at.invariant.walk in
    let here = read_at c.loop-at.labels.items c.in-Some.i is.label c.index.result.now is.here c.index.ensures in
    let step = retire_drops g.V.Covers.dominates c.args.bucket c.args.value.now c.args.labels.now.items c.loop-at.labels.items c.retire.new.labels.items c.loop-at.live c.retire.new.live c.loop-at.queue c.retire.new.queue c.loop-at.at c.in-Some.i c.next-at.result c.index.result.now c.in-Some.is c.loop-at.invariant.walk c.next-at.ensures.next here
    (sym c.covers_whole.ensures ∙ c.if-covers_whole.true) (c.retire.ensures.labels c.index.result.now here) c.retire.ensures.live c.retire.ensures.tied in
    record {
      walk = step.0;
      lists = ap (λ (o : Lists). length o.lists) c.retire.ensures.live ∙ length-map c.loop-at.live.lists (without c.in-Some.i) ∙ c.loop-at.invariant.lists;
      items = ap (λ (o : Lists). o.items) c.retire.ensures.live ∙ c.loop-at.invariant.items;
      capacity = c.retire.ensures.capacity ∙ c.loop-at.invariant.capacity;
      queue = c.retire.ensures.queue ∙ c.loop-at.invariant.queue;
    }

pub loop-at-smaller-then-covers_whole : goal.loop-at-smaller-then-covers_whole
loop-at-smaller-then-covers_whole g c =
    let is = retire_in g.V.Covers.dominates c.args.bucket c.args.value.now c.args.labels.now.items c.loop-at.labels.items c.loop-at.live c.loop-at.queue c.loop-at.at c.in-Some.i c.in-Some.is c.loop-at.invariant.walk in
    let here = read_at c.loop-at.labels.items c.in-Some.i is.label c.index.result.now is.here c.index.ensures in
    let step = retire_drops g.V.Covers.dominates c.args.bucket c.args.value.now c.args.labels.now.items c.loop-at.labels.items c.retire.new.labels.items c.loop-at.live c.retire.new.live c.loop-at.queue c.retire.new.queue c.loop-at.at c.in-Some.i c.next-at.result c.index.result.now c.in-Some.is c.loop-at.invariant.walk c.next-at.ensures.next here
    (sym c.covers_whole.ensures ∙ c.if-covers_whole.true) (c.retire.ensures.labels c.index.result.now here) c.retire.ensures.live c.retire.ensures.tied in
    step.1

pub loop-at-preserved : goal.loop-at-preserved
loop-at-preserved g c =
    let is = retire_in g.V.Covers.dominates c.args.bucket c.args.value.now c.args.labels.now.items c.loop-at.labels.items c.loop-at.live c.loop-at.queue c.loop-at.at c.in-Some.i c.in-Some.is c.loop-at.invariant.walk in
    let here = read_at c.loop-at.labels.items c.in-Some.i is.label c.index.result.now is.here c.index.ensures in
    let step = retire_keeps g.V.Covers.dominates c.args.bucket c.args.value.now c.args.labels.now.items c.loop-at.labels.items c.loop-at.live c.loop-at.queue c.loop-at.at c.in-Some.i c.next-at.result c.index.result.now c.in-Some.is c.loop-at.invariant.walk c.next-at.ensures.next here
    (sym c.covers_whole.ensures ∙ c.if-covers_whole.false) in
    record {
      walk = step.0;
      lists = c.loop-at.invariant.lists;
      items = c.loop-at.invariant.items;
      capacity = c.loop-at.invariant.capacity;
      queue = c.loop-at.invariant.queue;
    }

pub loop-at-smaller : goal.loop-at-smaller
loop-at-smaller g c =
    let is = retire_in g.V.Covers.dominates c.args.bucket c.args.value.now c.args.labels.now.items c.loop-at.labels.items c.loop-at.live c.loop-at.queue c.loop-at.at c.in-Some.i c.in-Some.is c.loop-at.invariant.walk in
    let here = read_at c.loop-at.labels.items c.in-Some.i is.label c.index.result.now is.here c.index.ensures in
    let step = retire_keeps g.V.Covers.dominates c.args.bucket c.args.value.now c.args.labels.now.items c.loop-at.labels.items c.loop-at.live c.loop-at.queue c.loop-at.at c.in-Some.i c.next-at.result c.index.result.now c.in-Some.is c.loop-at.invariant.walk c.next-at.ensures.next here
    (sym c.covers_whole.ensures ∙ c.if-covers_whole.false) in
    step.1

pub returns-clause-labels : goal.returns-clause-labels
returns-clause-labels g c =
    retire_ends g.V.Covers.dominates c.args.bucket c.args.value.now c.args.labels.now.items c.loop-at.labels.items c.loop-at.live c.loop-at.queue
    (subst (λ (o : Option ℕ). IsRetiring g.V.Covers.dominates c.args.bucket c.args.value.now c.args.labels.now.items c.loop-at.labels.items c.loop-at.live c.loop-at.queue o) c.in_default.is c.loop-at.invariant.walk)

use Rattle.std.proofs.Common.{◌≡◌, ℕ, sym, ◌∙◌, subst, arith, refl, Option, true, false}
use Rattle.std.proofs.lemmas.Bool.{false≢true}
use Rattle.std.proofs.lemmas.Option.{get_or_from_slice_get, slice_get_within}
use Rattle.label_pool.specs.declared.label.Label.{Label}
use Rattle.label_pool.proofs.LiveCoverage.{IsLooking, look_ends, look_live, look_on, look_start}
use Rattle.label_pool.proofs.pool.is_covered.Goals as goal

pub loop-at-init : goal.loop-at-init
loop-at-init g c = look_start g.V.Covers.dominates c.args.labels.now c.args.live.now c.args.bucket c.args.value.now c.first-at.result c.first-at.ensures.disjoint c.first-at.ensures.first

pub offset_bounds-labels-i : goal.offset_bounds-labels-i
offset_bounds-labels-i g c =
    let l = look_live g.V.Covers.dominates c.args.labels.now c.args.live.now c.args.bucket c.args.value.now c.loop-at.at c.in-Some.i c.in-Some.is c.requires.listed c.loop-at.invariant in
    let within = slice_get_within c.args.labels.now c.in-Some.i l.1.label l.1.here in
    omega arith

pub bounds-labels-i : goal.bounds-labels-i
bounds-labels-i g c =
    let l = look_live g.V.Covers.dominates c.args.labels.now c.args.live.now c.args.bucket c.args.value.now c.loop-at.at c.in-Some.i c.in-Some.is c.requires.listed c.loop-at.invariant in
    slice_get_within c.args.labels.now c.in-Some.i l.1.label l.1.here

pub returns-then-covers_whole : goal.returns-then-covers_whole
returns-then-covers_whole g c =
    let l = look_live g.V.Covers.dominates c.args.labels.now c.args.live.now c.args.bucket c.args.value.now c.loop-at.at c.in-Some.i c.in-Some.is c.requires.listed c.loop-at.invariant in
    let e = get_or_from_slice_get c.args.labels.now c.in-Some.i l.1.label c.index-labels-i.result l.1.here in (
      λ _. record { by = c.in-Some.i; is = l.1; covered = subst (λ (x : Label g.row.V.Denot). g.V.Covers.dominates x.value c.args.value.now ≡ true) e (sym c.covers_whole.ensures ∙ c.if-covers_whole.true) },
      λ _. refl,
    )

pub next-at-requires : goal.next-at-requires
next-at-requires g c =
    let l = look_live g.V.Covers.dominates c.args.labels.now c.args.live.now c.args.bucket c.args.value.now c.loop-at.at c.in-Some.i c.in-Some.is c.requires.listed c.loop-at.invariant in
    (c.args.bucket, l.0)

pub loop-at-preserved : goal.loop-at-preserved
loop-at-preserved g c =
    let l = look_live g.V.Covers.dominates c.args.labels.now c.args.live.now c.args.bucket c.args.value.now c.loop-at.at c.in-Some.i c.in-Some.is c.requires.listed c.loop-at.invariant in
    let e = get_or_from_slice_get c.args.labels.now c.in-Some.i l.1.label c.index-labels-i.result l.1.here in
    (look_on g.V.Covers.dominates c.args.labels.now c.args.live.now c.args.bucket c.args.value.now c.loop-at.at c.in-Some.i c.next-at.result l.1.label c.in-Some.is c.loop-at.invariant c.next-at.ensures.next l.1.here
    (subst (λ (x : Label g.row.V.Denot). g.V.Covers.dominates x.value c.args.value.now ≡ false) e (sym c.covers_whole.ensures ∙ c.if-covers_whole.false))).0

pub loop-at-smaller : goal.loop-at-smaller
loop-at-smaller g c =
    let l = look_live g.V.Covers.dominates c.args.labels.now c.args.live.now c.args.bucket c.args.value.now c.loop-at.at c.in-Some.i c.in-Some.is c.requires.listed c.loop-at.invariant in
    let e = get_or_from_slice_get c.args.labels.now c.in-Some.i l.1.label c.index-labels-i.result l.1.here in
    (look_on g.V.Covers.dominates c.args.labels.now c.args.live.now c.args.bucket c.args.value.now c.loop-at.at c.in-Some.i c.next-at.result l.1.label c.in-Some.is c.loop-at.invariant c.next-at.ensures.next l.1.here
    (subst (λ (x : Label g.row.V.Denot). g.V.Covers.dominates x.value c.args.value.now ≡ false) e (sym c.covers_whole.ensures ∙ c.if-covers_whole.false))).1

pub returns : goal.returns
returns g c =
    let end = subst (λ (o : Option ℕ). IsLooking g.V.Covers.dominates c.args.labels.now c.args.live.now c.args.bucket c.args.value.now o) c.in_default.is c.loop-at.invariant in (
      λ f. absurd (false≢true f),
      λ is. absurd (look_ends g.V.Covers.dominates c.args.labels.now c.args.live.now c.args.bucket c.args.value.now c.requires.listed end is),
    )

use Rattle.std.proofs.Common.{◌≡◌, ◌∙◌, List, ℕ, Option, None, IfNone, IfSome, ap, set, subst, sym}
use Rattle.std.proofs.lemmas.List.{set-set}
use Rattle.std.proofs.lemmas.Bool.{false≢true}
use Rattle.price_loop.specs.Rising.{ArePayable, HasExcess}
use Rattle.price_loop.proofs.PriceRises.{ends_fixed, ends_nowhere, excess_within, lowered}
use Rattle.price_loop.proofs.rising.fix.Goals as goal

pub lower-price-requires : goal.lower-price-requires
lower-price-requires g c =
    let q = g.E.Earners.problem c.args.earners.now in
    let of = c.loop-excess.of in
    let has = subst (λ (o : Option ℕ). IfSome o (HasExcess q of)) c.in-Some.is c.in_ok-excess.ensures.some in
    excess_within q (g.met.E.Earners.once c.args.earners.now) c.args.of.now c.args.customer c.requires.customer c.requires.before of c.loop-excess.price c.loop-excess.invariant.prices c.in-Some.excess has

pub loop-excess-preserved : goal.loop-excess-preserved
loop-excess-preserved g c =
    let q = g.E.Earners.problem c.args.earners.now in
    let of = c.loop-excess.of in
    let has = subst (λ (o : Option ℕ). IfSome o (HasExcess q of)) c.in-Some.is c.in_ok-excess.ensures.some in
    record {
      prices = ap (λ (xs : List ℕ). set xs c.args.customer c.lower-price.result) c.loop-excess.invariant.prices ∙ set-set c.args.of.now c.args.customer c.loop-excess.price c.lower-price.result;
      none_yet = λ e. absurd (false≢true (sym e));
      most = λ e. lowered q (g.met.E.Earners.once c.args.earners.now) c.args.of.now c.args.customer c.requires.customer c.requires.before of c.loop-excess.price c.loop-excess.invariant.prices c.in-Some.excess c.lower-price.result has c.lower-price.ensures;
    }

pub returns-clause-fixed : goal.returns-clause-fixed
returns-clause-fixed g c found =
    let q = g.E.Earners.problem c.args.earners.now in
    let of = c.loop-excess.of in
    let last : c.in_ok-excess.field-0 ≡ None = cc in
    let none = subst (λ (o : Option ℕ). IfNone o (ArePayable q 1 of)) last c.in_ok-excess.ensures.none in
    ends_fixed q (g.met.E.Earners.once c.args.earners.now) c.args.of.now c.args.customer c.requires.customer c.requires.before of c.loop-excess.price c.loop-excess.invariant.prices none (c.loop-excess.invariant.most found)

pub returns-clause-nowhere : goal.returns-clause-nowhere
returns-clause-nowhere g c found =
    let q = g.E.Earners.problem c.args.earners.now in
    let of = c.loop-excess.of in
    let last : c.in_ok-excess.field-0 ≡ None = cc in
    let none = subst (λ (o : Option ℕ). IfNone o (ArePayable q 1 of)) last c.in_ok-excess.ensures.none in
    ends_nowhere q (g.met.E.Earners.once c.args.earners.now) c.args.of.now c.args.customer c.requires.customer c.requires.before of c.loop-excess.price c.loop-excess.invariant.prices c.args.top c.requires.top none (c.loop-excess.invariant.none_yet found)

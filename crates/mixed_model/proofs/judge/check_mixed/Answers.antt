use Rattle.std.proofs.Common.{◌≡◌, ◌∙◌, refl, subst, sym}
use Rattle.std.proofs.lemmas.Bool.{false≢true}
use Rattle.mixed_model.specs.Accepted.{IsMixedAccepted}
use Rattle.mixed_model.specs.Meaning.{section_of}
use Rattle.mixed_model.specs.declared.verdict.MixedVerdict.TheVariants.{Accepted, Bound, Root}
use Rattle.mixed_model.specs.Tellings.{TellsKinds, TellsRoot}
use Rattle.mixed_model.proofs.ProofRules.{bound_first, root_first}
use Rattle.mixed_model.proofs.judge.check_mixed.Goals as goal

pub returns-in-Some : goal.returns-in-Some
returns-in-Some c =
    let told = subst (TellsKinds c.args.kinds.now c.args.p.now) c.in-Some.is c.in_ok-fault.ensures in
    record { verdict = told.1; truth = λ same. absurd (told.0 same) }

pub returns-then-not-is_bounded : goal.returns-then-not-is_bounded
returns-then-not-is_bounded c =
    let kinds = c.args.kinds.now in
    let p = c.args.p.now in
    let closed = subst (TellsKinds kinds p) c.in_default.is c.in_ok-fault.ensures in
    let is = c.is_bounded.ensures (section_of p 0) (record { same_weight = refl; same_prices = sym c.as_slice.ensures }) in
    record {
      verdict = bound_first kinds p closed.1 (λ bounded. false≢true (sym c.if-not-is_bounded.true ∙ is.1 bounded));
      truth = λ same. let no : Bound ≡ Accepted = same in absurd (cc);
    }

pub returns-then-not-branch : goal.returns-then-not-branch
returns-then-not-branch c =
    let kinds = c.args.kinds.now in
    let p = c.args.p.now in
    let closed = subst (TellsKinds kinds p) c.in_default.is c.in_ok-fault.ensures in
    let is = c.is_bounded.ensures (section_of p 0) (record { same_weight = refl; same_prices = sym c.as_slice.ensures }) in
    record {
      verdict = root_first kinds p closed.1 (is.0 c.if-not-is_bounded.false) (subst (TellsRoot kinds p p.root) c.if-not-branch.true c.in_ok-root_holds.ensures);
      truth = λ same. let no : Root ≡ Accepted = same in absurd (cc);
    }

pub returns : goal.returns
returns c =
    let kinds = c.args.kinds.now in
    let p = c.args.p.now in
    let closed = subst (TellsKinds kinds p) c.in_default.is c.in_ok-fault.ensures in
    let is = c.is_bounded.ensures (section_of p 0) (record { same_weight = refl; same_prices = sym c.as_slice.ensures }) in
    let accepted : IsMixedAccepted kinds p = record {
      closed = closed.1;
      bound = is.0 c.if-not-is_bounded.false;
      root = subst (TellsRoot kinds p p.root) c.if-not-branch.false c.in_ok-root_holds.ensures;
    } in
    record { verdict = accepted; truth = λ same. c.accepted_roots_are_true.ensures kinds p closed.0 c.requires.kinds c.requires.fits accepted }

use Rattle.std.proofs.Common.{subst, arith}
use Rattle.std.proofs.lemmas.Grind.{common_steps}
use Rattle.near_proof.specs.Faults.{Judged, terms_in}
use Rattle.near_proof.specs.Judging.{TellsBadEnd, TellsBadStep}
use Rattle.near_proof.proofs.Verdicts.{closed, end_first, start_first, step_first}
use Rattle.near_proof.proofs.faults.first_fault.Goals as goal

pub returns-then-not-covers_start : goal.returns-then-not-covers_start
returns-then-not-covers_start c =
    let j : Judged = record { terms = terms_in c.args.terms; labels = c.args.labels.now } in
    start_first c.args.inst.now j (c.covers_start.ensures.missed c.if-not-covers_start.true)

pub returns-in-Some : goal.returns-in-Some
returns-in-Some c =
    let j : Judged = record { terms = terms_in c.args.terms; labels = c.args.labels.now } in
    let begins = c.covers_start.ensures.covered c.if-not-covers_start.false in
    step_first c.args.inst.now j begins (c.in-Some.label, c.in-Some.node) (subst (TellsBadStep c.args.inst.now (record { terms = terms_in c.args.terms; labels = c.args.labels.now })) c.in-Some.is c.in_ok-label.ensures)

pub returns-in-Some-2 : goal.returns-in-Some-2
returns-in-Some-2 c =
    let j : Judged = record { terms = terms_in c.args.terms; labels = c.args.labels.now } in
    let begins = c.covers_start.ensures.covered c.if-not-covers_start.false in
    let steps = subst (TellsBadStep c.args.inst.now (record { terms = terms_in c.args.terms; labels = c.args.labels.now })) c.in_default.is c.in_ok-label.ensures in
    end_first c.args.inst.now j begins steps c.in-Some-2.label (subst (TellsBadEnd c.args.inst.now (record { terms = terms_in c.args.terms; labels = c.args.labels.now })) c.in-Some-2.is c.in_ok-label-2.ensures)

pub returns : goal.returns
returns c =
    let j : Judged = record { terms = terms_in c.args.terms; labels = c.args.labels.now } in
    let begins = c.covers_start.ensures.covered c.if-not-covers_start.false in
    let steps = subst (TellsBadStep c.args.inst.now (record { terms = terms_in c.args.terms; labels = c.args.labels.now })) c.in_default.is c.in_ok-label.ensures in
    closed c.args.inst.now j begins steps (subst (TellsBadEnd c.args.inst.now (record { terms = terms_in c.args.terms; labels = c.args.labels.now })) c.in-None.is c.in_ok-label-2.ensures)

pub covers_start-requires : goal.covers_start-requires
covers_start-requires = grind (arith, common_steps)

pub bad_step-requires : goal.bad_step-requires
bad_step-requires = grind (arith, common_steps)

pub bad_end-requires : goal.bad_end-requires
bad_end-requires = grind (arith, common_steps)

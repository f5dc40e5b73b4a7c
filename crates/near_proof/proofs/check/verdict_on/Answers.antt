use Rattle.std.proofs.Common.{◌∙◌, ap, sym, subst}
use Rattle.std.specs.Prelude.{not}
use Rattle.std.proofs.lemmas.Bool.{false≢true}
use Rattle.near_proof.specs.Verdicts.{IsVerdict}
use Rattle.near_proof.specs.Faults.{TellsFault}
use Rattle.near_proof.specs.Judging.{judged_in, TellsLoose}
use Rattle.near_proof.proofs.Verdicts.{accepted_with_none, accepted_with_number, bound_first, fault_verdict, tight_first}
use Rattle.near_proof.proofs.check.verdict_on.Goals as goal

pub returns-in-Some : goal.returns-in-Some
returns-in-Some c =
    subst (IsVerdict c.args.inst.now c.args.proof.now) (sym c.verdict_by.ensures)
    (fault_verdict c.args.inst.now c.args.proof.now c.in-Some.fault (subst (TellsFault c.args.inst.now (judged_in c.args.proof.now)) c.in-Some.is c.in_ok-fault.ensures))

pub returns-then-not-bound_holds : goal.returns-then-not-bound_holds
returns-then-not-bound_holds c =
    bound_first c.args.inst.now c.args.proof.now (subst (TellsFault c.args.inst.now (judged_in c.args.proof.now)) c.in_default.is c.in_ok-fault.ensures)
    (λ holds. false≢true (sym c.if-not-bound_holds.true ∙ c.bound_holds.ensures.1 holds))

pub returns-then-is_none : goal.returns-then-is_none
returns-then-is_none c =
    accepted_with_none c.args.inst.now c.args.proof.now (subst (TellsFault c.args.inst.now (judged_in c.args.proof.now)) c.in_default.is c.in_ok-fault.ensures)
    (c.bound_holds.ensures.0 c.if-not-bound_holds.false) (c.is_none.ensures ∙ ap not c.if-is_none.true)

pub returns-in-Some-2 : goal.returns-in-Some-2
returns-in-Some-2 c =
    tight_first c.args.inst.now c.args.proof.now (subst (TellsFault c.args.inst.now (judged_in c.args.proof.now)) c.in_default.is c.in_ok-fault.ensures)
    (c.bound_holds.ensures.0 c.if-not-bound_holds.false) (c.is_none.ensures ∙ ap not c.if-is_none.false) c.in-Some-2.customer (subst (TellsLoose c.args.inst.now c.args.proof.now) c.in-Some-2.is c.in_ok-customer.ensures)

pub returns-in-None : goal.returns-in-None
returns-in-None c =
    accepted_with_number c.args.inst.now c.args.proof.now (subst (TellsFault c.args.inst.now (judged_in c.args.proof.now)) c.in_default.is c.in_ok-fault.ensures)
    (c.bound_holds.ensures.0 c.if-not-bound_holds.false) (subst (TellsLoose c.args.inst.now c.args.proof.now) c.in-None.is c.in_ok-customer.ensures)

use Rattle.std.proofs.Common.{subst}
use Rattle.std.specs.Prelude.{IfErr, IfOk}
use Rattle.fleet_model.specs.ClosedList.{IsClosed}
use Rattle.closed_lists.specs.Questions.{Question, section}
use Rattle.closed_lists.specs.Verdicts.{HasNoBadEnd, IsFirstEnd, IsTold}
use Rattle.closed_lists.proofs.Faults.{end_told, is_closed, step_told}
use Rattle.label_index.proofs.Options.{err_map, ok_map}
use Rattle.closed_lists.proofs.check.check_closed.Goals as goal

pub returns-clause-broken : goal.returns-clause-broken
returns-clause-broken c =
    let q = c.in_ok-question.question in
    let begins = c.covers_start.ensures.covered c.if-not-covers_start.false in
    subst (λ (q : Question). IsTold q.network (section q) c.in-Err.fault) c.in_ok-question.ensures (step_told q.network (section q) c.in-Err.fault begins c.in-Err.ensures.bad)

pub returns-in-Ok-clause-closed : goal.returns-in-Ok-clause-closed
returns-in-Ok-clause-closed c =
    let q = c.in_ok-question.question in
    let begins = c.covers_start.ensures.covered c.if-not-covers_start.false in
    subst (λ (q : Question). IfOk c.check_ends.result (λ _. IsClosed q.network (section q))) c.in_ok-question.ensures
    (ok_map (λ _. HasNoBadEnd c.in_ok-question.question.network (section c.in_ok-question.question)) (λ _. IsClosed c.in_ok-question.question.network (section c.in_ok-question.question)) c.check_ends.result
    (λ _ ends. is_closed q.network (section q) begins c.in-Ok.ensures.good ends) c.check_ends.ensures.good)

pub returns-in-Ok-clause-broken : goal.returns-in-Ok-clause-broken
returns-in-Ok-clause-broken c =
    let q = c.in_ok-question.question in
    let begins = c.covers_start.ensures.covered c.if-not-covers_start.false in
    subst (λ (q : Question). IfErr c.check_ends.result (IsTold q.network (section q))) c.in_ok-question.ensures
    (err_map (IsFirstEnd c.in_ok-question.question.network (section c.in_ok-question.question)) (IsTold c.in_ok-question.question.network (section c.in_ok-question.question)) c.check_ends.result
    (λ fault first. end_told q.network (section q) fault begins c.in-Ok.ensures.good first) c.check_ends.ensures.bad)

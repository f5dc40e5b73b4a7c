use Rattle.std.proofs.Common.{◌∙◌, inl, inr}
use Rattle.job_frame.proofs.AskedFiles.{asks_some, asks_then}
use Rattle.evgap_run.proofs.plan.ask_both.Goals as goal

pub returns-in-Ok : goal.returns-in-Ok
returns-in-Ok g c =
    asks_then (asks_some (λ name is. inl (is ∙ c.as_str.ensures.value)) c.in-Ok.ensures)
    (asks_some (λ name is. inr (is ∙ c.as_str-in-Ok.ensures.value)) c.ask_file-in-Ok.ensures)

pub returns-in-Err : goal.returns-in-Err
returns-in-Err g c = asks_some (λ name is. inl (is ∙ c.as_str.ensures.value)) c.in-Err.ensures

use Rattle.job_frame.proofs.instance.limited_instance.Goals as goal

pub returns-in-Err-clause-rule : goal.returns-in-Err-clause-rule
returns-in-Err-clause-rule c = c.unread.ensures.rule c.args.bytes.now c.in-Err.ensures.fault

pub returns-in-Err-clause-ended : goal.returns-in-Err-clause-ended
returns-in-Err-clause-ended c = c.unread.ensures.ended c.args.limit c.args.bytes.now c.in-Err.ensures.fault

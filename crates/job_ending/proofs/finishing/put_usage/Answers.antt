use Rattle.std.proofs.Common.{rules, [], append-nil, sym}
use Rattle.job_ending.proofs.finishing.put_usage.Goals as goal

pub returns-in-Ok-clause-part : goal.returns-in-Ok-clause-part
returns-in-Ok-clause-part g c =
    (c.args.text.now, ([], sym (append-nil c.args.text.now)), search rules)

use Rattle.job_frame.proofs.ReadRules.{first_faults_are_rules}
use Rattle.job_frame.proofs.instance.unread.Goals as goal

pub returns-in_default : goal.returns-in_default
returns-in_default c = record {
  rule = λ bytes first. first_faults_are_rules bytes c.args.fault (first c.in_default.not-Memory);
  ended = λ limit bytes first. (first_faults_are_rules bytes c.args.fault (first c.in_default.not-Memory), first c.in_default.not-Memory);
}

use Rattle.command_line.proofs.PlainFaults.{dashes_job, plain_job}
use Rattle.command_line.proofs.laws.words_are_read_as_they_stand.Goals as goal

pub returns : goal.returns
returns c = record { plain = plain_job; dashes = dashes_job }

use Rattle.fixed_reader.proofs.FixedLaws.{put_is_read}
use Rattle.fixed_reader.proofs.laws.what_fixed_puts_is_read.Goals as goal

pub returns : goal.returns
returns c = put_is_read

use Rattle.schedule_texts.proofs.Cells.{reads_back}
use Rattle.schedule_texts.proofs.laws.cells_are_read_back.Goals as goal

pub returns : goal.returns
returns c = reads_back

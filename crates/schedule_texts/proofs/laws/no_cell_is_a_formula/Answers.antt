use Rattle.schedule_texts.proofs.Cells.{no_formulas}
use Rattle.schedule_texts.proofs.laws.no_cell_is_a_formula.Goals as goal

pub returns : goal.returns
returns c = no_formulas

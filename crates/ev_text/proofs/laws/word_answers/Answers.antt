use Rattle.ev_text.proofs.Readings.{word_at-taken, word_at-end, word_at-differs}
use Rattle.ev_text.proofs.laws.word_answers.Goals as goal

pub returns : goal.returns
returns c = record { taken = word_at-taken; end = word_at-end; differs = word_at-differs }

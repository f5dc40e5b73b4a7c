use Rattle.std.proofs.Common.{rules}
use Rattle.ev_text.proofs.Readings.{TakesWord-from_word_at}
use Rattle.ev_text.proofs.scan.Scan.word.Goals as goal

pub returns-clause-taken : goal.returns-clause-taken
returns-clause-taken c = TakesWord-from_word_at c.args.w.now c.args.self.now _ (search rules)

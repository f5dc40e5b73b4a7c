use Rattle.std.proofs.Common.{◌≡◌, ◌++◌, drop}
use Rattle.ev_text.specs.Texts.{joined_texts}
use Rattle.near_text.specs.NearTexts.{tight_line}
use Rattle.near_text.proofs.writing.write_tight.Given as goal

abbrev pub invariant-loop-plan : goal.invariant-loop-plan
invariant-loop-plan l = l.text.items ++ joined_texts tight_line (drop l.plan-index l.tight) ≡ l.fn.text.items ++ joined_texts tight_line l.tight

use Rattle.std.proofs.Common.{◌≡◌, ◌↔◌, ℕ, List, Ok, subst}
use Rattle.ev_text.specs.Scans.{TakesNumber, whole_at}
use Rattle.call_words.proofs.NumberWords.{one_spelling}
use Rattle.call_words.proofs.laws.numbers_have_one_spelling.Goals as goal

pub returns : goal.returns
returns c =
    one_spelling c.args.most
    (subst (λ (most : ℕ). (n : ℕ) (scan after : List ℕ × ℕ) → (whole_at most scan ≡ Ok (n, after)) ↔ TakesNumber most n scan after)
    c.from.ensures c.whole_answers.ensures.taken)

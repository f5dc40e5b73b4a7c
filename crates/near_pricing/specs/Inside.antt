-- What contracts see of a question of pricing.
use Rattle.near_proof.specs.Faults.{terms_in}
use Rattle.near_pricing.specs.Questions.{IsQuestion, Question}
use Rattle.near_pricing.specs.declared.asked.Question.TheInside.{Inside}

abbrev pub question : Inside → Question
question p = record { network = p.inst.now; terms = terms_in p.terms }

abbrev pub IsSoundQuestion : Inside → Type 0
IsSoundQuestion p = IsQuestion (question p)

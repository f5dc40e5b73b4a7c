-- Words that a command refuses name nothing.
use Rattle.std.proofs.Common.{◌≡◌, ◌≢◌, List, [], ◌∷◌, Option, None, refl, subst}
use Rattle.clap.specs.Words.{App, Kinds, Text, fault_of}
use Rattle.clap.specs.declared.parser.matches.ArgMatches.{ArgMatches}
use Rattle.call_words.specs.Matches.{IsMatched, job_unless}

no_job_unless : {A : Type 0} (kinds : Kinds) (job : Option A) → kinds ≢ [] → None ≡ job_unless kinds job
no_job_unless [] job some = absurd (some refl)
no_job_unless (kind ∷ kinds) job some = refl

pub no_job : {A : Type 0} (app : App) (words all : List Text) (answer : Option ArgMatches) (job : Option A)
    → all ≡ words → answer ≡ None → IsMatched app all answer → None ≡ job_unless (fault_of app words) job
no_job app words all answer job is none matched =
    no_job_unless (fault_of app words) job
    (subst (λ (some : List Text). fault_of app some ≢ []) is
    (subst (λ (some : Option ArgMatches). IsMatched app all some) none matched))

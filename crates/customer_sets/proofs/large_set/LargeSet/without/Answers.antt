use Rattle.std.proofs.Common.{◌∙◌, ap, nat_eq}
use Rattle.std.specs.List.{filter}
use Rattle.std.specs.Prelude.{not}
use Rattle.customer_sets.specs.CustSet.{has}
use Rattle.customer_sets.proofs.Digits.{without_words}
use Rattle.customer_sets.proofs.Ranges.{has-filter}
use Rattle.customer_sets.proofs.large_set.LargeSet.without.Goals as goal

pub returns-clause-value : goal.returns-clause-value
returns-clause-value c =
    without_words c.self.inside.words c.args.c c.self.invariant c.requires ∙ ap (λ set. filter (λ x. not (nat_eq x c.args.c)) set) c.self.view_is

pub returns-clause-members : goal.returns-clause-members
returns-clause-members c x =
    ap (λ set. has set x) (without_words c.self.inside.words c.args.c c.self.invariant c.requires ∙ ap (λ set. filter (λ x. not (nat_eq x c.args.c)) set) c.self.view_is)
    ∙ has-filter (λ x. not (nat_eq x c.args.c)) c.args.self x

use Rattle.std.proofs.Common.{◌∙◌, ap}
use Rattle.std.specs.List.{sum_by}
use Rattle.customer_sets.specs.CustSet.{has, with_customer}
use Rattle.customer_sets.proofs.Digits.{are_with, same_words, with_words}
use Rattle.customer_sets.proofs.Ranges.{has-with_customer, sum_by-with_customer}
use Rattle.customer_sets.proofs.large_set.LargeSet.with.Goals as goal

pub invariant_of-result : goal.invariant_of-result
invariant_of-result c = are_with c.self.inside.words c.args.c c.self.invariant c.requires

pub returns-clause-value : goal.returns-clause-value
returns-clause-value c =
    with_words c.self.inside.words c.args.c c.self.invariant c.requires ∙ ap (λ set. with_customer c.args.c set) c.self.view_is

pub returns-clause-members : goal.returns-clause-members
returns-clause-members c x =
    ap (λ set. has set x) (with_words c.self.inside.words c.args.c c.self.invariant c.requires ∙ ap (λ set. with_customer c.args.c set) c.self.view_is)
    ∙ has-with_customer c.args.c c.args.self x

pub returns-clause-old : goal.returns-clause-old
returns-clause-old c in_it =
    same_words c.self.inside.words c.args.c c.self.invariant c.requires (ap (λ set. has set c.args.c) c.self.view_is ∙ in_it) ∙ c.self.view_is

pub returns-clause-new : goal.returns-clause-new
returns-clause-new c new f =
    ap (λ set. sum_by f set) (with_words c.self.inside.words c.args.c c.self.invariant c.requires ∙ ap (λ set. with_customer c.args.c set) c.self.view_is)
    ∙ sum_by-with_customer f c.args.c c.args.self new

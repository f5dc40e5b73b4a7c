use Rattle.std.proofs.Common.{◌∙◌, ◌/◌, ◌%◌, ap, subst, sym, nat_eq}
use Rattle.std.specs.Prelude.{slice_index}
use Rattle.std.proofs.lemmas.Nat.Bits.{shr_and_one}
use Rattle.customer_sets.specs.CustSet.{has}
use Rattle.customer_sets.specs.SetBelow.{IsSetBelow}
use Rattle.customer_sets.proofs.Digits.{has-large, large_set}
use Rattle.customer_sets.proofs.large_set.LargeSet.has.Goals as goal

pub returns-clause-value : goal.returns-clause-value
returns-clause-value c =
    ap (λ b. nat_eq b 1) (shr_and_one (slice_index c.self.inside.words (c.args.c / 64)) (c.args.c % 64))
    ∙ sym (has-large c.self.inside.words c.args.c c.requires)
    ∙ ap (λ set. has set c.args.c) c.self.view_is

pub returns-clause-set : goal.returns-clause-set
returns-clause-set c = subst (λ set. IsSetBelow 448 set) c.self.view_is (large_set c.self.inside.words)

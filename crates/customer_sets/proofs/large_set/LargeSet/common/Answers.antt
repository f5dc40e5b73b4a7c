use Rattle.std.proofs.Common.{◌≡◌, ◌∙◌, ◌≤◌, ℕ, List, ap}
use Rattle.std.specs.List.{filter}
use Rattle.customer_sets.specs.CustSet.{has}
use Rattle.customer_sets.specs.LargeMembers.{large_members}
use Rattle.customer_sets.proofs.Digits.{are_shared, AreShared, common_words, shared_more, shared_none}
use Rattle.customer_sets.proofs.Ranges.{has-filter}
use Rattle.customer_sets.proofs.large_set.LargeSet.common.Goals as goal

pub loop-i-init : goal.loop-i-init
loop-i-init c = shared_none c.self.inside.words c.other.inside.words c.self.invariant

pub loop-i-preserved : goal.loop-i-preserved
loop-i-preserved c = shared_more c.self.inside.words c.other.inside.words c.loop-i.words c.loop-i.i c.loop-i-test.true c.loop-i.invariant

pub invariant_of-result : goal.invariant_of-result
invariant_of-result c = are_shared c.self.inside.words c.other.inside.words c.loop-i.words c.loop-i.i c.loop-i-test.false c.self.invariant c.loop-i.invariant

is_common : (one other both : List ℕ) (to : ℕ) (first second : List ℕ) → large_members one ≡ first → large_members other ≡ second → 7 ≤ to → AreShared one other both to → large_members both ≡ filter (has second) first
is_common one other both to first second one_is other_is all shared =
    common_words one other both to all shared
    ∙ ap (λ set. filter (has set) (large_members one)) other_is
    ∙ ap (λ set. filter (has second) set) one_is

pub returns-clause-value : goal.returns-clause-value
returns-clause-value c =
    is_common c.self.inside.words c.other.inside.words c.loop-i.words c.loop-i.i c.args.self c.args.other c.self.view_is c.other.view_is c.loop-i-test.false c.loop-i.invariant

pub returns-clause-members : goal.returns-clause-members
returns-clause-members c x =
    ap (λ set. has set x) (is_common c.self.inside.words c.other.inside.words c.loop-i.words c.loop-i.i c.args.self c.args.other c.self.view_is c.other.view_is c.loop-i-test.false c.loop-i.invariant)
    ∙ has-filter (has c.args.other) c.args.self x

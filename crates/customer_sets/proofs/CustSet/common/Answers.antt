use Rattle.std.proofs.Common.{◌≡◌, ◌∙◌, ℕ, List, ap}
use Rattle.std.specs.List.{filter}
use Rattle.std.specs.Prelude.{bit_and}
use Rattle.customer_sets.specs.CustSet.{has}
use Rattle.customer_sets.specs.Members.{members}
use Rattle.customer_sets.proofs.Ranges.{common-members, has-filter}
use Rattle.customer_sets.proofs.CustSet.common.Goals as goal

is_common : (a b : ℕ) (one other : List ℕ) → members a ≡ one → members b ≡ other → members (bit_and a b) ≡ filter (has other) one
is_common a b one other first second =
    common-members a b ∙ ap (λ set. filter (has set) (members a)) second ∙ ap (λ set. filter (has other) set) first

pub returns-clause-value : goal.returns-clause-value
returns-clause-value c = is_common c.self.inside.bits c.other.inside.bits c.args.self c.args.other c.self.view_is c.other.view_is

pub returns-clause-members : goal.returns-clause-members
returns-clause-members c x =
    ap (λ set. has set x) (is_common c.self.inside.bits c.other.inside.bits c.args.self c.args.other c.self.view_is c.other.view_is)
    ∙ has-filter (has c.args.other) c.args.self x

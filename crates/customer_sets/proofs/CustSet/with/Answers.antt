use Rattle.std.proofs.Common.{◌≡◌, ℕ, ◌*◌, ◌%◌, ◌<◌, ◌^◌, List, true, ◌∙◌, ap}
use Rattle.std.specs.Int.{w128}
use Rattle.std.specs.List.{sum_by}
use Rattle.std.specs.Prelude.{bit_or}
use Rattle.std.proofs.Math.Nat.{mod-lt}
use Rattle.std.proofs.lemmas.Nat.{or_lt, pow_pos}
use Rattle.std.proofs.lemmas.Nat.Bits.{bit_at_set_other, bit_at_set_same}
use Rattle.customer_sets.specs.CustSet.{has, with_customer}
use Rattle.customer_sets.specs.Members.{members}
use Rattle.customer_sets.proofs.Ranges.{has-with_customer, same-members, sum_by-with_customer, with-members}
use Rattle.customer_sets.proofs.CustSet.with.Goals as goal

is_with : (bits c : ℕ) (set : List ℕ) → members bits ≡ set → c < 128 → members (bit_or bits (1 * 2 ^ c % 2 ^ 128)) ≡ with_customer c set
is_with bits c set view small =
    with-members bits (bit_or bits (1 * 2 ^ c % 2 ^ 128)) c small (bit_at_set_same w128 bits c small) (λ x other. bit_at_set_other w128 bits c small x other)
    ∙ ap (λ s. with_customer c s) view

is_same : (bits c : ℕ) (set : List ℕ) → members bits ≡ set → c < 128 → has set c ≡ true → members (bit_or bits (1 * 2 ^ c % 2 ^ 128)) ≡ set
is_same bits c set view small in_it =
    same-members bits (bit_or bits (1 * 2 ^ c % 2 ^ 128)) c small (ap (λ s. has s c) view ∙ in_it) (bit_at_set_same w128 bits c small) (λ x other. bit_at_set_other w128 bits c small x other)
    ∙ view

pub invariant_of-result : goal.invariant_of-result
invariant_of-result c = or_lt 128 c.self.inside.bits (1 * 2 ^ c.args.c % 2 ^ 128) c.self.invariant (mod-lt (1 * 2 ^ c.args.c) (pow_pos 128))

pub returns-clause-value : goal.returns-clause-value
returns-clause-value c = is_with c.self.inside.bits c.args.c c.args.self c.self.view_is c.requires

pub returns-clause-members : goal.returns-clause-members
returns-clause-members c x =
    ap (λ set. has set x) (is_with c.self.inside.bits c.args.c c.args.self c.self.view_is c.requires) ∙ has-with_customer c.args.c c.args.self x

pub returns-clause-old : goal.returns-clause-old
returns-clause-old c in_it = is_same c.self.inside.bits c.args.c c.args.self c.self.view_is c.requires in_it

pub returns-clause-new : goal.returns-clause-new
returns-clause-new c new f =
    ap (λ set. sum_by f set) (is_with c.self.inside.bits c.args.c c.args.self c.self.view_is c.requires) ∙ sum_by-with_customer f c.args.c c.args.self new

use Rattle.std.proofs.Common.{◌≡◌, ◌∙◌, ◌<◌, ◌*◌, ◌%◌, ◌^◌, ℕ, List, ap, nat_eq}
use Rattle.std.specs.Int.{bit_not, w128}
use Rattle.std.specs.List.{filter}
use Rattle.std.specs.Prelude.{bit_and, not}
use Rattle.std.proofs.lemmas.Nat.Bits.{bit_at_clear_other, bit_at_clear_same}
use Rattle.customer_sets.specs.CustSet.{has}
use Rattle.customer_sets.specs.Members.{members}
use Rattle.customer_sets.proofs.Ranges.{has-filter, without-members}
use Rattle.customer_sets.proofs.CustSet.without.Goals as goal

is_without : (bits c : ℕ) (set : List ℕ) → members bits ≡ set → c < 128 → members (bit_and bits (bit_not w128 (1 * 2 ^ c % 2 ^ 128))) ≡ filter (λ x. not (nat_eq x c)) set
is_without bits c set view small =
    without-members bits (bit_and bits (bit_not w128 (1 * 2 ^ c % 2 ^ 128))) c (bit_at_clear_same w128 bits c small) (λ x below apart. bit_at_clear_other w128 bits c small x below apart)
    ∙ ap (λ s. filter (λ x. not (nat_eq x c)) s) view

pub returns-clause-value : goal.returns-clause-value
returns-clause-value c = is_without c.self.inside.bits c.args.c c.args.self c.self.view_is c.requires

pub returns-clause-members : goal.returns-clause-members
returns-clause-members c x =
    ap (λ set. has set x) (is_without c.self.inside.bits c.args.c c.args.self c.self.view_is c.requires)
    ∙ has-filter (λ x. not (nat_eq x c.args.c)) c.args.self x

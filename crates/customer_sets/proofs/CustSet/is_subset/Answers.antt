use Rattle.std.proofs.Common.{◌<◌, ◌^◌, arith, subst, sym}
use Rattle.std.specs.Prelude.{bit_and}
use Rattle.std.proofs.lemmas.Bool.{eq-eqb, eqb-true}
use Rattle.std.proofs.lemmas.Nat.{and_le_l}
use Rattle.customer_sets.specs.CustSet.{IsWithin}
use Rattle.customer_sets.specs.Members.{members}
use Rattle.customer_sets.proofs.Ranges.{members-within, within-members}
use Rattle.customer_sets.proofs.CustSet.is_subset.Goals as goal

pub returns : goal.returns
returns c =
    let a = c.self.inside.bits in
    let b = c.other.inside.bits in (
      λ same.
          let within = within-members a b (eqb-true (bit_and a b) a same) in
          let first = subst (λ small. IsWithin small (members b)) c.self.view_is within in
          subst (λ large. IsWithin c.args.self large) c.other.view_is first,
      λ within.
          let last = subst (λ large. IsWithin c.args.self large) (sym c.other.view_is) within in
          let both = subst (λ small. IsWithin small (members b)) (sym c.self.view_is) last in
          let less = and_le_l a b in
          let small : bit_and a b < 2 ^ 128 = omega (arith, less, c.self.invariant) in
          eq-eqb (bit_and a b) a (members-within a b c.self.invariant small both),
    )

use Rattle.std.proofs.Common.{◌∙◌, refl, sym, ap, subst, rules, FitsSigned}
use Rattle.std.specs.Int.{w128}
use Rattle.std.specs.Prelude.{◌≤ℤ◌}
use Rattle.std.proofs.lemmas.Bool.{false≢true}
use Rattle.std.proofs.lemmas.Int.{to_z-of_z}
use Rattle.certificate_parts.specs.Ranges.{customer_count}
use Rattle.customer_sets.specs.CustSet.{has}
use Rattle.near_tree.specs.Follows.{entries_earned}
use Rattle.near_tree.specs.Lasts.{last_at}
use Rattle.near_tree.specs.Sites.{leaf_of}
use Rattle.near_tree.proofs.Standing.{may_by_row, may_not_by_row}
use Rattle.near_tree.proofs.site.Site.is_served.Goals as goal

pub returns-then-not-has : goal.returns-then-not-has
returns-then-not-has c = (
  λ is may. absurd (may_not_by_row (customer_count c.args.self.now.inst.now) c.args.self.now.path.now c.args.may.now c.args.other c.args.next (last_at (customer_count c.args.self.now.inst.now) c.args.other) c.requires.may c.requires.other c.requires.next refl c.index-may-other.result (sym (ap (λ r. has r c.args.next) c.index-may-other.is) ∙ sym c.has.ensures.value ∙ c.if-not-has.true) may),
  λ served. refl,
)

pub returns-then-not-has-2 : goal.returns-then-not-has-2
returns-then-not-has-2 c = (
  λ is. absurd (false≢true is),
  λ served. absurd (may_not_by_row (customer_count c.args.self.now.inst.now) c.args.self.now.path.now c.args.may.now c.args.last c.args.next (last_at (customer_count c.args.self.now.inst.now) c.args.last) c.requires.may c.requires.last c.requires.next refl c.index-may-last.result (sym (ap (λ r. has r c.args.next) c.index-may-last.is) ∙ sym c.has-2.ensures.value ∙ c.if-not-has-2.true)
      (served (may_by_row (customer_count c.args.self.now.inst.now) c.args.self.now.path.now c.args.may.now c.args.other c.args.next (last_at (customer_count c.args.self.now.inst.now) c.args.other) c.requires.may c.requires.other c.requires.next refl c.index-may-other.result (sym (ap (λ r. has r c.args.next) c.index-may-other.is) ∙ sym c.has.ensures.value ∙ c.if-not-has.false))).0),
)

pub returns : goal.returns
returns c =
    let one : FitsSigned w128 c.earned_next-earned.result = search rules in
    let two : FitsSigned w128 c.earned_next-least.result = search rules in
    let told = simp to_z-of_z at c.no_less.ensures in (
      λ is may. (
        may_by_row (customer_count c.args.self.now.inst.now) c.args.self.now.path.now c.args.may.now c.args.last c.args.next (last_at (customer_count c.args.self.now.inst.now) c.args.last) c.requires.may c.requires.last c.requires.next refl c.index-may-last.result (sym (ap (λ r. has r c.args.next) c.index-may-last.is) ∙ sym c.has-2.ensures.value ∙ c.if-not-has-2.false),
        subst (λ z. z ≤ℤ entries_earned (leaf_of c.args.self.now).branch.counted (leaf_of c.args.self.now).section.entry_prices (last_at (customer_count c.args.self.now.inst.now) c.args.last) c.args.next) c.earned_next-least.ensures.value (subst (λ z. c.earned_next-least.result ≤ℤ z) c.earned_next-earned.ensures.value (told.0 is)),
      ),
      λ served.
          let may = may_by_row (customer_count c.args.self.now.inst.now) c.args.self.now.path.now c.args.may.now c.args.other c.args.next (last_at (customer_count c.args.self.now.inst.now) c.args.other) c.requires.may c.requires.other c.requires.next refl c.index-may-other.result (sym (ap (λ r. has r c.args.next) c.index-may-other.is) ∙ sym c.has.ensures.value ∙ c.if-not-has.false) in
          told.1 (subst (λ z. c.earned_next-least.result ≤ℤ z) (sym c.earned_next-earned.ensures.value) (subst (λ z. z ≤ℤ entries_earned (leaf_of c.args.self.now).branch.counted (leaf_of c.args.self.now).section.entry_prices (last_at (customer_count c.args.self.now.inst.now) c.args.last) c.args.next) (sym c.earned_next-least.ensures.value) (served may).1)),
    )

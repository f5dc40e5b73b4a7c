use Rattle.std.proofs.Common.{◌≡◌, ◌∙◌, ◌+◌, sym, subst, Option, ℕ, length, ap, Vec, Global, List, arith}
use Rattle.std.proofs.lemmas.Grind.{elements}
use Rattle.std.specs.Prelude.{Bool, MatchOption, nat_eq, not}
use Rattle.label_pool.proofs.Elements.{element_at}
use Rattle.frvcp_labels.proofs.ChargedStates.{charged_still}
use Rattle.frvcp_labels.proofs.MoreLabels.{grown_on}
use Rattle.frvcp_labels.proofs.SearchTurns.{left_only, left_reached, left_same, origin_of, taken_state, taken_step}
use Rattle.frvcp_labels.proofs.trip.Trip.add_all.Goals as goal

told : (v : Vec (List (ℕ × ℕ)) Global) (empty : Bool) → empty ≡ nat_eq v.len 0 → empty ≡ nat_eq (length v.items) 0
told v empty is = is ∙ ap (λ n. nat_eq n 0) v.ok.0

pub add_noted-requires-clause-state : goal.add_noted-requires-clause-state
add_noted-requires-clause-state c =
    let label = element_at c.args.pool.now.labels c.args.i c.requires.from in
    (taken_step c.args.self.now c.args.passed c.args.to c.args.values.items c.loop-value.values.items c.pop.new.self.items c.in-Some.value c.pop.result c.is_empty.result c.loop-value.invariant.same c.in-Some.is c.pop.ensures.items (told c.pop.new.self c.is_empty.result c.is_empty.ensures) label.0.value
    (c.requires.steps label.0 label.1)).state

pub add_noted-requires-clause-origin : goal.add_noted-requires-clause-origin
add_noted-requires-clause-origin c =
    origin_of c.args.self.now c.args.pool.now.labels c.loop-value.pool.labels c.args.i (taken_state c.args.passed c.args.to (not c.is_empty.result) c.in-Some.value) c.requires.from c.loop-value.invariant.grown
    (λ label here. taken_step c.args.self.now c.args.passed c.args.to c.args.values.items c.loop-value.values.items c.pop.new.self.items c.in-Some.value c.pop.result c.is_empty.result c.loop-value.invariant.same c.in-Some.is c.pop.ensures.items (told c.pop.new.self c.is_empty.result c.is_empty.ensures) label.value (c.requires.steps label here))

pub loop-value-preserved : goal.loop-value-preserved
loop-value-preserved c = record {
  pool = c.in_ok-add_noted.ensures.pool;
  full = c.in_ok-add_noted.ensures.full;
  grown = grown_on c.args.pool.now.labels c.loop-value.pool.labels c.add_noted.new.pool.labels c.loop-value.invariant.grown c.in_ok-add_noted.ensures.grown;
  only = left_only c.args.self.now c.args.passed c.args.to c.args.values.items c.loop-value.values.items c.pop.new.self.items c.in-Some.value c.pop.result c.is_empty.result c.loop-value.invariant.same c.in-Some.is c.pop.ensures.items (told c.pop.new.self c.is_empty.result c.is_empty.ensures)
      c.args.pool.now.labels c.loop-value.pool.labels c.add_noted.new.pool.labels c.loop-value.invariant.only c.in_ok-add_noted.ensures.only;
  same = left_same c.args.self.now c.args.passed c.args.to c.args.values.items c.loop-value.values.items c.pop.new.self.items c.in-Some.value c.pop.result c.is_empty.result c.loop-value.invariant.same c.in-Some.is c.pop.ensures.items (told c.pop.new.self c.is_empty.result c.is_empty.ensures);
  reached = left_reached c.args.self.now c.args.passed c.args.to c.args.values.items c.loop-value.values.items c.pop.new.self.items c.in-Some.value c.pop.result c.is_empty.result c.loop-value.invariant.same c.in-Some.is c.pop.ensures.items (told c.pop.new.self c.is_empty.result c.is_empty.ensures)
      c.loop-value.pool.labels c.add_noted.new.pool.labels c.in_ok-add_noted.ensures.grown c.loop-value.invariant.reached c.in_ok-add_noted.ensures.reached;
}

no_values : (v : Vec (List (ℕ × ℕ)) Global) → v.len ≡ 0 → length v.items ≡ 0
no_values v is = sym v.ok.0 ∙ is

pub returns-clause-charged : goal.returns-clause-charged
returns-clause-charged c =
    let label = element_at c.args.pool.now.labels c.args.i c.requires.from in
    let ended = subst (λ (o : Option (List (ℕ × ℕ))). MatchOption o ((c.loop-value.values.len ≡ 0) × (c.pop.new.self.len ≡ 0)) (λ _. c.pop.new.self.len + 1 ≡ c.loop-value.values.len)) c.in_default.is c.pop.ensures.cases in
    let none = no_values c.loop-value.values ended.0 in
    charged_still c.args.self.now c.requires.pool.trip.network label.0.value c.args.passed c.args.to c.args.values.items (c.requires.steps label.0 label.1) (c.requires.covers label.0 label.1) c.loop-value.pool.labels
    (λ k w here v holds. c.loop-value.invariant.reached k w (omega (arith, none)) here v holds) c.args.pool.now.labels c.loop-value.invariant.grown.keeps c.requires.charged c.loop-value.invariant.only

pub loop-value-init : goal.loop-value-init
loop-value-init = grind (arith, elements)

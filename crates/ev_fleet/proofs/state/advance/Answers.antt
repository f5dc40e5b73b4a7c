use Rattle.std.proofs.Common.{◌≡◌, ◌∙◌, ℕ, Option, length, sym, ap, subst, arith}
use Rattle.branching.specs.SearchTree.{SearchTree}
use Rattle.ev_fleet.specs.Bounds.{IsAtMost}
use Rattle.ev_fleet.specs.Held.{cost_at}
use Rattle.ev_fleet.specs.Splitting.{IsSettled}
use Rattle.ev_fleet.specs.State.{greater_of}
use Rattle.ev_fleet.specs.declared.state.FleetSearch.{FleetSearch}
use Rattle.ev_fleet.proofs.SearchSteps.{advanced_by}
use Rattle.ev_fleet.proofs.Decided.{decided_taken, top_reaches}
use Rattle.ev_fleet.proofs.Found.{found_of, strong_sum}
use Rattle.ev_fleet.proofs.state.advance.Goals as goal

pub bound_of-own-requires-clause-some : goal.bound_of-own-requires-clause-some
bound_of-own-requires-clause-some c =
    let g = c.args.inst.now in
    let found = found_of g c.take_next-taken.result.pairs c.in_ok-section.section c.in_ok-section.root c.in_ok-section.ensures.bound in
    strong_sum g c.in_ok-section.section found.strong

pub settle-requires-clause-customers : goal.settle-requires-clause-customers
settle-requires-clause-customers c = ap (λ (t : SearchTree). t.customers) c.take_next-taken.ensures.next.made ∙ c.requires.customers

pub settle-requires-clause-decided : goal.settle-requires-clause-decided
settle-requires-clause-decided c = λ cannot.
    let t = c.take_next-taken.result in
    let own = c.bound_of-own.result in
    let cost = cost_at c.bound_pairs.new.held in
    let decided = decided_taken c.args.search.now.tree c.take_next-taken.new.tree t c.take_next-taken.ensures.next cannot in
    let reaches = c.in_ok-section.ensures.decided decided in
    let top = top_reaches c.len-number.result t.section t.bound own cost c.in_ok-section.section reaches c.bound_of-own.ensures.bound in
    let named : IsAtMost cost c.greater_of-name.result.1 = subst (λ (x : ℕ × Option ℕ). IsAtMost cost x.1) (sym c.greater_of-name.ensures) top in
    subst (λ x. IsAtMost x c.greater_of-name.result.1) (sym c.cost_of-cost.ensures) named

pub returns-clause-advanced : goal.returns-clause-advanced
returns-clause-advanced c =
    let old = c.args.search.now in
    let new : FleetSearch = record { tree = c.settle.new.tree; sections = c.push.new.self; pool = c.bound_pairs.new.pool; held = c.bound_pairs.new.held; open_nodes = c.open_behind-search.result } in
    let t = c.take_next-taken.result in
    let own = c.bound_of-own.result in
    let greater = c.greater_of-name.result in
    let len = c.len-number.ensures in
    let count : c.len-number.result ≡ length old.sections.items = omega (arith, len) in
    let is_greater : greater ≡ greater_of (length old.sections.items) own t.section t.bound = c.greater_of-name.ensures ∙ ap (λ n. greater_of n own t.section t.bound) count in
    let settled : IsSettled c.take_next-taken.new.tree t.key greater.0 greater.1 (cost_at new.held) new.tree =
    subst (λ x. IsSettled c.take_next-taken.new.tree t.key greater.0 greater.1 x new.tree) c.cost_of-cost.ensures c.in_ok-is_split.ensures.settled in
    advanced_by c.args.inst.now old new c.take_next-taken.new.tree t c.in_ok-section.root c.in_ok-section.section own greater c.take_next-taken.ensures.next c.in_ok-section.ensures.bound
    c.bound_of-own.ensures.bound c.in_ok-push.ensures.items c.bound_pairs.ensures.kept c.bound_pairs.ensures.held c.in_ok-section.ensures.taken c.bound_pairs.ensures.pool is_greater settled

use Rattle.std.proofs.Common.{◌≡◌, ◌∙◌, ◌≤◌, false, None, IsTrue, ◌≢◌, ◌⊎◌, length, sym, subst, arith}
use Rattle.std.specs.List.{All}
use Rattle.bound_certificate.specs.Kept.{IsKept}
use Rattle.bound_certificate.specs.Limits.{most_items}
use Rattle.bound_certificate.specs.Meaning.{IsTreeOf}
use Rattle.bound_certificate.specs.declared.certificate.Certificate.{Certificate}
use Rattle.branching.specs.SearchTree.{sections_named}
use Rattle.ev_fleet.specs.Held.{cost_at}
use Rattle.ev_fleet.specs.LeafNames.{IsLeastFrom, IsSummable, NameSections}
use Rattle.ev_fleet.specs.Outcome.{IsOutcome}
use Rattle.ev_fleet.specs.Searching.{IsDone, IsUsedUp, IsWithin, ShowsRoot, plan_at}
use Rattle.ev_fleet.specs.State.{IsSearch}
use Rattle.ev_fleet.specs.Whole.{IsNoDearer}
use Rattle.ev_fleet.proofs.AssembledOutcomes.{is_outcome, names, sums}
use Rattle.ev_fleet.proofs.answer.outcome_of.Goals as goal

pub returns : goal.returns
returns c = λ budget within ended.
    let g = c.args.inst.now in
    let s = c.args.search in
    let cost = cost_at s.held in
    let bound = c.least_bound-bound.result in
    let stopped = c.differ-stopped.result in
    let certificate : Certificate = record { bound = bound; root = c.args.root; sections = c.from_vec.result; tree = c.from_vec-2.result } in
    let same : s.sections.items ≡ certificate.sections = sym c.from_vec.ensures in
    let is : IsSearch g s.tree certificate.sections cost = subst (λ xs. IsSearch g s.tree xs cost) same c.requires.searching.search in
    let shows : ShowsRoot g certificate.sections c.args.root = subst (λ xs. ShowsRoot g xs c.args.root) same c.requires.root in
    let whole : All (IsNoDearer g cost) certificate.sections = subst (λ xs. All (IsNoDearer g cost) xs) same c.requires.searching.whole in
    let lines : IsTreeOf certificate.tree (sections_named s.tree.nodes s.tree.tree) = c.from_vec-2.ensures ∙ c.in_ok-lines.ensures.lines in
    let of_lines : IsLeastFrom c.as_slice.result.now None certificate.tree bound =
    subst (λ ls. IsLeastFrom c.as_slice.result.now None ls bound) (c.as_slice-2.ensures.value ∙ sym c.from_vec-2.ensures) c.least_bound-bound.ensures.least in
    let walk : IsLeastFrom certificate.sections None certificate.tree bound = subst (λ xs. IsLeastFrom xs None certificate.tree bound) (c.as_slice.ensures.value ∙ same) of_lines in
    let len = c.len-nodes.ensures in
    let count : c.len-nodes.result ≡ length s.sections.items = omega (arith, len) in
    let nodes : c.len-nodes.result ≡ length certificate.sections = subst (λ xs. c.len-nodes.result ≡ length xs) same count in
    let many : length certificate.sections ≤ most_items = omega (arith, nodes) in
    let other : IsTrue stopped → cost ≢ bound = subst (λ x. IsTrue stopped → x ≢ bound) c.cost_of-cost.ensures c.differ-stopped.ensures.other in
    let equal : stopped ≡ false → cost ≡ bound = subst (λ x. stopped ≡ false → x ≡ bound) c.cost_of-cost.ensures c.differ-stopped.ensures.same in
    let inside : IsWithin budget (length certificate.sections) = subst (λ xs. IsWithin budget (length xs)) same within in
    let at_end : IsUsedUp budget (length certificate.sections) ⊎ IsDone s.tree.nodes cost = subst (λ xs. IsUsedUp budget (length xs) ⊎ IsDone s.tree.nodes cost) same ended in
    let kept : All IsKept certificate.sections = subst (λ xs. All IsKept xs) (c.as_slice-3.ensures.value ∙ same) c.know_sections.ensures in
    let outcome =
    is_outcome g s.tree certificate s.held c.requires.few c.nodes-nodes.ensures.network (c.accepted_bounds_are_true.ensures g certificate c.nodes-nodes.ensures.network)
    is c.requires.searching.held c.requires.searching.own c.in_ok-lines.ensures.tree shows lines walk c.least_bound-bound.ensures.small many whole c.requires.taken
    budget stopped other equal inside at_end kept in
    let counted : IsOutcome g budget (record { plan = plan_at s.held; cost = cost; certificate = certificate; nodes = c.len-nodes.result; stopped = stopped }) =
    subst (λ n. IsOutcome g budget (record { plan = plan_at s.held; cost = cost; certificate = certificate; nodes = n; stopped = stopped })) (sym nodes) outcome in
    let costed : IsOutcome g budget (record { plan = plan_at s.held; cost = c.cost_of-cost.result; certificate = certificate; nodes = c.len-nodes.result; stopped = stopped }) =
    subst (λ x. IsOutcome g budget (record { plan = plan_at s.held; cost = x; certificate = certificate; nodes = c.len-nodes.result; stopped = stopped })) (sym c.cost_of-cost.ensures) counted in
    subst (λ p. IsOutcome g budget (record { plan = p; cost = c.cost_of-cost.result; certificate = certificate; nodes = c.len-nodes.result; stopped = stopped })) (sym c.plan_of.ensures) costed

pub least_bound-bound-requires-clause-sums : goal.least_bound-bound-requires-clause-sums
least_bound-bound-requires-clause-sums c =
    let s = c.args.search in
    subst (λ xs. All IsSummable xs) (sym c.as_slice.ensures.value) (sums c.args.inst.now s.tree s.sections.items (cost_at s.held) c.requires.few c.requires.searching.search)

pub least_bound-bound-requires-clause-names : goal.least_bound-bound-requires-clause-names
least_bound-bound-requires-clause-names c =
    let s = c.args.search in
    let lines = c.in_ok-lines.lines.items in
    let named : NameSections s.sections.items lines = names c.args.inst.now s.tree s.sections.items (cost_at s.held) lines c.requires.searching.search c.in_ok-lines.ensures.lines in
    let of_lines : NameSections s.sections.items c.as_slice-2.result.now = subst (λ ls. NameSections s.sections.items ls) (sym c.as_slice-2.ensures.value) named in
    subst (λ xs. NameSections xs c.as_slice-2.result.now) (sym c.as_slice.ensures.value) of_lines

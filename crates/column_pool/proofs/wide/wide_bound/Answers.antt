use Rattle.std.proofs.Common.{◌≡◌, ◌∙◌, ◌≤◌, List, ℕ, Vec, ap, arith, length, map, subst, sym}
use Rattle.std.proofs.lemmas.Grind.{common_steps}
use Rattle.std.specs.Global.{Global}
use Rattle.instance_reader.specs.Instance.{customer_nodes}
use Rattle.piece_fn.specs.declared.label.Label.{Label}
use Rattle.price_loop.specs.Rising.{IsRisen}
use Rattle.price_loop.specs.declared.rising.Risen.{Risen}
use Rattle.route_plan.specs.declared.plan.RoutePlan.{RoutePlan}
use Rattle.bound_certificate.specs.Limits.{most_items}
use Rattle.certificate_parts.specs.declared.entry.BasisEntry.{BasisEntry}
use Rattle.bound_certificate.specs.Entries.{entry_of}
use Rattle.column_pool.specs.Nodes.{Node, node_problem}
use Rattle.column_pool.specs.TooWide.{IsWideAt}
use Rattle.column_pool.proofs.Raised.{prices_risen, section_nowhere, section_risen}
use Rattle.column_pool.proofs.WideBases.{wide_at}
use Rattle.column_pool.proofs.wide.wide_bound.Goals as goal

pub returns-in-Nowhere : goal.returns-in-Nowhere
returns-in-Nowhere c caps past =
    let g = c.args.inst.now in
    let p = c.args.pairs.now in
    let told = c.section_of.ensures in
    let there = subst (λ (n : Node). IsRisen (node_problem n.network n.pairs) c.in_ok-prices.field-0) c.in_ok-earners.ensures c.in_ok-prices.ensures in
    let is = subst (λ (r : Risen (Vec Label Global)). IsRisen (node_problem g p) r) c.in-Nowhere.is there in
    section_nowhere g p c.section_of.result c.in-Nowhere.prices.items c.in-Nowhere.closing c.requires.pairs told.pairs told.prices told.labels told.few c.in-Nowhere.customer told.weight is

pub returns-in-Priced : goal.returns-in-Priced
returns-in-Priced c caps past =
    let g = c.args.inst.now in
    let p = c.args.pairs.now in
    let s = c.section_of-in-Priced.result in
    let told = c.section_of-in-Priced.ensures in
    let prices = c.in-Priced.prices.items in
    let closing = c.in-Priced.closing in
    let there = subst (λ (n : Node). IsRisen (node_problem n.network n.pairs) c.in_ok-prices.field-0) c.in_ok-earners.ensures c.in_ok-prices.ensures in
    let is = subst (λ (r : Risen (Vec Label Global)). IsRisen (node_problem g p) r) c.in-Priced.is there in
    let node = section_risen g p s prices closing c.requires.pairs told.pairs told.prices told.labels told.few told.weight is in
    let rising = prices_risen g p s prices closing c.requires.pairs told.pairs told.prices told.labels told.few told.weight is in
    let few : length c.args.plans.items ≤ most_items = (let small = c.args.plans.small in omega (arith, small)) in
    let at = wide_at g p caps c.args.plans.items c.args.basis.now c.requires.routes past s c.nodes-nodes.ensures.network few node told.weight rising in
    let entries : c.from_vec-in-Priced.result ≡ map (entry_of (length (customer_nodes g))) c.args.basis.now = c.from_vec-in-Priced.ensures ∙ c.in_ok-entries.ensures ∙ ap (λ (xs : List ℕ). map (entry_of (length xs)) c.args.basis.now) c.customers.ensures.value in
    let listed = subst (λ (es : List BasisEntry). IsWideAt caps.body caps.cost g p c.args.plans.items es s) (sym entries) at in
    subst (λ (ps : List RoutePlan). IsWideAt caps.body caps.cost g p ps c.from_vec-in-Priced.result s) (sym c.from_vec.ensures) listed

pub rise-requires : goal.rise-requires
rise-requires = grind (arith, common_steps)

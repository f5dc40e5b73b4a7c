use Rattle.std.proofs.Common.{◌≡◌, ◌∙◌, ◌+◌, Option, arith, subst, sym, true}
use Rattle.ev_model.specs.Network.{is_customer, Network}
use Rattle.mixed_model.specs.Kinds.{first_of, network_of}
use Rattle.mixed_model.proofs.AgreeingNetworks.{same_customer}
use Rattle.mixed_model.proofs.KindNumbers.{kind_is}
use Rattle.mixed_fleet.specs.Own.{IsLeastBelow, IsOwnBy}
use Rattle.mixed_fleet.specs.declared.searched.Searched.{Searched}
use Rattle.mixed_fleet.proofs.Once.{agrees_at}
use Rattle.mixed_fleet.proofs.OwnRoutes.{least_step}
use Rattle.mixed_fleet.proofs.own.least_own.Goals as goal

pub own_by-requires-clause-customer : goal.own_by-requires-clause-customer
own_by-requires-clause-customer c =
    let kinds = c.args.kinds.now in
    let kind = c.loop-kind.kind in
    let same = kind_is kinds kind c.index-kinds-kind.result c.loop-kind-test.true c.index-kinds-kind.is in
    let agrees = agrees_at kinds c.requires.fleet kind c.loop-kind-test.true in
    let nodes = agrees.nodes in
    let known = c.requires.known in
    subst (λ (g : Network). is_customer g c.args.node ≡ true) same
    (same_customer (first_of kinds) (network_of kinds kind) agrees c.args.node (omega (arith, known, nodes)) ∙ c.requires.customer)

pub loop-kind-preserved : goal.loop-kind-preserved
loop-kind-preserved c =
    let kinds = c.args.kinds.now in
    let kind = c.loop-kind.kind in
    let node = c.args.node in
    let same = kind_is kinds kind c.index-kinds-kind.result c.loop-kind-test.true c.index-kinds-kind.is in
    let agrees = agrees_at kinds c.requires.fleet kind c.loop-kind-test.true in
    let nodes = agrees.nodes in
    let known = c.requires.known in
    let customer = same_customer (first_of kinds) (network_of kinds kind) agrees node (omega (arith, known, nodes)) ∙ c.requires.customer in
    let by = subst (λ (g : Network). IsOwnBy g kind node c.in_ok-own_by.field-0) (sym same) c.in_ok-own_by.ensures in
    subst (λ (o : Option Searched). IsLeastBelow kinds (kind + 1) node o) (sym c.faster_of-least.ensures)
    (least_step kinds kind node c.loop-kind-test.true customer c.loop-kind.least c.in_ok-own_by.field-0 c.loop-kind.invariant by)

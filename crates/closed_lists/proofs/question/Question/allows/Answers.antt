use Rattle.std.proofs.Common.{◌≡◌, subst}
use Rattle.customer_sets.specs.Pairs.{allows_of}
use Rattle.fleet_model.specs.Places.{place_of}
use Rattle.closed_lists.specs.Questions.{Question}
use Rattle.closed_lists.proofs.RoutePlaces.{placed}
use Rattle.closed_lists.proofs.question.Question.allows.Goals as goal

pub returns : goal.returns
returns c =
    let before = placed c.self.inside.inst.now c.args.last c.place_of-before.result c.place_of-before.ensures.value in
    let next = placed c.self.inside.inst.now c.args.node c.place_of-next.result c.place_of-next.ensures.value in
    subst (λ (q : Question). c.allows.result ≡ allows_of q.pairs (place_of q.network c.args.last) (place_of q.network c.args.node))
    c.self.view_is (rw (← before) (rw (← next) c.allows.ensures))

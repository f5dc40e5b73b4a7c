use Rattle.std.proofs.Common.{[], ◌∷◌, List, subst, sym}
use Rattle.std.specs.List.{All}
use Rattle.std.proofs.lemmas.List.Elements.{All-append, All-cons, All-nil}
use Rattle.ev_fleet.specs.Splitting.{IsChoice}
use Rattle.ev_fleet.specs.declared.pair.Choice.{Choice}
use Rattle.ev_fleet.proofs.pair.partly_used.Goals as goal

pub loop-preserved : goal.loop-preserved
loop-preserved c =
    let P = λ (x : Choice). IsChoice c.args.tree.now c.args.key x in
    let one : All P (c.in-Some.choice ∷ []) = All-cons P c.in-Some.choice [] c.in-Some.ensures (All-nil P) in
    subst (λ (xs : List Choice). All P xs) (sym c.in_ok-push-in-Some.ensures.items) (All-append P c.loop.chosen.items (c.in-Some.choice ∷ []) c.loop.invariant one)

use Rattle.std.proofs.Common.{◌≡◌, ℕ, ◌+◌, ◌-◌, ◌<◌, List, [], ◌∷◌, ◌++◌, length, map, max, replicate, sym, ◌∙◌, ap, subst, refl, arith, Option, None, true, false}
use Rattle.std.proofs.lemmas.Grind.{common_steps}
use Rattle.std.specs.Prelude.{IfSome, IsNone}
use Rattle.std.proofs.lemmas.List.{length-append, length-map}
use Rattle.index_links.specs.Lists.{Lists, lists_padded}
use Rattle.label_pool.specs.declared.label.Label.{Label}
use Rattle.label_pool.specs.Labels.{IsCovered, Labels, beside, labels_with}
use Rattle.label_pool.specs.Tied.{AreListed, IsTied}
use Rattle.label_pool.proofs.LiveCoverage.{covered_by_new, covered_stays}
use Rattle.label_pool.proofs.Ties.{in_queue_room, in_room, number_is_free, tied_more_room, tied_room, tied_with}
use Rattle.label_pool.proofs.pool.Pool.add.Goals as goal

pub is_covered-requires-clause-listed : goal.is_covered-requires-clause-listed
is_covered-requires-clause-listed g c = subst (λ (l : List (Label g.row.V.Denot)). AreListed l c.self.inside.live) (sym c.as_slice.ensures.value) c.self.invariant.listed

pub invariant_of-self-in_err-grow-2 : goal.invariant_of-self-in_err-grow-2
invariant_of-self-in_err-grow-2 g c =
    subst (λ (l : List (Label g.row.V.Denot)). IsTied l c.grow.new.self c.grow-2.new.self) (sym c.reserve.ensures.items)
    (tied_room c.self.inside.labels.items c.self.inside.live c.grow.new.self c.self.inside.queue c.grow-2.new.self (c.len-number.result + 1) c.self.invariant c.in_ok-grow.ensures.ok c.in_err-grow-2.ensures.err)

pub retire_covered-requires-clause-tied : goal.retire_covered-requires-clause-tied
retire_covered-requires-clause-tied g c =
    subst (λ (l : List (Label g.row.V.Denot)). IsTied l c.grow.new.self c.grow-2.new.self) (sym c.reserve.ensures.items)
    (tied_more_room c.self.inside.labels.items c.self.inside.live c.grow.new.self c.self.inside.queue c.grow-2.new.self (c.len-number.result + 1) (c.len-number.result + 1 - length c.self.inside.queue) c.self.invariant c.in_ok-grow.ensures.ok
    c.in_ok-grow-2.ensures.ok)

pub link_last-requires-clause-free : goal.link_last-requires-clause-free
link_last-requires-clause-free g c =
    let old = c.self.inside.labels.items in
    let same : length c.retire_covered.new.labels.items ≡ length old = ap length c.retire_covered.ensures.labels ∙ length-map c.reserve.new.self.items (beside g.V.Covers.dominates c.args.bucket c.args.value) ∙ ap length c.reserve.ensures.items in
    (number_is_free c.retire_covered.new.labels.items c.retire_covered.new.live c.retire_covered.new.queue c.len-number.result c.retire_covered.ensures.tied (omega arith)).0

pub put-requires-clause-free : goal.put-requires-clause-free
put-requires-clause-free g c =
    let old = c.self.inside.labels.items in
    let same : length c.retire_covered.new.labels.items ≡ length old = ap length c.retire_covered.ensures.labels ∙ length-map c.reserve.new.self.items (beside g.V.Covers.dominates c.args.bucket c.args.value) ∙ ap length c.reserve.ensures.items in
    let free = (number_is_free c.retire_covered.new.labels.items c.retire_covered.new.live c.retire_covered.new.queue c.len-number.result c.retire_covered.ensures.tied (omega arith)).1 in
    subst (λ (o : Option ℕ). IsNone o) (sym free) refl

pub invariant_of-self-2 : goal.invariant_of-self-2
invariant_of-self-2 g c =
    let old = c.self.inside.labels.items in
    let number = c.len-number.result in
    let new : Label g.row.V.Denot = record { bucket = c.args.bucket; value = c.args.value; key = c.args.key; parent = c.args.parent; live = true; settled = false } in
    let same : length c.retire_covered.new.labels.items ≡ length old = ap length c.retire_covered.ensures.labels ∙ length-map c.reserve.new.self.items (beside g.V.Covers.dominates c.args.bucket c.args.value) ∙ ap length c.reserve.ensures.items in
    let room : c.retire_covered.new.live.items ≡ max (number + 1) c.self.inside.live.items = c.retire_covered.ensures.items ∙ ap (λ (o : Lists). o.items) c.in_ok-grow.ensures.ok in
    let queue_room : length c.retire_covered.new.queue ≡ length (c.self.inside.queue ++ replicate (number + 1 - length c.self.inside.queue) None) = c.retire_covered.ensures.queue ∙ ap length c.in_ok-grow-2.ensures.ok in
    let parent : IfSome c.args.parent (λ p. p < length c.retire_covered.new.labels.items) =
    subst (λ n. IfSome c.args.parent (λ p. p < n)) (sym same) (subst (λ (p : Labels g.row.V.Denot). IfSome c.args.parent (λ q. q < length p.labels)) (sym c.self.view_is) c.requires.parent) in
    let buckets : length c.self.inside.live.lists ≡ c.args.self.now.buckets = ap (λ (p : Labels g.row.V.Denot). p.buckets) c.self.view_is in
    let lists : length c.retire_covered.new.live.lists ≡ length (lists_padded c.self.inside.live.lists 0) = c.retire_covered.ensures.lists ∙ ap (λ (o : Lists). length o.lists) c.in_ok-grow.ensures.ok in
    let bucket : c.args.bucket < length c.retire_covered.new.live.lists = omega (arith, length-append c.self.inside.live.lists (replicate {A = List ℕ} (0 - length c.self.inside.live.lists) [])) in
    let of : number ≡ length c.retire_covered.new.labels.items = omega arith in
    tied_with c.retire_covered.new.labels.items c.push.new.self.items c.retire_covered.new.live c.link_last.new.self c.retire_covered.new.queue c.put.new.self new number c.retire_covered.ensures.tied bucket of
    (in_room number c.self.inside.live.items c.retire_covered.new.live.items room) (in_queue_room number c.self.inside.queue c.retire_covered.new.queue queue_room) parent refl refl c.in_ok-push.ensures.items c.link_last.ensures
    c.put.ensures

pub returns-clause-own : goal.returns-clause-own
returns-clause-own g c =
    let new : Label g.row.V.Denot = record { bucket = c.args.bucket; value = c.args.value; key = c.args.key; parent = c.args.parent; live = true; settled = false } in
    let all : c.push.new.self.items ≡ labels_with g.V.Covers.dominates c.self.inside.labels.items new =
    c.in_ok-push.ensures.items ∙ ap (λ (l : List (Label g.row.V.Denot)). l ++ new ∷ []) (c.retire_covered.ensures.labels ∙ ap (map (beside g.V.Covers.dominates c.args.bucket c.args.value)) c.reserve.ensures.items) in
    subst (λ (l : List (Label g.row.V.Denot)). IsCovered g.V.Covers.dominates l c.args.bucket c.args.value) (sym all) (covered_by_new g.V.Covers.dominates g.met.V.Covers.reflexive c.self.inside.labels.items new refl)

pub returns-clause-keeps : goal.returns-clause-keeps
returns-clause-keeps g c b x is =
    let new : Label g.row.V.Denot = record { bucket = c.args.bucket; value = c.args.value; key = c.args.key; parent = c.args.parent; live = true; settled = false } in
    let all : c.push.new.self.items ≡ labels_with g.V.Covers.dominates c.self.inside.labels.items new =
    c.in_ok-push.ensures.items ∙ ap (λ (l : List (Label g.row.V.Denot)). l ++ new ∷ []) (c.retire_covered.ensures.labels ∙ ap (map (beside g.V.Covers.dominates c.args.bucket c.args.value)) c.reserve.ensures.items) in
    let was : IsCovered g.V.Covers.dominates c.self.inside.labels.items b x = subst (λ (p : Labels g.row.V.Denot). IsCovered g.V.Covers.dominates p.labels b x) (sym c.self.view_is) is in
    subst (λ (l : List (Label g.row.V.Denot)). IsCovered g.V.Covers.dominates l b x) (sym all) (covered_stays g.V.Covers.dominates g.met.V.Covers.transitive c.self.inside.labels.items new b x refl was)

pub invariant_of-self-in_err-grow : goal.invariant_of-self-in_err-grow
invariant_of-self-in_err-grow = grind (arith, common_steps)

pub retire_covered-requires-clause-bucket : goal.retire_covered-requires-clause-bucket
retire_covered-requires-clause-bucket = grind (arith, common_steps)

pub returns-clause-some : goal.returns-clause-some
returns-clause-some = grind (arith, common_steps)

pub invariant_of-self : goal.invariant_of-self
invariant_of-self = grind (arith, common_steps)

pub invariant_of-self-in_err-push : goal.invariant_of-self-in_err-push
invariant_of-self-in_err-push = grind (arith, common_steps)

pub returns-clause-unchanged : goal.returns-clause-unchanged
returns-clause-unchanged = grind (arith, common_steps)

pub returns-clause-none : goal.returns-clause-none
returns-clause-none = grind (arith, common_steps)

pub returns-clause-added : goal.returns-clause-added
returns-clause-added = grind (arith, common_steps)

pub returns-in_err-push-clause-err : goal.returns-in_err-push-clause-err
returns-in_err-push-clause-err = grind (arith, common_steps)

pub link_last-requires-clause-list : goal.link_last-requires-clause-list
link_last-requires-clause-list = grind (arith, common_steps)

pub is_covered-requires-clause-bucket : goal.is_covered-requires-clause-bucket
is_covered-requires-clause-bucket = grind (arith, common_steps)

pub link_last-requires-clause-item : goal.link_last-requires-clause-item
link_last-requires-clause-item = grind (arith, common_steps)

pub put-requires-clause-item : goal.put-requires-clause-item
put-requires-clause-item = grind (arith, common_steps)

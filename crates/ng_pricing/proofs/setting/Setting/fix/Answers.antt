use Rattle.std.proofs.Common.{◌∙◌, List, ℕ, ap, get_or, set, subst, sym, arith}
use Rattle.std.proofs.lemmas.Grind.{common_steps}
use Rattle.std.proofs.lemmas.List.{set-set}
use Rattle.near_pricing.specs.Answers.{AreClosedLabels}
use Rattle.ng_pricing.specs.Fixing.{IsFixed, IsOpen}
use Rattle.ng_pricing.specs.Met.{AreMet}
use Rattle.ng_pricing.specs.Rising.{terms_at}
use Rattle.ng_pricing.specs.declared.raising.Rising.{Rising}
use Rattle.ng_pricing.proofs.Risen.{closed_next, closed_still, open_next, risen_next}
use Rattle.ng_pricing.proofs.setting.Setting.fix.Goals.{in-Some, in_default}
use Rattle.ng_pricing.proofs.setting.Setting.fix.Goals as goal

pub first_limit-requires-clause-open : goal.first_limit-requires-clause-open
first_limit-requires-clause-open c =
    subst (λ (ps : List ℕ). IsOpen c.args.self.now.inst.now c.args.self.now.sets.now ps c.args.customer) (sym c.deref.ensures.value)
    (open_next c.args.self.now.inst.now c.args.self.now.sets.now c.args.base.now c.args.customer c.args.rising.now c.requires.setting.network c.requires.customer c.requires.before)

pub lowered-requires-clause-open : goal.lowered-requires-clause-open
lowered-requires-clause-open c =
    subst (λ (ps : List ℕ). IsOpen c.args.self.now.inst.now c.args.self.now.sets.now ps c.args.customer) (sym c.deref-2.ensures.value)
    (open_next c.args.self.now.inst.now c.args.self.now.sets.now c.args.base.now c.args.customer c.args.rising.now c.requires.setting.network c.requires.customer c.requires.before)

pub returns-clause-fixed : goal.returns-clause-fixed
returns-clause-fixed c =
    let g = c.args.self.now.inst.now in
    let sets = c.args.self.now.sets.now in
    let base = c.args.base.now in
    let n = c.args.customer in
    let r = c.args.rising.now in
    let f = c.in_ok-fixed.fixed in
    let network = c.requires.setting.network in
    let less = c.requires.customer in
    let before = c.requires.before in
    let fixed = subst (λ (ps : List ℕ). IsFixed c.args.self.now.inst.now c.args.self.now.sets.now ps c.args.customer (get_or c.args.base.now c.args.customer 0) c.in_ok-fixed.fixed) c.deref-2.ensures.value c.in_ok-fixed.ensures.fixed in
    let next = c.match-fixed-2.rising in
    elim c.match-fixed-2.branch [
      | in-Some w ↦
          let closed = closed_next g sets base n r network less before f fixed w.in-Some.labels w.in-Some.is in
          risen_next g sets base n r network less before f fixed next
          (ap (λ (x : Rising). x.prices.items) w.rising-is ∙ set-set r.prices.items n 0 f.price)
          (subst (AreClosedLabels c.args.self.now.inst.now (terms_at c.args.self.now.sets.now (set c.args.rising.now.prices.items c.args.customer c.in_ok-fixed.fixed.price))) (sym (ap (λ (x : Rising). x.labels) w.rising-is ∙ w.in-Some.labels-is)) closed)
          (ap (λ (x : Rising). x.tight.items) w.rising-is ∙ c.in_ok-push.ensures.items)
          (subst (AreMet c.args.self.now.inst.now c.args.self.now.sets.now) (sym (ap (λ (x : Rising). x.met.items) w.rising-is)) c.in_ok-fixed.ensures.met)
      | in_default w ↦
          let closed = closed_still g sets base n r network less before f fixed w.in_default.is in
          risen_next g sets base n r network less before f fixed next
          (ap (λ (x : Rising). x.prices.items) w.rising-is ∙ set-set r.prices.items n 0 f.price)
          (subst (AreClosedLabels c.args.self.now.inst.now (terms_at c.args.self.now.sets.now (set c.args.rising.now.prices.items c.args.customer c.in_ok-fixed.fixed.price))) (sym (ap (λ (x : Rising). x.labels) w.rising-is)) closed)
          (ap (λ (x : Rising). x.tight.items) w.rising-is ∙ c.in_ok-push.ensures.items)
          (subst (AreMet c.args.self.now.inst.now c.args.self.now.sets.now) (sym (ap (λ (x : Rising). x.met.items) w.rising-is)) c.in_ok-fixed.ensures.met)
    ]

pub returns-in-Unserved-clause-unserved : goal.returns-in-Unserved-clause-unserved
returns-in-Unserved-clause-unserved = grind (arith, common_steps)

pub index_mut-requires : goal.index_mut-requires
index_mut-requires = grind (arith, common_steps)

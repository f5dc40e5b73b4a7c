use Rattle.std.proofs.Common.{◌≡◌, ◌∙◌, ℕ, ◌++◌, List, Option, None, Some, ap, codes, sym}
use Rattle.plan_schedule.specs.declared.schedule.Visit.{Visit}
use Rattle.schedule_texts.specs.Clocks.{clock_text}
use Rattle.schedule_texts.specs.JsonTexts.{clock_fields}
use Rattle.schedule_texts.specs.declared.clock.Clock.{Clock}
use Rattle.schedule_texts.proofs.Joined.{join}
use Rattle.schedule_texts.proofs.json.push_clock.Goals as goal

pub returns : goal.returns
unfolding clock_fields
returns c =
    let x = c.args.out.now.items in
    let clock = c.in-Some.clock in
    let a1 : List ℕ = codes ",\"arrival_clock\":\"" in
    let y1 = c.push_word.new.out.items in
    let a2 : List ℕ = clock_text clock c.args.denominator c.args.visit.now.arrival in
    let y2 = c.push_clock_time.new.out.items in
    let a3 : List ℕ = codes "\",\"leaving_clock\":\"" in
    let y3 = c.push_word-2.new.out.items in
    let a4 : List ℕ = clock_text clock c.args.denominator c.args.visit.now.leaving in
    let y4 = c.push_clock_time-2.new.out.items in
    let a5 : List ℕ = codes "\"" in
    let y5 = c.push_word-3.new.out.items in
    let e1 : y1 ≡ x ++ a1 = c.in_ok-push_word.ensures.ok in
    let e2 : y2 ≡ y1 ++ a2 = c.in_ok-push_clock_time.ensures in
    let e3 : y3 ≡ y2 ++ a3 = c.in_ok-push_word-2.ensures.ok in
    let e4 : y4 ≡ y3 ++ a4 = c.in_ok-push_clock_time-2.ensures in
    let e5 : y5 ≡ y4 ++ a5 = c.in_ok-push_word-3.ensures.ok in
    let t2 = join x y1 y2 (a1) a2 e1 e2 in
    let t3 = join x y2 y3 (a1 ++ a2) a3 t2 e3 in
    let t4 = join x y3 y4 (a1 ++ a2 ++ a3) a4 t3 e4 in
    let t5 = join x y4 y5 (a1 ++ a2 ++ a3 ++ a4) a5 t4 e5 in
    t5 ∙ ap (λ (o : Option Clock). x ++ clock_fields o c.args.denominator c.args.visit.now) (sym c.in-Some.is)

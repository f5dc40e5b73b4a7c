use Rattle.std.proofs.Common.{◌≡◌, ◌∙◌, ℕ, ◌++◌, List, ap}
use Rattle.plan_schedule.specs.declared.schedule.Corner.{Corner}
use Rattle.plan_schedule.specs.declared.schedule.Visit.{Visit}
use Rattle.schedule_texts.specs.Axes.{axis_text}
use Rattle.schedule_texts.specs.Frames.{frame_text}
use Rattle.schedule_texts.specs.LevelLines.{bends_text, line_text}
use Rattle.schedule_texts.specs.Names.{names_text, room_of}
use Rattle.schedule_texts.specs.Shapes.{stops_text}
use Rattle.schedule_texts.specs.Panels.{panel_text}
use Rattle.schedule_texts.proofs.Joined.{join}
use Rattle.schedule_texts.proofs.picture.panel.push_panel.Goals as goal

pub returns : goal.returns
unfolding panel_text
returns c =
    let x = c.args.out.now.items in
    let a1 : List ℕ = axis_text c.args.scale in
    let y1 = c.push_axis.new.out.items in
    let a2 : List ℕ = frame_text c.args.scale in
    let y2 = c.push_frame.new.out.items in
    let a3 : List ℕ = names_text c.args.scale c.args.places.now (room_of c.args.scale c.args.route.now.visits) c.args.route.now.visits in
    let y3 = c.push_names.new.out.items in
    let a4 : List ℕ = line_text c.args.scale c.args.route.now.line in
    let y4 = c.push_line.new.out.items in
    let a5 : List ℕ = bends_text c.args.scale c.args.route.now.line in
    let y5 = c.push_bends.new.out.items in
    let a6 : List ℕ = stops_text c.args.scale c.args.places.now 0 c.args.route.now.visits in
    let y6 = c.push_stops.new.out.items in
    let e1 : y1 ≡ x ++ a1 = c.in_ok-push_axis.ensures in
    let e2 : y2 ≡ y1 ++ a2 = c.in_ok-push_frame.ensures in
    let e3 : y3 ≡ y2 ++ a3 = c.in_ok-push_names.ensures ∙ ap (λ (w : List ℕ). y2 ++ w) (ap (λ (vs : List Visit). names_text c.args.scale c.args.places.now (room_of c.args.scale vs) vs) c.as_slice.ensures) in
    let e4 : y4 ≡ y3 ++ a4 = c.in_ok-push_line.ensures ∙ ap (λ (w : List ℕ). y3 ++ w) (ap (λ (l : List Corner). line_text c.args.scale l) c.as_slice-2.ensures) in
    let e5 : y5 ≡ y4 ++ a5 = c.in_ok-push_bends.ensures ∙ ap (λ (w : List ℕ). y4 ++ w) (ap (λ (l : List Corner). bends_text c.args.scale l) c.as_slice-3.ensures) in
    let e6 : y6 ≡ y5 ++ a6 = c.in_ok-push_stops.ensures ∙ ap (λ (w : List ℕ). y5 ++ w) (ap (λ (vs : List Visit). stops_text c.args.scale c.args.places.now 0 vs) c.as_slice-4.ensures) in
    let t2 = join x y1 y2 (a1) a2 e1 e2 in
    let t3 = join x y2 y3 (a1 ++ a2) a3 t2 e3 in
    let t4 = join x y3 y4 (a1 ++ a2 ++ a3) a4 t3 e4 in
    let t5 = join x y4 y5 (a1 ++ a2 ++ a3 ++ a4) a5 t4 e5 in
    let t6 = join x y5 y6 (a1 ++ a2 ++ a3 ++ a4 ++ a5) a6 t5 e6 in
    t6

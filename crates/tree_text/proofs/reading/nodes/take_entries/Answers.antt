use Rattle.std.proofs.Common.{rules, ◌≡◌, ◌∙◌, ◌||◌, true, false, Err, ap, length, nat_lt, sym}
use Rattle.ev_text.specs.declared.TextFault.TheVariants.{TooLarge}
use Rattle.near_tree.specs.Ranges.{most_counted}
use Rattle.tree_text.specs.Reading.{is_between, is_counted}
use Rattle.tree_text.specs.Ways.{counted_in}
use Rattle.tree_text.proofs.Nodes.{entries_below, entries_many, entries_past, entries_read, entries_stand, good_set}
use Rattle.tree_text.proofs.reading.nodes.take_entries.Goals as goal

pub returns-then-not-is_between-clause-fault : goal.returns-then-not-is_between-clause-fault
returns-then-not-is_between-clause-fault c =
    let g = c.args.inst.now in
    let cs = counted_in c.args.counted.now in
    let k = c.in_ok-count.count.most in
    let set = c.in_ok-count.count.set in
    let good = good_set g set c.in_ok-count.ensures.kept c.in_ok-count.ensures.among in
    let between : is_between cs k set ≡ false = search rules in
    entries_past g cs c.requires k set good c.args.scan.now c.take_count.new.scan c.in_ok-count.ensures.ok between ∙ ap (λ n. Err (TooLarge n)) (sym c.place-at.ensures.place)

pub returns-then-not-has_room-clause-fault : goal.returns-then-not-has_room-clause-fault
returns-then-not-has_room-clause-fault c =
    let g = c.args.inst.now in
    let cs = counted_in c.args.counted.now in
    let k = c.in_ok-count.count.most in
    let set = c.in_ok-count.count.set in
    let good = good_set g set c.in_ok-count.ensures.kept c.in_ok-count.ensures.among in
    let between : is_between cs k set ≡ true = search rules in
    let room : (is_counted cs set || nat_lt (length cs) most_counted) ≡ false = search rules in
    entries_many g cs c.requires k set good c.args.scan.now c.take_count.new.scan c.in_ok-count.count.set_at c.in_ok-count.ensures.behind c.in_ok-count.ensures.ok between room

pub returns-clause-ok : goal.returns-clause-ok
returns-clause-ok c =
    let g = c.args.inst.now in
    let cs = counted_in c.args.counted.now in
    let k = c.in_ok-count.count.most in
    let set = c.in_ok-count.count.set in
    let good = good_set g set c.in_ok-count.ensures.kept c.in_ok-count.ensures.among in
    let between : is_between cs k set ≡ true = search rules in
    let room : (is_counted cs set || nat_lt (length cs) most_counted) ≡ true = search rules in
    entries_read g cs c.requires k set good c.args.scan.now c.take_count.new.scan c.in_ok-count.ensures.ok between room

pub returns-clause-stands : goal.returns-clause-stands
returns-clause-stands c =
    let g = c.args.inst.now in
    let cs = counted_in c.args.counted.now in
    let k = c.in_ok-count.count.most in
    let set = c.in_ok-count.count.set in
    let good = good_set g set c.in_ok-count.ensures.kept c.in_ok-count.ensures.among in
    let between : is_between cs k set ≡ true = search rules in
    entries_stand g cs c.requires k set good c.in_ok-count.ensures.some between

pub returns-clause-below : goal.returns-clause-below
returns-clause-below c =
    let g = c.args.inst.now in
    let cs = counted_in c.args.counted.now in
    let k = c.in_ok-count.count.most in
    let set = c.in_ok-count.count.set in
    let good = good_set g set c.in_ok-count.ensures.kept c.in_ok-count.ensures.among in
    let between : is_between cs k set ≡ true = search rules in
    let room : (is_counted cs set || nat_lt (length cs) most_counted) ≡ true = search rules in
    entries_below g cs c.requires k set good between room

use mir.Syntax.{w64}
use mir.Val.{of_z, to_z}
use Rattle.std.proofs.Common.{rules, ◌≡◌, ◌*◌, ◌+◌, ◌<◌, ◌≤◌, pos, ◌+ℤ◌, ◌≤ℤ◌, Some, refl, ◌∙◌, ap, arith}
use Rattle.std.proofs.lemmas.Int.{to_z-of_z}
use Rattle.flex_model.specs.Journey.{change_walk, counted}
use Rattle.flex_model.proofs.Orders.{IsNoLater_refl}
use Rattle.flex_model.proofs.Walks.{change_no_more, change_short, if_no_more}
use Rattle.round_engine.specs.Chain.{pair_of, place_of, round_of}
use Rattle.round_engine.proofs.GainedBoardings.{one_among, one_gained}
use Rattle.round_engine.proofs.ShortWalks.{in_time}
use Rattle.round_engine.proofs.boarding.board_then.Goals as goal

pub overflow_add-label : goal.overflow_add-label
overflow_add-label c =
    let task = c.args.task.now in
    let query = task.query.now in
    let label = c.args.label.now in
    let short : c.args.seconds ≤ 86400 = change_short task.feed.now (place_of label) c.args.place c.args.seconds c.requires.task.feed c.requires.change in
    let part : change_walk (place_of label) c.args.place c.args.seconds ≤ c.args.seconds = change_no_more (place_of label) c.args.place c.args.seconds in
    let e : c.walk_between.result ≡ change_walk (place_of label) c.args.place c.args.seconds = c.walk_between.ensures in
    let g : c.counted_walk-walk.result ≡ counted query c.walk_between.result = c.counted_walk-walk.ensures in
    let no_more : counted query c.walk_between.result ≤ c.walk_between.result = if_no_more query.walking c.walk_between.result in
    let w : (pair_of label).walk ≤ 86400 * round_of label = (in_time task c.requires.task (round_of label) label c.requires.label).walk in
    let r : round_of label < 256 = search rules in
    let sum : (pair_of label).walk + c.counted_walk-walk.result < 4294967296 = omega arith in
    record { fits = sum }

pub returns-clause-gains : goal.returns-clause-gains
returns-clause-gains c =
    let task = c.args.task.now in
    let query = task.query.now in
    let label = c.args.label.now in
    let a : to_z w64 (of_z w64 (pair_of label).arrival) ≡ (pair_of label).arrival = to_z-of_z w64 (pair_of label).arrival (search rules) in
    let at : c.later.result ≡ (pair_of label).arrival +ℤ pos c.args.seconds = c.later.ensures ∙ ap (λ n. n +ℤ pos c.args.seconds) a in
    let w : c.counted_walk-walk.result ≡ counted query (change_walk (place_of label) c.args.place c.args.seconds) =
    c.counted_walk-walk.ensures ∙ ap (counted query) c.walk_between.ensures in
    one_gained task (round_of label) c.args.into.now.items c.push.new.self.items _ c.in_ok-push.ensures.items
    (c.requires.label, c.args.seconds, c.requires.change, (search rules), ap (λ n. (pair_of label).walk + n) w)

pub returns-clause-boarded : goal.returns-clause-boarded
returns-clause-boarded c =
    let task = c.args.task.now in
    let query = task.query.now in
    let label = c.args.label.now in
    let a : to_z w64 (of_z w64 (pair_of label).arrival) ≡ (pair_of label).arrival = to_z-of_z w64 (pair_of label).arrival (search rules) in
    let at : c.later.result ≡ (pair_of label).arrival +ℤ pos c.args.seconds = c.later.ensures ∙ ap (λ n. n +ℤ pos c.args.seconds) a in
    let w : c.counted_walk-walk.result ≡ counted query (change_walk (place_of label) c.args.place c.args.seconds) =
    c.counted_walk-walk.ensures ∙ ap (counted query) c.walk_between.ensures in
    record {
      boarding = record { place = c.args.place; earliest = c.later.result; walk = (pair_of label).walk + c.counted_walk-walk.result; parent = Some c.args.label };
      among = one_among c.args.into.now.items c.push.new.self.items _ (search rules);
      at_place = refl;
      early = (let le : c.later.result ≤ℤ ((pair_of label).arrival +ℤ pos c.args.seconds) = search rules in le);
      booked = IsNoLater_refl (pair_of label).deadline;
      short = omega arith;
    }

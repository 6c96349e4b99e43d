use Rattle.std.proofs.Common.{rules, ◌≡◌, pos, ◌+ℤ◌, None, refl, ◌∙◌}
use Rattle.flex_model.specs.declared.moment.Deadline.TheVariants.{Never}
use Rattle.flex_model.specs.Journey.{counted}
use Rattle.flex_model.proofs.Orders.{IsNoLater_refl}
use Rattle.round_engine.proofs.GainedBoardings.{one_among, one_gained}
use Rattle.round_engine.proofs.boarding.board_first.Goals as goal

pub returns-clause-gains : goal.returns-clause-gains
returns-clause-gains c =
    let query = c.args.task.now.query.now in
    let e : c.later.result ≡ query.depart +ℤ pos c.args.seconds = c.later.ensures ∙ search rules in
    let w : c.counted_walk.result ≡ counted query c.args.seconds = c.counted_walk.ensures in
    one_gained c.args.task.now 0 c.args.into.now.items c.push.new.self.items _ c.in_ok-push.ensures.items
    (refl, c.args.seconds, c.requires.access, (search rules), c.counted_walk.ensures)

pub returns-clause-boarded : goal.returns-clause-boarded
returns-clause-boarded c = record {
  boarding = record { place = c.args.place; earliest = c.later.result; walk = c.counted_walk.result; parent = None };
  among = one_among c.args.into.now.items c.push.new.self.items _ (search rules);
  at_place = refl;
  early = search rules;
  booked = IsNoLater_refl Never;
  short = search rules;
}

use Rattle.std.proofs.Common.{◌≡◌, ◌∙◌, not, ◌&&◌, true, false, ap, sym}
use Rattle.std.proofs.lemmas.Result.{on_ok_weaker}
use Rattle.std.specs.List.{filter}
use Rattle.feed_meaning.specs.FeedLinks.{is_timed}
use Rattle.feed_meaning.specs.FeedRules.{has_time, has_window}
use Rattle.feed_rules.proofs.OrderFacts.{kept-noted, passed-noted}
use Rattle.feed_rules.proofs.orders.note_record.Goals as goal

pub returns-then-has_window : goal.returns-then-has_window
returns-then-has_window c = λ records r read orders.
    let windowed : has_window r ≡ true = sym (c.has_window.ensures r read) ∙ c.if-has_window.true in
    record {
      windowless = passed-noted c.args.order.now.windowless (λ s. not (has_window s)) records r (ap not windowed) orders.windowless;
      timed = passed-noted c.args.order.now.timed is_timed records r (ap (λ b. not b && has_time r) windowed) orders.timed;
    }

pub returns-then-not-has_time : goal.returns-then-not-has_time
returns-then-not-has_time c = λ records r read orders.
    let windowless : has_window r ≡ false = sym (c.has_window.ensures r read) ∙ c.if-has_window.false in
    let untimed : has_time r ≡ false = sym (c.has_time.ensures r read) ∙ c.if-not-has_time.true in
    record {
      windowless = kept-noted c.note_first.new.order (λ s. not (has_window s)) records r (ap not windowless)
          (c.in_ok-note_first.ensures (filter (λ s. not (has_window s)) records) r orders.windowless read.trip read.number (c.departure-departs.ensures r read));
      timed = passed-noted c.args.order.now.timed is_timed records r (ap (λ b. not b && has_time r) windowless ∙ untimed) orders.timed;
    }

pub returns : goal.returns
returns c = on_ok_weaker c.note_first-2.result (λ noted records r read orders.
    let windowless : has_window r ≡ false = sym (c.has_window.ensures r read) ∙ c.if-has_window.false in
    let timed : has_time r ≡ true = sym (c.has_time.ensures r read) ∙ c.if-not-has_time.false in
    record {
      windowless = kept-noted c.note_first.new.order (λ s. not (has_window s)) records r (ap not windowless)
          (c.in_ok-note_first.ensures (filter (λ s. not (has_window s)) records) r orders.windowless read.trip read.number (c.departure-departs.ensures r read));
      timed = kept-noted c.note_first-2.new.order is_timed records r (ap (λ b. not b && has_time r) windowless ∙ timed)
          (noted (filter is_timed records) r orders.timed read.trip read.number (c.departure-departs.ensures r read));
    }) c.note_first-2.ensures

use Rattle.std.proofs.Common.{◌∙◌, ap}
use Rattle.std.specs.List.{after_first, before_first}
use Rattle.field_text.specs.Grammars.{digits_within, is_colon}
use Rattle.field_text.proofs.TimeLemmas.{time_from_parts}
use Rattle.field_text.proofs.time.seconds_of.Goals as goal

pub returns : goal.returns
returns c =
    let rest = c.split_at_byte.ensures.after in
    time_from_parts c.args.text.now c.in_ok-hours.hours c.in_ok-minutes.minutes c.in_ok-seconds.seconds
    (c.in_ok-hours.ensures ∙ ap (digits_within 1 3 167) c.split_at_byte.ensures.before)
    (c.in_ok-minutes.ensures ∙ ap (digits_within 2 2 59) (c.split_at_byte-2.ensures.before ∙ ap (before_first is_colon) rest))
    (c.in_ok-seconds.ensures ∙ ap (digits_within 2 2 59) (c.split_at_byte-2.ensures.after ∙ ap (after_first is_colon) rest))

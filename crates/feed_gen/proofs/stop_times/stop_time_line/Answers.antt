use Rattle.std.proofs.Common.{◌≡◌, ◌∙◌, ap}
use Rattle.std.specs.String.{string_bytes}
use Rattle.std.proofs.lemmas.Result.{IfOk-weaker}
use Rattle.feed_gen.specs.StopTimesText.{fixed_record, time_text}
use Rattle.feed_gen.specs.Texts.{record_line}
use Rattle.feed_gen.proofs.LongLines.{printed_stop_time}
use Rattle.feed_gen.proofs.stop_times.stop_time_line.Goals as goal

pub returns : goal.returns
returns c =
    IfOk-weaker c.format-2.result _ (λ text. string_bytes text ≡ record_line (fixed_record c.args.number c.args.l c.args.k c.args.v))
    (λ text printed. printed_stop_time (string_bytes text) (string_bytes c.in_ok-trip.trip) c.args.number c.args.l c.args.k c.args.v _ _
    c.pick-stop.ensures.value (c.in_ok-time.ensures ∙ ap time_text c.seconds_at.ensures.value) c.in_ok-trip.ensures.ok printed)
    c.format-2.ensures.ok

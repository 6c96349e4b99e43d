use Rattle.std.proofs.Common.{◌∙◌, ap}
use Rattle.feed_meaning.specs.TimesValue.{place_named}
use Rattle.place_times.proofs.spans.span_of.Goals as goal

pub returns : goal.returns
returns c = λ feed points are.
    ap (λ p. record { from = p; to = c.place_named-2.result; seconds = c.seconds_or_zero.result }) (c.place_named.ensures feed points are)
    ∙ ap (λ p. record { from = place_named feed points c.args.from.now; to = p; seconds = c.seconds_or_zero.result }) (c.place_named-2.ensures feed points are)
    ∙ ap (λ n. record { from = place_named feed points c.args.from.now; to = place_named feed points c.args.to.now; seconds = n }) c.seconds_or_zero.ensures

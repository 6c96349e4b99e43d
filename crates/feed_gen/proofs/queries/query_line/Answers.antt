use Rattle.std.proofs.Common.{◌≡◌, refl}
use Rattle.std.specs.String.{string_bytes}
use Rattle.std.proofs.lemmas.Result.{IfOk-weaker}
use Rattle.feed_gen.specs.QueriesText.{query_record}
use Rattle.feed_gen.specs.Texts.{record_line}
use Rattle.feed_gen.proofs.LongLines.{printed_query}
use Rattle.feed_gen.proofs.queries.query_line.Goals as goal

pub returns : goal.returns
returns c =
    IfOk-weaker c.format-2.result _ (λ text. string_bytes text ≡ record_line (query_record c.args.number c.args.i))
    (λ text printed. printed_query (string_bytes text) (string_bytes c.in_ok-places.places) c.args.number c.args.i _ _ _ _ _
    c.pick-origin.ensures.value c.pick-destination.ensures.value refl c.in_ok-depart.ensures c.now-now.ensures c.in_ok-places.ensures.ok printed)
    c.format-2.ensures.ok

use Rattle.std.proofs.Common.{sym, ap, ◌∙◌}
use Rattle.std.specs.Str.{bytes_eq}
use Rattle.field_text.specs.Grammars.{escape}
use Rattle.query_io.proofs.FirstPlaces.{found_first}
use Rattle.query_io.proofs.lines.stop_named.Goals as goal

pub returns-then-is_escape_of : goal.returns-then-is_escape_of
returns-then-is_escape_of c =
    let item = c.index-stops-i.result in
    found_first (λ item. bytes_eq c.args.text.now (escape item.id)) c.args.stops.now c.loop-i.i item c.loop-i-test.true c.index-stops-i.is c.loop-i.invariant
    (ap (λ id. bytes_eq c.args.text.now (escape id)) (sym (c.as_str.ensures.bytes ∙ ap (λ x. x.id) (sym c.index-stops-i.is))) ∙ sym c.is_escape_of.ensures ∙ c.if-is_escape_of.true)

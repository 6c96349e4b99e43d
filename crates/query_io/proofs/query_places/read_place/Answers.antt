use Rattle.std.proofs.Common.{◌≡◌, true, false, sym, ◌∙◌, ap, arith}
use Rattle.std.specs.Prelude.{position, slice_get}
use Rattle.std.specs.Option.{option_map_or}
use Rattle.std.specs.Str.{bytes_eq}
use Rattle.query_io.proofs.NamedPlaces.{barred_stop, empty_place, found_point, found_stop, no_place}
use Rattle.query_io.proofs.query_places.read_place.Goals as goal

pub returns-then-is_empty : goal.returns-then-is_empty
returns-then-is_empty c = λ feed times are. empty_place feed times c.args.text.now (sym c.is_empty.ensures ∙ c.if-is_empty.true)

pub returns-then-not-boards_at : goal.returns-then-not-boards_at
returns-then-not-boards_at c = λ feed times are.
    let text = c.args.text.now in
    let test = c.if-not-boards_at.true in
    let barred : c.boards_at.result ≡ false = grind arith in
    barred_stop feed times are.sound text (sym c.is_empty.ensures ∙ c.if-is_empty.false) c.in-Some.stop
    (ap (position (bytes_eq text)) (sym are.stops) ∙ sym c.index_of.ensures ∙ c.in-Some.is)
    (ap (λ f. option_map_or (λ stop. stop.boards) (slice_get f.stops c.in-Some.stop) false) (sym are.feed_is) ∙ sym c.boards_at.ensures ∙ barred)

pub returns-in-Some : goal.returns-in-Some
returns-in-Some c = λ feed times are.
    let text = c.args.text.now in
    let test = c.if-not-boards_at.false in
    let boarded : c.boards_at.result ≡ true = grind arith in
    found_stop feed times are.sound text (sym c.is_empty.ensures ∙ c.if-is_empty.false) c.in-Some.stop
    (ap (position (bytes_eq text)) (sym are.stops) ∙ sym c.index_of.ensures ∙ c.in-Some.is)
    (ap (λ f. option_map_or (λ stop. stop.boards) (slice_get f.stops c.in-Some.stop) false) (sym are.feed_is) ∙ sym c.boards_at.ensures ∙ boarded)

pub returns-in-Some-index_of : goal.returns-in-Some-index_of
returns-in-Some-index_of c = λ feed times are.
    let text = c.args.text.now in
    found_point feed times are.sound text (sym c.is_empty.ensures ∙ c.if-is_empty.false)
    (ap (position (bytes_eq text)) (sym are.stops) ∙ sym c.index_of.ensures ∙ c.in_default.is)
    c.in-Some-index_of.point (ap (position (bytes_eq text)) (sym are.points) ∙ sym c.index_of-2.ensures ∙ c.in-Some-index_of.is)

pub returns-in-None : goal.returns-in-None
returns-in-None c = λ feed times are.
    let text = c.args.text.now in
    no_place feed times are.sound text (sym c.is_empty.ensures ∙ c.if-is_empty.false)
    (ap (position (bytes_eq text)) (sym are.stops) ∙ sym c.index_of.ensures ∙ c.in_default.is)
    (ap (position (bytes_eq text)) (sym are.points) ∙ sym c.index_of-2.ensures ∙ c.in-None.is)

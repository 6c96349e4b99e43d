use Rattle.std.proofs.Common.{◌≡◌, false, sym, ◌∙◌, ap}
use Rattle.std.specs.Prelude.{slice_get}
use Rattle.std.specs.Option.{option_map_or}
use Rattle.feed_meaning.specs.TimesValue.{point_of}
use Rattle.std.proofs.Common.{map}
use Rattle.place_times.proofs.PlaceFacts.{boards, boards-same, no_boarding, point_is_place, stop_is_place}
use Rattle.place_times.proofs.places.is_place.Goals as goal

pub returns-then-has : goal.returns-then-has
returns-then-has c = λ feed points are. point_is_place feed points c.args.ids.now are c.args.text.now (sym c.has.ensures ∙ c.if-has.true)

pub returns-in-Some : goal.returns-in-Some
returns-in-Some c = λ feed points are.
    let here : c.boards_at.result ≡ boards feed c.in-Some.stop =
    c.boards_at.ensures ∙ ap (λ f. option_map_or (λ stop. stop.boards) (slice_get f.stops c.in-Some.stop) false) are.feed_is in
    stop_is_place feed points c.args.ids.now are c.args.text.now c.boards_at.result (sym c.has.ensures ∙ c.if-has.false)
    (here ∙ sym (boards-same feed (map point_of points) c.args.ids.now are c.args.text.now c.in-Some.stop (sym c.in-Some.is ∙ c.index_of.ensures)))

pub returns-in-None : goal.returns-in-None
returns-in-None c = λ feed points are.
    stop_is_place feed points c.args.ids.now are c.args.text.now false (sym c.has.ensures ∙ c.if-has.false)
    (sym (no_boarding feed (map point_of points) c.args.ids.now are c.args.text.now (sym c.in-None.is ∙ c.index_of.ensures)))

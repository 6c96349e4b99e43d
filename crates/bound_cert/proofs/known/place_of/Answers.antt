use Rattle.std.proofs.Common.{ℕ, Option, sym, ap, ◌∙◌}
use Rattle.std.specs.Prelude.{position}
use Rattle.std.specs.Option.{option_map}
use Rattle.std.specs.Str.{bytes_eq}
use Rattle.field_text.specs.Grammars.{escape}
use Rattle.flex_model.specs.declared.place.Place.TheVariants as place
use Rattle.flex_model.specs.declared.place.Point.{Point}
use Rattle.flex_model.specs.declared.place.Stop.{Stop}
use Rattle.query_io.specs.Lines.{or_else}
use Rattle.bound_cert.proofs.KnownIds.{found_in}
use Rattle.bound_cert.proofs.known.place_of.Goals as goal

pub returns-in-Some : goal.returns-in-Some
returns-in-Some c =
    let known = c.args.known.now in
    let text = c.args.text.now in
    let stops = found_in (λ (stop : Stop). stop.id) known.feed.now.stops known.stops text c.requires.stops in
    let points = position (λ (point : Point). bytes_eq text (escape point.id)) known.times.now.points in
    ap (λ (o : Option ℕ). or_else (option_map place.Stop o) (option_map place.Point points)) (sym c.in-Some.is ∙ c.index_of.ensures ∙ stops)

pub returns-in-Some-index_of : goal.returns-in-Some-index_of
returns-in-Some-index_of c =
    let known = c.args.known.now in
    let text = c.args.text.now in
    let stops = found_in (λ (stop : Stop). stop.id) known.feed.now.stops known.stops text c.requires.stops in
    let points = found_in (λ (point : Point). point.id) known.times.now.points known.points text c.requires.points in
    ap (λ (o : Option ℕ). option_map place.Point o) (sym c.in-Some-index_of.is ∙ c.index_of-2.ensures ∙ points)
    ∙ ap (λ (o : Option ℕ). or_else (option_map place.Stop o) (option_map place.Point (position (λ (point : Point). bytes_eq text (escape point.id)) known.times.now.points)))
    (sym c.in_default.is ∙ c.index_of.ensures ∙ stops)

pub returns-in-None : goal.returns-in-None
returns-in-None c =
    let known = c.args.known.now in
    let text = c.args.text.now in
    let stops = found_in (λ (stop : Stop). stop.id) known.feed.now.stops known.stops text c.requires.stops in
    let points = found_in (λ (point : Point). point.id) known.times.now.points known.points text c.requires.points in
    ap (λ (o : Option ℕ). option_map place.Point o) (sym c.in-None.is ∙ c.index_of-2.ensures ∙ points)
    ∙ ap (λ (o : Option ℕ). or_else (option_map place.Stop o) (option_map place.Point (position (λ (point : Point). bytes_eq text (escape point.id)) known.times.now.points)))
    (sym c.in_default.is ∙ c.index_of.ensures ∙ stops)

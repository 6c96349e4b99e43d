use Rattle.std.proofs.Common.{ap, rules, w64, ◌∙◌, pos, to_z, of_z, unwrap_or}
use mir.Val.{SFits}
use Rattle.feed_meaning.specs.Locations.{latitude, longitude}
use Rattle.field_text.specs.Grammars.{degree}
use Rattle.flex_model.specs.declared.place.Position.{Position}
use Rattle.geo_json.proofs.Degrees.{kept}
use Rattle.geo_json.proofs.positions.read_position.Goals as goal

pub returns-clause-value : goal.returns-clause-value
returns-clause-value c = λ j of.
    let p = c.args.position in
    let lon_fits : SFits w64 c.in_ok-lon.lon = search rules in
    let lat_fits : SFits w64 c.in_ok-lat.lat = search rules in
    let lon = kept 180 c.in_ok-lon.lon c.longitude_of.result c.digits.result.now j c.in-Some.longitude (longitude j p) lon_fits c.in_ok-lon.ensures.value c.longitude_of.ensures (c.digits.ensures j of) (c.in-Some.ensures.value j of).0 in
    let lat = kept 90 c.in_ok-lat.lat c.latitude_of.result c.digits-2.result.now j c.in-Some.latitude (latitude j p) lat_fits c.in_ok-lat.ensures.value c.latitude_of.ensures (c.digits-2.ensures j of) (c.in-Some.ensures.value j of).1 in
    ap (λ x. let at : Position = record { lon = x; lat = to_z w64 (of_z w64 c.in_ok-lat.lat) } in at) lon
    ∙ ap (λ y. let at : Position = record { lon = unwrap_or (degree 180 (j.digits (longitude j p))) (pos 0); lat = y } in at) lat

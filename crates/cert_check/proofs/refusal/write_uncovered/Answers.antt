use Rattle.std.proofs.Common.{◌≡◌, ◌∷◌, ◌++◌, [], OnOk, Some, drop, get_or, slice_get, sym, ◌∙◌, ap, subst}
use Rattle.std.specs.Prelude.{codes, decimal}
use Rattle.std.specs.Option.{option_map_or}
use Rattle.std.proofs.lemmas.Option.{slice_get-get_or, slice_get_within}
use Rattle.query_io.specs.AnswerText.{words_on_trip}
use Rattle.cert_check.specs.RefusalText.{refused_line}
use Rattle.cert_check.proofs.refusal.write_uncovered.Goals as goal

pub returns-clause-ok : goal.returns-clause-ok
returns-clause-ok c =
    let trip = c.index-deref-ride.result in
    let trips = c.args.feed.now.trips in
    let k = c.args.ride.now.trip in
    let of_trip : slice_get trips k ≡ Some trip =
    slice_get-get_or trips k trip (slice_get_within trips k c.requires.trip c.requires.of_trip)
    ∙ ap (λ list. Some (get_or list k trip)) (sym c.deref.ensures) ∙ ap Some (sym c.index-deref-ride.is) in
    subst (λ found. OnOk c.write_uncovered_on.result (c.write_uncovered_on.new.into
    ≡ c.args.into.now ++ refused_line c.args.number (codes "UNCOVERED" ∷ decimal c.args.from
    ∷ option_map_or (λ trip. drop 1 (words_on_trip c.args.feed.now c.args.times.now c.args.ride.now trip)) found [])))
    (sym of_trip) c.write_uncovered_on.ensures.ok

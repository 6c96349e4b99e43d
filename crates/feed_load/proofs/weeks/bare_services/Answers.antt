use Rattle.std.proofs.Common.{◌≡◌, ◌<◌, [], ◌∷◌, ◌++◌, Some, map, take, length, get_or, sym, ◌∙◌, ap, arith}
use Rattle.std.specs.Option.{option_map}
use Rattle.std.proofs.lemmas.List.{map-append, take_more}
use Rattle.std.proofs.lemmas.Option.{slice_get-get_or}
use Rattle.feed_meaning.specs.FeedValue.{service_of}
use Rattle.feed_load.specs.Calendars.{calendars}
use Rattle.feed_load.proofs.weeks.bare_services.Goals as goal

pub loop-index-preserved : goal.loop-index-preserved
loop-index-preserved c =
    let ids = c.args.ids.now in
    let index = c.loop-index.index in
    let size = c.len-index-end.ensures in
    let low : index < length ids = omega (arith, size) in
    let at : Some c.in-Some.id.now ≡ Some (get_or ids index []) = sym (ap (option_map (λ id. id.now)) c.in-Some.is) ∙ c.at.ensures ∙ slice_get-get_or ids index [] low in
    let same : c.in-Some.id.now ≡ get_or ids index [] = cc in
    c.in_ok-push.ensures.items ∙ ap (λ xs. xs ++ c.in_ok-bare_service.field-0 ∷ []) c.loop-index.invariant
    ∙ ap (λ s. map (service_of (calendars [] [])) (take index ids) ++ s ∷ []) (c.in_ok-bare_service.ensures ∙ ap (service_of (calendars [] [])) same)
    ∙ sym (map-append (service_of (calendars [] [])) (take index ids) (get_or ids index [] ∷ []))
    ∙ ap (map (service_of (calendars [] []))) (sym (take_more ids index [] low))

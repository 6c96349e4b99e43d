-- A feed by its lists.
use Rattle.std.proofs.Common.{◌≡◌, List, ◌∙◌, ap}
use Rattle.flex_model.specs.declared.booking.Rule.{Rule}
use Rattle.flex_model.specs.declared.change.ChangeRow.{ChangeRow}
use Rattle.flex_model.specs.declared.feed.Feed.{Feed}
use Rattle.flex_model.specs.declared.place.Group.{Group}
use Rattle.flex_model.specs.declared.place.Stop.{Stop}
use Rattle.flex_model.specs.declared.place.Zone.{Zone}
use Rattle.flex_model.specs.declared.service.Service.{Service}
use Rattle.flex_model.specs.declared.trip.Trip.{Trip}

made : List Stop → List Zone → List Group → List Service → List Rule → List Trip → List ChangeRow → Feed
made stops zones groups services rules trips changes =
    record { stops = stops; zones = zones; groups = groups; services = services; rules = rules; trips = trips; changes = changes }

-- two feeds with the same lists
pub same_lists : (f g : Feed) → f.stops ≡ g.stops → f.zones ≡ g.zones → f.groups ≡ g.groups → f.services ≡ g.services → f.rules ≡ g.rules → f.trips ≡ g.trips → f.changes ≡ g.changes → f ≡ g
unfolding made
same_lists f g a b c d e h i =
    ap (λ x. made x f.zones f.groups f.services f.rules f.trips f.changes) a
    ∙ ap (λ x. made g.stops x f.groups f.services f.rules f.trips f.changes) b
    ∙ ap (λ x. made g.stops g.zones x f.services f.rules f.trips f.changes) c
    ∙ ap (λ x. made g.stops g.zones g.groups x f.rules f.trips f.changes) d
    ∙ ap (λ x. made g.stops g.zones g.groups g.services x f.trips f.changes) e
    ∙ ap (λ x. made g.stops g.zones g.groups g.services g.rules x f.changes) h
    ∙ ap (made g.stops g.zones g.groups g.services g.rules g.trips) i

-- The service that is asked is the trip's.
use Rattle.std.proofs.Common.{◌≡◌, refl, sym, subst, ap, ◌∙◌, length, get_or, Some, slice_get, w32}
use Rattle.std.proofs.lemmas.Int.{to_z-of_z}
use Rattle.std.proofs.lemmas.Option.{slice_get_read}
use Rattle.flex_model.specs.ServiceDay.{IsTravelDay, is_active}
use Rattle.flex_model.proofs.Found.{slice_get_unique}
use Rattle.fixed_trips.proofs.starts.may_run.Goals as goal

pub returns : goal.returns
returns c =
    let services = c.args.feed.now.services in
    let number = c.args.trip.now.service in
    let service = c.index-deref-trip.result in
    let at : slice_get services number ≡ Some service =
    slice_get_read services (length services) number service refl c.requires.service (c.index-deref-trip.is ∙ ap (λ all. get_or all number service) c.deref.ensures) in
    let wrap = to_z-of_z w32 c.args.day c.ranges.day in
    let asked : c.active.result ≡ is_active service c.args.day = subst (λ day. c.active.result ≡ is_active service day) wrap c.active.ensures in (
      λ e. record {
        on_travel_day = subst (IsTravelDay c.args.days.now) wrap (c.is_travel_day.ensures.0 c.if-not-is_travel_day.false);
        runs = (service, at, sym asked ∙ e);
        starts = c.starts_rightly.ensures.0 c.if-not-starts_rightly.false;
      },
      λ may.
          let same : may.runs.0 ≡ service = slice_get_unique services number may.runs.0 service may.runs.1 at in
          asked ∙ sym (ap (λ s. is_active s c.args.day) same) ∙ may.runs.2,
    )

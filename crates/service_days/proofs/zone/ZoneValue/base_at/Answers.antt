-- A zone without a list has the bases of UTC.
use Rattle.std.proofs.Common.{◌∙◌, sym, ap, Some, slice_get, w64}
use Rattle.std.proofs.lemmas.Int.{to_z-of_z}
use Rattle.service_days.specs.Bases.{day_count, first_day}
use Rattle.service_days.specs.Given.{bases_of}
use Rattle.service_days.proofs.ZoneTables.{utc-at}
use Rattle.service_days.proofs.zone.ZoneValue.base_at.Goals as goal

pub returns-in-None : goal.returns-in-None
returns-in-None c =
    ap (λ bases. slice_get bases c.args.index) (sym c.self.view_is ∙ ap bases_of c.in-None.is)
    ∙ utc-at first_day day_count c.args.index c.requires
    ∙ ap Some (sym c.utc_base.ensures ∙ sym (to_z-of_z w64 c.utc_base.result (record { sfits = c.utc_base.type_inv })))

use Rattle.std.proofs.Common.{Ok, subst, sym}
use Rattle.jiff.specs.Words.{plain_zone}
use Rattle.service_days.specs.declared.forms.ZoneForm.TheVariants.{Tzif}
use Rattle.service_days.specs.ZoneForms.{IsZoneAnswer}
use Rattle.service_days.proofs.ZoneAnswers.{tzif-zone}
use Rattle.service_days.proofs.reading.read_tzif.Goals as goal

pub returns : goal.returns
returns c =
    let bytes = c.args.bytes.now in
    let read = c.in-Ok.ensures in
    subst (λ bases. IsZoneAnswer Tzif bytes (Ok bases)) (sym c.of_bases.ensures)
    (tzif-zone bytes (plain_zone c.tzif.result) _ c.in_ok-bases.bases c.tzif.ensures read.value read.agrees c.in_ok-bases.ensures.bases)

use Rattle.std.proofs.Common.{◌≡◌, ◌∙◌, ◌+ℤ◌, ◌≤ℤ◌, sym, ap, subst, ℤ, pos}
use Rattle.std.specs.Prelude.{int_div, Result, Ok}
use Rattle.std.proofs.lemmas.Result.{IfOk-at_ok}
use Rattle.jiff.specs.Types.{Date, DateTime, Time, TimeZone, Timestamp}
use Rattle.jiff.specs.Words.{Error, IsHms, IsInstantAt, IsTimestampNanos, ambiguous_at, compatible_offset, epoch_day, nanos_of_seconds, plain_zone}
use Rattle.service_days.specs.Noons.{IsNoonOf}
use Rattle.service_days.proofs.NoonFacts.{base-near, base-value, chosen-at, is-instant, noon-again, noon-instant, noon_seconds, seconds-high, seconds-low, whole-seconds}
use Rattle.service_days.proofs.noons.base_of.Goals as goal

-- the datetime that is asked for is the day's noon
noon-of : (noon : DateTime) (date : Date) (time : Time) → noon.date ≡ date → noon.time ≡ time → IsHms (pos 12) (pos 0) (pos 0) (pos 0) time → IsNoonOf (epoch_day date) noon
noon-of noon date time d t h = (ap epoch_day d, subst (IsHms (pos 12) (pos 0) (pos 0) (pos 0)) (sym t) h)

pub unwrap-moment-requires : goal.unwrap-moment-requires
unwrap-moment-requires c =
    let zone = plain_zone c.args.zone.now in
    let noon = c.to_datetime-noon.result in
    let is_noon = noon-of _ _ _ c.to_datetime-noon.ensures.date c.to_datetime-noon.ensures.time c.time.ensures in
    let day = epoch_day c.args.date in
    let instant = noon-instant zone noon day is_noon in
    let at = chosen-at zone noon _ _ _ c.to_ambiguous_timestamp.ensures.datetime c.to_ambiguous_timestamp.ensures.offsets c.disambiguate.ensures in
    at.succeeds.1 (subst IsTimestampNanos (sym instant) (is-instant _ (seconds-low zone noon day c.requires.low) (seconds-high zone noon day c.requires.high)))

-- the seconds of the moment of noon
seconds-of : (zone : TimeZone) (noon : DateTime) (day seconds : ℤ) (r : Result Timestamp Error) (t : Timestamp) → IsNoonOf day noon → pos 5785 ≤ℤ day
    → IsInstantAt noon (compatible_offset (ambiguous_at zone noon)) r → r ≡ Ok t → seconds ≡ int_div t.nanosecond (pos 1_000_000_000) → seconds ≡ noon_seconds zone noon day
seconds-of zone noon day seconds r t is_noon low at ok e =
    let value = IfOk-at_ok _ ok at.value in
    e ∙ ap (λ n. int_div n (pos 1_000_000_000)) (value ∙ noon-instant zone noon day is_noon) ∙ whole-seconds _ (seconds-low zone noon day low)

pub returns-clause-base : goal.returns-clause-base
returns-clause-base c =
    let zone = plain_zone c.args.zone.now in
    let noon = c.to_datetime-noon.result in
    let is_noon = noon-of _ _ _ c.to_datetime-noon.ensures.date c.to_datetime-noon.ensures.time c.time.ensures in
    let day = epoch_day c.args.date in
    let at = chosen-at zone noon _ _ _ c.to_ambiguous_timestamp.ensures.datetime c.to_ambiguous_timestamp.ensures.offsets c.disambiguate.ensures in
    let seconds = seconds-of zone noon day _ _ _ is_noon c.requires.low at c.unwrap-moment.ensures c.as_second.ensures in
    let value = base-value zone noon day _ c.requires.low c.requires.high seconds in
    (noon, is_noon, ap (λ b. nanos_of_seconds (b +ℤ pos 43200)) value ∙ noon-again zone noon day is_noon)

pub returns-clause-near : goal.returns-clause-near
returns-clause-near c =
    let zone = plain_zone c.args.zone.now in
    let noon = c.to_datetime-noon.result in
    let is_noon = noon-of _ _ _ c.to_datetime-noon.ensures.date c.to_datetime-noon.ensures.time c.time.ensures in
    let day = epoch_day c.args.date in
    let at = chosen-at zone noon _ _ _ c.to_ambiguous_timestamp.ensures.datetime c.to_ambiguous_timestamp.ensures.offsets c.disambiguate.ensures in
    let seconds = seconds-of zone noon day _ _ _ is_noon c.requires.low at c.unwrap-moment.ensures c.as_second.ensures in
    base-near zone noon day _ (base-value zone noon day _ c.requires.low c.requires.high seconds)

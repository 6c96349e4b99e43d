use Rattle.std.proofs.Common.{arith}
use Rattle.std.proofs.lemmas.Int.{ints}
use Rattle.field_text.proofs.DateParts.{parts_of_passed}
use Rattle.field_text.proofs.calendar.civil_parts.Goals as goal

pub overflow_cast-result : goal.overflow_cast-result
overflow_cast-result c =
    let parts = parts_of_passed c.args.day c.from_unix_epoch_day.result c.unwrap-date.result c.ranges.day c.requires c.unwrap-date.ensures c.from_unix_epoch_day.ensures.value in
    let is = parts.is in
    let high = parts.high in
    (omega (arith, ints), omega (arith, ints))

pub returns-clause-year : goal.returns-clause-year
returns-clause-year c =
    let parts = parts_of_passed c.args.day c.from_unix_epoch_day.result c.unwrap-date.result c.ranges.day c.requires c.unwrap-date.ensures c.from_unix_epoch_day.ensures.value in
    let is = parts.is in
    let high = parts.high in
    let same = parts.year_is in
    omega (arith, ints)

pub returns-clause-month : goal.returns-clause-month
returns-clause-month c = (parts_of_passed c.args.day c.from_unix_epoch_day.result c.unwrap-date.result c.ranges.day c.requires c.unwrap-date.ensures c.from_unix_epoch_day.ensures.value).month_is

pub returns-clause-day : goal.returns-clause-day
returns-clause-day c = (parts_of_passed c.args.day c.from_unix_epoch_day.result c.unwrap-date.result c.ranges.day c.requires c.unwrap-date.ensures c.from_unix_epoch_day.ensures.value).day_is

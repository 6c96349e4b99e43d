-- The weekday's flag is the one that the rule reads.
use Rattle.std.proofs.Common.{◌≡◌, false, true, sym, ap, ◌∙◌, get_or, slice_get, w64, arith, rules}
use Rattle.std.proofs.lemmas.Int.{ints, to_z-of_z}
use Rattle.std.specs.Prelude.{unwrap_or}
use Rattle.flex_model.specs.ServiceDay.{weekday}
use Rattle.service_days.proofs.Flags.{flag_at}
use Rattle.service_days.proofs.services.is_in_week.Goals as goal

pub returns-then-from-day-clause-value : goal.returns-then-from-day-clause-value
returns-then-from-day-clause-value c =
    let flags = c.args.service.now.flags in
    let flag : unwrap_or (slice_get flags (weekday c.args.day)) false ≡ true =
    flag_at flags (weekday c.args.day) ∙ ap (λ k. get_or flags k false) (sym (c.weekday_of.ensures ∙ ap weekday (to_z-of_z w64 c.args.day c.ranges.day))) ∙ c.if-has_flag.true in
    rw flag (first_of (search rules, grind arith, grind (arith, ints)))

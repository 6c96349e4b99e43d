-- The booking rules of tables without faults are sound.
use Rattle.std.proofs.Common.{◌≡◌, ℕ, ◌<◌, Bool, true, false, not, ◌&&◌, ◌||◌, List, [], ◌∷◌, All, Option, None, Some, take, length, get_or, refl, arith, lit<}
use Rattle.std.specs.Prelude.{if◌then◌else◌, IfSome}
use Rattle.std.proofs.lemmas.List.Elements.{All-map, All-tail}
use Rattle.flex_model.specs.declared.fault.FaultCode.{FaultCode}
use Rattle.flex_model.specs.declared.fault.FaultCode.TheVariants as code
use Rattle.flex_model.specs.declared.fault.InputFile.TheVariants.{BookingRules}
use Rattle.flex_model.specs.declared.booking.Notice.TheVariants.{RealTime, Ahead, Days}
use Rattle.flex_model.specs.declared.booking.SameDay.TheVariants.{Always, Greatest, Start}
use Rattle.flex_model.specs.SoundFeed.{IsSoundNotice, IsSoundPrior, IsSoundSameDay}
use Rattle.feed_tables.specs.Refusals.{is_given}
use Rattle.field_text.specs.Grammars.{choice, count, number}
use Rattle.feed_meaning.specs.FeedFaults.{Feature}
use Rattle.feed_meaning.specs.FeedLinks.{Tables, is_unknown_service}
use Rattle.feed_meaning.specs.FeedRules.{booking_rules, conditional, notice_rules}
use Rattle.feed_meaning.specs.FeedValue.{has_start, index_if_given, last, notice_of, opening_of, rule_of, service_index, start}
use Rattle.feed_meaning.specs.Rules.{Rule, Values, first_of, is_bad, is_empty, is_no, is_text, rule}
use Rattle.feed_meaning.proofs.FieldBounds.{number_low, seconds_low}
use Rattle.feed_meaning.proofs.Kept.{AreKept, is_kept}
use Rattle.feed_meaning.proofs.KeptFeeds.{KeepsFeedRules}
use Rattle.feed_meaning.proofs.SoundLists.{feed, service_low}

-- of several rules with at most one fault none is broken where there is none
pub first_kept : (first : Rule) (others : List Rule) → first_of (first ∷ others) ≡ None → (first ≡ None) × (first_of others ≡ None)
first_kept None others e = (refl, e)
first_kept (Some c) others e = cc

-- such a field isn't bad
pub conditional_kept : {X : Type 0} (wanted allowed : Bool) (c : FaultCode) (kind : List ℕ → Option X) (text : List ℕ) → conditional wanted allowed c kind text ≡ None → is_bad kind text ≡ false
conditional_kept wanted allowed c kind text e =
    let wanted_kept = first_kept (rule code.FieldMissing (wanted && is_empty text)) (rule code.FieldForbidden (not allowed && is_given text) ∷ rule c (is_bad kind text) ∷ []) e in
    let allowed_kept = first_kept (rule code.FieldForbidden (not allowed && is_given text)) (rule c (is_bad kind text) ∷ []) wanted_kept.1 in
    is_kept c (is_bad kind text) (first_kept (rule c (is_bad kind text)) [] allowed_kept.1).0

-- the numbers of a booking rule are counts within their bounds
record HasLowNumbers (r : Values) : Type 0 where
  least : is_bad (count 1000000) (r "prior_notice_duration_min") ≡ false
  greatest : is_bad (count 1000000) (r "prior_notice_duration_max") ≡ false
  last_day : is_bad (count 1000) (r "prior_notice_last_day") ≡ false
  start_day : is_bad (count 1000) (r "prior_notice_start_day") ≡ false

low_numbers : (r : Values) → AreKept (notice_rules r) → HasLowNumbers r
low_numbers r kept = record {
  least = conditional_kept (is_text (r "booking_type") "1") (is_text (r "booking_type") "1") code.BadNumber (count 1000000) (r "prior_notice_duration_min") (kept 0 None (lit< tt));
  greatest = conditional_kept false (is_text (r "booking_type") "1") code.BadNumber (count 1000000) (r "prior_notice_duration_max") (kept 1 None (lit< tt));
  last_day = conditional_kept (is_text (r "booking_type") "2") (is_text (r "booking_type") "2") code.BadNumber (count 1000) (r "prior_notice_last_day") (kept 2 None (lit< tt));
  start_day = conditional_kept false (not (is_text (r "booking_type") "0" || (is_text (r "booking_type") "1" && is_given (r "prior_notice_duration_max")))) code.BadNumber (count 1000) (r "prior_notice_start_day") (kept 4 None (lit< tt));
}

further-rules : (b : Bool) (r : Values) (first second third : Rule) → b ≡ false → AreKept (first ∷ second ∷ third ∷ (if b then [] else notice_rules r)) → AreKept (notice_rules r)
further-rules false r first second third e kept =
    let P : Rule → Type 0 = λ x. x ≡ None in
    All-tail P third (notice_rules r) (All-tail P second (third ∷ notice_rules r) (All-tail P first (second ∷ third ∷ notice_rules r) kept))
further-rules true r first second third e kept = cc

rules-kept : (earlier : List Values) (r : Values) → AreKept (booking_rules earlier r) → HasLowNumbers r
rules-kept earlier r kept =
    let right : is_no (choice 0 2) (r "booking_type") ≡ false = is_kept code.BadEnum (is_no (choice 0 2) (r "booking_type")) (kept 2 None (omega arith)) in
    low_numbers r (further-rules (is_no (choice 0 2) (r "booking_type")) r _ _ _ right kept)

sound-start : (r : Values) → HasLowNumbers r → IsSoundPrior (start r)
sound-start r low = record { days = number_low 1000 (r "prior_notice_start_day") low.start_day; time = seconds_low (r "prior_notice_start_time") }

sound-last : (r : Values) → HasLowNumbers r → IsSoundPrior (last r)
sound-last r low = record { days = number_low 1000 (r "prior_notice_last_day") low.last_day; time = seconds_low (r "prior_notice_last_time") }

sound-opening : (r : Values) → HasLowNumbers r → IsSoundSameDay (opening_of r)
sound-opening r low = by (is_given (r "prior_notice_duration_max")) (has_start r)
  where
    by : (g s : Bool) → IsSoundSameDay (if g then Greatest (number (r "prior_notice_duration_max")) else if s then Start (start r) else Always)
    by true s = number_low 1000000 (r "prior_notice_duration_max") low.greatest
    by false true = sound-start r low
    by false false = tt

module _ (tables : Tables) (features : List Feature) (kept : KeepsFeedRules tables) where
  sound-service : (text : List ℕ) → is_unknown_service tables text ≡ false → IfSome (index_if_given (service_index tables) text) (λ s. s < length (feed tables features kept).services)
  sound-service [] known = tt
  sound-service (b ∷ text) known = service_low tables features kept (b ∷ text) refl known

  sound-notice : (r : Values) → HasLowNumbers r → is_unknown_service tables (r "prior_notice_service_id") ≡ false → IsSoundNotice (feed tables features kept) (notice_of tables r)
  sound-notice r low known = by (is_text (r "booking_type") "1") (is_text (r "booking_type") "2") (has_start r)
    where
      by : (a b s : Bool) → IsSoundNotice (feed tables features kept)
          (if a then Ahead (number (r "prior_notice_duration_min")) (opening_of r)
          else if b then Days (last r) (if s then Some (start r) else None) (index_if_given (service_index tables) (r "prior_notice_service_id"))
          else RealTime)
      by true b s = (number_low 1000000 (r "prior_notice_duration_min") low.least, sound-opening r low)
      by false true true = (sound-last r low, sound-start r low, sound-service (r "prior_notice_service_id") known)
      by false true false = (sound-last r low, tt, sound-service (r "prior_notice_service_id") known)
      by false false s = tt

  pub notices_sound : All (λ rule. IsSoundNotice (feed tables features kept) rule.notice) (feed tables features kept).rules
  notices_sound = All-map (λ rule. IsSoundNotice (feed tables features kept) rule.notice) (rule_of tables) (tables BookingRules) (λ i d low.
      let r = get_or (tables BookingRules) i d in
      sound-notice r (rules-kept (take i (tables BookingRules)) r (kept.booking_rules.alone.at i d low))
      (is_kept code.UnknownId (is_unknown_service tables (r "prior_notice_service_id")) (kept.booking_rules.linked i d low 0 None (lit< tt))))

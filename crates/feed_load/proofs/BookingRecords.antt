-- A booking rule by its texts is that of the feed.
use Rattle.std.proofs.Common.{◌≡◌, ℕ, Bool, true, false, not, ◌&&◌, ◌||◌, List, [], ◌∷◌, All, Option, None, Some, map, take, get_or, refl, sym, ◌∙◌, ap, subst, arith, lit<, lit≤}
use Rattle.std.specs.Prelude.{if◌then◌else◌}
use Rattle.std.specs.Borrow.{Bor}
use Rattle.std.proofs.lemmas.List.{get_or-map, length-map}
use Rattle.std.proofs.lemmas.List.Elements.{All-tail}
use Rattle.std.proofs.lemmas.Simd.{map-map}
use Rattle.flex_model.specs.declared.booking.Notice.TheVariants.{RealTime, Ahead, Days}
use Rattle.flex_model.specs.declared.booking.Prior.{Prior}
use Rattle.flex_model.specs.declared.booking.Rule.{Rule}
use Rattle.flex_model.specs.declared.booking.SameDay.{SameDay}
use Rattle.flex_model.specs.declared.booking.SameDay.TheVariants.{Always, Greatest, Start}
use Rattle.flex_model.specs.declared.fault.FaultCode.TheVariants as code
use Rattle.flex_model.specs.declared.fault.InputFile.TheVariants.{BookingRules}
use Rattle.feed_tables.specs.Records.{RowFields, header_of, rows_of}
use Rattle.feed_tables.specs.Refusals.{is_given}
use Rattle.field_text.specs.Grammars.{choice, count, number}
use Rattle.feed_meaning.specs.FeedLinks.{Tables}
use Rattle.feed_meaning.specs.FeedRules.{booking_rules, notice_rules}
use Rattle.feed_meaning.specs.FeedValue.{index_if_given, opening_of, rule_of, seconds, service_ids}
use Rattle.feed_meaning.specs.Rules.{Rule as Check, Values, is_empty, is_no, is_text, repeats_id, rule}
use Rattle.feed_meaning.specs.Tables.{values_of}
use Rattle.feed_meaning.proofs.Kept.{AreKept, ObeysRules, is_kept}
use Rattle.feed_meaning.proofs.SoundNotices.{conditional_kept}
use Rattle.feed_rules.specs.Links.{records_in}
use Rattle.feed_load.specs.BookingColumns.{HasCounts, opens_from, rule_at, rule_columns, start_by}
use Rattle.feed_load.specs.TableValues.{values_in}
use Rattle.feed_load.specs.Columns.{number_within, place_among}
use Rattle.feed_load.proofs.Counts.{number_is, wider}
use Rattle.feed_load.proofs.Grouping.{unchanged}
use Rattle.feed_load.proofs.PresentTables.{records_are}

opens-is : (b : Bool) (start : Prior) → opens_from (if b then Some start else None) ≡ (if b then Start start else Always)
opens-is true start = refl
opens-is false start = refl

opening-is : (r : Values) → HasCounts r
    → (if is_given (r "prior_notice_duration_max") then Greatest (number_within (r "prior_notice_duration_max")) else opens_from (start_by (r "prior_notice_start_day") (r "prior_notice_start_time"))) ≡ opening_of r
opening-is r counts =
    let given = is_given (r "prior_notice_duration_max") in
    let starts = is_given (r "prior_notice_start_day") in
    let day = r "prior_notice_start_day" in
    let time = r "prior_notice_start_time" in
    ap (λ n. if given then Greatest n else opens_from (start_by day time)) (number_is (r "prior_notice_duration_max") counts.greatest)
    ∙ ap (λ o. if given then Greatest (number (r "prior_notice_duration_max")) else o)
    (opens-is starts (record { days = number_within day; time = seconds time }) ∙ ap (λ n. if starts then Start (record { days = n; time = seconds time }) else Always) (number_is day counts.start_day))

-- a booking rule with these values
made : Values → ℕ → SameDay → ℕ → ℕ → Option ℕ → Rule
made r least opening last_day start_day service = record {
  id = r "booking_rule_id";
  notice =
      if is_text (r "booking_type") "1" then Ahead least opening
      else if is_text (r "booking_type") "2"
      then Days (record { days = last_day; time = seconds (r "prior_notice_last_time") })
      (if is_given (r "prior_notice_start_day") then Some (record { days = start_day; time = seconds (r "prior_notice_start_time") }) else None) service
      else RealTime;
  message = r "message";
  pickup_message = r "pickup_message";
  drop_off_message = r "drop_off_message";
  phone = r "phone_number";
}

rule-is : (tables : Tables) (ids : List (List ℕ)) (header fields : List (List ℕ)) → HasCounts (values_of header fields) → service_ids tables ≡ ids
    → rule_at ids (rule_columns header) fields ≡ rule_of tables (values_of header fields)
unfolding made
rule-is tables ids header fields counts same =
    let r = values_of header fields in
    let least = r "prior_notice_duration_min" in
    let last_day = r "prior_notice_last_day" in
    let start_day = r "prior_notice_start_day" in
    let opening = if is_given (r "prior_notice_duration_max") then Greatest (number_within (r "prior_notice_duration_max")) else opens_from (start_by start_day (r "prior_notice_start_time")) in
    let service : List (List ℕ) → Option ℕ = λ xs. index_if_given (place_among xs) (r "prior_notice_service_id") in
    ap (λ n. made r n opening (number_within last_day) (number_within start_day) (service ids)) (number_is least counts.least)
    ∙ ap (λ o. made r (number least) o (number_within last_day) (number_within start_day) (service ids)) (opening-is r counts)
    ∙ ap (λ n. made r (number least) (opening_of r) n (number_within start_day) (service ids)) (number_is last_day counts.last_day)
    ∙ ap (λ n. made r (number least) (opening_of r) (number last_day) n (service ids)) (number_is start_day counts.start_day)
    ∙ ap (λ xs. made r (number least) (opening_of r) (number last_day) (number start_day) (service xs)) (sym same)

-- the rules of a table are those of the feed
pub rules_are : (tables : Tables) (ids : List (List ℕ)) (found : Option (Bor (List (List (List ℕ))))) (table : Bor (List (List (List ℕ)))) (rules : List Rule)
    → found ≡ Some table → All HasCounts (records_in found) → rules ≡ map (λ row. rule_at ids (rule_columns (header_of table.now)) row.fields) (rows_of table.now)
    → tables BookingRules ≡ records_in found → service_ids tables ≡ ids → rules ≡ map (rule_of tables) (tables BookingRules)
rules_are tables ids found table rules is counts made_is records same =
    let header = header_of table.now in
    let rows = rows_of table.now in
    let of : RowFields → Values = λ row. values_of header row.fields in
    let there : records_in found ≡ values_in table.now = ap records_in is ∙ records_are table.now in
    let all : All HasCounts (map of rows) = subst (λ xs. All HasCounts xs) there counts in
    made_is
    ∙ unchanged (λ (row : RowFields). rule_of tables (of row)) (λ (row : RowFields). rule_at ids (rule_columns header) row.fields) rows
    (λ i d low. rule-is tables ids header (get_or rows i d).fields
    (subst HasCounts (get_or-map of rows i d (of d) low) (all i (of d) (omega (arith, low, length-map rows of)))) same)
    ∙ sym (map-map (rule_of tables) of rows)
    ∙ ap (map (rule_of tables)) (sym (records ∙ there))

-- ---- what tables without faults say

notice-counts : (r : Values) → AreKept (notice_rules r) → HasCounts r
notice-counts r kept =
    let real_time = is_text (r "booking_type") "0" in
    let same_day = is_text (r "booking_type") "1" in
    let earlier_days = is_text (r "booking_type") "2" in
    let greatest = is_given (r "prior_notice_duration_max") in
    record {
      least = wider 1000000 (r "prior_notice_duration_min") (lit≤ tt) (conditional_kept same_day same_day code.BadNumber (count 1000000) (r "prior_notice_duration_min") (kept 0 None (lit< tt)));
      greatest = wider 1000000 (r "prior_notice_duration_max") (lit≤ tt) (conditional_kept false same_day code.BadNumber (count 1000000) (r "prior_notice_duration_max") (kept 1 None (lit< tt)));
      last_day = wider 1000 (r "prior_notice_last_day") (lit≤ tt) (conditional_kept earlier_days earlier_days code.BadNumber (count 1000) (r "prior_notice_last_day") (kept 2 None (lit< tt)));
      start_day = wider 1000 (r "prior_notice_start_day") (lit≤ tt)
          (conditional_kept false (not (real_time || (same_day && greatest))) code.BadNumber (count 1000) (r "prior_notice_start_day") (kept 4 None (lit< tt)));
    }

-- the rest of the rules, where the type is one of three
notices-kept : (earlier : List Values) (r : Values) → AreKept (booking_rules earlier r) → AreKept (notice_rules r)
notices-kept earlier r kept =
    let P : Check → Type 0 = λ x. x ≡ None in
    let wrong = is_no (choice 0 2) (r "booking_type") in
    let rest = if wrong then [] else notice_rules r in
    let right : wrong ≡ false = is_kept code.BadEnum wrong (kept 2 None (omega arith)) in
    let first = rule code.EmptyField (is_empty (r "booking_rule_id")) in
    let second = rule code.DuplicateKey (repeats_id "booking_rule_id" earlier r) in
    let third = rule code.BadEnum wrong in
    subst (λ b. AreKept (if b then [] else notice_rules r)) right
    (All-tail P third rest (All-tail P second (third ∷ rest) (All-tail P first (second ∷ third ∷ rest) kept)))

-- booking rules that keep their rules have counts
pub counts_kept : (rs : List Values) → ObeysRules booking_rules rs → All HasCounts rs
counts_kept rs kept i d low = notice-counts (get_or rs i d) (notices-kept (take i rs) (get_or rs i d) (kept.at i d low))

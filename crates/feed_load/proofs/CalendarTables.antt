-- The services of all tables with the same calendars.
use Rattle.std.proofs.Common.{◌≡◌, ◌≢◌, ℕ, fold, List, [], ◌++◌, All, Option, map, sym, ◌∙◌, ap, subst}
use Rattle.std.specs.Borrow.{Bor}
use Rattle.std.specs.Prelude.{IsTrue}
use Rattle.std.proofs.lemmas.List.{map-append}
use Rattle.std.proofs.lemmas.List.Elements.{All-append, All-map, All-weaker}
use Rattle.std.proofs.lemmas.List.Sums.{fold-append}
use Rattle.flex_model.specs.declared.fault.InputFile.TheVariants.{Calendar, CalendarDates}
use Rattle.flex_model.specs.SoundTimes.{AreIds}
use Rattle.feed_meaning.specs.FeedLinks.{Tables}
use Rattle.feed_meaning.specs.FeedValue.{first_appearances, service_ids, service_of}
use Rattle.feed_meaning.specs.Noted.{noted}
use Rattle.feed_meaning.specs.Rules.{Values}
use Rattle.feed_meaning.proofs.NamedLists.{all_noted_ids, first_appearances-noted, given_is, no_ids}
use Rattle.feed_tables.specs.Refusals.{is_given}
use Rattle.feed_rules.specs.Links.{records_in}
use Rattle.feed_load.specs.Calendars.{NameServices, calendars}

-- the services of the tables are those of their calendars
pub services_of_calendars : (tables : Tables) (ids : List (List ℕ)) (weeks dates : List Values) → tables Calendar ≡ weeks → tables CalendarDates ≡ dates
    → map (service_of (calendars weeks dates)) ids ≡ map (service_of tables) ids
services_of_calendars tables ids weeks dates e e' =
    ap (λ ws. map (service_of (calendars ws dates)) ids) (sym e) ∙ ap (λ ds. map (service_of (calendars (tables Calendar) ds)) ids) (sym e')

abbrev texts : List Values → List (List ℕ)
texts rs = map (λ r. r "service_id") rs

module _ (calendar dates : Option (Bor (List (List (List ℕ))))) (met ids : List (List ℕ))
    (first : met ≡ fold noted [] (texts (records_in calendar))) (then : ids ≡ fold noted met (texts (records_in dates))) where
  -- the ids that were noted of both tables, in one pass
  in_one : ids ≡ fold noted [] (texts (records_in calendar ++ records_in dates))
  in_one =
      then ∙ ap (λ xs. fold noted xs (texts (records_in dates))) first ∙ sym (fold-append noted [] (texts (records_in calendar)) (texts (records_in dates)))
      ∙ ap (fold noted []) (sym (map-append (λ (r : Values). r "service_id") (records_in calendar) (records_in dates)))

  pub services_are_ids : AreIds ids
  services_are_ids = subst AreIds (sym in_one) (all_noted_ids [] (texts (records_in calendar ++ records_in dates)) no_ids)

  given : NameServices calendar → NameServices dates → All (λ t. t ≢ []) (texts (records_in calendar ++ records_in dates))
  given one two =
      All-map (λ t. t ≢ []) (λ (r : Values). r "service_id") (records_in calendar ++ records_in dates)
      (All-weaker (λ (r : Values). IsTrue (is_given (r "service_id"))) (λ r. r "service_id" ≢ []) (λ r h. given_is (r "service_id") h) (records_in calendar ++ records_in dates)
      (All-append (λ (r : Values). IsTrue (is_given (r "service_id"))) (records_in calendar) (records_in dates) one two))

  -- they are those of the services of any tables with these calendars
  pub services_are : NameServices calendar → NameServices dates → (tables : Tables) → tables Calendar ≡ records_in calendar → tables CalendarDates ≡ records_in dates
      → ids ≡ service_ids tables
  services_are one two tables e e' =
      in_one ∙ sym (first_appearances-noted (texts (records_in calendar ++ records_in dates)) (given one two))
      ∙ ap (λ rs. first_appearances (texts (rs ++ records_in dates))) (sym e) ∙ ap (λ rs. first_appearances (texts (tables Calendar ++ rs))) (sym e')

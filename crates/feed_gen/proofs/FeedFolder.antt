-- The folder of the demo feed has no fault, where its zones are read as both zones.
use Rattle.std.proofs.Common.{◌≡◌, ◌∙◌, ℕ, List, [], ◌∷◌, ap, map, refl, subst, sym}
use Rattle.std.specs.Prelude.{codes}
use Rattle.std.specs.List.{flat_map}
use Rattle.flex_model.specs.declared.fault.InputFile.{InputFile}
use Rattle.flex_model.specs.declared.fault.InputFile.TheVariants as file
use Rattle.flex_model.specs.declared.fault.RawFile.TheVariants.{Absent, Bytes}
use Rattle.feed_meaning.specs.FeedFaults.{Feature, Geo, feature_entry, feed_faults, feed_files, feed_level_one, link_faults, links_of, tables}
use Rattle.feed_meaning.specs.FeedLinks.{Tables}
use Rattle.feed_meaning.specs.Folder.{Folder}
use Rattle.feed_gen.specs.FeedTexts.{agency_text, booking_rules_text, calendar_text, locations_text, routes_text, stops_text, transfers_text, trips_text}
use Rattle.feed_gen.specs.StopTimesText.{stop_times_text}
use Rattle.feed_gen.proofs.DemoTables.{booking_rules-linked, demo_tables, locations-linked, transfers-linked, trips-linked, values_in}
use Rattle.feed_gen.proofs.LinkedTables.{AreLinked, links-none, unlinked}
use Rattle.feed_gen.proofs.SmallTables.{agency-alone, booking_rules-alone, booking_rules-there, calendar-alone, calendar-there, demo_on_literals, routes-alone, stops-alone, stops-there, transfers-alone, transfers-there, trips-alone}
use Rattle.feed_gen.proofs.StopTimeLinks.{stop_times-linked}
use Rattle.feed_gen.proofs.StopTimeTable.{stop_times-alone, stop_times-values}

abbrev pub feed_folder : ℕ → Folder
feed_folder number file.Agency = Bytes agency_text
feed_folder number file.Stops = Bytes stops_text
feed_folder number file.Routes = Bytes routes_text
feed_folder number file.Trips = Bytes trips_text
feed_folder number file.StopTimes = Bytes (stop_times_text number)
feed_folder number file.Calendar = Bytes calendar_text
feed_folder number file.Locations = Bytes locations_text
feed_folder number file.BookingRules = Bytes booking_rules_text
feed_folder number file.Transfers = Bytes transfers_text
feed_folder number other = Absent

-- locations.geojson is read as both zones, without fault
pub record ReadsZones (geo : Geo) : Type 0 where
  pub faults : (geo locations_text).faults ≡ []
  pub ids : map (λ f. f.id) (geo locations_text).features ≡ codes "zA" ∷ codes "zB" ∷ []

-- ---- by themselves

alone : (geo : Geo) (number : ℕ) → ReadsZones geo → feed_level_one geo (feed_folder number) ≡ []
alone geo number zones =
    rw (
      stops-there,
      calendar-there,
      booking_rules-there,
      transfers-there,
      agency-alone,
      stops-alone,
      routes-alone,
      trips-alone,
      stop_times-alone number,
      calendar-alone,
      zones.faults,
      booking_rules-alone,
      transfers-alone,
    ) refl

-- ---- beside each other

feature-values : (features : List Feature)
    → map (λ e. e.values) (map feature_entry features) ≡ map (λ (id : List ℕ). λ column. id) (map (λ f. f.id) features)
feature-values [] = refl
feature-values (f ∷ rest) = ap (λ values. (λ column. f.id) ∷ values) (feature-values rest)

table-of : (geo : Geo) (number : ℕ) → ReadsZones geo → (f : InputFile) → tables geo (feed_folder number) f ≡ demo_tables number f
unfolding demo_on_literals values_in
table-of geo number zones file.StopTimes = stop_times-values number
table-of geo number zones file.Locations =
    feature-values (geo locations_text).features ∙ ap (map (λ (id : List ℕ). λ column. id)) zones.ids
table-of geo number zones f = refl

all-linked : (number : ℕ) (f : InputFile) → AreLinked (links_of f (demo_tables number)) (demo_tables number f)
all-linked number file.Trips = trips-linked number
all-linked number file.StopTimes = stop_times-linked number
all-linked number file.Locations = locations-linked number
all-linked number file.BookingRules = booking_rules-linked number
all-linked number file.Transfers = transfers-linked number
all-linked number file.LocationGroups = tt
all-linked number file.LocationGroupStops = tt
all-linked number file.Frequencies = tt
all-linked number f = unlinked (demo_tables number f)

linked : (geo : Geo) (number : ℕ) → ReadsZones geo → (f : InputFile) → link_faults geo (feed_folder number) f ≡ []
linked geo number zones f =
    let same : tables geo (feed_folder number) ≡ demo_tables number = λ i f. table-of geo number zones f i in
    links-none f (links_of f (tables geo (feed_folder number))) _
    (subst (λ (t : Tables). AreLinked (links_of f t) (t f)) (sym same) (all-linked number f))

flat-none : {X Y : Type 0} (f : X → List Y) (xs : List X) → ((x : X) → f x ≡ []) → flat_map f xs ≡ []
flat-none f [] none = refl
flat-none f (x ∷ xs) none = rw (none x) (flat-none f xs none)

pub no_feed_faults : (geo : Geo) (number : ℕ) → ReadsZones geo → feed_faults geo (feed_folder number) ≡ []
no_feed_faults geo number zones = rw (alone geo number zones) (flat-none (link_faults geo (feed_folder number)) feed_files (linked geo number zones))

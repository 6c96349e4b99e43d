-- The times folder of the demo has no fault beside the demo's stops.
use Rattle.std.proofs.Common.{◌≡◌, ◌<◌, ◌/◌, ◌%◌, ◌∙◌, ℕ, Bool, true, false, List, [], ◌∷◌, ◌++◌, arith, ap, map, refl, subst, sym}
use Rattle.std.specs.Prelude.{◌&&◌, ◌||◌, not}
use Rattle.std.specs.List.{list_all, list_any}
use Rattle.std.specs.Str.{bytes_eq}
use Rattle.flex_model.specs.declared.fault.FaultCode.TheVariants.{SharedId, UnknownId}
use Rattle.flex_model.specs.declared.fault.InputFile.TheVariants as file
use Rattle.flex_model.specs.declared.fault.RawFile.TheVariants.{Absent, Bytes}
use Rattle.flex_model.specs.declared.feed.Feed.{Feed}
use Rattle.flex_model.specs.declared.place.Stop.{Stop}
use Rattle.feed_meaning.specs.FeedValue.{stop_of}
use Rattle.feed_meaning.specs.Folder.{Folder}
use Rattle.feed_meaning.specs.Rules.{Rule, Values, rule}
use Rattle.feed_meaning.specs.TimesFaults.{BadZones, is_place, point_links, span_links, times_faults, times_level_one, times_link_faults, times_links}
use Rattle.feed_gen.specs.FeedTexts.{stops_text}
use Rattle.feed_gen.specs.Ids.{point_id, stop_id}
use Rattle.feed_gen.specs.Texts.{below}
use Rattle.feed_gen.specs.TimesTexts.{direct_text, points_text, walks_text, zone_text}
use Rattle.feed_gen.proofs.Checks.{checked}
use Rattle.feed_gen.proofs.CleanTables.{Clean}
use Rattle.feed_gen.proofs.DemoTables.{values_in}
use Rattle.feed_gen.proofs.DirectTable.{direct-alone, direct-there, direct_text-values, drive_at, drives, is_drive, point_drive_at, span}
use Rattle.feed_gen.proofs.LinkedTables.{AreLinked, is_clean, linked-append, linked-indexed, linked-kept, linked-tested, links-none}
use Rattle.feed_gen.proofs.SmallTables.{demo_on_literals, points-alone, points-there, walks-alone, walks-there}

abbrev pub times_folder : Folder
times_folder file.ZoneText = Bytes zone_text
times_folder file.Points = Bytes points_text
times_folder file.Direct = Bytes direct_text
times_folder file.Walks = Bytes walks_text
times_folder other = Absent

-- the demo's stops
abbrev pub demo_stops : List Stop
demo_stops = map stop_of (values_in stops_text)

alone : (is_bad_zone : BadZones) → is_bad_zone file.ZoneText zone_text ≡ false → times_level_one is_bad_zone times_folder ≡ []
alone is_bad_zone good = rw (points-there, direct-there, walks-there, good, points-alone, direct-alone, walks-alone) refl

-- ---- beside the stops

-- the same of a feed by its stops alone
abbrev is_place_of : List Stop → List ℕ → Bool
is_place_of stops text =
    list_any (λ p. bytes_eq text (p "point_id")) (values_in points_text) || list_any (λ stop. bytes_eq text stop.id && stop.boards) stops

stops-placed : list_all (λ s. is_place_of demo_stops (stop_id s)) (below 40) ≡ true
unfolding demo_on_literals values_in
stops-placed = refl

points-placed : list_all (λ p. is_place_of demo_stops (point_id p)) (below 10) ≡ true
unfolding demo_on_literals values_in
points-placed = refl

-- the links by the stops alone
abbrev point_links_of : List Stop → Values → List Rule
point_links_of stops r = rule SharedId (list_any (λ stop. bytes_eq (r "point_id") stop.id) stops) ∷ []

abbrev span_links_of : List Stop → Values → List Rule
span_links_of stops r =
    rule UnknownId (not (is_place_of stops (r "from_id"))) ∷ rule UnknownId (not (is_place_of stops (r "to_id"))) ∷ []

points-pass : list_all (λ r. is_clean (point_links_of demo_stops r)) (values_in points_text) ≡ true
unfolding demo_on_literals values_in
points-pass = refl

walks-pass : list_all (λ r. is_clean (span_links_of demo_stops r)) (values_in walks_text) ≡ true
unfolding demo_on_literals values_in
walks-pass = refl

module _ (feed : Feed) (stops : feed.stops ≡ demo_stops) where
  stop-placed : (s : ℕ) → s < 40 → is_place feed (values_in points_text) (stop_id s) ≡ true
  stop-placed s low = ap (λ stops. is_place_of stops (stop_id s)) stops ∙ checked (λ s. is_place_of demo_stops (stop_id s)) 40 stops-placed s low

  point-placed : (p : ℕ) → p < 10 → is_place feed (values_in points_text) (point_id p) ≡ true
  point-placed p low = ap (λ stops. is_place_of stops (point_id p)) stops ∙ checked (λ p. is_place_of demo_stops (point_id p)) 10 points-placed p low

  drive-linked : (i : ℕ) → i < 1600 → Clean (span_links feed (values_in points_text) (span (drive_at i)))
  drive-linked i low = rw (stop-placed (i / 40) (omega arith), stop-placed (i % 40) (omega arith)) refl

  point-drive-linked : (i : ℕ) → i < 400 → Clean (span_links feed (values_in points_text) (span (point_drive_at i)))
  point-drive-linked i low = rw (point-placed (i / 40) (omega arith), stop-placed (i % 40) (omega arith)) refl

  direct-linked : AreLinked (span_links feed (values_in points_text)) (drives ++ map (λ i. span (point_drive_at i)) (below 400))
  direct-linked =
      linked-append (span_links feed (values_in points_text)) drives (map (λ i. span (point_drive_at i)) (below 400))
      (linked-kept (span_links feed (values_in points_text)) (λ i. span (drive_at i)) is_drive (below 1600)
      (linked-indexed (span_links feed (values_in points_text)) (λ i. span (drive_at i)) 1600 drive-linked))
      (linked-indexed (span_links feed (values_in points_text)) (λ i. span (point_drive_at i)) 400 point-drive-linked)

  points-linked : AreLinked (point_links feed) (values_in points_text)
  points-linked =
      linked-tested (point_links feed) (values_in points_text)
      (ap (λ stops. list_all (λ r. is_clean (point_links_of stops r)) (values_in points_text)) stops ∙ points-pass)

  walks-linked : AreLinked (span_links feed (values_in points_text)) (values_in walks_text)
  walks-linked =
      linked-tested (span_links feed (values_in points_text)) (values_in walks_text)
      (ap (λ stops. list_all (λ r. is_clean (span_links_of stops r)) (values_in walks_text)) stops ∙ walks-pass)

  points-linked-file : times_link_faults feed times_folder file.Points ≡ []
  unfolding values_in
  points-linked-file = links-none file.Points (times_links feed times_folder file.Points) _ points-linked

  direct-linked-file : times_link_faults feed times_folder file.Direct ≡ []
  unfolding values_in
  direct-linked-file =
      links-none file.Direct (times_links feed times_folder file.Direct) _
      (subst (AreLinked (span_links feed (values_in points_text))) (sym direct_text-values) direct-linked)

  walks-linked-file : times_link_faults feed times_folder file.Walks ≡ []
  unfolding values_in
  walks-linked-file = links-none file.Walks (times_links feed times_folder file.Walks) _ walks-linked

  pub no_times_faults : (is_bad_zone : BadZones) → is_bad_zone file.ZoneText zone_text ≡ false → times_faults is_bad_zone feed times_folder ≡ []
  no_times_faults is_bad_zone good = rw (alone is_bad_zone good, points-linked-file, direct-linked-file, walks-linked-file) refl

-- The ids of zones: which repeat, and which stand among others.
use Rattle.std.proofs.Common.{◌≡◌, ℕ, ◌+◌, ◌<◌, Bool, true, false, ◌||◌, cond, fold, List, [], ◌∷◌, ◌++◌, Option, Some, None, length, map, take, get_or, refl, sym, ◌∙◌, ap, subst}
use Rattle.std.specs.Prelude.{if◌then◌else◌}
use Rattle.std.specs.Borrow.{Bor}
use Rattle.std.specs.List.{filter_map, flat_map, list_any}
use Rattle.std.specs.Str.{bytes_eq}
use Rattle.std.proofs.lemmas.List.{flat_map_more, map-append, take_more}
use Rattle.std.proofs.lemmas.List.Elements.{filter_map-append}
use Rattle.std.proofs.lemmas.List.Folds.{list_any-append}
use Rattle.std.proofs.lemmas.List.Sums.{fold_push}
use Rattle.std.proofs.lemmas.Slice.Eq.{bytes_eq-Decides}
use Rattle.indexmap.specs.IndexSet.{insert_key}
use Rattle.flex_model.specs.declared.fault.Fault.{Fault}
use Rattle.flex_model.specs.declared.fault.FaultCode.{FaultCode}
use Rattle.flex_model.specs.declared.fault.FaultCode.TheVariants.{DuplicateKey}
use Rattle.flex_model.specs.declared.fault.InputFile.TheVariants.{Locations}
use Rattle.geo_json.specs.Zones.{feature_in}
use Rattle.geo_json.specs.declared.record.ZoneRecord.{ZoneRecord}
use Rattle.feed_meaning.specs.FeedFaults.{Feature}
use Rattle.feed_meaning.specs.FeedLinks.{Tables}
use Rattle.feed_meaning.specs.Indexes.{HasIds}
use Rattle.feed_meaning.specs.Locations.{repeated}
use Rattle.feed_meaning.specs.Noted.{noted}
use Rattle.feed_meaning.specs.Rules.{rule}
use Rattle.feed_meaning.specs.Tables.{Entry, fault, faults_at, with_earlier}
use Rattle.feed_meaning.proofs.IdFacts.{all_noted-has, list_any-map}
use Rattle.feed_meaning.proofs.Passes.{with_earlier_more}
use Rattle.feed_rules.specs.Zones.{zone_entry, zone_values}

-- where the key is among the keys, so is whatever equals it
among : (q t : List ℕ) (keys : List (Bor (List ℕ))) → list_any (λ k. bytes_eq t k.now) keys ≡ true → bytes_eq q t ≡ true → list_any (λ k. bytes_eq q k.now) keys ≡ true
among q t keys h e = subst (λ x. list_any (λ k. bytes_eq x k.now) keys ≡ true) (sym ((bytes_eq-Decides q t).0 e)) h

or_kept : (a b : Bool) → (b ≡ true → a ≡ true) → a ≡ (a || b)
or_kept true b h = refl
or_kept false true h = h refl
or_kept false false h = refl

or_one : (a b : Bool) → (a || (b || false)) ≡ (a || b)
or_one true b = refl
or_one false true = refl
or_one false false = refl

-- the keys after one more
key_more : (q : List ℕ) (keys : List (Bor (List ℕ))) (key : Bor (List ℕ)) (b : Bool) → list_any (λ k. bytes_eq key.now k.now) keys ≡ b
    → list_any (λ k. bytes_eq q k.now) (cond b keys (keys ++ key ∷ [])) ≡ (list_any (λ k. bytes_eq q k.now) keys || bytes_eq q key.now)
key_more q keys key true e = or_kept (list_any (λ k. bytes_eq q k.now) keys) (bytes_eq q key.now) (among q key.now keys e)
key_more q keys key false e = list_any-append (λ k. bytes_eq q k.now) keys (key ∷ []) ∙ or_one (list_any (λ k. bytes_eq q k.now) keys) (bytes_eq q key.now)

-- a text is among the keys just where it is the id of one of the zones
abbrev pub AreMet : List (Bor (List ℕ)) → List ZoneRecord → Type 0
AreMet keys zones = (q : List ℕ) → list_any (λ k. bytes_eq q k.now) keys ≡ list_any (λ zone. bytes_eq q zone.id) zones

-- the faults of zones with an id that an earlier one has
abbrev pub repeats : List ZoneRecord → List Fault
repeats zones = map (λ f. fault Locations f.0 f.1) (repeated (map feature_in zones))

abbrev duplicate : List Feature × Feature → Option (ℕ × FaultCode)
duplicate p = if list_any (λ e. bytes_eq p.1.id e.id) p.0 then Some (p.1.row, DuplicateKey) else None

one_fault : (row : ℕ) (b : Bool) → map (λ f. fault Locations f.0 f.1) (filter_map (λ (o : Option (ℕ × FaultCode)). o) ((if b then Some (row, DuplicateKey) else None) ∷ [])) ≡ faults_at Locations row (rule DuplicateKey b ∷ [])
one_fault row true = refl
one_fault row false = refl

repeats_push : (zones : List ZoneRecord) (zone : ZoneRecord) → repeats (zones ++ zone ∷ []) ≡ repeats zones ++ faults_at Locations zone.line (rule DuplicateKey (list_any (λ z. bytes_eq zone.id z.id) zones) ∷ [])
repeats_push zones zone =
    let xs = map feature_in zones in
    let F : ℕ × FaultCode → Fault = λ f. fault Locations f.0 f.1 in
    ap (λ l. map F (repeated l)) (map-append feature_in zones (zone ∷ []))
    ∙ ap (λ l. map F (filter_map duplicate l)) (with_earlier_more [] xs (feature_in zone))
    ∙ ap (map F) (filter_map-append duplicate (with_earlier xs) ((xs, feature_in zone) ∷ []))
    ∙ map-append F (filter_map duplicate (with_earlier xs)) (filter_map duplicate ((xs, feature_in zone) ∷ []))
    ∙ ap (λ l. repeats zones ++ l) (one_fault zone.line (list_any (λ e. bytes_eq zone.id e.id) xs))
    ∙ ap (λ b. repeats zones ++ faults_at Locations zone.line (rule DuplicateKey b ∷ [])) (list_any-map feature_in (λ e. bytes_eq zone.id e.id) zones)

-- one zone more
module _ (zones : List ZoneRecord) (at : ℕ) (zone : ZoneRecord) (low : at < length zones) (is : zone ≡ get_or zones at zone) where
  taken : take (at + 1) zones ≡ take at zones ++ zone ∷ []
  taken = take_more zones at zone low ∙ ap (λ z. take at zones ++ z ∷ []) (sym is)

  pub met_more : (before after : List (Bor (List ℕ))) (key : Bor (List ℕ)) → AreMet before (take at zones) → key.now ≡ zone.id
      → after ≡ insert_key (λ x y. bytes_eq x.now y.now) before key → AreMet after (take (at + 1) zones)
  met_more before after key met key_is added q =
      ap (list_any (λ k. bytes_eq q k.now)) added ∙ key_more q before key (list_any (λ k. bytes_eq key.now k.now) before) refl
      ∙ ap (λ b. b || bytes_eq q key.now) (met q) ∙ ap (λ t. list_any (λ z. bytes_eq q z.id) (take at zones) || bytes_eq q t) key_is
      ∙ sym (or_one (list_any (λ z. bytes_eq q z.id) (take at zones)) (bytes_eq q zone.id))
      ∙ sym (list_any-append (λ z. bytes_eq q z.id) (take at zones) (zone ∷ [])) ∙ ap (list_any (λ z. bytes_eq q z.id)) (sym taken)

  pub repeats_more : (keys : List (Bor (List ℕ))) (text : List ℕ) (before after : List Fault) (is_repeated : Bool) → AreMet keys (take at zones) → text ≡ zone.id
      → is_repeated ≡ list_any (λ k. bytes_eq text k.now) keys → before ≡ repeats (take at zones)
      → after ≡ before ++ faults_at Locations zone.line (rule DuplicateKey is_repeated ∷ []) → after ≡ repeats (take (at + 1) zones)
  repeats_more keys text before after is_repeated met text_is repeated_is earlier added =
      added ∙ ap (λ l. l ++ faults_at Locations zone.line (rule DuplicateKey is_repeated ∷ [])) earlier
      ∙ ap (λ b. repeats (take at zones) ++ faults_at Locations zone.line (rule DuplicateKey b ∷ []))
      (repeated_is ∙ ap (λ t. list_any (λ k. bytes_eq t k.now) keys) text_is ∙ met zone.id)
      ∙ sym (repeats_push (take at zones) zone) ∙ ap repeats (sym taken)

  -- the ids that were met after one zone more
  pub ids_more : (before after : List (List ℕ)) (text : List ℕ) → before ≡ fold noted [] (map (λ z. z.id) (take at zones)) → text ≡ zone.id → after ≡ noted before text
      → after ≡ fold noted [] (map (λ z. z.id) (take (at + 1) zones))
  ids_more before after text earlier text_is added =
      added ∙ ap (λ ids. noted ids text) earlier ∙ ap (noted (fold noted [] (map (λ z. z.id) (take at zones)))) text_is
      ∙ sym (fold_push noted [] (map (λ z. z.id) (take at zones)) zone.id)
      ∙ ap (fold noted []) (sym (map-append (λ (z : ZoneRecord). z.id) (take at zones) (zone ∷ [])) ∙ ap (map (λ z. z.id)) (sym taken))

  -- the faults of one zone more go last
  pub links_more : (f : Entry → List Fault) (before after own : List Fault) → before ≡ flat_map f (map zone_entry (take at zones)) → own ≡ f (zone_entry zone)
      → after ≡ before ++ own → after ≡ flat_map f (map zone_entry (take (at + 1) zones))
  links_more f before after own earlier here added =
      added ∙ ap (λ l. l ++ own) earlier ∙ ap (λ l. flat_map f (map zone_entry (take at zones)) ++ l) here
      ∙ flat_map_more f [] (map zone_entry (take at zones)) (zone_entry zone)
      ∙ ap (flat_map f) (sym (map-append zone_entry (take at zones) (zone ∷ [])) ∙ ap (map zone_entry) (sym taken))

-- the ids of zones stand for them
pub known_zones : (o : Option (Bor (List ZoneRecord))) (zones : Bor (List ZoneRecord)) (ids : List (List ℕ)) → o ≡ Some zones → ids ≡ fold noted [] (map (λ z. z.id) zones.now)
    → (tables : Tables) → tables Locations ≡ zone_values o → HasIds ids tables Locations "id"
known_zones o zones ids is noted_ids tables same text given =
    ap (list_any (bytes_eq text)) noted_ids ∙ all_noted-has text [] (map (λ z. z.id) zones.now) given ∙ list_any-map (λ (z : ZoneRecord). z.id) (bytes_eq text) zones.now
    ∙ sym (list_any-map zone_entry (λ e. bytes_eq text (e.values "id")) zones.now)
    ∙ sym (list_any-map (λ e. e.values) (λ s. bytes_eq text (s "id")) (map zone_entry zones.now))
    ∙ ap (list_any (λ s. bytes_eq text (s "id"))) (sym (same ∙ ap zone_values is))

pub no_known_zones : (o : Option (Bor (List ZoneRecord))) (ids : List (List ℕ)) → o ≡ None → ids ≡ [] → (tables : Tables) → tables Locations ≡ zone_values o → HasIds ids tables Locations "id"
no_known_zones o ids is empty tables same text given =
    ap (list_any (bytes_eq text)) empty ∙ ap (list_any (λ s. bytes_eq text (s "id"))) (sym (same ∙ ap zone_values is))

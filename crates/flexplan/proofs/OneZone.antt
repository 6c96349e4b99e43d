-- One zone alone is read of the text of UTC and of a zone file.
use Rattle.std.proofs.Common.{◌≡◌, inl, inr, ◌∙◌, ◌<◌, ◌+ℤ◌, ◌-ℤ◌, ◌*ℤ◌, ℕ, ℤ, pos, get_or, Option, Some, None, List, refl, sym, ap, subst, arith}
use Rattle.std.specs.Borrow.{Bor}
use Rattle.std.proofs.lemmas.Int.{ints}
use Rattle.std.proofs.lemmas.List.{ext_get_or}
use Rattle.std.proofs.lemmas.Option.{slice_get-get_or}
use Rattle.flex_model.specs.declared.fault.RawFile.{RawFile}
use Rattle.flex_model.specs.declared.fault.RawFile.TheVariants.{Absent, TooLarge, Bytes}
use Rattle.jiff.proofs.Family.{epoch_day_injective}
use Rattle.jiff.specs.Types.{DateTime, TimeZone, UTC, Unknown, Fixed, Posix as RuleZone, Tzif as Table}
use Rattle.jiff.specs.Words.{ambiguous_at, civil_nanos, civil_seconds, compatible_offset, instant_of, nanos_of_seconds}
use Rattle.jiff_tz.specs.Tzif.{tzif_view}
use Rattle.jiff_tz.specs.declared.tzif.Tzif.{Tzif as TzifTable}
use Rattle.place_times.specs.Loads.{IsZoneFound, IsZoneRead}
use Rattle.service_days.specs.Bases.{first_day}
use Rattle.service_days.specs.Noons.{HasBasesOf, IsBaseIn, IsNoonOf}
use Rattle.service_days.specs.ZoneForms.{IsBadZone, IsTzifZone, IsUtcText}
use Rattle.service_days.specs.declared.forms.ZoneForm.TheVariants.{Posix, Tzif}
use Rattle.service_days.proofs.NoonFacts.{ahead, noon-instant}
use Rattle.service_days.proofs.TextUtf8.{utc-utf8}
use Rattle.flexplan.proofs.ZoneTables.{IsSameMoment, table-same}
use Rattle.flexplan.specs.Accepted.{PlainZonesAreOne}
use Rattle.flexplan.specs.Input.{times_folder}
use Rattle.flex_model.specs.declared.fault.InputFile.TheVariants.{ZoneTzif}

-- noons of one day
noon-same : (a b : DateTime) (day : ℤ) → IsNoonOf day a → IsNoonOf day b → IsSameMoment a b
unfolding civil_nanos civil_seconds
noon-same a b day of_a of_b = record {
  year = (epoch_day_injective a.date b.date (of_a.0 ∙ sym of_b.0)).0;
  nanos = omega (arith, ints, of_a.0, of_b.0, of_a.1, of_b.1);
  seconds = omega (arith, ints, of_a.0, of_b.0, of_a.1, of_b.1);
}

-- the base by how far the zone's clock is ahead at noon
base-of : (zone : TimeZone) (noon : DateTime) (day base : ℤ) → IsNoonOf day noon → nanos_of_seconds (base +ℤ pos 43200) ≡ instant_of noon (compatible_offset (ambiguous_at zone noon))
    → base ≡ (pos 86400 *ℤ day) -ℤ ahead zone noon
base-of zone noon day base of_day is =
    let instant = noon-instant zone noon day of_day in
    omega (arith, ints, is, instant)

ahead-same : (a b : Bor TzifTable) (noon its : DateTime) → tzif_view a.now ≡ tzif_view b.now → IsSameMoment noon its → ahead (Table a) noon ≡ ahead (Table b) its
unfolding ambiguous_at
ahead-same a b noon its view same = table-same a.now b.now view noon its same

base-same : (a b : Bor TzifTable) (day x y : ℤ) → tzif_view a.now ≡ tzif_view b.now → IsBaseIn (Table a) day x → IsBaseIn (Table b) day y → x ≡ y
base-same a b day x y view of_a of_b =
    base-of (Table a) of_a.0 day x of_a.1 of_a.2
    ∙ ap (λ s. (pos 86400 *ℤ day) -ℤ s) (ahead-same a b of_a.0 of_b.0 view (noon-same of_a.0 of_b.0 day of_a.1 of_b.1))
    ∙ sym (base-of (Table b) of_b.0 day y of_b.1 of_b.2)

bases-same : (a b : Bor TzifTable) (xs ys : List ℤ) → tzif_view a.now ≡ tzif_view b.now → HasBasesOf (Table a) xs → HasBasesOf (Table b) ys → xs ≡ ys
bases-same a b xs ys view of_a of_b = ext_get_or (pos 0) xs ys (of_a.count ∙ sym of_b.count)
    (λ i lt. base-same a b (pos first_day +ℤ pos i) (get_or xs i (pos 0)) (get_or ys i (pos 0)) view
    (of_a.each i (get_or xs i (pos 0)) (slice_get-get_or xs i (pos 0) lt))
    (of_b.each i (get_or ys i (pos 0)) (slice_get-get_or ys i (pos 0) (subst (λ n. i < n) (of_a.count ∙ sym of_b.count) lt))))

file-same : (bytes : List ℕ) (a b : TimeZone) (xs ys : List ℤ) → IsTzifZone bytes a → IsTzifZone bytes b → HasBasesOf a xs → HasBasesOf b ys → xs ≡ ys
file-same bytes (Table a) (Table b) xs ys of_a of_b = bases-same a b xs ys (let e = of_a.0 in let f = of_b.0 in cc)
file-same bytes UTC b xs ys none of_b = absurd none
file-same bytes Unknown b xs ys none of_b = absurd none
file-same bytes (Fixed o) b xs ys none of_b = absurd none
file-same bytes (RuleZone r) b xs ys none of_b = absurd none
file-same bytes (Table a) UTC xs ys of_a none = absurd none
file-same bytes (Table a) Unknown xs ys of_a none = absurd none
file-same bytes (Table a) (Fixed o) xs ys of_a none = absurd none
file-same bytes (Table a) (RuleZone r) xs ys of_a none = absurd none

-- a zone file
file-read : (bytes : List ℕ) (a b : Option (List ℤ)) → IsZoneRead Tzif bytes a → IsZoneRead Tzif bytes b → a ≡ b
file-read bytes None None of_a of_b = refl
file-read bytes None (Some ys) bad read = absurd (read.good bad)
file-read bytes (Some xs) None read bad = absurd (read.good bad)
file-read bytes (Some xs) (Some ys) of_a of_b =
    let x = of_a.bases (λ none. none) in
    let y = of_b.bases (λ none. none) in
    ap Some (file-same bytes x.0 y.0 xs ys x.1 y.1 x.2 y.2)

not-bad-utc : (bytes : List ℕ) → IsUtcText Posix bytes → IsBadZone Posix bytes → ⊥
not-bad-utc bytes is bad = elim bad [
  | inl broken ↦ broken (utc-utf8 bytes is)
  | inr other ↦ other.0 is
]

-- the text of UTC
utc-read : (bytes : List ℕ) (a b : Option (List ℤ)) → IsUtcText Posix bytes → IsZoneRead Posix bytes a → IsZoneRead Posix bytes b → a ≡ b
utc-read bytes None b is bad of_b = absurd (not-bad-utc bytes is bad)
utc-read bytes (Some xs) None is of_a bad = absurd (not-bad-utc bytes is bad)
utc-read bytes (Some xs) (Some ys) is of_a of_b = ap Some (let e = of_a.utc is in let f = of_b.utc is in cc)

absent-found : (tzif : RawFile) (a b : Option (List ℤ)) → IsZoneFound Absent tzif a → IsZoneFound Absent tzif b → a ≡ b
absent-found Absent a b e f = e ∙ sym f
absent-found TooLarge a b e f = e ∙ sym f
absent-found (Bytes bytes) a b of_a of_b = file-read bytes a b of_a of_b

pub plain_one : PlainZonesAreOne
plain_one files paths plain a b of_a of_b = elim plain [
  | inl absent ↦ absent-found tzif a b (subst (λ t. IsZoneFound t tzif a) absent of_a) (subst (λ t. IsZoneFound t tzif b) absent of_b)
  | inr told ↦ utc-read told.0 a b told.2 (subst (λ t. IsZoneFound t tzif a) told.1 of_a) (subst (λ t. IsZoneFound t tzif b) told.1 of_b)
]
  where
    tzif : RawFile
    tzif = times_folder files paths ZoneTzif

-- What the bytes of a zone are read as. A POSIX rule (POSIX.1-2024, "TZ", with the extension of RFC 9636) and a zone file
-- (RFC 9636) are what the readers of `jiff` promise to read. `UTC0` is UTC itself.
use Rattle.std.specs.Prelude.{◌≡◌, ◌≢◌, ◌⊎◌, ℕ, ℤ, List, None, Result, Ok, Err, IfOk, codes}
use Rattle.std.specs.Str.{IsUtf8}
use Rattle.jiff.specs.Placed.{IsPosixZone}
use Rattle.jiff.specs.Types.{TimeZone, Tzif as Table, TzifFault}
use Rattle.jiff.specs.Words.{Error, IsParseFailure, read_whole}
use Rattle.jiff_core.specs.declared.error.Error.TheVariants.{OutOfMemory}
use Rattle.jiff_tz.specs.Tzif.{RuleAgrees, tzif_view}
use Rattle.jiff_tz.specs.TzifReader.{read_tzif}
use Rattle.service_days.specs.declared.forms.ZoneForm.{ZoneForm}
use Rattle.service_days.specs.declared.forms.ZoneForm.TheVariants.{Posix, Tzif}
use Rattle.service_days.specs.declared.forms.ZoneRefusal.{ZoneRefusal}
use Rattle.service_days.specs.declared.forms.ZoneRefusal.TheVariants.{BadZone}
use Rattle.service_days.specs.Bases.{utc_bases}
use Rattle.service_days.specs.Noons.{HasBasesOf}
use Rattle.service_days.specs.ZoneTexts.{zone_text}

-- the text of UTC
abbrev pub IsUtcText : ZoneForm → List ℕ → Type 0
IsUtcText Posix bytes = zone_text bytes ≡ codes "UTC0"
IsUtcText Tzif bytes = ⊥

-- bytes that can't be read, whatever memory there is: they aren't UTF-8, or are neither the text of UTC nor a rule; or they
-- break the format of a zone file
abbrev pub IsMalformed : ZoneForm → List ℕ → Type 0
IsMalformed Posix bytes = (IsUtf8 bytes → ⊥)
    ⊎ ((zone_text bytes ≢ codes "UTC0") × (read_whole (zone_text bytes) ≡ None))
IsMalformed Tzif bytes = (fault : TzifFault) × (read_tzif bytes ≡ Err fault)

-- A bad zone is what can't be read, or a zone file that its reader refuses for another cause than memory: beside those that
-- break the format, one whose rule doesn't agree with its last transition.
abbrev pub IsBadZone : ZoneForm → List ℕ → Type 0
IsBadZone Posix bytes = IsMalformed Posix bytes
IsBadZone Tzif bytes = (error : Error) × (error ≢ OutOfMemory) × IsParseFailure error bytes

-- the zone of a zone file
abbrev pub IsTzifZone : List ℕ → TimeZone → Type 0
IsTzifZone bytes (Table table) = (read_tzif bytes ≡ Ok (tzif_view table.now)) × RuleAgrees table.now
IsTzifZone bytes zone = ⊥

-- the zone that the reader of the form gives for the bytes
abbrev pub IsZoneOf : ZoneForm → List ℕ → TimeZone → Type 0
IsZoneOf Posix bytes zone = IsPosixZone (zone_text bytes) zone
IsZoneOf Tzif bytes zone = IsTzifZone bytes zone

-- the bases of such a zone
abbrev pub HasBasesOfBytes : ZoneForm → List ℕ → List ℤ → Type 0
HasBasesOfBytes form bytes bases =
    (zone : TimeZone) × IsZoneOf form bytes zone × HasBasesOf zone bases

-- What is answered for the bytes of a zone. Want of memory may be answered wherever it isn't ruled out: never for the text of
-- UTC, nor for bytes that can't be read.
pub record IsZoneAnswer (form : ZoneForm) (bytes : List ℕ)
    (answer : Result (List ℤ) ZoneRefusal) : Type 0 where
  pub utc : IsUtcText form bytes → answer ≡ Ok utc_bases
  pub bases : IfOk answer (λ bases. (IsUtcText form bytes → ⊥) → HasBasesOfBytes form bytes bases)
  pub good : IfOk answer (λ bases. IsBadZone form bytes → ⊥)
  pub bad : answer ≡ Err BadZone → IsBadZone form bytes
  pub malformed : IsMalformed form bytes → answer ≡ Err BadZone

-- What `certify` prints is accepted by `check` over the same files. This project's own.
use Rattle.std.specs.Prelude.{◌≡◌, ◌⊎◌, ℕ, ℤ, List, Option}
use Rattle.flex_io.specs.Outside.{FileMap}
use Rattle.flex_model.specs.declared.fault.InputFile.TheVariants.{ZoneText}
use Rattle.flex_model.specs.declared.fault.RawFile.TheVariants.{Absent, Bytes}
use Rattle.feed_meaning.specs.Locations.{Scan}
use Rattle.feed_rules.specs.Zones.{ScansFolder}
use Rattle.flexplan.specs.Answers.{Piece}
use Rattle.flexplan.specs.Certified.{IsCertified}
use Rattle.flexplan.specs.Checked.{cert_file}
use Rattle.flexplan.specs.Input.{FindsZone, feed_folder, times_folder}
use Rattle.flexplan.specs.Reply.{IsReply}
use Rattle.flexplan.specs.Words.{InputPaths, check}
use Rattle.flexplan.specs.declared.status.Status.{Status}
use Rattle.flexplan.specs.declared.status.Status.TheVariants.{Done}
use Rattle.service_days.specs.ZoneForms.{IsUtcText}
use Rattle.service_days.specs.declared.forms.ZoneForm.TheVariants.{Posix}

-- whoever reads the zone of the times folder finds the same one
abbrev pub HasOneZone : FileMap → InputPaths → Type 0
HasOneZone files paths =
    (a b : Option (List ℤ)) → FindsZone files paths a → FindsZone files paths b → a ≡ b

-- zone.txt is absent, so that a zone file is read if there is one, or its text is UTC0
abbrev pub HasPlainZone : FileMap → InputPaths → Type 0
HasPlainZone files paths =
    (times_folder files paths ZoneText ≡ Absent)
    ⊎ ((bytes : List ℕ) × (times_folder files paths ZoneText ≡ Bytes bytes) × IsUtcText Posix bytes)

-- Whoever reads such a zone finds the same one.
abbrev pub PlainZonesAreOne : Type 0
PlainZonesAreOne =
    (files : FileMap) (paths : InputPaths) → HasPlainZone files paths → HasOneZone files paths

-- Where the certificate's file has the bytes that `certify` printed for the input, and one zone is read, a right answer to
-- `check` is that it is valid.
abbrev pub CertificatesAreAccepted : Type 0
CertificatesAreAccepted = (files : FileMap) (paths : InputPaths) (cert bytes : List ℕ)
    (scan : List ℕ → Scan) (status : Status) (pieces : List Piece)
    → ScansFolder scan (feed_folder files paths) → HasOneZone files paths
    → IsCertified files paths bytes → cert_file files cert ≡ Bytes bytes
    → IsReply (check paths cert) files status pieces → status ≡ Done

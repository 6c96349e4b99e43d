-- What `certify` prints: the text of a certificate for the queries of the input.
--
-- Each part is one that a search finds: a valid certificate for its query, so that its answers are exact, with labels that
-- are attained, of which none covers another one of its round and place, in the order of places, arrivals and walks. This
-- project's own.
use Rattle.std.specs.Prelude.{◌≡◌, ℕ, ℤ, Bool, List, Some, length, slice_get}
use Rattle.std.specs.List.{list_any}
use Rattle.bound_cert.specs.CertText.{cert_text, part_text}
use Rattle.bound_cert.specs.HeldCert.{IsHeldPart, IsWritten}
use Rattle.bound_cert.specs.Parts.{IsFoundPart}
use Rattle.bound_cert.specs.PrintableCert.{IsPrintablePart}
use Rattle.bound_cert.specs.declared.cert.Cert.{Cert}
use Rattle.bound_cert.specs.declared.cert.CertPart.{CertPart}
use Rattle.flex_io.specs.Outside.{FileMap}
use Rattle.flex_model.specs.declared.feed.Feed.{Feed}
use Rattle.flex_model.specs.declared.query.Query.{Query}
use Rattle.flex_model.specs.declared.times.Times.{Times}
use Rattle.feed_meaning.specs.Locations.{Scan, zones_of}
use Rattle.feed_rules.specs.Zones.{ScansFolder}
use Rattle.service_days.specs.Bases.{table_of}
use Rattle.flexplan.specs.Input.{IsAccepted, feed, feed_folder, queries, times}
use Rattle.flexplan.specs.Words.{InputPaths}

-- one of the queries asks for walking
abbrev pub some_asks : List Query → Bool
some_asks queries = list_any (λ query. query.walking) queries

-- a part for each query, in order, that stands so to it
pub record AreForQueries (Fits : Query → CertPart → Type 0) (queries : List Query) (parts : List CertPart) : Type 0 where
  pub count : length parts ≡ length queries
  pub each : (k : ℕ) (query : Query) (part : CertPart) → slice_get queries k ≡ Some query → slice_get parts k ≡ Some part → Fits query part

-- over this feed and these times, in the zone whose days begin at these bases
module _ (feed : Feed) (times : Times) (bases : List ℤ) where
  -- the part is one that a search finds for the query
  abbrev pub IsFoundFor : Query → CertPart → Type 0
  IsFoundFor query part = IsFoundPart feed times (table_of bases query.depart) query part

  -- the text of a part that a search finds for the query
  abbrev pub IsPartText : Query → List ℕ → Type 0
  IsPartText query text = (part : CertPart) × IsFoundFor query part × (text ≡ part_text feed times part)

  -- the text of such a part that is read back from it
  abbrev pub IsWrittenPartText : Query → List ℕ → Type 0
  IsWrittenPartText query text =
      (part : CertPart) × IsFoundFor query part × IsPrintablePart feed times part × IsHeldPart part
      × (text ≡ part_text feed times part)

  -- the text of a certificate that is read back from it, with a part that a search finds for each query
  abbrev pub IsCertificateText : List Query → List ℕ → Type 0
  IsCertificateText queries text =
      (cert : Cert) × IsWritten feed times cert × AreForQueries IsFoundFor queries cert.parts
      × (text ≡ cert_text feed times cert)

-- The input is accepted, and the bytes are the text of a certificate for its queries, in whichever way that agrees with the
-- grammar of JSON the text of locations.geojson is scanned.
abbrev pub IsCertified : FileMap → InputPaths → List ℕ → Type 0
IsCertified files paths bytes =
    (scan : List ℕ → Scan) → ScansFolder scan (feed_folder files paths)
    → (bases : List ℤ) × IsAccepted (zones_of scan) files paths bases
    × IsCertificateText (feed (zones_of scan) files paths) (times (zones_of scan) files paths) bases
    (queries (zones_of scan) files paths) bytes

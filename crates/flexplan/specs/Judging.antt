-- Steps on the way to what `check` says of a certificate. This project's own.
use Rattle.std.specs.Prelude.{◌≡◌, ℕ, ◌+◌, ℤ, List, Option, None, Some}
use Rattle.bound_cert.specs.declared.cert.Cert.{Cert}
use Rattle.bound_cert.specs.declared.cert.CertPart.{CertPart}
use Rattle.cert_check.specs.Reasons.{IsFirstReason}
use Rattle.cert_check.specs.RefusalText.{refusal_line}
use Rattle.cert_check.specs.declared.reason.Reason.{Reason}
use Rattle.flex_model.specs.declared.fault.RawFile.{RawFile}
use Rattle.flex_model.specs.declared.feed.Feed.{Feed}
use Rattle.flex_model.specs.declared.query.Query.{Query}
use Rattle.flex_model.specs.declared.times.Times.{Times}
use Rattle.service_days.specs.Bases.{table_of}
use Rattle.flexplan.specs.Certified.{AreForQueries}
use Rattle.flexplan.specs.Checked.{IsFirstBad, IsRawOf, IsValidFor}

module _ (feed : Feed) (times : Times) (bases : List ℤ) where
  -- a part is valid for its query, or this is the line of the first reason why it isn't
  abbrev pub IsPartJudged : Query → CertPart → ℕ → Option (List ℕ) → Type 0
  IsPartJudged query part number None = IsValidFor feed times bases query part
  IsPartJudged query part number (Some text) =
      (reason : Reason) × IsFirstReason feed times (table_of bases query.depart) query part reason
      × (IsValidFor feed times bases query part → ⊥)
      × (text ≡ refusal_line feed times query part number reason)

  module _ (queries : List Query) where
    -- as many parts are valid for their queries, or this is the line of the first one that isn't
    abbrev pub ArePartsJudged : List CertPart → Option (List ℕ) → Type 0
    ArePartsJudged parts None = AreForQueries (IsValidFor feed times bases) queries parts
    ArePartsJudged parts (Some text) =
        (k : ℕ) × (query : Query) × (part : CertPart) × (reason : Reason)
        × IsFirstBad feed times bases queries parts k query part reason
        × (text ≡ refusal_line feed times query part (k + 1) reason)

-- the bytes of the file are the text of this certificate and of no other one
abbrev pub IsOnlyCert : Feed → Times → RawFile → Cert → Type 0
IsOnlyCert feed times raw cert =
    IsRawOf feed times raw cert × ((other : Cert) → IsRawOf feed times raw other → other ≡ cert)

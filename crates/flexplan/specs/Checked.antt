-- What `check` says of a certificate: that it is valid, or the first refusal.
--
-- A certificate is valid where its bytes are the text of one, it has a part for each query of the input, and each part is
-- valid for its query: then the answers of each part are exact. Refusals are tried in this order: the file is missing, it has
-- more bytes than are read, it is the text of no certificate, it has not as many parts as there are queries, and then part
-- by part the first reason why a part isn't valid. This project's own.
use Rattle.std.specs.Prelude.{◌≡◌, ◌≢◌, ℕ, ◌+◌, ◌<◌, ℤ, List, [], ◌∷◌, Some, length, slice_get, codes, decimal}
use Rattle.bound_cert.specs.CertText.{cert_text}
use Rattle.bound_cert.specs.HeldCert.{IsWritten}
use Rattle.bound_cert.specs.Parts.{IsValidPart}
use Rattle.bound_cert.specs.Syntax.{IsSyntaxFault}
use Rattle.bound_cert.specs.declared.cert.Cert.{Cert}
use Rattle.bound_cert.specs.declared.cert.CertPart.{CertPart}
use Rattle.cert_check.specs.Reasons.{IsFirstReason}
use Rattle.cert_check.specs.RefusalText.{refusal_line}
use Rattle.cert_check.specs.declared.reason.Reason.{Reason}
use Rattle.flex_io.specs.Outside.{FileMap}
use Rattle.flex_model.specs.Answer.{IsExactAnswer}
use Rattle.flex_model.specs.declared.fault.RawFile.{RawFile}
use Rattle.flex_model.specs.declared.fault.RawFile.TheVariants.{Absent, TooLarge, Bytes}
use Rattle.flex_model.specs.declared.feed.Feed.{Feed}
use Rattle.flex_model.specs.declared.query.Query.{Query}
use Rattle.flex_model.specs.declared.times.Times.{Times}
use Rattle.feed_meaning.specs.Told.{told_file}
use Rattle.query_io.specs.AnswerText.{line}
use Rattle.service_days.specs.Bases.{table_of}
use Rattle.flexplan.specs.Certified.{AreForQueries}
use Rattle.flexplan.specs.declared.status.Status.{Status}
use Rattle.flexplan.specs.declared.status.Status.TheVariants.{Done, CertRefused}

-- the most bytes that a certificate may have: 1 GiB
abbrev pub cert_limit : ℕ
cert_limit = 1073741824

-- the file of a certificate
abbrev pub cert_file : FileMap → List ℕ → RawFile
cert_file files path = told_file files cert_limit path

-- valid COUNT
abbrev pub valid_line : ℕ → List ℕ
valid_line count = line (codes "valid" ∷ decimal count ∷ [])

-- why a certificate is refused
pub data Refusal : Type 0 where
  missing : Refusal
  too_large : Refusal
  -- the first bad line
  syntax : ℕ → Refusal
  -- how many parts it has, and how many it has to have
  part_count : ℕ → ℕ → Refusal
  -- which part, counted from 1, of which query, and why
  bad_part : ℕ → Query → CertPart → Reason → Refusal

-- refused PART REASON, where PART is 0 for the certificate as a whole
abbrev pub refusal_text : Feed → Times → Refusal → List ℕ
refusal_text feed times missing = line (codes "refused" ∷ decimal 0 ∷ codes "MISSING" ∷ [])
refusal_text feed times too_large = line (codes "refused" ∷ decimal 0 ∷ codes "TOO_LARGE" ∷ [])
refusal_text feed times (syntax number) =
    line (codes "refused" ∷ decimal 0 ∷ codes "SYNTAX" ∷ decimal number ∷ [])
refusal_text feed times (part_count told wanted) =
    line (codes "refused" ∷ decimal 0 ∷ codes "PARTS" ∷ decimal told ∷ decimal wanted ∷ [])
refusal_text feed times (bad_part number query part reason) =
    refusal_line feed times query part number reason

-- the bytes of the file are the text of the certificate
abbrev pub IsRawOf : Feed → Times → RawFile → Cert → Type 0
IsRawOf feed times raw cert = IsWritten feed times cert × (raw ≡ Bytes (cert_text feed times cert))

-- the part is valid for the query, in the zone whose days begin at these bases
abbrev pub IsValidFor : Feed → Times → List ℤ → Query → CertPart → Type 0
IsValidFor feed times bases query part = IsValidPart feed times (table_of bases query.depart) query part

-- the part's answers are exact for the query: its Pareto-best triples, each with a journey that attains it
abbrev pub IsExactFor : Feed → Times → List ℤ → Query → CertPart → Type 0
IsExactFor feed times bases query part =
    IsExactAnswer feed times (table_of bases query.depart) query part.answers

-- over this feed and these times, in this zone, with these queries
module _ (feed : Feed) (times : Times) (bases : List ℤ) (queries : List Query) where
  -- the certificate is valid for the queries
  abbrev pub IsValidCert : Cert → Type 0
  IsValidCert cert = AreForQueries (IsValidFor feed times bases) queries cert.parts

  -- Of these parts the one with this number, counted from 0, is the first one that isn't valid for its query, and this is the
  -- first reason.
  pub record IsFirstBad (parts : List CertPart) (k : ℕ) (query : Query) (part : CertPart) (reason : Reason) : Type 0 where
    pub of_query : slice_get queries k ≡ Some query
    pub of_part : slice_get parts k ≡ Some part
    pub applies : IsFirstReason feed times (table_of bases query.depart) query part reason
    pub invalid : IsValidFor feed times bases query part → ⊥
    pub earlier : (i : ℕ) (other : Query) (its : CertPart) → i < k → slice_get queries i ≡ Some other
        → slice_get parts i ≡ Some its → IsValidFor feed times bases other its

  -- this refusal applies, and none that is tried before it
  abbrev pub IsFirstRefusal : RawFile → Refusal → Type 0
  IsFirstRefusal raw missing = raw ≡ Absent
  IsFirstRefusal raw too_large = raw ≡ TooLarge
  IsFirstRefusal raw (syntax number) =
      (bytes : List ℕ) × (raw ≡ Bytes bytes) × IsSyntaxFault feed times bytes number
  IsFirstRefusal raw (part_count told wanted) =
      (cert : Cert) × IsRawOf feed times raw cert × (told ≡ length cert.parts)
      × (wanted ≡ length queries) × (told ≢ wanted)
  IsFirstRefusal raw (bad_part number query part reason) =
      (cert : Cert) × (k : ℕ) × IsRawOf feed times raw cert × (length cert.parts ≡ length queries)
      × IsFirstBad cert.parts k query part reason × (number ≡ k + 1)

  -- The status and the line that are right for the certificate. A yes says that the answers of its parts are exact.
  abbrev pub IsJudged : RawFile → Status → List ℕ → Type 0
  IsJudged raw Done text =
      (cert : Cert) × IsRawOf feed times raw cert × IsValidCert cert
      × AreForQueries (IsExactFor feed times bases) queries cert.parts
      × (text ≡ valid_line (length cert.parts))
  IsJudged raw CertRefused text =
      ((cert : Cert) → IsRawOf feed times raw cert → IsValidCert cert → ⊥)
      × ((refusal : Refusal) × IsFirstRefusal raw refusal × (text ≡ refusal_text feed times refusal))
  IsJudged raw _ text = ⊥

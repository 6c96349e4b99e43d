-- Steps on the way to the verdict on a certificate.
use Rattle.std.proofs.Common.{◌≡◌, ◌≢◌, inl, inr, ℕ, ◌+◌, ◌<◌, ℤ, List, Some, Result, Ok, Err, IfOk, length, slice_get, refl, sym, subst, arith}
use Rattle.std.proofs.lemmas.Bool.{cases_order}
use Rattle.bound_cert.specs.CertText.{cert_text}
use Rattle.bound_cert.specs.Parts.{told_rounds}
use Rattle.bound_cert.specs.Syntax.{IsSyntaxFault}
use Rattle.bound_cert.specs.declared.cert.Cert.{Cert}
use Rattle.bound_cert.specs.declared.cert.CertPart.{CertPart}
use Rattle.flex_model.specs.SoundFeed.{IsSoundFeed}
use Rattle.flex_model.specs.declared.fault.RawFile.{RawFile}
use Rattle.flex_model.specs.declared.fault.RawFile.TheVariants.{Bytes}
use Rattle.flex_model.specs.declared.feed.Feed.{Feed}
use Rattle.flex_model.specs.declared.query.Query.{Query}
use Rattle.flex_model.specs.declared.times.Times.{Times}
use Rattle.flex_model.proofs.Certificates.{certified_exact}
use Rattle.flex_model.proofs.Found.{slice_get_unique}
use Rattle.service_days.specs.Bases.{table_of}
use Rattle.flexplan.specs.Certified.{AreForQueries}
use Rattle.flexplan.specs.Checked.{IsExactFor, IsJudged, IsRawOf, IsValidCert, IsValidFor, bad_part, part_count, refusal_text, syntax, valid_line}
use Rattle.flexplan.specs.Judging.{ArePartsJudged, IsOnlyCert, IsPartJudged}
use Rattle.flexplan.specs.declared.status.Status.{Status}
use Rattle.flexplan.specs.declared.status.Status.TheVariants.{CertRefused, Done}
use Rattle.flexplan.specs.declared.verdict.Judged.{Judged}

-- what is said with this status and this line
pub said_as : {E : Type 0} (P : Status → List ℕ → Type 0) (s : Status) (r : Result Judged E) (text : List ℕ) → IfOk r (λ judged. judged.status ≡ s)
    → IfOk r (λ judged. judged.line ≡ text) → P s text → IfOk r (λ judged. P judged.status judged.line)
said_as P s (Ok judged) text status line p = subst (λ t. P t judged.line) (sym status) (subst (P s) (sym line) p)
said_as P s (Err e) text status line p = tt

pub same_bytes : (a b : List ℕ) → Bytes a ≡ Bytes b → a ≡ b
same_bytes a b e = cc

module _ (feed : Feed) (times : Times) (bases : List ℤ) (queries : List Query) where
  -- the first parts are valid, so many of them
  abbrev pub AreValidTo : List CertPart → ℕ → Type 0
  AreValidTo parts n = (i : ℕ) (query : Query) (part : CertPart) → i < n → slice_get queries i ≡ Some query → slice_get parts i ≡ Some part → IsValidFor feed times bases query part

  pub valid_more : (parts : List CertPart) (n : ℕ) (query : Query) (part : CertPart) → AreValidTo parts n → slice_get queries n ≡ Some query → slice_get parts n ≡ Some part
      → IsValidFor feed times bases query part → AreValidTo parts (n + 1)
  valid_more parts n query part before at of valid i other its lt e f = elim (cases_order i n) [
    | inl same ↦ (
        let query_is : query ≡ other = slice_get_unique queries n query other at (subst (λ k. slice_get queries k ≡ Some other) same e) in
        let part_is : part ≡ its = slice_get_unique parts n part its of (subst (λ k. slice_get parts k ≡ Some its) same f) in
        subst (IsValidFor feed times bases other) part_is (subst (λ q. IsValidFor feed times bases q part) query_is valid))
    | inr (inl less) ↦ before i other its less e f
    | inr (inr more) ↦ absurd (omega (arith, lt, more))
  ]

  pub first_bad : (parts : List CertPart) (n : ℕ) (query : Query) (part : CertPart) (text : List ℕ) → AreValidTo parts n → slice_get queries n ≡ Some query → slice_get parts n ≡ Some part
      → IsPartJudged feed times bases query part (n + 1) (Some text) → ArePartsJudged feed times bases queries parts (Some text)
  first_bad parts n query part text before at of judged = (
    n,
    query,
    part,
    judged.0,
    record {
      of_query = at;
      of_part = of;
      applies = judged.1;
      invalid = judged.2;
      earlier = before;
    },
    judged.3,
  )

  -- no certificate with these bytes is valid, since the one that was read isn't
  none_valid : (raw : RawFile) (cert : Cert) → IsOnlyCert feed times raw cert → (IsValidCert feed times bases queries cert → ⊥)
      → (other : Cert) → IsRawOf feed times raw other → IsValidCert feed times bases queries other → ⊥
  none_valid raw cert only invalid other is valid = invalid (subst (IsValidCert feed times bases queries) (only.1 other is) valid)

  -- the answers of parts that are valid are exact
  exact_parts : IsSoundFeed feed → (parts : List CertPart) → AreForQueries (IsValidFor feed times bases) queries parts → AreForQueries (IsExactFor feed times bases) queries parts
  exact_parts sound parts valid = record {
    count = valid.count;
    each = λ k query part e f. certified_exact feed times (table_of bases query.depart) query part.answers (told_rounds part) sound (valid.each k query part e f).certificate;
  }

  pub judged_valid : (raw : RawFile) (cert : Cert) (text : List ℕ) → IsSoundFeed feed → IsOnlyCert feed times raw cert → IsValidCert feed times bases queries cert
      → text ≡ valid_line (length cert.parts) → IsJudged feed times bases queries raw Done text
  judged_valid raw cert text sound only valid text_is = (cert, only.0, valid, exact_parts sound cert.parts valid, text_is)

  pub judged_bad : (raw : RawFile) (cert : Cert) (text : List ℕ) → IsOnlyCert feed times raw cert → length cert.parts ≡ length queries
      → ArePartsJudged feed times bases queries cert.parts (Some text) → IsJudged feed times bases queries raw CertRefused text
  judged_bad raw cert text only count judged =
      let k = judged.0 in
      let query = judged.1 in
      let part = judged.2 in
      let bad = judged.4 in (
        none_valid raw cert only (λ valid. bad.invalid (valid.each k query part bad.of_query bad.of_part)),
        (bad_part (k + 1) query part judged.3, (cert, k, only.0, count, bad, refl), judged.5),
      )

  pub judged_count : (raw : RawFile) (cert : Cert) (text : List ℕ) → IsOnlyCert feed times raw cert → length cert.parts ≢ length queries
      → text ≡ refusal_text feed times (part_count (length cert.parts) (length queries)) → IsJudged feed times bases queries raw CertRefused text
  judged_count raw cert text only differ text_is = (
    none_valid raw cert only (λ valid. differ valid.count),
    (part_count (length cert.parts) (length queries), (cert, only.0, refl, refl, differ), text_is),
  )

  -- bytes that are the text of no certificate
  pub judged_syntax : (bytes : List ℕ) (number : ℕ) → IsSyntaxFault feed times bytes number
      → IsJudged feed times bases queries (Bytes bytes) CertRefused (refusal_text feed times (syntax number))
  judged_syntax bytes number fault = (
    (λ cert is valid. fault.no_text cert is.0 (same_bytes bytes (cert_text feed times cert) is.1)),
    (syntax number, (bytes, refl, fault), refl),
  )

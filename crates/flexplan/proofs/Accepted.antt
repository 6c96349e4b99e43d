-- What `certify` prints is accepted by `check` over the same files.
use Rattle.std.proofs.Common.{◌≡◌, ℤ, List, [], Some, refl, ap, subst, ◌∙◌}
use Rattle.bound_cert.specs.declared.cert.Cert.{Cert}
use Rattle.flex_model.specs.declared.feed.Feed.{Feed}
use Rattle.flex_model.specs.declared.query.Query.{Query}
use Rattle.flex_model.specs.declared.times.Times.{Times}
use Rattle.flex_model.specs.declared.fault.RawFile.TheVariants.{Bytes}
use Rattle.feed_meaning.specs.FeedFaults.{Geo}
use Rattle.feed_meaning.specs.Locations.{zones_of}
use Rattle.flexplan.specs.Accepted.{CertificatesAreAccepted}
use Rattle.flexplan.specs.Certified.{AreForQueries, IsFoundFor}
use Rattle.flexplan.specs.Checked.{IsValidCert}
use Rattle.flexplan.specs.Input.{faults_of_times, feed, queries, times}
use Rattle.flexplan.specs.declared.status.Status.TheVariants as status

valid_of : (its : Feed) (own : Times) (bases : List ℤ) (asked : List Query) (cert : Cert) → AreForQueries (IsFoundFor its own bases) asked cert.parts → IsValidCert its own bases asked cert
valid_of its own bases asked cert are = record { count = are.count; each = λ k query part e f. (are.each k query part e f).valid }

same_bases : (a b : List ℤ) → Some a ≡ Some b → a ≡ b
same_bases a b e = cc

pub accepted_certificates : CertificatesAreAccepted
accepted_certificates files paths cert bytes scan status.Done pieces scans one certified file reply = refl
accepted_certificates files paths cert bytes scan status.FeedFaulty pieces scans one certified file reply =
    absurd ((reply scan scans).0 (certified scan scans).1.accepted.accepted.none)
accepted_certificates files paths cert bytes scan status.TimesFaulty pieces scans one certified file reply =
    let geo : Geo = zones_of scan in
    let is = (certified scan scans).1 in
    let faulty = reply scan scans in
    let zone = one (Some (certified scan scans).0) faulty.1.0 is.accepted.zone faulty.1.1 in
    absurd (faulty.1.2.0 (subst (λ found. faults_of_times geo files paths found ≡ []) zone is.accepted.none))
accepted_certificates files paths cert bytes scan status.QueriesFaulty pieces scans one certified file reply =
    absurd ((reply scan scans).1.0 (certified scan scans).1.none)
accepted_certificates files paths cert bytes scan status.CertRefused pieces scans one certified file reply =
    let geo : Geo = zones_of scan in
    let printed = certified scan scans in
    let judged = reply scan scans in
    let bases = same_bases printed.0 judged.0 (one (Some printed.0) (Some judged.0) printed.1.accepted.zone judged.1.accepted.zone) in
    let its = printed.2 in
    let valid = subst (λ these. IsValidCert (feed geo files paths) (times geo files paths) these (queries geo files paths) its.0) bases
    (valid_of (feed geo files paths) (times geo files paths) printed.0 (queries geo files paths) its.0 its.2) in
    absurd (judged.2.1.0 its.0 (its.1, file ∙ ap Bytes its.3) valid)
accepted_certificates files paths cert bytes scan status.Usage pieces scans one certified file reply = absurd (reply scan scans)
accepted_certificates files paths cert bytes scan status.ReadFault pieces scans one certified file reply = absurd (reply scan scans)
accepted_certificates files paths cert bytes scan status.WriteFault pieces scans one certified file reply = absurd (reply scan scans)
accepted_certificates files paths cert bytes scan status.NoMemory pieces scans one certified file reply = absurd (reply scan scans)

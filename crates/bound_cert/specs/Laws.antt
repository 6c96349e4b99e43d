-- Laws of the texts of certificates.
use Rattle.std.specs.Prelude.{◌≡◌, ◌+◌, ◌-◌, ◌^◌, ◌<◌, ℕ, List, All, IsUtf8, Ok, Err, length, take}
use Rattle.std.specs.List.{count_by}
use Rattle.bound_cert.specs.declared.cert.Cert.{Cert}
use Rattle.bound_cert.specs.CertText.{cert_text}
use Rattle.bound_cert.specs.HeldCert.{IsWritten}
use Rattle.bound_cert.specs.Reading.{cert_at}
use Rattle.bound_cert.specs.Syntax.{IsSyntaxFault, is_line_feed}
use Rattle.flex_model.specs.declared.feed.Feed.{Feed}
use Rattle.flex_model.specs.declared.times.Times.{Times}
use Rattle.flex_model.specs.SoundFeed.{IsSoundFeed}
use Rattle.flex_model.specs.SoundTimes.{AreSoundTimes}

-- what the types of a feed and its times keep: ids are UTF-8, and values of stop_sequence have 32
-- bits
pub record AreHeld (feed : Feed) (times : Times) : Type 0 where
  pub stops : All (λ stop. IsUtf8 stop.id) feed.stops
  pub points : All (λ point. IsUtf8 point.id) times.points
  pub trips : All (λ trip. IsUtf8 trip.id) feed.trips
  pub sequences : All (λ trip. All (λ row. row.sequence < 2 ^ 32) trip.rows) feed.trips

-- Reading line by line gives a certificate just where the bytes are its text, and stops at the
-- first bad line elsewhere.
pub record IsReadByLines (feed : Feed) (times : Times) : Type 0 where
  pub sound : (bytes : List ℕ) (cert : Cert) → cert_at feed times bytes ≡ Ok cert
      → IsWritten feed times cert × (bytes ≡ cert_text feed times cert)
  pub complete : (cert : Cert) → IsWritten feed times cert
      → cert_at feed times (cert_text feed times cert) ≡ Ok cert
  pub stops : (bytes : List ℕ) (left : ℕ) → cert_at feed times bytes ≡ Err left
      → IsSyntaxFault feed times bytes
      (count_by is_line_feed (take (length bytes - left) bytes) + 1)

abbrev pub CertificatesAreReadByLines : Type 0
CertificatesAreReadByLines = (feed : Feed) (times : Times)
    → IsSoundFeed feed → AreSoundTimes feed times → AreHeld feed times → IsReadByLines feed times

-- Bytes have no two first bad lines.
abbrev pub SyntaxFaultsHaveOneLine : Type 0
SyntaxFaultsHaveOneLine = (feed : Feed) (times : Times) (bytes : List ℕ) (a b : ℕ)
    → IsSyntaxFault feed times bytes a → IsSyntaxFault feed times bytes b → a ≡ b

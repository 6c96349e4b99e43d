-- What the types of a certificate's values keep, and what a text has no other values for: ids are
-- UTF-8, walks and starts have 32 bits. This project's own.
use Rattle.std.specs.Prelude.{◌^◌, ◌<◌, All, IfSome, IsUtf8}
use Rattle.bound_cert.specs.declared.cert.Cert.{Cert}
use Rattle.bound_cert.specs.declared.cert.CertLabel.{CertLabel}
use Rattle.bound_cert.specs.declared.cert.CertPart.{CertPart}
use Rattle.bound_cert.specs.declared.cert.CertRound.{CertRound}
use Rattle.bound_cert.specs.PrintableCert.{IsPrintableCert}
use Rattle.flex_model.specs.declared.answer.Answer.{Answer}
use Rattle.flex_model.specs.declared.feed.Feed.{Feed}
use Rattle.flex_model.specs.declared.ride.Ride.{Ride}
use Rattle.flex_model.specs.declared.times.Times.{Times}

abbrev pub IsHeldLabel : CertLabel → Type 0
IsHeldLabel label = label.walk < 2 ^ 32

abbrev pub IsHeldRound : CertRound → Type 0
IsHeldRound round = All IsHeldLabel round.labels

abbrev pub IsHeldRide : Ride → Type 0
IsHeldRide ride = IfSome ride.start (λ start. start < 2 ^ 32)

pub record IsHeldAnswer (answer : Answer) : Type 0 where
  pub walk : answer.triple.walk < 2 ^ 32
  pub rides : All IsHeldRide answer.rides

pub record IsHeldPart (part : CertPart) : Type 0 where
  pub id : IsUtf8 part.query
  pub answers : All IsHeldAnswer part.answers
  pub rounds : All IsHeldRound part.rounds

abbrev pub IsHeldCert : Cert → Type 0
IsHeldCert cert = All IsHeldPart cert.parts

-- a certificate over this feed and these times that has a text
pub record IsWritten (feed : Feed) (times : Times) (cert : Cert) : Type 0 where
  pub printable : IsPrintableCert feed times cert
  pub held : IsHeldCert cert

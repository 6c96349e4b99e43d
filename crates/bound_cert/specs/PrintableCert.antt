-- Which certificates have a text: this project's own bounds.
use Rattle.std.specs.Prelude.{◌≡◌, ◌≢◌, ◌^◌, ◌<◌, Bool, false, [], All, length}
use Rattle.bound_cert.specs.declared.cert.Cert.{Cert}
use Rattle.bound_cert.specs.declared.cert.CertLabel.{CertLabel}
use Rattle.bound_cert.specs.declared.cert.CertPart.{CertPart}
use Rattle.bound_cert.specs.declared.cert.CertRound.{CertRound}
use Rattle.field_text.specs.Texts.{IsPrintableMoment}
use Rattle.flex_model.specs.declared.feed.Feed.{Feed}
use Rattle.flex_model.specs.declared.times.Times.{Times}
use Rattle.query_io.specs.Printable.{IsPrintableAnswer, IsPrintableDeadline, IsPrintablePlace}

-- the place exists, and there is no walk in a part that doesn't ask for walking
pub record IsPrintableLabel (feed : Feed) (times : Times) (walking : Bool) (label : CertLabel)
    : Type 0 where
  pub place : IsPrintablePlace feed times label.place
  pub deadline : IsPrintableDeadline label.deadline
  pub arrival : IsPrintableMoment label.arrival
  pub walk : walking ≡ false → label.walk ≡ 0

pub record IsPrintableRound (feed : Feed) (times : Times) (walking : Bool) (round : CertRound)
    : Type 0 where
  pub count : length round.labels < 2 ^ 64
  pub labels : All (IsPrintableLabel feed times walking) round.labels

-- the id is any one
pub record IsPrintablePart (feed : Feed) (times : Times) (part : CertPart) : Type 0 where
  pub id : part.query ≢ []
  pub answer_count : length part.answers < 2 ^ 64
  pub answers : All (IsPrintableAnswer feed times part.walking) part.answers
  pub round_count : length part.rounds < 2 ^ 64
  pub rounds : All (IsPrintableRound feed times part.walking) part.rounds

pub record IsPrintableCert (feed : Feed) (times : Times) (cert : Cert) : Type 0 where
  pub count : length cert.parts < 2 ^ 64
  pub parts : All (IsPrintablePart feed times) cert.parts

-- What a search finds has printed texts. This project's own.
use Rattle.std.specs.Prelude.{◌<◌, ◌^◌, All, length}
use Rattle.bound_cert.specs.declared.cert.CertPart.{CertPart}
use Rattle.bound_cert.specs.Parts.{IsFoundPart}
use Rattle.bound_cert.specs.PrintableCert.{IsPrintablePart}
use Rattle.flex_model.specs.declared.feed.Feed.{Feed}
use Rattle.flex_model.specs.declared.moment.DayTable.{DayTable}
use Rattle.flex_model.specs.declared.query.Query.{Query}
use Rattle.flex_model.specs.declared.times.Times.{Times}
use Rattle.flex_model.specs.SoundFeed.{IsSoundFeed}
use Rattle.flex_model.specs.SoundQuery.{IsSoundDayTable, IsSoundQuery}
use Rattle.flex_model.specs.SoundTimes.{AreSoundTimes}

-- each round has no more labels than a printed count can tell
abbrev pub AreCountable : CertPart → Type 0
AreCountable part = All (λ round. length round.labels < 2 ^ 64) part.rounds

-- Over sound values, every part that a search finds has a printed text, where its labels can be counted.
abbrev pub FoundPartsArePrintable : Type 0
FoundPartsArePrintable =
    (feed : Feed) (times : Times) (days : DayTable) (query : Query) (part : CertPart)
    → IsSoundFeed feed → AreSoundTimes feed times → IsSoundDayTable days
    → IsSoundQuery feed times query → AreCountable part
    → IsFoundPart feed times days query part → IsPrintablePart feed times part

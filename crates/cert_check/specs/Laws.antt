-- What reasons and tests say of a part. This project's own.
use Rattle.std.specs.Prelude.{◌↔◌}
use Rattle.bound_cert.specs.declared.cert.CertPart.{CertPart}
use Rattle.cert_check.specs.declared.reason.Reason.{Reason}
use Rattle.flex_model.specs.declared.feed.Feed.{Feed}
use Rattle.flex_model.specs.declared.moment.DayTable.{DayTable}
use Rattle.flex_model.specs.declared.query.Query.{Query}
use Rattle.flex_model.specs.declared.times.Times.{Times}
use Rattle.flex_model.specs.SoundFeed.{IsSoundFeed}
use Rattle.flex_model.specs.SoundQuery.{IsDayTableOf, IsSoundDayTable, IsSoundQuery}
use Rattle.flex_model.specs.SoundTimes.{AreSoundTimes}
use Rattle.bound_cert.specs.Parts.{IsValidPart}
use Rattle.cert_check.specs.Reasons.{Applies, Passes}
use Rattle.cert_check.specs.RefusalText.{IsPrintableReason}

-- A part is valid just where it passes each test.
abbrev pub ValidPartsPass : Type 0
ValidPartsPass = (feed : Feed) (times : Times) (days : DayTable) (query : Query) (part : CertPart)
    → IsValidPart feed times days query part
    ↔ ((reason : Reason) → Passes feed times days query part reason)

-- A part of which a reason is true does not pass its test.
abbrev pub ReasonsAreFailedTests : Type 0
ReasonsAreFailedTests =
    (feed : Feed) (times : Times) (days : DayTable) (query : Query) (part : CertPart)
    (reason : Reason)
    → Applies feed times days query part reason → Passes feed times days query part reason → ⊥

-- Over sound values, with a day table that is the query's, each reason that is true of a part has a
-- printed text.
abbrev pub ReasonsArePrintable : Type 0
ReasonsArePrintable =
    (feed : Feed) (times : Times) (days : DayTable) (query : Query) (part : CertPart)
    (reason : Reason)
    → IsSoundFeed feed → AreSoundTimes feed times → IsSoundDayTable days → IsDayTableOf query days
    → IsSoundQuery feed times query
    → Applies feed times days query part reason → IsPrintableReason feed times reason

-- Exact answers have printed texts. This project's own.
use Rattle.std.specs.Prelude.{List}
use Rattle.flex_model.specs.declared.answer.Answer.{Answer}
use Rattle.flex_model.specs.declared.feed.Feed.{Feed}
use Rattle.flex_model.specs.declared.moment.DayTable.{DayTable}
use Rattle.flex_model.specs.declared.query.Query.{Query}
use Rattle.flex_model.specs.declared.times.Times.{Times}
use Rattle.flex_model.specs.Answer.{IsExactAnswer}
use Rattle.flex_model.specs.SoundFeed.{IsSoundFeed}
use Rattle.flex_model.specs.SoundQuery.{IsSoundDayTable, IsSoundQuery}
use Rattle.flex_model.specs.SoundTimes.{AreSoundTimes}
use Rattle.query_io.specs.Printable.{IsPrintable}

-- Over sound values, every exact answer to a query has a printed text.
abbrev pub ExactAnswersArePrintable : Type 0
ExactAnswersArePrintable =
    (feed : Feed) (times : Times) (days : DayTable) (query : Query) (answers : List Answer)
    → IsSoundFeed feed → AreSoundTimes feed times → IsSoundDayTable days
    → IsSoundQuery feed times query
    → IsExactAnswer feed times days query answers → IsPrintable feed times query answers

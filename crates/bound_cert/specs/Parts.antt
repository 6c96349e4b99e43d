-- What a part of a certificate tells of its query, and when it is valid.
--
-- A part is valid for a query where its id and whether it asks for walking are the query's, and its answers and labels are
-- a valid certificate. What a search makes has further labels alone that are found: attained, none covering another one
-- of its place, in order. This project's own.
use Rattle.std.specs.Prelude.{◌≡◌, ℕ, ◌+◌, List, Some, map, slice_get}
use Rattle.bound_cert.specs.declared.cert.CertLabel.{CertLabel}
use Rattle.bound_cert.specs.declared.cert.CertPart.{CertPart}
use Rattle.flex_model.specs.declared.feed.Feed.{Feed}
use Rattle.flex_model.specs.declared.moment.DayTable.{DayTable}
use Rattle.flex_model.specs.declared.query.Query.{Query}
use Rattle.flex_model.specs.declared.times.Times.{Times}
use Rattle.flex_model.specs.Certificate.{IsValidCertificate}
use Rattle.flex_model.specs.LabelTable.{AreFound, Label}

-- what a label tells
abbrev pub told_label : CertLabel → Label
told_label label = record {
  place = label.place;
  deadline = label.deadline;
  arrival = label.arrival;
  walk = label.walk;
}

-- the labels of a part, round by round
abbrev pub told_rounds : CertPart → List (List Label)
told_rounds part = map (λ round. map told_label round.labels) part.rounds

module _ (feed : Feed) (times : Times) (days : DayTable) (query : Query) where
  -- the part is valid for the query
  pub record IsValidPart (part : CertPart) : Type 0 where
    pub id : part.query ≡ query.id
    pub walking : part.walking ≡ query.walking
    pub certificate : IsValidCertificate feed times days query part.answers (told_rounds part)

  -- and its labels are such as a search finds
  pub record IsFoundPart (part : CertPart) : Type 0 where
    pub valid : IsValidPart part
    pub found : (k : ℕ) (labels : List Label) → slice_get (told_rounds part) k ≡ Some labels
        → AreFound feed times days query (k + 1) labels

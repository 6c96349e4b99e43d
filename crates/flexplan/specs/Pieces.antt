-- Query files in pieces: the answers to the pieces, one after the other, are answers to the whole file. This project's own.
use Rattle.std.specs.Prelude.{◌≡◌, ℕ, ℤ, List, ◌∷◌, ◌++◌}
use Rattle.flex_io.specs.Outside.{FileMap}
use Rattle.feed_meaning.specs.FeedFaults.{Geo}
use Rattle.feed_meaning.specs.Folder.{bytes_of}
use Rattle.feed_tables.specs.Records.{table_records}
use Rattle.flexplan.specs.Answers.{RightText}
use Rattle.flexplan.specs.Input.{query_file}
use Rattle.flexplan.specs.Reply.{answers_of}
use Rattle.flexplan.specs.Texts.{Texts}
use Rattle.flexplan.specs.Words.{InputPaths}

-- The records of the whole query file are those of the first one and then those of the second one, and each file begins with
-- the same header. The feed and the times are the same.
pub record ArePieces (files : FileMap) (whole first second : InputPaths) : Type 0 where
  pub feeds : (first.feed ≡ whole.feed) × (second.feed ≡ whole.feed)
  pub times : (first.times ≡ whole.times) × (second.times ≡ whole.times)
  pub header : List (List ℕ)
  pub early : List (List (List ℕ))
  pub later : List (List (List ℕ))
  pub all : table_records (bytes_of (query_file files whole)) ≡ header ∷ (early ++ later)
  pub beginning : table_records (bytes_of (query_file files first)) ≡ header ∷ early
  pub ending : table_records (bytes_of (query_file files second)) ≡ header ∷ later

-- Right texts for the answers to two pieces, one after the other, are a right text for those to the whole file.
abbrev pub AnswersComeInPieces : Type 0
AnswersComeInPieces = (geo : Geo) (files : FileMap) (whole first second : InputPaths)
    (bases : List ℤ) (a b : List ℕ) → ArePieces files whole first second
    → Texts RightText (answers_of geo files first bases) a
    → Texts RightText (answers_of geo files second bases) b
    → Texts RightText (answers_of geo files whole bases) (a ++ b)

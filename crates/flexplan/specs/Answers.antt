-- What right texts are. Which of several is given is free.
use Rattle.std.specs.Prelude.{◌≡◌, ℕ, ℤ, List, [], ◌∷◌, ◌++◌, Ok, Result, length, map}
use Rattle.flex_model.specs.Answer.{IsExactAnswer}
use Rattle.flex_model.specs.declared.answer.Answer.{Answer}
use Rattle.flex_model.specs.declared.fault.Fault.{Fault}
use Rattle.flex_model.specs.declared.feed.Feed.{Feed}
use Rattle.flex_model.specs.declared.query.Query.{Query}
use Rattle.flex_model.specs.declared.times.Times.{Times}
use Rattle.bound_cert.specs.CertText.{heading_line}
use Rattle.query_io.specs.AnswerText.{answer_text}
use Rattle.service_days.specs.Bases.{table_of}
use Rattle.flex_io.specs.declared.error.PutError.{PutError}
use Rattle.flexplan.specs.Certified.{IsCertificateText, IsPartText, IsWrittenPartText, some_asks}
use Rattle.flexplan.specs.Faults.{text_of}
use Rattle.flexplan.specs.Texts.{PrintsAll}
use Rattle.flexplan.specs.declared.printout.Printout.{Printout}
use Rattle.flexplan.specs.declared.printout.Printout.TheVariants.{Answers, Parts}

-- what one put prints
pub data Piece : Type 0 where
  fault_lines : List Fault → Piece
  answer : Feed → Times → List ℤ → Query → Piece
  -- the first line of a certificate for these queries
  heading : List Query → Piece
  -- a part of it
  part : Feed → Times → List ℤ → Query → Piece
  one_line : List ℕ → Piece

-- the text of an exact answer to the query, in the zone whose days begin at these bases
abbrev pub IsAnswerText : Feed → Times → List ℤ → Query → List ℕ → Type 0
IsAnswerText feed times bases query text =
    (answers : List Answer) × IsExactAnswer feed times (table_of bases query.depart) query answers
    × (text ≡ answer_text feed times query answers)

abbrev pub RightText : Piece → List ℕ → Type 0
RightText (fault_lines faults) text = text ≡ text_of faults
RightText (answer feed times bases query) text = IsAnswerText feed times bases query text
RightText (heading queries) text = text ≡ heading_line (some_asks queries) (length queries)
RightText (part feed times bases query) text = IsPartText feed times bases query text
RightText (one_line told) text = text ≡ told

-- the piece of a query in such a printout
abbrev pub piece_of : Printout → Feed → Times → List ℤ → Query → Piece
piece_of Answers = answer
piece_of Parts = part

-- the pieces of a printout before those of its queries
abbrev pub front_of : Printout → List Query → List Piece
front_of Answers queries = []
front_of Parts queries = heading queries ∷ []

-- all pieces of a printout
abbrev pub pieces_of : Printout → Feed → Times → List ℤ → List Query → List Piece
pieces_of printout feed times bases queries =
    front_of printout queries ++ map (piece_of printout feed times bases) queries

-- what is printed of a query: a part is one that is read back from its text
abbrev pub IsQueryText : Printout → Feed → Times → List ℤ → Query → List ℕ → Type 0
IsQueryText Answers = IsAnswerText
IsQueryText Parts = IsWrittenPartText

-- What is printed of accepted input. A whole certificate is read back from its text.
pub record IsPrinted (printout : Printout) (feed : Feed) (times : Times) (bases : List ℤ) (queries : List Query)
    (result : Result (Unit {0}) PutError) (bytes : List ℕ) : Type 0 where
  pub pieces : PrintsAll RightText (pieces_of printout feed times bases queries) result bytes
  pub certificate : printout ≡ Parts → result ≡ Ok tt → IsCertificateText feed times bases queries bytes

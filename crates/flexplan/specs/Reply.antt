-- What a run may answer and print.
use Rattle.std.specs.Prelude.{◌≡◌, ◌≢◌, ◌⊎◌, ℕ, ℤ, List, [], ◌∷◌, map, take, Option, IfSome, Result, Ok, Err}
use Rattle.flex_io.specs.Outside.{FileMap, Gains, IsBeginning}
use Rattle.flex_io.specs.declared.error.PutError.{PutError}
use Rattle.flex_model.specs.declared.fault.Fault.{Fault}
use Rattle.feed_meaning.specs.FeedFaults.{Geo}
use Rattle.feed_meaning.specs.Folder.{Folder}
use Rattle.feed_meaning.specs.Locations.{Scan, zones_of}
use Rattle.feed_meaning.specs.Told.{told_folder}
use Rattle.feed_rules.specs.Zones.{ScansFolder}
use Rattle.flexplan.specs.Words.{InputPaths, Request, certify, check, lint, plan}
use Rattle.flexplan.specs.Input.{AreTimesAccepted, FindsZone, IsAccepted, IsFeedAccepted, faults_of_feed, faults_of_queries, faults_of_times, feed, feed_folder, queries, times}
use Rattle.flexplan.specs.Answers.{Piece, RightText, answer, fault_lines, heading, one_line, part}
use Rattle.flexplan.specs.Checked.{IsJudged, cert_file}
use Rattle.flexplan.specs.declared.printout.Printout.{Printout}
use Rattle.flexplan.specs.declared.printout.Printout.TheVariants.{Answers, Parts}
use Rattle.flexplan.specs.Texts.{Texts}
use Rattle.flexplan.specs.Failures.{failure_of_put}
use Rattle.flexplan.specs.declared.status.Status.{Status}
use Rattle.flexplan.specs.declared.status.Status.TheVariants.{Done, Usage, FeedFaulty, TimesFaulty, QueriesFaulty, CertRefused, ReadFault, WriteFault, NoMemory}
use Rattle.flexplan.specs.declared.status.Failure.{Failure}
use Rattle.flexplan.specs.declared.status.Failure.TheVariants as failure

module _ (geo : Geo) (files : FileMap) (paths : InputPaths) where
  -- an exact answer to each query of the input, in the zone with these bases
  abbrev pub answers_of : List ℤ → List Piece
  answers_of bases =
      map (answer (feed geo files paths) (times geo files paths) bases) (queries geo files paths)

  -- the first line of a certificate, and a part for each query
  abbrev pub certificate_of : List ℤ → List Piece
  certificate_of bases =
      heading (queries geo files paths)
      ∷ map (part (feed geo files paths) (times geo files paths) bases) (queries geo files paths)

  -- what is right for accepted input: for `plan`
  abbrev pub IsAnswered : List ℤ → Status → List Piece → Type 0
  IsAnswered bases Done pieces = pieces ≡ answers_of bases
  IsAnswered bases _ pieces = ⊥

  -- for `certify`
  abbrev pub IsCertificate : List ℤ → Status → List Piece → Type 0
  IsCertificate bases Done pieces = pieces ≡ certificate_of bases
  IsCertificate bases _ pieces = ⊥

  -- and for `check`, with the certificate of this path
  abbrev pub IsVerdictOn : List ℕ → List ℤ → Status → List Piece → Type 0
  IsVerdictOn cert bases status pieces =
      (text : List ℕ)
      × IsJudged (feed geo files paths) (times geo files paths) bases (queries geo files paths) (cert_file files cert) status text
      × (pieces ≡ one_line text ∷ [])

-- a faulty input's one piece
abbrev pub AreFaultLines : List Fault → List Piece → Type 0
AreFaultLines faults pieces = (faults ≢ []) × (pieces ≡ fault_lines faults ∷ [])

-- the input is accepted, and the status and the pieces are right for it
abbrev pub IsAcceptedReply : Geo → FileMap → InputPaths → (List ℤ → Status → List Piece → Type 0) → Status → List Piece → Type 0
IsAcceptedReply geo files paths IsAsked status pieces =
    (bases : List ℤ) × IsAccepted geo files paths bases × IsAsked bases status pieces

-- The status and the pieces that are right for a command over feed, times and queries, by how locations.geojson is read: the
-- faults of the first part of the input that has some, or what is asked of accepted input.
abbrev pub IsInputReply : Geo → FileMap → InputPaths → (List ℤ → Status → List Piece → Type 0) → Status → List Piece → Type 0
IsInputReply geo files paths IsAsked FeedFaulty pieces =
    AreFaultLines (faults_of_feed geo (feed_folder files paths)) pieces
IsInputReply geo files paths IsAsked TimesFaulty pieces =
    IsFeedAccepted geo files paths × ((zone : Option (List ℤ)) × FindsZone files paths zone
    × AreFaultLines (faults_of_times geo files paths zone) pieces)
IsInputReply geo files paths IsAsked QueriesFaulty pieces =
    ((bases : List ℤ) × AreTimesAccepted geo files paths bases)
    × AreFaultLines (faults_of_queries geo files paths) pieces
IsInputReply geo files paths IsAsked Done pieces = IsAcceptedReply geo files paths IsAsked Done pieces
IsInputReply geo files paths IsAsked CertRefused pieces =
    IsAcceptedReply geo files paths IsAsked CertRefused pieces
IsInputReply geo files paths IsAsked _ pieces = ⊥

-- the status and the pieces that are right for `lint`, likewise
abbrev pub IsLintReply : Geo → Folder → Status → List Piece → Type 0
IsLintReply geo folder Done pieces = (faults_of_feed geo folder ≡ []) × (pieces ≡ [])
IsLintReply geo folder FeedFaulty pieces = AreFaultLines (faults_of_feed geo folder) pieces
IsLintReply geo folder _ pieces = ⊥

-- what is asked of accepted input in whichever way that agrees with the grammar of JSON the text of locations.geojson is
-- scanned
abbrev pub IsScannedReply : FileMap → InputPaths → (Geo → List ℤ → Status → List Piece → Type 0) → Status → List Piece → Type 0
IsScannedReply files paths IsAsked status pieces =
    (scan : List ℕ → Scan) → ScansFolder scan (feed_folder files paths)
    → IsInputReply (zones_of scan) files paths (IsAsked (zones_of scan)) status pieces

-- The status and the pieces that are right for a request over told files.
abbrev pub IsReply : Request → FileMap → Status → List Piece → Type 0
IsReply (plan paths) files status pieces =
    IsScannedReply files paths (λ geo. IsAnswered geo files paths) status pieces
IsReply (lint folder) files status pieces =
    (scan : List ℕ → Scan) → ScansFolder scan (told_folder files folder)
    → IsLintReply (zones_of scan) (told_folder files folder) status pieces
IsReply (certify paths) files status pieces =
    IsScannedReply files paths (λ geo. IsCertificate geo files paths) status pieces
IsReply (check paths cert) files status pieces =
    IsScannedReply files paths (λ geo. IsVerdictOn geo files paths cert) status pieces

-- a right text for each of the right pieces
abbrev pub IsRight : Request → FileMap → Status → List ℕ → Type 0
IsRight request files status text =
    (pieces : List Piece) × IsReply request files status pieces × Texts RightText pieces text

-- the beginning of a text that is right with some status
abbrev pub BeginsRight : Request → FileMap → List ℕ → Type 0
BeginsRight request files bytes = (status : Status) × (text : List ℕ)
    × IsRight request files status text × IsBeginning text bytes

-- right texts for some of the first pieces of an accepted input
abbrev pub IsRightSoFar : Request → FileMap → List ℕ → Type 0
IsRightSoFar request files bytes = (pieces : List Piece) × (count : ℕ)
    × IsReply request files Done pieces × Texts RightText (take count pieces) bytes

-- what may have been printed when a run ends with this status
abbrev pub MayHavePrinted : Request → FileMap → Status → List ℕ → Type 0
MayHavePrinted request files WriteFault bytes = BeginsRight request files bytes
MayHavePrinted request files NoMemory bytes = (bytes ≡ []) ⊎ IsRightSoFar request files bytes
MayHavePrinted request files ReadFault bytes = bytes ≡ []
MayHavePrinted request files Usage bytes = ⊥
MayHavePrinted request files Done bytes = IsRight request files Done bytes
MayHavePrinted request files FeedFaulty bytes = IsRight request files FeedFaulty bytes
MayHavePrinted request files TimesFaulty bytes = IsRight request files TimesFaulty bytes
MayHavePrinted request files QueriesFaulty bytes = IsRight request files QueriesFaulty bytes
MayHavePrinted request files CertRefused bytes = IsRight request files CertRefused bytes

-- where files are told, what a sink gained is what may have been printed for them
abbrev pub PrintsRight : Request → Option FileMap → Status → Option (List ℕ) → Option (List ℕ)
    → Type 0
PrintsRight request told status before after =
    IfSome told (λ files. Gains before after (MayHavePrinted request files status))

-- what asks for such a printout
abbrev pub asked : Printout → InputPaths → Request
asked Answers paths = plan paths
asked Parts paths = certify paths

-- an answer that nothing hindered
abbrev pub IsFinished : Status → Type 0
IsFinished Done = Unit {0}
IsFinished FeedFaulty = Unit {0}
IsFinished TimesFaulty = Unit {0}
IsFinished QueriesFaulty = Unit {0}
IsFinished CertRefused = Unit {0}
IsFinished _ = ⊥

-- the status by which a command ended
abbrev pub status_of : Result Status Failure → Status
status_of (Ok status) = status
status_of (Err failure.ReadFault) = ReadFault
status_of (Err failure.WriteFault) = WriteFault
status_of (Err failure.NoMemory) = NoMemory

-- how a command ends whose pieces were printed, or whose print failed
abbrev pub end_of : Status → Result (Unit {0}) PutError → Result Status Failure
end_of status (Ok _) = Ok status
end_of status (Err e) = Err (failure_of_put e)

-- What was printed where a reply ended.
use Rattle.std.proofs.Common.{◌≡◌, ◌≢◌, ℕ, ℤ, List, [], ◌∷◌, Option, None, Some, IfSome, Result, Ok, Err, refl, sym, ap, subst, inl, inr, ◌∙◌}
use Rattle.flex_io.specs.Outside.{FileMap, Gains}
use Rattle.flex_io.specs.declared.error.PutError.{PutError}
use Rattle.flex_io.specs.declared.error.PutError.TheVariants.{Failed, NoMemory}
use Rattle.flex_model.specs.declared.fault.Fault.{Fault}
use Rattle.flex_model.specs.declared.feed.Feed.{Feed}
use Rattle.flex_model.specs.declared.query.Query.{Query}
use Rattle.flex_model.specs.declared.times.Times.{Times}
use Rattle.feed_meaning.specs.Told.{told_folder}
use Rattle.feed_meaning.specs.FeedFaults.{Geo}
use Rattle.feed_meaning.specs.Locations.{zones_of}
use Rattle.feed_load.specs.Loads.{IsLoaded}
use Rattle.feed_load.specs.declared.folder.Loaded.TheVariants.{Clean, Faulty}
use Rattle.flex_model.specs.declared.fault.RawFile.{RawFile}
use Rattle.flexplan.specs.Answers.{Piece, RightText, fault_lines, one_line, pieces_of}
use Rattle.flexplan.specs.Certified.{IsCertificateText, IsCertified}
use Rattle.flexplan.specs.Checked.{IsJudged, cert_file}
use Rattle.flexplan.specs.Faults.{text_of}
use Rattle.flexplan.specs.Input.{IsAccepted, feed, queries, times}
use Rattle.flexplan.specs.Opened.{HoldsInput, IsOpened, IsRefused, IsSoundOpening}
use Rattle.flexplan.specs.Reply.{IsAnswered, IsCertificate, IsFinished, IsInputReply, IsReply, IsRight, IsVerdictOn, MayHavePrinted, PrintsRight, asked, end_of, status_of}
use Rattle.flexplan.specs.Texts.{Prints, PrintsAll, Texts}
use Rattle.flexplan.specs.Words.{InputPaths, Request, certify, check, lint}
use Rattle.flexplan.specs.declared.printout.Printout.{Printout}
use Rattle.flexplan.specs.declared.printout.Printout.TheVariants.{Answers, Parts}
use Rattle.flexplan.specs.declared.input.Input as declared
use Rattle.flexplan.specs.declared.input.Opened.TheVariants.{Accepted, Refused}
use Rattle.flexplan.specs.declared.status.Status.{Status}
use Rattle.flexplan.specs.declared.status.Status.TheVariants as status
use Rattle.flexplan.specs.declared.status.Failure.{Failure}
use Rattle.flexplan.proofs.Gains.{gains_as, gains_nothing}
use Rattle.flexplan.proofs.Texts.{completed, print_one}

right_printed : (request : Request) (files : FileMap) (s : Status) (bytes : List ℕ) → IsFinished s → IsRight request files s bytes → MayHavePrinted request files s bytes
right_printed request files status.Done bytes _ right = right
right_printed request files status.FeedFaulty bytes _ right = right
right_printed request files status.TimesFaulty bytes _ right = right
right_printed request files status.QueriesFaulty bytes _ right = right
right_printed request files status.CertRefused bytes _ right = right
right_printed request files status.Usage bytes none right = absurd none
right_printed request files status.ReadFault bytes none right = absurd none
right_printed request files status.WriteFault bytes none right = absurd none
right_printed request files status.NoMemory bytes none right = absurd none

pub if_told : (told : Option FileMap) (P Q : FileMap → Type 0) → IfSome told P → ((files : FileMap) → P files → Q files) → IfSome told Q
if_told None P Q p leads = tt
if_told (Some files) P Q p leads = leads files p

accepted_printed : (request : Request) (files : FileMap) (pieces : List Piece) (printed : Result (Unit {0}) PutError) (bytes : List ℕ)
    → (text : List ℕ) × Texts RightText pieces text → IsReply request files status.Done pieces
    → PrintsAll RightText pieces printed bytes → MayHavePrinted request files (status_of (end_of status.Done printed)) bytes
accepted_printed request files pieces (Ok _) bytes some reply prints = (pieces, reply, prints)
accepted_printed request files pieces (Err Failed) bytes some reply prints =
    let whole = completed RightText pieces bytes some prints in
    (status.Done, whole.0, (pieces, reply, whole.1), whole.2)
accepted_printed request files pieces (Err NoMemory) bytes some reply prints = inr (pieces, prints.0, reply, prints.1)

one_printed : (request : Request) (files : FileMap) (s : Status) (piece : Piece) (printed : Result (Unit {0}) PutError) (bytes : List ℕ) → IsFinished s
    → (text : List ℕ) × RightText piece text → IsReply request files s (piece ∷ []) → Prints RightText piece printed bytes
    → MayHavePrinted request files (status_of (end_of s printed)) bytes
one_printed request files s piece (Ok u) bytes final some reply prints =
    right_printed request files s bytes final (piece ∷ [], reply, print_one RightText piece (Ok u) bytes prints)
one_printed request files s piece (Err Failed) bytes final some reply prints =
    let whole = completed RightText (piece ∷ []) bytes (some.0, print_one RightText piece (Ok tt) some.0 some.1) (inl prints) in
    (s, whole.0, (piece ∷ [], reply, whole.1), whole.2)
one_printed request files s piece (Err NoMemory) bytes final some reply prints = inl prints

-- one piece was printed, or its print failed
pub ended_with : (request : Request) (files : FileMap) (s : Status) (piece : Piece) (before after : Option (List ℕ)) (printed : Result (Unit {0}) PutError) (end : Result Status Failure)
    → IsFinished s → (text : List ℕ) × RightText piece text → IsReply request files s (piece ∷ []) → end ≡ end_of s printed
    → Gains before after (Prints RightText piece printed) → Gains before after (MayHavePrinted request files (status_of end))
ended_with request files s piece before after printed end final some reply end_is gains =
    gains_as before after _ _ gains (λ bytes prints.
    subst (λ e. MayHavePrinted request files (status_of e) bytes) (sym end_is) (one_printed request files s piece printed bytes final some reply prints))

-- the faults of a refused input were printed, or their print failed
pub refused : (request : Request) (told : Option FileMap) (s : Status) (faults : List Fault) (before after : Option (List ℕ)) (printed : Result (Unit {0}) PutError) (end : Result Status Failure)
    → IsFinished s → IfSome told (λ files. IsReply request files s (fault_lines faults ∷ [])) → end ≡ end_of s printed
    → Gains before after (Prints RightText (fault_lines faults) printed) → PrintsRight request told (status_of end) before after
refused request told s faults before after printed end final known end_is gains =
    if_told told _ _ known (λ files reply. ended_with request files s (fault_lines faults) before after printed end final (text_of faults, refl) reply end_is gains)

-- the pieces of an accepted input were printed, or a print of one failed
pub accepted : (request : Request) (told : Option FileMap) (pieces : List Piece) (before after : Option (List ℕ)) (printed : Result (Unit {0}) PutError) (end : Result Status Failure)
    → (text : List ℕ) × Texts RightText pieces text
    → IfSome told (λ files. IsReply request files status.Done pieces) → end ≡ end_of status.Done printed
    → Gains before after (PrintsAll RightText pieces printed) → PrintsRight request told (status_of end) before after
accepted request told pieces before after printed end some known end_is gains =
    if_told told _ _ known (λ files reply. gains_as before after _ _ gains (λ bytes prints.
    subst (λ e. MayHavePrinted request files (status_of e) bytes) (sym end_is) (accepted_printed request files pieces printed bytes some reply prints)))

abbrev Asks : Type 1
Asks = List ℤ → Status → List Piece → Type 0

-- the feed, the times folder or the query file is refused
refused_as : (geo : Geo) (files : FileMap) (paths : InputPaths) (IsAsked : Asks) (s : Status) (faults : List Fault) → IsRefused geo files paths s faults
    → IsInputReply geo files paths IsAsked s (fault_lines faults ∷ [])
refused_as geo files paths IsAsked status.QueriesFaulty faults is =
    (is.0, ((λ none. is.1 (is.2 ∙ none)), ap (λ fs. fault_lines fs ∷ []) is.2))
refused_as geo files paths IsAsked status.Done faults none = absurd none
refused_as geo files paths IsAsked status.Usage faults none = absurd none
refused_as geo files paths IsAsked status.FeedFaulty faults is =
    ((λ none. is.0 (is.1 ∙ none)), ap (λ fs. fault_lines fs ∷ []) is.1)
refused_as geo files paths IsAsked status.TimesFaulty faults is =
    let its = is.2 in
    (is.0, (its.0, its.1, ((λ none. is.1 (its.2 ∙ none)), ap (λ fs. fault_lines fs ∷ []) its.2)))
refused_as geo files paths IsAsked status.CertRefused faults none = absurd none
refused_as geo files paths IsAsked status.ReadFault faults none = absurd none
refused_as geo files paths IsAsked status.WriteFault faults none = absurd none
refused_as geo files paths IsAsked status.NoMemory faults none = absurd none

pub queries_refused : (printout : Printout) (told : Option FileMap) (paths : InputPaths) (s : Status) (faults : List Fault)
    → IfSome told (λ files. IsOpened files paths (Refused s faults)) → IfSome told (λ files. IsReply (asked printout paths) files s (fault_lines faults ∷ []))
queries_refused Answers told paths s faults is =
    if_told told _ _ is (λ files opened. λ scan scans. refused_as (zones_of scan) files paths (IsAnswered (zones_of scan) files paths) s faults (opened scan scans))
queries_refused Parts told paths s faults is =
    if_told told _ _ is (λ files opened. λ scan scans. refused_as (zones_of scan) files paths (IsCertificate (zones_of scan) files paths) s faults (opened scan scans))

pub check_refused : (told : Option FileMap) (paths : InputPaths) (cert : List ℕ) (s : Status) (faults : List Fault)
    → IfSome told (λ files. IsOpened files paths (Refused s faults)) → IfSome told (λ files. IsReply (check paths cert) files s (fault_lines faults ∷ []))
check_refused told paths cert s faults is =
    if_told told _ _ is (λ files opened. λ scan scans. refused_as (zones_of scan) files paths (IsVerdictOn (zones_of scan) files paths cert) s faults (opened scan scans))

-- the pieces of accepted input are those of the bytes
held_pieces : (printout : Printout) (geo : Geo) (files : FileMap) (paths : InputPaths) (input : declared.Input) → HoldsInput geo files paths input
    → pieces_of printout input.feed input.times input.zone input.queries
    ≡ pieces_of printout (feed geo files paths) (times geo files paths) input.zone (queries geo files paths)
held_pieces printout geo files paths input held =
    ap (λ f. pieces_of printout f input.times input.zone input.queries) held.feed
    ∙ ap (λ t. pieces_of printout (feed geo files paths) t input.zone input.queries) held.times
    ∙ ap (pieces_of printout (feed geo files paths) (times geo files paths) input.zone) held.queries

pub queries_accepted : (printout : Printout) (told : Option FileMap) (paths : InputPaths) (input : declared.Input) → IfSome told (λ files. IsOpened files paths (Accepted input))
    → IfSome told (λ files. IsReply (asked printout paths) files status.Done (pieces_of printout input.feed input.times input.zone input.queries))
queries_accepted Answers told paths input is =
    if_told told _ _ is (λ files opened. λ scan scans.
    let held = opened scan scans in (input.zone, held.accepted, held_pieces Answers (zones_of scan) files paths input held))
queries_accepted Parts told paths input is =
    if_told told _ _ is (λ files opened. λ scan scans.
    let held = opened scan scans in (input.zone, held.accepted, held_pieces Parts (zones_of scan) files paths input held))

-- a certificate that was printed whole
pub certified : (told : Option FileMap) (paths : InputPaths) (input : declared.Input) (before after : Option (List ℕ))
    → IfSome told (λ files. IsOpened files paths (Accepted input)) → Gains before after (IsCertificateText input.feed input.times input.zone input.queries)
    → IfSome told (λ files. Gains before after (IsCertified files paths))
certified told paths input before after is gains =
    if_told told _ _ is (λ files opened. gains_as before after _ _ gains (λ bytes text. λ scan scans.
    let geo : Geo = zones_of scan in
    let held = opened scan scans in (
      input.zone,
      held.accepted,
      subst (λ qs. IsCertificateText (feed geo files paths) (times geo files paths) input.zone qs bytes) held.queries
          (subst (λ t. IsCertificateText (feed geo files paths) t input.zone input.queries bytes) held.times
          (subst (λ f. IsCertificateText f input.times input.zone input.queries bytes) held.feed text)),
    )))

-- a status that a certificate is judged by
pub judged_finishes : (its : Feed) (own : Times) (bases : List ℤ) (asked : List Query) (raw : RawFile) (s : Status) (text : List ℕ) → IsJudged its own bases asked raw s text → IsFinished s
judged_finishes its own bases asked raw status.Done text is = tt
judged_finishes its own bases asked raw status.CertRefused text is = tt
judged_finishes its own bases asked raw status.Usage text none = absurd none
judged_finishes its own bases asked raw status.FeedFaulty text none = absurd none
judged_finishes its own bases asked raw status.TimesFaulty text none = absurd none
judged_finishes its own bases asked raw status.QueriesFaulty text none = absurd none
judged_finishes its own bases asked raw status.ReadFault text none = absurd none
judged_finishes its own bases asked raw status.WriteFault text none = absurd none
judged_finishes its own bases asked raw status.NoMemory text none = absurd none

judged_reply : (geo : Geo) (files : FileMap) (paths : InputPaths) (cert : List ℕ) (bases : List ℤ) (s : Status) (text : List ℕ) → IsAccepted geo files paths bases
    → IsJudged (feed geo files paths) (times geo files paths) bases (queries geo files paths) (cert_file files cert) s text
    → IsInputReply geo files paths (IsVerdictOn geo files paths cert) s (one_line text ∷ [])
judged_reply geo files paths cert bases status.Done text accepted is = (bases, accepted, (text, is, refl))
judged_reply geo files paths cert bases status.CertRefused text accepted is = (bases, accepted, (text, is, refl))
judged_reply geo files paths cert bases status.Usage text accepted none = absurd none
judged_reply geo files paths cert bases status.FeedFaulty text accepted none = absurd none
judged_reply geo files paths cert bases status.TimesFaulty text accepted none = absurd none
judged_reply geo files paths cert bases status.QueriesFaulty text accepted none = absurd none
judged_reply geo files paths cert bases status.ReadFault text accepted none = absurd none
judged_reply geo files paths cert bases status.WriteFault text accepted none = absurd none
judged_reply geo files paths cert bases status.NoMemory text accepted none = absurd none

-- the verdict on a certificate that was fetched
pub check_accepted : (files : FileMap) (paths : InputPaths) (cert : List ℕ) (input : declared.Input) (raw : RawFile) (s : Status) (text : List ℕ) → IsOpened files paths (Accepted input)
    → raw ≡ cert_file files cert → IsJudged input.feed input.times input.zone input.queries raw s text → IsReply (check paths cert) files s (one_line text ∷ [])
check_accepted files paths cert input raw s text opened raw_is judged = λ scan scans.
    let geo : Geo = zones_of scan in
    let held = opened scan scans in
    judged_reply geo files paths cert input.zone s text held.accepted
    (subst (λ r. IsJudged (feed geo files paths) (times geo files paths) input.zone (queries geo files paths) r s text) raw_is
    (subst (λ qs. IsJudged (feed geo files paths) (times geo files paths) input.zone qs raw s text) held.queries
    (subst (λ t. IsJudged (feed geo files paths) t input.zone input.queries raw s text) held.times
    (subst (λ f. IsJudged f input.times input.zone input.queries raw s text) held.feed judged))))

pub refusal_finishes : (s : Status) (faults : List Fault) → IsSoundOpening (Refused s faults) → IsFinished s
refusal_finishes status.QueriesFaulty faults _ = tt
refusal_finishes status.FeedFaulty faults _ = tt
refusal_finishes status.TimesFaulty faults _ = tt
refusal_finishes status.CertRefused faults none = absurd none
refusal_finishes status.Done faults none = absurd none
refusal_finishes status.Usage faults none = absurd none
refusal_finishes status.ReadFault faults none = absurd none
refusal_finishes status.WriteFault faults none = absurd none
refusal_finishes status.NoMemory faults none = absurd none

-- refused input is no refused certificate
pub refusal_no_cert : (s : Status) (faults : List Fault) → IsSoundOpening (Refused s faults) → s ≢ status.CertRefused
refusal_no_cert s faults sound is = subst (λ t. IsSoundOpening (Refused t faults)) is sound

-- a feed without faults prints nothing
pub lint_clean : (told : Option FileMap) (folder : List ℕ) (held : Feed) (before : Option (List ℕ)) → IfSome told (λ files. IsLoaded (told_folder files folder) (Clean held))
    → PrintsRight (lint folder) told status.Done before before
lint_clean told folder held before is =
    if_told told _ _ is (λ files loaded. gains_nothing before _ ([], (λ scan scans. ((loaded scan scans).0, refl)), refl))

-- the fault list of a feed
pub lint_faulty : (told : Option FileMap) (folder : List ℕ) (faults : List Fault) → IfSome told (λ files. IsLoaded (told_folder files folder) (Faulty faults))
    → IfSome told (λ files. IsReply (lint folder) files status.FeedFaulty (fault_lines faults ∷ []))
lint_faulty told folder faults is =
    if_told told _ _ is (λ files loaded. λ scan scans.
    let its = loaded scan scans in ((λ none. its.0 (its.1 ∙ none)), ap (λ fs. fault_lines fs ∷ []) its.1))

-- what ends with Done was done, and was printed whole
pub done_ended : (s : Status) (printed : Result (Unit {0}) PutError) → status_of (end_of s printed) ≡ status.Done → (s ≡ status.Done) × (printed ≡ Ok tt)
done_ended s (Ok u) done = (done, refl)
done_ended s (Err Failed) done = (let no : status.WriteFault ≡ status.Done = done in cc)
done_ended s (Err NoMemory) done = (let no : status.NoMemory ≡ status.Done = done in cc)

pub certify_one : (a b : InputPaths) → certify a ≡ certify b → a ≡ b
certify_one a b e = cc

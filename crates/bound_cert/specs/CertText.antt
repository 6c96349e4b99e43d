-- The text of a certificate: lines of words, this project's own format. The lines of its answers
-- are those of answers alone. Words are parted by one space, ids stand in their escaped form,
-- moments as YYYY-MM-DDTHH:MM:SSZ, numbers in decimal digits.
use Rattle.std.specs.Prelude.{ℕ, ◌+◌, Bool, if◌then◌else◌, List, [], ◌∷◌, ◌++◌, length, codes, decimal}
use Rattle.std.specs.List.{flat_map, list_any}
use Rattle.bound_cert.specs.declared.cert.Cert.{Cert}
use Rattle.bound_cert.specs.declared.cert.CertLabel.{CertLabel}
use Rattle.bound_cert.specs.declared.cert.CertPart.{CertPart}
use Rattle.bound_cert.specs.declared.cert.CertRound.{CertRound}
use Rattle.field_text.specs.Texts.{moment_text}
use Rattle.flex_model.specs.declared.feed.Feed.{Feed}
use Rattle.flex_model.specs.declared.times.Times.{Times}
use Rattle.query_io.specs.AnswerText.{deadline_text, line, named_answers_text, place_text, word_if}

-- label PLACE DEADLINE ARRIVAL, and WALK in a part that asks for walking
abbrev pub label_line : Feed → Times → Bool → CertLabel → List ℕ
label_line feed times walking label =
    line (codes "label" ∷ place_text feed times label.place ∷ deadline_text label.deadline
    ∷ moment_text label.arrival ∷ word_if walking (decimal label.walk))

-- round K COUNT, and a line for each label
abbrev pub round_text : Feed → Times → Bool → ℕ → CertRound → List ℕ
round_text feed times walking k round =
    line (codes "round" ∷ decimal k ∷ decimal (length round.labels) ∷ [])
    ++ flat_map (label_line feed times walking) round.labels

-- rounds that are numbered from k on
unfoldable pub rounds_text : Feed → Times → Bool → ℕ → List CertRound → List ℕ
rounds_text feed times walking k [] = []
rounds_text feed times walking k (round ∷ rounds) =
    round_text feed times walking k round ++ rounds_text feed times walking (k + 1) rounds

-- rounds COUNT
abbrev pub round_count_line : ℕ → List ℕ
round_count_line count = line (codes "rounds" ∷ decimal count ∷ [])

-- the text of the answers, rounds COUNT, and the rounds
unfoldable pub part_text : Feed → Times → CertPart → List ℕ
part_text feed times part =
    named_answers_text feed times part.walking part.query part.answers
    ++ (round_count_line (length part.rounds) ++ rounds_text feed times part.walking 1 part.rounds)

-- whether some part asks for walking
abbrev pub some_asks : List CertPart → Bool
some_asks parts = list_any (λ part. part.walking) parts

-- flexcert VERSION COUNT, where VERSION is 2 if some part asks for walking, and 1 if none does
abbrev pub heading_line : Bool → ℕ → List ℕ
heading_line walking count =
    line (codes "flexcert" ∷ decimal (if walking then 2 else 1) ∷ decimal count ∷ [])

-- the first line, and the parts
unfoldable pub cert_text : Feed → Times → Cert → List ℕ
cert_text feed times cert =
    heading_line (some_asks cert.parts) (length cert.parts)
    ++ flat_map (part_text feed times) cert.parts

-- The first bad line of bytes that are the text of no certificate, and the count of labels. This
-- project's own.
use Rattle.std.specs.Prelude.{◌≡◌, ◌≢◌, ◌⊎◌, ℕ, ◌+◌, ◌==◌, Bool, List, [], ◌∷◌, ◌++◌, length}
use Rattle.std.specs.List.{count_by}
use Rattle.bound_cert.specs.declared.cert.Cert.{Cert}
use Rattle.bound_cert.specs.declared.cert.CertPart.{CertPart}
use Rattle.bound_cert.specs.declared.cert.CertRound.{CertRound}
use Rattle.bound_cert.specs.CertText.{cert_text}
use Rattle.bound_cert.specs.HeldCert.{IsWritten}
use Rattle.flex_model.specs.declared.feed.Feed.{Feed}
use Rattle.flex_model.specs.declared.times.Times.{Times}

abbrev pub is_line_feed : ℕ → Bool
is_line_feed b = b == 10

-- nothing, or bytes whose last one is a line feed
abbrev pub AreWholeLines : List ℕ → Type 0
AreWholeLines bytes = (bytes ≡ []) ⊎ ((front : List ℕ) × (bytes ≡ front ++ 10 ∷ []))

-- the text of a certificate begins with the bytes
abbrev pub BeginsCert : Feed → Times → List ℕ → Type 0
BeginsCert feed times bytes =
    (cert : Cert) × IsWritten feed times cert × (more : List ℕ)
    × (cert_text feed times cert ≡ bytes ++ more)

-- The bytes are the text of no certificate, and the line is their first bad one: some text of a
-- certificate begins with the whole lines before it, and none begins with these and one whole line
-- more. So bytes that no line feed follows are a bad line, and where a text ends too early the line
-- after its last one is bad.
pub record IsSyntaxFault (feed : Feed) (times : Times) (bytes : List ℕ) (line : ℕ) : Type 0 where
  pub before : List ℕ
  pub after : List ℕ
  pub parts : bytes ≡ before ++ after
  pub whole : AreWholeLines before
  pub number : line ≡ count_by is_line_feed before + 1
  pub begins : BeginsCert feed times before
  pub bad : (next rest : List ℕ) → after ≡ next ++ 10 ∷ rest
      → ¬ (BeginsCert feed times (before ++ (next ++ 10 ∷ [])))
  pub no_text : (cert : Cert) → IsWritten feed times cert → bytes ≢ cert_text feed times cert

-- how many labels rounds have
unfoldable pub labels_in_rounds : List CertRound → ℕ
labels_in_rounds [] = 0
labels_in_rounds (round ∷ rounds) = length round.labels + labels_in_rounds rounds

-- how many labels parts have
unfoldable pub labels_in_parts : List CertPart → ℕ
labels_in_parts [] = 0
labels_in_parts (part ∷ parts) = labels_in_rounds part.rounds + labels_in_parts parts

-- how many labels all rounds of all parts of a certificate have
abbrev pub label_count : Cert → ℕ
label_count cert = labels_in_parts cert.parts

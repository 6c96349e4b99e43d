-- Reading a certificate line by line, up to its first bad line.
use Rattle.std.specs.Prelude.{ℕ, zero, suc, ◌+◌, ◌==◌, Bool, false, not, ◌&&◌, ◌||◌, if◌then◌else◌, nat_lt, nat_le}
use Rattle.std.specs.Prelude.{List, [], ◌∷◌, length, Option, Some, None, Result, Ok, Err}
use Rattle.std.specs.List.{after_first, before_first, count_by, slice_split}
use Rattle.std.specs.Str.{is_utf8}
use Rattle.bound_cert.specs.declared.cert.Cert.{Cert}
use Rattle.bound_cert.specs.declared.cert.CertPart.{CertPart}
use Rattle.bound_cert.specs.declared.cert.CertRound.{CertRound}
use Rattle.bound_cert.specs.LineWords.{has_place, has_ride, heading_in, label_count_in, label_in, query_in, ride_in, round_count_in, triple_in}
use Rattle.bound_cert.specs.Syntax.{is_line_feed}
use Rattle.flex_model.specs.declared.answer.Answer.{Answer}
use Rattle.flex_model.specs.declared.feed.Feed.{Feed}
use Rattle.flex_model.specs.declared.times.Times.{Times}

-- A value and the bytes after it, or how many bytes are left from the first bad line on.
abbrev pub Read : Type 0 → Type 0
Read A = Result (A × List ℕ) ℕ

infixl 10 ◌>>=◌
abbrev pub ◌>>=◌ : {A B : Type 0} → Result A ℕ → (A → Result B ℕ) → Result B ℕ
(Ok x) >>= f = f x
(Err e) >>= f = Err e

abbrev pub is_space : ℕ → Bool
is_space b = b == 32

-- the words of the first line, which is a text of at most ten words and ends with a line feed
unfoldable pub words_at : List ℕ → Read (List (List ℕ))
words_at bytes =
    let first = before_first is_line_feed bytes in
    if nat_lt (length first) (length bytes) && nat_le (count_by is_space first) 9 && is_utf8 first
    then Ok (slice_split is_space first, after_first is_line_feed bytes) else Err (length bytes)

-- what words tell, or that their line is bad
abbrev pub told : {A : Type 0} → List ℕ → List ℕ → Option A → Read A
told bytes rest (Some x) = Ok (x, rest)
told bytes rest None = Err (length bytes)

-- what the first line tells
abbrev pub line_at : {A : Type 0} → (List (List ℕ) → Option A) → List ℕ → Read A
line_at value bytes = words_at bytes >>= λ words. told bytes words.1 (value words.0)

-- a value, and then one that may depend on it
abbrev pub pair_at : {A B : Type 0} → (List ℕ → Read A) → (A → List ℕ → Read B) → List ℕ
    → Read (A × B)
pair_at first second bytes =
    first bytes >>= λ x. second x.0 x.1 >>= λ y. Ok ((x.0, y.0), y.1)

-- what a function makes of a value
abbrev pub map_at : {A C : Type 0} → (A → C) → (List ℕ → Read A) → List ℕ → Read C
map_at f read bytes = read bytes >>= λ x. Ok (f x.0, x.1)

-- so many values, each with its number from k on
unfoldable pub each_from : {A : Type 0} → (ℕ → List ℕ → Read A) → ℕ → ℕ → List ℕ → Read (List A)
each_from read k zero bytes = Ok ([], bytes)
each_from read k (suc n) bytes =
    map_at (λ p. p.0 ∷ p.1) (pair_at (read k) (λ first. each_from read (k + 1) n)) bytes

-- so many values
abbrev pub each_at : {A : Type 0} → (List ℕ → Read A) → ℕ → List ℕ → Read (List A)
each_at read n = each_from (λ k. read) 1 n

module _ (feed : Feed) (times : Times) where
  -- a journey and its rides
  unfoldable pub answer_at : Bool → List ℕ → Read Answer
  answer_at walking =
      map_at (λ p. record { triple = p.0; rides = p.1 })
      (pair_at (line_at (triple_in walking))
      (λ triple. each_at (line_at (ride_in feed times)) (triple.transfers + 1)))

  -- the round with this number
  unfoldable pub round_at : Bool → ℕ → List ℕ → Read CertRound
  round_at walking k =
      map_at (λ p. record { labels = p.1 })
      (pair_at (line_at (label_count_in k (has_place feed times)))
      (λ count. each_at (line_at (label_in feed times walking)) count))

  -- what follows the first line of a part: the answers, and the rounds
  abbrev pub later_at : Bool → ℕ → List ℕ → Read (List Answer × (ℕ × List CertRound))
  later_at walking count =
      pair_at (each_at (answer_at walking) count)
      (λ answers. pair_at (line_at round_count_in) (λ n. each_from (round_at walking) 1 n))

  -- the part of a query that may ask for walking, or not ask
  unfoldable pub part_at : Bool → Bool → List ℕ → Read CertPart
  part_at may_ask may_not =
      map_at (λ p. record { query = p.0.0; walking = p.0.1.0; answers = p.1.0; rounds = p.1.1.1 })
      (pair_at (line_at (query_in may_ask may_not (has_ride feed times)))
      (λ query. later_at query.1.0 query.1.1))

  -- So many parts, where two says whether some part of the certificate asks for walking, and asked
  -- whether one before these does. The last part asks where one has to and none before it does.
  unfoldable pub parts_from : Bool → Bool → ℕ → List ℕ → Read (List CertPart)
  parts_from two asked zero bytes = Ok ([], bytes)
  parts_from two asked (suc n) bytes =
      map_at (λ p. p.0 ∷ p.1)
      (pair_at (part_at two (not two || asked || nat_lt 0 n))
      (λ part. parts_from two (asked || part.walking) n)) bytes

  -- a certificate, and maybe more after it
  unfoldable pub begun_at : List ℕ → Read Cert
  begun_at =
      map_at (λ p. record { parts = p.1 })
      (pair_at (line_at heading_in) (λ heading. parts_from heading.0 false heading.1))

  -- a certificate, and nothing after it
  unfoldable pub cert_at : List ℕ → Result Cert ℕ
  cert_at bytes =
      begun_at bytes >>= λ x. if length x.1 == 0 then Ok x.0 else Err (length x.1)

-- The words that are accepted, and what each asks for.
use Rattle.std.specs.Prelude.{ℕ, Bool, false, not, ◌&&◌, ◌==◌, List, [], ◌∷◌, Option, None, Some, if◌then◌else◌, codes, map}
use Rattle.std.specs.Option.{option_map, option_or}
use Rattle.std.specs.Str.{bytes_eq}
use denote.Ref.{Bor}
use Rattle.flexplan.specs.declared.words.Command.{Command}
use Rattle.flexplan.specs.declared.words.Command.TheVariants.{Certify, Check, Lint, Plan}
use Rattle.flexplan.specs.declared.words.Paths as declared

-- where the input lies
pub record InputPaths : Type 0 where
  pub feed : List ℕ
  pub times : List ℕ
  pub queries : List ℕ

-- what is asked for
pub data Request : Type 0 where
  plan : InputPaths → Request
  lint : List ℕ → Request
  certify : InputPaths → Request
  -- and where the certificate lies
  check : InputPaths → List ℕ → Request

-- a certificate is judged
abbrev pub IsCheck : Request → Type 0
IsCheck (check paths cert) = Unit {0}
IsCheck _ = ⊥

-- the bytes of each word
abbrev pub texts : List (Bor (List ℕ)) → List (List ℕ)
texts words = map (λ word. word.now) words

-- a word that isn't empty and doesn't begin with a hyphen
abbrev pub is_path : List ℕ → Bool
is_path [] = false
is_path (first ∷ _) = not (first == 45)

-- the words are this command and three plain paths
abbrev pub three_paths : List ℕ → List (List ℕ) → Option InputPaths
three_paths name (command ∷ feed ∷ times ∷ queries ∷ []) =
    if bytes_eq command name && is_path feed && is_path times && is_path queries then
    Some (record { feed = feed; times = times; queries = queries })
    else None
three_paths name _ = None

-- the words are this command and one plain path
abbrev pub one_path : List ℕ → List (List ℕ) → Option (List ℕ)
one_path name (command ∷ path ∷ []) =
    if bytes_eq command name && is_path path then Some path else None
one_path name _ = None

-- the words are this command and four plain paths
abbrev pub four_paths : List ℕ → List (List ℕ) → Option (InputPaths × List ℕ)
four_paths name (command ∷ feed ∷ times ∷ queries ∷ cert ∷ []) =
    if bytes_eq command name && is_path feed && is_path times && is_path queries && is_path cert
    then Some (record { feed = feed; times = times; queries = queries }, cert)
    else None
four_paths name _ = None

-- what the words ask for, or none where they are of no accepted form
abbrev pub request_of : List (List ℕ) → Option Request
request_of words = option_or (option_map plan (three_paths (codes "plan") words))
    (option_or (option_map lint (one_path (codes "lint") words))
    (option_or (option_map certify (three_paths (codes "certify") words))
    (option_map (λ asked. check asked.0 asked.1) (four_paths (codes "check") words))))

abbrev pub paths : declared.Paths → InputPaths
paths p = record { feed = p.feed.now; times = p.times.now; queries = p.queries.now }

-- what a command asks for
abbrev pub request : Command → Request
request (Plan p) = plan (paths p)
request (Lint folder) = lint folder.now
request (Certify p) = certify (paths p)
request (Check p cert) = check (paths p) cert.now

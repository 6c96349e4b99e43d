-- The records of trips by their stop_sequence.
use Rattle.std.specs.Prelude.{◌≡◌, ℕ, nat_eq, Bool, ◌&&◌, List, Option, Some}
use Rattle.std.specs.BTreeMap.{BTreeMap, get}
use Rattle.std.specs.Borrow.{Bor}
use Rattle.std.specs.Cmp.Lexicographic.{slice_cmp}
use Rattle.std.specs.List.{find}
use Rattle.std.specs.Option.{option_map}
use Rattle.std.specs.Ordering.{nat_cmp, ordering_then}
use Rattle.std.specs.Str.{bytes_eq}
use Rattle.std.specs.declared.cmp.Ordering.{Ordering}
use Rattle.feed_meaning.specs.FeedLinks.{departure}
use Rattle.feed_meaning.specs.FeedRules.{sequence}
use Rattle.feed_meaning.specs.Rules.{Values, stand}

-- a trip with a stop_sequence
abbrev pub Key : Type 0
Key = Bor (List ℕ) × ℕ

-- by trips as texts, and within a trip by stop_sequence
abbrev pub key_cmp : Key → Key → Ordering
key_cmp x y = ordering_then (slice_cmp nat_cmp x.0.now y.0.now) (nat_cmp x.1 y.1)

-- the record has this trip and this stop_sequence
abbrev pub has_key : Key → Values → Bool
has_key q r = bytes_eq (r "trip_id") q.0.now && stand nat_eq (sequence (r "stop_sequence"))
    (Some q.1)

-- each trip and stop_sequence of the records has the departure of the first record with them
abbrev pub HoldsFirst : BTreeMap Key (Option ℕ) → List Values → Type 0
HoldsFirst order records = (q : Key)
    → get key_cmp order q ≡ option_map departure (find (has_key q) records)

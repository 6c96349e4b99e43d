-- What the fields of stop times are read as.
use Rattle.std.proofs.Common.{◌≡◌, ◌<◌, ◌+◌, ◌*◌, ◌/◌, ◌%◌, ◌∙◌, ℕ, Bool, true, List, Option, None, Some, arith, ap, refl, subst, sym}
use Rattle.std.specs.Prelude.{◌==◌, ◌||◌, nat_eq, not}
use Rattle.std.specs.List.{list_all}
use Rattle.std.specs.Str.{bytes_eq}
use Rattle.std.specs.Fmt.{decimal, digits}
use Rattle.std.proofs.lemmas.Bool.{eqb-true}
use Rattle.field_text.specs.Grammars.{time}
use Rattle.field_text.proofs.DecimalLemmas.{numbers_are_read_back}
use Rattle.feed_tables.specs.Refusals.{is_given}
use Rattle.feed_meaning.specs.FeedRules.{sequence}
use Rattle.feed_meaning.specs.Rules.{stand}
use Rattle.feed_gen.specs.Draws.{pick}
use Rattle.feed_gen.specs.Ids.{stop_id, trip_id}
use Rattle.feed_gen.specs.StopTimesText.{seconds_at, stop_of, time_text}
use Rattle.feed_gen.specs.Texts.{below}
use Rattle.feed_gen.proofs.Checks.{checked}
use Rattle.feed_gen.proofs.PlainFields.{is_plain}

-- ---- what is drawn

pub stop-bound : (number l v : ℕ) → stop_of number l v < 40
unfolding pick
stop-bound number l v = omega arith

-- the minute at which a trip is at a place
abbrev pub minute : ℕ → ℕ → ℕ → ℕ → ℕ
minute number l k v = 360 + 30 * k + pick number (500 + l) 30 + 5 * v

pub seconds-minute : (number l k v : ℕ) → seconds_at number l k v ≡ 60 * minute number l k v
unfolding seconds_at
seconds-minute number l k v = omega arith

pub minute-bound : (number l k v : ℕ) → k < 24 → v < 8 → minute number l k v < 1200
unfolding pick
minute-bound number l k v late far = omega arith

-- ---- what is read

some-equal : (o : Option ℕ) (n : ℕ) → stand nat_eq o (Some n) ≡ true → o ≡ Some n
some-equal None n e = cc e
some-equal (Some m) n e = ap Some (eqb-true m n e)

times-read : list_all (λ q. stand nat_eq (time (time_text (60 * q))) (Some (60 * q))) (below 1200) ≡ true
unfolding time_text below
times-read = refl

pub time-read : (number l k v : ℕ) → k < 24 → v < 8 → time (time_text (seconds_at number l k v)) ≡ Some (seconds_at number l k v)
time-read number l k v late far =
    subst (λ (s : ℕ). time (time_text s) ≡ Some s) (sym (seconds-minute number l k v))
    (some-equal (time (time_text (60 * minute number l k v))) (60 * minute number l k v)
    (checked (λ q. stand nat_eq (time (time_text (60 * q))) (Some (60 * q))) 1200 times-read (minute number l k v) (minute-bound number l k v late far)))

pub time-given : (s : ℕ) → is_given (time_text s) ≡ true
unfolding time_text
time-given s = refl

pub sequence-read : (v : ℕ) → v < 8 → sequence (decimal v) ≡ Some v
sequence-read v low = numbers_are_read_back v 4294967294 (omega arith) (omega arith)

sequences-given : list_all (λ v. is_given (decimal v)) (below 8) ≡ true
unfolding digits below
sequences-given = refl

pub sequence-given : (v : ℕ) → v < 8 → is_given (decimal v) ≡ true
sequence-given v low = checked (λ v. is_given (decimal v)) 8 sequences-given v low

-- ---- different trips have different ids

abbrev pub trip_at : ℕ → List ℕ
trip_at t = trip_id (t / 24) (t % 24)

abbrev differs : ℕ → ℕ → Bool
differs t u = not (bytes_eq (trip_at t) (trip_at u)) || (t == u)

trips-differ : list_all (λ t. list_all (differs t) (below 240)) (below 240) ≡ true
unfolding digits below
trips-differ = refl

pub same-trip : (t u : ℕ) → t < 240 → u < 240 → bytes_eq (trip_at t) (trip_at u) ≡ true → t ≡ u
same-trip t u low low' e =
    eqb-true t u (rw e at (checked (differs t) 240 (checked (λ t. list_all (differs t) (below 240)) 240 trips-differ t low) u low'))

-- ---- the fields are plain

trips-plain : list_all (λ t. is_plain (trip_at t)) (below 240) ≡ true
unfolding digits below
trips-plain = refl

pub trip-plain : (t : ℕ) → t < 240 → is_plain (trip_at t) ≡ true
trip-plain t low = checked (λ t. is_plain (trip_at t)) 240 trips-plain t low

stops-plain : list_all (λ s. is_plain (stop_id s)) (below 40) ≡ true
unfolding digits below
stops-plain = refl

pub stop-plain : (s : ℕ) → s < 40 → is_plain (stop_id s) ≡ true
stop-plain s low = checked (λ s. is_plain (stop_id s)) 40 stops-plain s low

sequences-plain : list_all (λ v. is_plain (decimal v)) (below 8) ≡ true
unfolding digits below
sequences-plain = refl

pub sequence-plain : (v : ℕ) → v < 8 → is_plain (decimal v) ≡ true
sequence-plain v low = checked (λ v. is_plain (decimal v)) 8 sequences-plain v low

times-plain : list_all (λ q. is_plain (time_text (60 * q))) (below 1200) ≡ true
unfolding time_text below
times-plain = refl

pub time-plain : (number l k v : ℕ) → k < 24 → v < 8 → is_plain (time_text (seconds_at number l k v)) ≡ true
time-plain number l k v late far =
    ap (λ (s : ℕ). is_plain (time_text s)) (seconds-minute number l k v)
    ∙ checked (λ q. is_plain (time_text (60 * q))) 1200 times-plain (minute number l k v) (minute-bound number l k v late far)

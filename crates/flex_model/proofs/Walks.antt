-- How long walks are, and that they are nothing for a query that doesn't ask for walking.
use Rattle.std.proofs.Common.{◌≡◌, inl, inr, Bool, true, false, ℕ, zero, suc, ◌+◌, ◌-◌, ◌*◌, ◌≤◌, ◌==◌, if◌then◌else◌, List, length, refl, ◌∙◌, arith}
use Rattle.std.proofs.lemmas.Option.{slice_get_within}
use Rattle.flex_model.specs.declared.change.ChangeKind.TheVariants.{Least}
use Rattle.flex_model.specs.declared.change.ChangeRow.{ChangeRow}
use Rattle.flex_model.specs.declared.feed.Feed.{Feed}
use Rattle.flex_model.specs.declared.place.Place.{Place}
use Rattle.flex_model.specs.declared.place.Place.TheVariants.{Stop, Point}
use Rattle.flex_model.specs.declared.query.Query.{Query}
use Rattle.flex_model.specs.declared.ride.Ride.{Ride}
use Rattle.flex_model.specs.declared.times.Span.{Span}
use Rattle.flex_model.specs.declared.times.Times.{Times}
use Rattle.flex_model.specs.Bounds.{WalksAreShort}
use Rattle.flex_model.specs.Change.{HasAccess, HasChange, HasEgress}
use Rattle.flex_model.specs.Journey.{UncountedWalksAreNothing, WalksTo, change_walk, counted}
use Rattle.flex_model.specs.SoundFeed.{IsSoundChange, IsSoundFeed}
use Rattle.flex_model.specs.SoundTimes.{AreSoundTimes}
use Rattle.flex_model.specs.Times.{HasSeconds}
use Rattle.flex_model.proofs.Found.{All-at, index_of}

-- what counts is all or nothing

pub if_no_more : (asks : Bool) (seconds : ℕ) → (if asks then seconds else 0) ≤ seconds
if_no_more true seconds = omega arith
if_no_more false seconds = omega arith

if_not : (asks : Bool) (seconds : ℕ) → asks ≡ false → (if asks then seconds else 0) ≡ 0
if_not true seconds e = absurd cc
if_not false seconds e = refl

else_no_more : (stays : Bool) (seconds : ℕ) → (if stays then 0 else seconds) ≤ seconds
else_no_more true seconds = omega arith
else_no_more false seconds = omega arith

-- a walk that is nothing where it doesn't count is within what counts of its bound
within_counted : (asks : Bool) (walk most : ℕ) → walk ≤ most → (asks ≡ false → walk ≡ 0) → walk ≤ (if asks then most else 0)
within_counted true walk most le nothing = le
within_counted false walk most le nothing = let none = nothing refl in omega arith

pub change_no_more : (a b : Place) (seconds : ℕ) → change_walk a b seconds ≤ seconds
change_no_more (Stop a) (Stop b) seconds = else_no_more (a == b) seconds
change_no_more (Stop a) (Point b) seconds = omega arith
change_no_more (Point a) b seconds = omega arith

-- the walk to a ride is nothing where the query doesn't ask
not_asked : (feed : Feed) (times : Times) (query : Query) (rides : List Ride) (k walk : ℕ) → query.walking ≡ false → WalksTo feed times query rides k walk → walk ≡ 0
not_asked feed times query rides zero walk asks w = w.2.3 ∙ if_not query.walking w.2.0 asks
not_asked feed times query rides (suc k) walk asks w =
    let before = not_asked feed times query rides k w.2 asks w.6 in
    let change : w.3 ≡ 0 = w.7.3 ∙ if_not query.walking (change_walk w.0.alight w.1.board w.7.0) asks in
    let e : walk ≡ w.2 + w.3 = w.8 in
    omega arith

pub uncounted_nothing : UncountedWalksAreNothing
uncounted_nothing feed times days query rides asks = (
  λ triple attains.
      let before = not_asked feed times query rides (length rides - 1) attains.walked asks attains.walks in
      let after = if_not query.walking attains.journey.seconds asks in
      let e : triple.walk ≡ attains.walked + counted query attains.journey.seconds = attains.walk in
      omega arith,
  λ place pair reaches. not_asked feed times query rides (length rides - 1) pair.walk asks reaches.walks,
)

-- parts of walks have at most a day's seconds

walk_short : (feed : Feed) (times : Times) (a b : Place) (seconds : ℕ) → AreSoundTimes feed times → HasSeconds times.walks a b seconds → seconds ≤ 86400
walk_short feed times a b seconds sound has =
    let at = index_of times.walks (record { from = a; to = b; seconds = seconds }) has in
    All-at (λ (span : Span). span.seconds ≤ 86400) times.walks at.0 (record { from = a; to = b; seconds = seconds }) sound.walks.seconds at.1

pub access_short : (feed : Feed) (times : Times) (query : Query) (place : Place) (seconds : ℕ) → AreSoundTimes feed times → HasAccess times query place seconds → seconds ≤ 86400
access_short feed times query place seconds sound (inl here) = let none = here.1 in omega arith
access_short feed times query place seconds sound (inr walks) = walk_short feed times query.origin place seconds sound walks.2

pub egress_short : (feed : Feed) (times : Times) (query : Query) (place : Place) (seconds : ℕ) → AreSoundTimes feed times → HasEgress times query place seconds → seconds ≤ 86400
egress_short feed times query place seconds sound (inl here) = let none = here.1 in omega arith
egress_short feed times query place seconds sound (inr walks) = walk_short feed times place query.destination seconds sound walks.2

pub change_short : (feed : Feed) (a b : Place) (seconds : ℕ) → IsSoundFeed feed → HasChange feed a b seconds → seconds ≤ 86400
change_short feed (Stop a) (Stop b) seconds sound (inl row) =
    let is_row : ChangeRow = record { from = a; to = b; kind = Least seconds } in
    let at = index_of feed.changes is_row row in
    (All-at (IsSoundChange feed) feed.changes at.0 is_row sound.each_change at.1).kind
change_short feed (Stop a) (Stop b) seconds sound (inr stays) = let none = stays.1 in omega arith
change_short feed (Stop a) (Point b) seconds sound h = absurd h
change_short feed (Point a) b seconds sound h = absurd h

-- the walk to a ride is at most a day for it and for each ride before it
walks_short : (feed : Feed) (times : Times) (query : Query) (rides : List Ride) (k walk : ℕ) → IsSoundFeed feed → AreSoundTimes feed times → WalksTo feed times query rides k walk → walk ≤ 86400 * (k + 1)
walks_short feed times query rides zero walk sound sound_times w =
    let short = access_short feed times query w.0.board w.2.0 sound_times w.2.1 in
    let no_more = if_no_more query.walking w.2.0 in
    let e : walk ≡ counted query w.2.0 = w.2.3 in
    omega arith
walks_short feed times query rides (suc k) walk sound sound_times w =
    let before = walks_short feed times query rides k w.2 sound sound_times w.6 in
    let short = change_short feed w.0.alight w.1.board w.7.0 sound w.7.1 in
    let part = change_no_more w.0.alight w.1.board w.7.0 in
    let no_more = if_no_more query.walking (change_walk w.0.alight w.1.board w.7.0) in
    let change : w.3 ≡ counted query (change_walk w.0.alight w.1.board w.7.0) = w.7.3 in
    let e : walk ≡ w.2 + w.3 = w.8 in
    omega arith

pub short_walks : WalksAreShort
short_walks feed times days query sound sound_times = (
  λ rides triple attains.
      let some = slice_get_within rides 0 attains.journey.itinerary.first attains.journey.itinerary.is_first in
      let before = walks_short feed times query rides (length rides - 1) attains.walked sound sound_times attains.walks in
      let short = egress_short feed times query attains.journey.last.alight attains.journey.seconds sound_times attains.journey.egress in
      let no_more = if_no_more query.walking attains.journey.seconds in
      let e : triple.walk ≡ attains.walked + counted query attains.journey.seconds = attains.walk in
      within_counted query.walking triple.walk (86400 * (length rides + 1)) (omega arith) (λ asks. (uncounted_nothing feed times days query rides asks).0 triple attains),
  λ k label attained.
      let rides : List Ride = attained.0 in
      let count : length rides ≡ k = attained.1 in
      let reaches = attained.2 in
      let some = slice_get_within rides 0 reaches.journey.itinerary.first reaches.journey.itinerary.is_first in
      let before = walks_short feed times query rides (length rides - 1) label.walk sound sound_times reaches.walks in
      within_counted query.walking label.walk (86400 * k) (omega arith) (λ asks. (uncounted_nothing feed times days query rides asks).1 label.place _ reaches),
)

use Rattle.std.proofs.Common.{◌∙◌, subst, sym}
use Rattle.flex_model.specs.SoundFeed.{IsSoundFeed}
use Rattle.feed_meaning.specs.Locations.{zones_of}
use Rattle.feed_rules.specs.Folders.{folder_of}
use Rattle.feed_load.specs.Judged.{IsJudged}
use Rattle.feed_load.proofs.AcceptedFeeds.{feed_is, tables_accepted}
use Rattle.feed_load.proofs.BestScans.{best, best_scans, sound}
use Rattle.feed_load.proofs.folder.read_folder.Goals as goal

pub feed_of-requires-clause-accepted : goal.feed_of-requires-clause-accepted
feed_of-requires-clause-accepted c =
    let folder = folder_of c.args.bytes.now in
    let law = c.texts_have_scans.ensures in
    let geo = zones_of (best law folder) in
    let judged = subst (IsJudged geo folder) c.in-Accepted.is (c.in_ok-judged.ensures (best law folder) folder c.in_ok-raw.ensures (best_scans law folder)) in
    tables_accepted geo folder c.in-Accepted.tables judged.1 (sound c.features_are_few.ensures law folder c.in_ok-raw.ensures.counted judged.0) judged.0

pub feed_of-requires-clause-sound : goal.feed_of-requires-clause-sound
feed_of-requires-clause-sound c =
    let folder = folder_of c.args.bytes.now in
    let law = c.texts_have_scans.ensures in
    let geo = zones_of (best law folder) in
    let judged = subst (IsJudged geo folder) c.in-Accepted.is (c.in_ok-judged.ensures (best law folder) folder c.in_ok-raw.ensures (best_scans law folder)) in
    subst IsSoundFeed (sym (feed_is geo folder c.in-Accepted.tables judged.1)) (sound c.features_are_few.ensures law folder c.in_ok-raw.ensures.counted judged.0)

pub returns-in-Accepted-clause-loaded : goal.returns-in-Accepted-clause-loaded
returns-in-Accepted-clause-loaded c = λ scan scans.
    let folder = folder_of c.args.bytes.now in
    let judged = subst (IsJudged (zones_of scan) folder) c.in-Accepted.is (c.in_ok-judged.ensures scan folder c.in_ok-raw.ensures scans) in
    (judged.0, c.in_ok-feed-in-Accepted.ensures ∙ feed_is (zones_of scan) folder c.in-Accepted.tables judged.1)

pub returns-in-Accepted-clause-sound : goal.returns-in-Accepted-clause-sound
returns-in-Accepted-clause-sound c =
    let folder = folder_of c.args.bytes.now in
    let law = c.texts_have_scans.ensures in
    let geo = zones_of (best law folder) in
    let judged = subst (IsJudged geo folder) c.in-Accepted.is (c.in_ok-judged.ensures (best law folder) folder c.in_ok-raw.ensures (best_scans law folder)) in
    subst IsSoundFeed (sym (c.in_ok-feed-in-Accepted.ensures ∙ feed_is geo folder c.in-Accepted.tables judged.1)) (sound c.features_are_few.ensures law folder c.in_ok-raw.ensures.counted judged.0)

pub returns-clause-loaded : goal.returns-clause-loaded
returns-clause-loaded c = λ scan scans.
    let folder = folder_of c.args.bytes.now in
    let judged = subst (IsJudged (zones_of scan) folder) c.in-Faulty.is (c.in_ok-judged.ensures scan folder c.in_ok-raw.ensures scans) in
    (judged.0, judged.1)

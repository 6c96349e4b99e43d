-- An access for the first ride, a change for a later one.
use Rattle.journey_judge.proofs.JourneyTests.{way_to_first, way_to_next}
use Rattle.journey_judge.proofs.ways.way.Goals as goal

pub returns-then-k-eq0 : goal.returns-then-k-eq0
returns-then-k-eq0 c = way_to_first c.args.feed.now c.args.times.now c.args.query.now c.args.rides.now c.args.k _ c.if-k-eq0.true c.requires.within c.access.result c.access.ensures

pub returns : goal.returns
returns c = way_to_next c.args.feed.now c.args.times.now c.args.query.now c.args.rides.now c.args.k _ _ c.if-k-eq0.false c.requires.within c.change.result c.change.ensures

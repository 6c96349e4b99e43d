use Rattle.place_times.proofs.LoadFacts.{loaded_there, sound_load}
use Rattle.place_times.proofs.folder.load_times.Goals as goal

pub returns-clause-loaded : goal.returns-clause-loaded
returns-clause-loaded g c =
    loaded_there c.args.feed.now c.args.folder.now (g.F.Files.told c.args.files.now) c.in_ok-found.found c.in_ok-times.times c.in_ok-found.ensures.fetched c.in_ok-times.ensures

pub returns-clause-sound : goal.returns-clause-sound
returns-clause-sound g c = sound_load c.in_ok-found.found c.args.feed.now c.in_ok-times.times c.in_ok-times.ensures

use Rattle.std.proofs.Common.{None, Some, false, refl, subst}
use Rattle.place_times.specs.Levels.{AreRead, judged}
use Rattle.place_times.specs.Loads.{IsZoneFound}
use Rattle.place_times.proofs.folder.read_files.Goals as goal

pub returns-in_default : goal.returns-in_default
returns-in_default c = record {
  bases = None;
  found = subst (IsZoneFound c.args.files.now.zone_text c.args.files.now.zone_tzif) c.in_default.is c.in_ok-zone.ensures;
  given = tt;
  whole = λ folder fetched. c.in_ok-zoneless_faults.ensures folder c.args.feed.now fetched;
}

pub returns-in-Clean : goal.returns-in-Clean
returns-in-Clean c = record {
  bases = Some c.in-Some.zone;
  found = subst (IsZoneFound c.args.files.now.zone_text c.args.files.now.zone_tzif) c.in-Some.is c.in_ok-zone.ensures;
  given = refl;
  whole = λ folder fetched. subst (AreRead (judged false) c.args.feed.now folder) c.in-Clean.is (c.in_ok-times.ensures folder fetched);
}

pub returns-in-Faulty : goal.returns-in-Faulty
returns-in-Faulty c = record {
  bases = Some c.in-Some.zone;
  found = subst (IsZoneFound c.args.files.now.zone_text c.args.files.now.zone_tzif) c.in-Some.is c.in_ok-zone.ensures;
  given = tt;
  whole = λ folder fetched. subst (AreRead (judged false) c.args.feed.now folder) c.in-Faulty.is (c.in_ok-times.ensures folder fetched);
}

use mir.Syntax.{w64}
use Rattle.std.proofs.Common.{rules, sym}
use Rattle.std.proofs.lemmas.Int.{to_z-of_z}
use Rattle.search_trials.proofs.searches.assert_best.Goals as goal

pub search-requires-clause-of_query : goal.search-requires-clause-of_query
search-requires-clause-of_query g c =
    c.in_ok-days.ensures.of_query c.args.query.now (sym (to_z-of_z w64 c.args.query.now.depart (search rules)))

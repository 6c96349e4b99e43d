use Rattle.std.proofs.Common.{ap, map, refl, ◌∙◌}
use Rattle.journey_rebuild.specs.Answers.{answer_of}
use Rattle.journey_rebuild.proofs.FoundSearch.{found_part}
use Rattle.journey_rebuild.proofs.part.find_part.Goals as goal

pub returns-clause-found : goal.returns-clause-found
returns-clause-found c =
    let its = c.requires in
    found_part c.args.feed c.args.times c.args.days c.args.query c.in_ok-table.table.0 c.in_ok-table.table.1
    (record { feed = its.feed; times = its.times; days = its.days; of_query = its.of_query; query = its.query })
    c.in_ok-table.ensures c.in_ok-rounds.ensures.bags _
    (c.in_ok-id.ensures ∙ c.as_str.ensures.bytes) refl (c.in_ok-answers.ensures ∙ ap (map answer_of) c.finals.ensures) c.in_ok-rounds.ensures.rounds

use Rattle.std.proofs.Common.{◌≡◌, ◌-◌, ◌<◌, [], length, ◌∙◌, ap, subst, arith}
use Rattle.std.proofs.lemmas.List.{get_or_default}
use Rattle.label_bag.specs.Bag.{IsBag}
use Rattle.round_engine.specs.Attained.{number_of}
use Rattle.round_engine.specs.Bags.{bag_at, round_at}
use Rattle.round_engine.specs.Table.{labels_at}
use Rattle.round_engine.proofs.table.RoundTable.labels.Goals as goal

pub returns-clause-apart : goal.returns-clause-apart
returns-clause-apart c =
    let rounds = c.self.inside.rounds.items in
    let i = c.args.round - 1 in
    let v = ap (λ z. length z.0) c.self.view_is in
    let some = c.requires.some in
    let le = c.requires.round in
    let within : c.args.round - 1 < length c.self.inside.rounds.items = omega arith in
    let t : c.index-these.result.now ≡ round_at c.self.inside.rounds.items (c.args.round - 1) =
    c.index-these.ensures ∙ get_or_default c.self.inside.rounds.items (c.args.round - 1) c.index-these.result.now [] within in
    let n : c.place_number.result ≡ number_of (length (round_at c.self.inside.rounds.items (c.args.round - 1)) - 1) c.args.place =
    c.place_number.ensures ∙ ap (λ w. number_of (w - 1) c.args.place) (c.width.ensures ∙ ap length t) in
    subst (λ z. IsBag (labels_at z.0 c.args.round c.args.place)) c.self.view_is
    (subst (λ m. IsBag (bag_at (round_at c.self.inside.rounds.items (c.args.round - 1)) m)) n
    (subst (λ x. IsBag (bag_at x c.place_number.result)) t c.labels.ensures.apart))

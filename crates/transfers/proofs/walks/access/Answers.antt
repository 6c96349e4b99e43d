-- A stop elsewhere is reached by a walk.
use Rattle.std.proofs.Common.{sym, ◌∙◌}
use Rattle.std.proofs.lemmas.Bool.{false≢true}
use Rattle.transfers.proofs.Ways.{access_on_foot}
use Rattle.transfers.proofs.walks.access.Goals as goal

pub returns-in-Stop : goal.returns-in-Stop
returns-in-Stop c =
    access_on_foot c.args.times.now c.args.query.now c.args.place c.in-Stop.field-0 c.in-Stop.is
    (λ same. false≢true (sym c.if-is_same.false ∙ c.is_same.ensures.1 same)) c.walk.result c.walk.ensures

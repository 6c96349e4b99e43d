-- What the rule says, or none within a stop that has no rule.
use Rattle.std.proofs.Common.{◌≡◌, ◌↔◌, ap, ◌∙◌, Contains, Some, subst}
use Rattle.flex_model.specs.declared.change.ChangeKind.{ChangeKind}
use Rattle.transfers.proofs.Ways.{forbidden_change, least_change, no_change, stays}
use Rattle.transfers.proofs.changes.change.Goals as goal

pub returns-in-Some-Least : goal.returns-in-Some-Least
returns-in-Some-Least c =
    least_change c.args.feed.now c.args.a c.args.b c.in-Stop.from c.in-Stop-b.to c.in-Stop.is c.in-Stop-b.is c.change_kind.result
    (subst (λ rows. (kind : ChangeKind) → Contains rows (record { from = c.in-Stop.from; to = c.in-Stop-b.to; kind = kind }) ↔ (c.change_kind.result ≡ Some kind)) c.as_slice.ensures c.change_kind.ensures)
    c.in-Some-Least.seconds (c.in-Some-Least.is ∙ ap Some c.in-Some-Least.field-0-is)

pub returns-in-Some-Forbidden : goal.returns-in-Some-Forbidden
returns-in-Some-Forbidden c =
    forbidden_change c.args.feed.now c.args.a c.args.b c.in-Stop.from c.in-Stop-b.to c.in-Stop.is c.in-Stop-b.is c.change_kind.result
    (subst (λ rows. (kind : ChangeKind) → Contains rows (record { from = c.in-Stop.from; to = c.in-Stop-b.to; kind = kind }) ↔ (c.change_kind.result ≡ Some kind)) c.as_slice.ensures c.change_kind.ensures)
    (c.in-Some-Forbidden.is ∙ ap Some c.in-Some-Forbidden.field-0-is)

pub returns-then-from-to : goal.returns-then-from-to
returns-then-from-to c =
    stays c.args.feed.now c.args.a c.args.b c.in-Stop.from c.in-Stop-b.to c.in-Stop.is c.in-Stop-b.is c.change_kind.result
    (subst (λ rows. (kind : ChangeKind) → Contains rows (record { from = c.in-Stop.from; to = c.in-Stop-b.to; kind = kind }) ↔ (c.change_kind.result ≡ Some kind)) c.as_slice.ensures c.change_kind.ensures)
    c.in-None.is c.if-from-to.true

pub returns-else-from-to : goal.returns-else-from-to
returns-else-from-to c =
    no_change c.args.feed.now c.args.a c.args.b c.in-Stop.from c.in-Stop-b.to c.in-Stop.is c.in-Stop-b.is c.change_kind.result
    (subst (λ rows. (kind : ChangeKind) → Contains rows (record { from = c.in-Stop.from; to = c.in-Stop-b.to; kind = kind }) ↔ (c.change_kind.result ≡ Some kind)) c.as_slice.ensures c.change_kind.ensures)
    c.in-None.is c.if-from-to.false

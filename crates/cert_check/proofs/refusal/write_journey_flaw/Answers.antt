use Rattle.cert_check.proofs.refusal.write_journey_flaw.Goals as goal

pub returns-in-NotBookable-clause-ok : goal.returns-in-NotBookable-clause-ok
returns-in-NotBookable-clause-ok c = rw c.in-NotBookable.is c.write_flaw_at.ensures.ok

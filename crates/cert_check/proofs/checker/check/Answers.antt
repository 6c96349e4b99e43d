use Rattle.std.proofs.Common.{subst}
use Rattle.flex_model.proofs.Certificates.{certified_exact}
use Rattle.cert_check.specs.declared.task.Task.{Task}
use Rattle.bound_cert.specs.Parts.{told_rounds}
use Rattle.cert_check.specs.Tasks.{IsFoundBelow}
use Rattle.cert_check.proofs.FirstReasons.{all_pass, one_fails}
use Rattle.cert_check.proofs.checker.check.Goals as goal

pub returns-in-None-clause-verdict : goal.returns-in-None-clause-verdict
returns-in-None-clause-verdict c =
    let task : Task = record { feed = c.args.feed; times = c.args.times; days = c.args.days; query = c.args.query; part = c.args.part } in
    all_pass task (subst (IsFoundBelow task 9) c.in-None.is c.in_ok-first_reason.ensures)

pub returns-in-None-clause-exact : goal.returns-in-None-clause-exact
returns-in-None-clause-exact c = λ e.
    let task : Task = record { feed = c.args.feed; times = c.args.times; days = c.args.days; query = c.args.query; part = c.args.part } in
    let valid = all_pass task (subst (IsFoundBelow task 9) c.in-None.is c.in_ok-first_reason.ensures) in
    certified_exact task.feed.now task.times.now task.days.now task.query.now task.part.now.answers (told_rounds task.part.now) c.requires.feed valid.certificate

pub returns-in-Some-clause-verdict : goal.returns-in-Some-clause-verdict
returns-in-Some-clause-verdict c =
    let task : Task = record { feed = c.args.feed; times = c.args.times; days = c.args.days; query = c.args.query; part = c.args.part } in
    one_fails task c.in-Some.reason (subst (IsFoundBelow task 9) c.in-Some.is c.in_ok-first_reason.ensures)

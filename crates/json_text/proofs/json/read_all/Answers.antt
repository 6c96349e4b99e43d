use Rattle.std.proofs.Common.{refl, sym, ◌∙◌, add-one}
use Rattle.std.proofs.lemmas.Result.{err_from_is_err_and}
use Rattle.json_text.proofs.ReadsOn.{is_cut_off, is_json, reads_on, refuses}
use Rattle.json_text.proofs.Settled.{err_passed}
use Rattle.json_text.proofs.json.read_all.Goals as goal

pub returns-in_err-read-clause-refused : goal.returns-in_err-read-clause-refused
returns-in_err-read-clause-refused c =
    let p = err_from_is_err_and c.from_residual.result c.from_residual.ensures.1 in
    err_passed _ _ _ p.0 p.1 p.2
    (refuses c.loop-at.scanner c.args.bytes.now c.loop-at.at _ c.loop-at-test.true refl c.loop-at.invariant _ c.in_err-read.ensures.refused)

pub loop-at-preserved : goal.loop-at-preserved
loop-at-preserved c =
    rw (add-one c.loop-at.at) (reads_on c.loop-at.scanner _ c.args.bytes.now c.loop-at.at _ c.loop-at-test.true refl c.loop-at.invariant c.in_ok-read.ensures.ok)

pub returns-then-finish-clause-json : goal.returns-then-finish-clause-json
returns-then-finish-clause-json c =
    is_json c.loop-at.scanner _ c.loop-at.at c.loop-at-test.false c.loop-at.invariant (sym c.finish.ensures.ended ∙ c.if-finish.true)

pub returns-else-finish-clause-refused : goal.returns-else-finish-clause-refused
returns-else-finish-clause-refused c =
    is_cut_off c.loop-at.scanner _ c.loop-at.at c.loop-at-test.false c.loop-at.invariant (sym c.finish.ensures.ended ∙ c.if-finish.false)

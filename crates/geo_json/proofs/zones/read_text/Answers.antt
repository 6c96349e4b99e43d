use Rattle.std.proofs.Common.{subst, sym}
use Rattle.geo_json.specs.Features.{scan_checks}
use Rattle.geo_json.specs.Scans.{IsJsonOf}
use Rattle.geo_json.specs.Walks.{Refuses}
use Rattle.geo_json.proofs.Found.{err_told, ok_told, ok_value}
use Rattle.geo_json.proofs.zones.read_text.Goals as goal

pub returns-in-Ok-clause-faults : goal.returns-in-Ok-clause-faults
returns-in-Ok-clause-faults c = λ scan is.
    ok_told c.args.text.now scan c.read_features.result c.in-Ok.ensures.syntax c.in-Ok.ensures.depth (λ j of. c.read_features.ensures.faults j (subst (λ b. IsJsonOf b j) (sym c.in-Ok.ensures.value) of)) is

pub returns-in-Ok-clause-value : goal.returns-in-Ok-clause-value
returns-in-Ok-clause-value c = λ scan is.
    ok_value c.args.text.now scan c.read_features.result c.in-Ok.ensures.syntax c.in-Ok.ensures.depth (λ j of. c.read_features.ensures.value j (subst (λ b. IsJsonOf b j) (sym c.in-Ok.ensures.value) of)) is

pub returns-in-Err-clause-faults : goal.returns-in-Err-clause-faults
returns-in-Err-clause-faults c = λ scan is.
    subst (Refuses (scan_checks scan)) (sym c.of_scan.ensures) (err_told c.args.text.now scan c.in-Err.refusal c.in-Err.ensures.accepts c.in-Err.ensures.syntax c.in-Err.ensures.depth is)

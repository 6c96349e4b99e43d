use Rattle.json_text.proofs.Kept.{are_rows}
use Rattle.json_text.proofs.json.rows_of.Goals as goal

pub returns-clause-rows : goal.returns-clause-rows
returns-clause-rows c = are_rows c.args.bytes.now _ _ _ _ _ c.in_ok-scanner.ensures.notes c.into_rows.ensures

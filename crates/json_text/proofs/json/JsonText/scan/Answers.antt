use Rattle.json_text.proofs.Exclusive.{accepted, depth_only, syntax_only}
use Rattle.json_text.proofs.json.JsonText.scan.Goals as goal

pub returns-clause-accepts : goal.returns-clause-accepts
returns-clause-accepts c = accepted c.args.text.now c.scanned.result c.scanned.ensures.refused

pub returns-clause-syntax : goal.returns-clause-syntax
returns-clause-syntax c = λ at. syntax_only c.args.text.now c.scanned.result at c.scanned.ensures.json c.scanned.ensures.refused

pub returns-clause-depth : goal.returns-clause-depth
returns-clause-depth c = λ at. depth_only c.args.text.now c.scanned.result at c.scanned.ensures.json c.scanned.ensures.refused

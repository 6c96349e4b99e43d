use Rattle.std.proofs.Common.{rules}
use Rattle.json_text.proofs.Marks.{plain_reads}
use Rattle.json_text.proofs.unescape.read.Goals as goal

pub returns-then-plain_end-raw : goal.returns-then-plain_end-raw
returns-then-plain_end-raw c =
    plain_reads c.args.raw.now c.as_bytes.result.now _ c.as_bytes.ensures.value (search rules) c.plain_end.ensures.plain

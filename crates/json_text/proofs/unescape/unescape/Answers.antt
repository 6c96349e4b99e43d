use Rattle.std.proofs.Common.{rules, string_bytes, drop, length, subst, sym, ◌≤◌}
use Rattle.json_text.specs.Unescaping.{HasMarks}
use Rattle.json_text.proofs.Marks.{escape_on, passes_all, plain_on, starts}
use Rattle.json_text.proofs.unescape.unescape.Goals as goal

pub loop-from-init : goal.loop-from-init
loop-from-init c = starts c.args.raw.now _ c.utf8.raw c.requires c.new-text.ensures.bytes

pub escape_at-escape-requires-clause-marks : goal.escape_at-escape-requires-clause-marks
escape_at-escape-requires-clause-marks c =
    let raw = c.args.raw.now in
    let bytes = c.as_bytes-bytes.result.now in
    let to = c.plain_end-to in
    let mid = plain_on raw bytes c.loop-from.from to.result (string_bytes c.loop-from.text) (string_bytes c.push_str.new.self) c.as_bytes-bytes.ensures.value c.loop-from.invariant to.ensures.after to.ensures.within to.ensures.plain to.ensures.backslash (search rules) in
    subst (λ z. HasMarks (drop to.result z)) (sym c.as_bytes-bytes.ensures.value) mid.marks

pub loop-from-preserved-then-to-bytes : goal.loop-from-preserved-then-to-bytes
loop-from-preserved-then-to-bytes c =
    let raw = c.args.raw.now in
    let bytes = c.as_bytes-bytes.result.now in
    let to = c.plain_end-to in
    let mid = plain_on raw bytes c.loop-from.from to.result (string_bytes c.loop-from.text) (string_bytes c.push_str.new.self) c.as_bytes-bytes.ensures.value c.loop-from.invariant to.ensures.after to.ensures.within to.ensures.plain to.ensures.backslash (search rules) in
    let escape = c.escape_at-escape in
    escape_on raw bytes to.result escape.result.end (string_bytes c.push_str.new.self) _ (string_bytes c.push.new.self) c.utf8.raw c.as_bytes-bytes.ensures.value mid escape.ensures.after escape.ensures.end escape.ensures.passes escape.ensures.ascii c.in_ok-push.ensures.bytes

pub loop-from-preserved : goal.loop-from-preserved
loop-from-preserved c =
    let to = c.plain_end-to in
    plain_on c.args.raw.now c.as_bytes-bytes.result.now c.loop-from.from to.result (string_bytes c.loop-from.text) (string_bytes c.push_str.new.self) c.as_bytes-bytes.ensures.value c.loop-from.invariant to.ensures.after to.ensures.within to.ensures.plain to.ensures.backslash (search rules)

pub returns : goal.returns
returns c =
    let short : length c.args.raw.now ≤ c.loop-from.from = subst (λ z. length z ≤ c.loop-from.from) c.as_bytes-bytes.ensures.value c.loop-from-test.false in
    passes_all c.args.raw.now c.loop-from.from _ short c.loop-from.invariant.passes

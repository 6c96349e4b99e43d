use Rattle.std.proofs.Common.{refl, sym, arith, length, map, ◌≤◌}
use Rattle.json_text.proofs.Rows.{change_behind, close_frame, close_none, length_map, write_row}
use Rattle.json_text.specs.Progress.{shape_of}
use Rattle.json_text.proofs.scanner.Scanner.close.Goals as goal

pub returns-then-node-len-clause-notes : goal.returns-then-node-len-clause-notes
returns-then-node-len-clause-notes c =
    let rows = c.args.self.now.rows in
    close_frame rows.items _ _ _ c.in-Some.frame _ _ _ c.in-Some.ensures.items (omega (arith, c.len-next.ensures, rows.ok.0))
    (write_row (λ s. record s { next = c.len-next.result }) rows.items _ _ c.index_mut.result.now (omega (arith, c.if-node-len.true, c.len.ensures, rows.ok.0)) c.index_mut.ensures.value refl)

pub returns-else-node-len-clause-notes : goal.returns-else-node-len-clause-notes
returns-else-node-len-clause-notes c =
    let rows = c.args.self.now.rows in
    let behind : length (map shape_of rows.items) ≤ c.in-Some.frame.node = omega (arith, length_map shape_of rows.items, c.if-node-len.false, c.len.ensures, rows.ok.0) in
    close_frame rows.items _ _ _ c.in-Some.frame c.len-next.result _ _ c.in-Some.ensures.items (omega (arith, c.len-next.ensures, rows.ok.0))
    (sym (change_behind (λ s. record s { next = c.len-next.result }) _ _ behind))

pub returns-in_default-clause-notes : goal.returns-in_default-clause-notes
returns-in_default-clause-notes c =
    let cases = c.in_default.ensures.cases in
    close_none _ c.args.self.now.frames.items c.pop.new.self.items _ _ (omega (arith, cases.0, c.args.self.now.frames.ok.0)) (omega (arith, cases.1, c.pop.new.self.ok.0))

use Rattle.std.proofs.Common.{◌≡◌, length, ap, arith}
use Rattle.json_text.specs.Machine.{stack_of}
use Rattle.json_text.specs.Progress.{machine_of, stack_in}
use Rattle.json_text.specs.Recording.{settled}
use Rattle.json_text.proofs.Settled.{err_by, frames_fit, has_read, ok_by, read_refused, settled_fits}
use Rattle.json_text.proofs.scanner.Scanner.read.Goals as goal

pub apply-requires-clause-fits : goal.apply-requires-clause-fits
apply-requires-clause-fits c =
    let old = c.args.self.now in
    let mid = c.settle.new.self in
    let same : length (stack_of (machine_of mid)) ≡ length (stack_of (settled (machine_of old) c.args.byte)) = ap (λ q. length (stack_of q)) c.in_ok-settle.ensures.state in
    omega (arith, c.requires.fits, frames_fit mid, mid.frames.ok.0, same, settled_fits (machine_of old) c.args.byte)

pub returns-clause-ok : goal.returns-clause-ok
returns-clause-ok c =
    let old = c.args.self.now in
    let mid = c.settle.new.self in
    ok_by _
    (has_read old mid _ _ _ _ c.in_ok-settle.ensures.state c.in_ok-settle.ensures.notes (omega (arith, c.in_ok-settle.ensures.rows, mid.rows.ok.0, old.rows.ok.0)) (c.move_of.ensures (stack_in mid.frames.items) c.innermost-innermost.ensures))
    c.apply.ensures.ok

pub returns-clause-refused : goal.returns-clause-refused
returns-clause-refused c =
    let old = c.args.self.now in
    let mid = c.settle.new.self in
    err_by _
    (read_refused old mid _ _ _ c.in_ok-settle.ensures.state (c.move_of.ensures (stack_in mid.frames.items) c.innermost-innermost.ensures))
    c.apply.ensures.refused

use Rattle.std.proofs.Common.{refl, ap, arith}
use Rattle.json_text.proofs.Rows.{write_last}
use Rattle.json_text.specs.Progress.{numbers_in}
use Rattle.json_text.proofs.scanner.Scanner.end_value.Goals as goal

pub returns-then-count-gt0-clause-notes : goal.returns-then-count-gt0-clause-notes
returns-then-count-gt0-clause-notes c =
    let s = c.args.self.now in
    ap (λ z. record { shapes = z; opened = numbers_in s.frames.items; name_from = s.name_from; name_to = s.name_to })
    (write_last (λ z. record z { end = c.args.end }) s.rows.items _ _ c.index_mut.result.now (omega (arith, c.len-count.ensures, s.rows.ok.0)) c.if-count-gt0.true c.index_mut.ensures.value refl)

use Rattle.std.proofs.Common.{List, ℕ, ◌++◌, sym, ap, ◌∙◌}
use Rattle.std.proofs.lemmas.List.{append-nil}
use Rattle.field_text.proofs.EscapeLemmas.{escape-encoded}
use Rattle.field_text.proofs.escape.escape_id.Goals as goal

pub returns-clause-ok : goal.returns-clause-ok
returns-clause-ok c =
    let into = c.loop-piece.into in
    let id = c.args.id.now in
    sym (append-nil into)
    ∙ ap (λ (rest : List ℕ). into ++ rest) (sym c.in-None.ensures.steps)
    ∙ c.loop-piece.invariant.appended
    ∙ ap (λ (rest : List ℕ). c.args.into.now ++ rest) (sym (escape-encoded id c.utf8.id))

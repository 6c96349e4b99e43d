use Rattle.std.proofs.Common.{◌≡◌, ℕ, List, ◌++◌, Option, Some, None, Err, refl, sym, ap, ◌∙◌}
use Rattle.bound_cert.proofs.LineLaws.{id_word}
use Rattle.field_text.specs.Escapes.{IsNoEscape}
use Rattle.query_io.specs.Lines.{id_in}
use Rattle.bound_cert.proofs.last_words.id_of.Goals as goal

-- a text that is no escape tells no id
no_id : (text : List ℕ) → IsNoEscape text → None ≡ id_in text
no_id text none = by (id_in text) refl
  where
    by : (o : Option (List ℕ)) → id_in text ≡ o → None ≡ id_in text
    by None is = sym is
    by (Some id) is = let read = id_word.sound text id is in absurd (none id (read.0.0, read.0.1, read.1))

pub returns-in-Ok : goal.returns-in-Ok
returns-in-Ok c =
    let read = c.in-Ok.ensures.ok in
    let id = read.id in
    ap (λ (z : List ℕ). Some z) (read.appended ∙ ap (λ (z : List ℕ). z ++ id) c.new-id.ensures)
    ∙ sym (id_word.complete id (read.escaped.0, read.escaped.1)) ∙ ap id_in (sym read.escaped.2)

pub returns-in-Err-BadEscape : goal.returns-in-Err-BadEscape
returns-in-Err-BadEscape c =
    no_id c.args.text.now (c.unescape_id.ensures.bad (c.in-Err-BadEscape.is ∙ ap (λ e. Err e) c.in-Err-BadEscape.field-0-is))

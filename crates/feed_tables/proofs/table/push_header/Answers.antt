use Rattle.std.proofs.Common.{◌≡◌, ◌∙◌, ◌++◌, sym, ap, inr, [], List, filter}
use Rattle.std.proofs.lemmas.List.{length-map}
use Rattle.csv.specs.Records.{fields_of}
use Rattle.feed_tables.specs.Fields.{trimmed}
use Rattle.feed_tables.specs.Refusals.{has_duplicate, is_given}
use Rattle.feed_tables.proofs.TableFacts.{refusal-duplicate, refusal-header}
use Rattle.feed_tables.proofs.table.push_header.Goals as goal

-- what the pool holds after the header's fields
only : {A : Type 0} (new old xs : List A) → new ≡ old ++ xs → old ≡ [] → new ≡ xs
only new old xs e none = rw none at e

pub returns-then-twice-clause-refused : goal.returns-then-twice-clause-refused
returns-then-twice-clause-refused c =
    let pool = only _ _ _ c.in_ok-push_fields.ensures.fields c.requires.pool in
    inr (refusal-duplicate _ _ c.in_ok-push_fields.ensures.text
    (ap (λ xs. has_duplicate (filter is_given xs)) (sym pool) ∙ sym c.in_ok-twice.ensures ∙ c.if-twice.true))

pub returns-clause-sound : goal.returns-clause-sound
returns-clause-sound c =
    let pool = only _ _ _ c.in_ok-push_fields.ensures.fields c.requires.pool in
    refusal-header _ _ (sym (length-map (fields_of c.args.raw.now) trimmed)) c.in_ok-push_fields.ensures.text
    (ap (λ xs. has_duplicate (filter is_given xs)) (sym pool) ∙ sym c.in_ok-twice.ensures ∙ c.if-twice.false)

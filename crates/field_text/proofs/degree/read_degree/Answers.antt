use Rattle.std.proofs.Common.{◌≡◌, ◌∙◌, ap, arith, pos, sym}
use Rattle.std.proofs.lemmas.Int.{ints}
use Rattle.field_text.specs.Grammars.{degree_within}
use Rattle.field_text.proofs.NumeralLemmas.{bound_if_read}
use Rattle.field_text.proofs.degree.read_degree.Goals as goal

pub returns-clause-bound : goal.returns-clause-bound
returns-clause-bound c =
    let same : pos c.in-Ok.greatest ≡ c.args.greatest = grind (arith, ints, c.in-Ok.ensures) in
    bound_if_read c.args.greatest c.args.text.now c.ok_or.result
    (sym c.ok_or.ensures.ok_part ∙ c.degree_of.ensures ∙ ap (degree_within (pos c.in-Ok.greatest)) c.as_bytes.ensures.value ∙ ap (λ n. degree_within n c.args.text.now) same)

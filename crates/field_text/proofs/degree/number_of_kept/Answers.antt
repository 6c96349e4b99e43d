use Rattle.std.proofs.Common.{◌∙◌, ◌*◌, ◌-◌, ◌^◌, ap, nat_le, take}
use Rattle.field_text.specs.Grammars.{number_after, some_if}
use Rattle.field_text.proofs.DegreeLemmas.{kept_value, none_by_fraction, none_by_whole}
use Rattle.field_text.proofs.NumberLemmas.{some_if-passed}
use Rattle.field_text.proofs.degree.number_of_kept.Goals as goal

pub returns-in_err-number : goal.returns-in_err-number
returns-in_err-number c =
    c.from_residual.ensures
    ∙ none_by_whole c.args.whole.now c.args.fraction.now c.args.kept c.min-of_whole.result c.min-of_fraction.result c.args.greatest c.min-of_whole.ensures c.min-of_fraction.ensures c.in_err-number.ensures

pub returns-in_err-number-2 : goal.returns-in_err-number-2
returns-in_err-number-2 c =
    let first = (some_if-passed _ _ _ c.in_ok-number.ensures).1 in
    let none = c.in_err-number-2.ensures in
    c.from_residual-in_err-number-2.ensures
    ∙ none_by_fraction c.args.whole.now c.args.fraction.now c.args.kept c.min-of_whole.result c.min-of_fraction.result c.args.greatest c.min-of_whole.ensures c.min-of_fraction.ensures
    (none ∙ ap (λ n. let all = number_after n (take c.min-of_fraction.result c.args.fraction.now) in some_if (nat_le all c.args.greatest) all) first)

pub returns : goal.returns
returns c =
    let first = (some_if-passed _ _ _ c.in_ok-number.ensures).1 in
    let second = (some_if-passed _ _ _ c.in_ok-number-2.ensures).1 in
    let value = kept_value c.args.whole.now c.args.fraction.now c.args.kept c.min-of_whole.result c.min-of_fraction.result c.min-of_whole.ensures c.min-of_fraction.ensures in
    c.with_zeros.ensures
    ∙ ap (λ n. some_if (nat_le n c.args.greatest) n)
    (ap (λ n. n * 10 ^ (c.args.kept - c.min-of_whole.result - c.min-of_fraction.result)) (second ∙ ap (λ n. number_after n (take c.min-of_fraction.result c.args.fraction.now)) first) ∙ value)

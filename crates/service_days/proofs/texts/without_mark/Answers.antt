-- The mark is one character of three bytes.
use Rattle.std.proofs.Common.{◌∙◌, ◌∷◌, ap, sym}
use Rattle.service_days.proofs.TextTrims.{mark-goes, no-mark-stays}
use Rattle.service_days.proofs.texts.without_mark.Goals as goal

pub returns-in-Some : goal.returns-in-Some
unfolding lib.Utf8.encode
returns-in-Some c =
    let strips = c.in-Some.ensures.cases in
    mark-goes c.args.text.now c.in-Some.rest.now (strips.1.split ∙ ap (λ r. 239 ∷ 187 ∷ 191 ∷ r) (sym strips.2))

pub returns-in-None : goal.returns-in-None
unfolding lib.Utf8.encode
returns-in-None c = no-mark-stays c.args.text.now c.in-None.ensures.cases

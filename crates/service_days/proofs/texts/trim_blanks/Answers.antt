use Rattle.service_days.proofs.TextTrims.{leading-between}
use Rattle.service_days.proofs.texts.trim_blanks.Goals as goal

pub range_from-rest-requires : goal.range_from-rest-requires
range_from-rest-requires c =
    let bytes = c.as_bytes.ensures.value in
    let bound = rw bytes at c.leading_blanks-start.ensures.bound in
    let blank = rw bytes at c.leading_blanks-start.ensures.blank in
    λ _. leading-between c.args.text.now c.leading_blanks-start.result c.utf8.text bound blank

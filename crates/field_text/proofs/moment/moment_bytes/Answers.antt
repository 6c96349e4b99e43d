use Rattle.std.proofs.Common.{◌≡◌, ◌∙◌, ap, arith, pos, to_z, of_z, w64, unsigned_abs}
use Rattle.std.specs.Int.{int_div_euclid, int_rem_euclid}
use Rattle.std.proofs.lemmas.Int.{to_z-of_z}
use Rattle.jiff_core.proofs.SignedLemmas.{signed_arith}
use Rattle.field_text.specs.Texts.{clock_text, last_digits}
use Rattle.field_text.proofs.TextLemmas.{moment_bytes_are}
use Rattle.field_text.proofs.moment.moment_bytes.Goals as goal

pub returns : goal.returns
returns c =
    let passed = to_z-of_z w64 c.args.moment c.ranges.moment in
    let day : c.div_euclid.result ≡ int_div_euclid c.args.moment (pos 86400) = c.div_euclid.ensures ∙ ap (λ m. int_div_euclid m (pos 86400)) passed in
    let second : c.rem_euclid.result ≡ int_rem_euclid c.args.moment (pos 86400) = c.rem_euclid.ensures.value ∙ ap (λ m. int_rem_euclid m (pos 86400)) passed in
    let parts = c.civil_parts-year.ensures in
    let day_back : to_z w64 (of_z w64 c.div_euclid.result) ≡ int_div_euclid c.args.moment (pos 86400) = omega (arith, signed_arith) in
    let second_back : unsigned_abs (to_z w64 (of_z w64 c.rem_euclid.result)) ≡ unsigned_abs (int_rem_euclid c.args.moment (pos 86400)) = omega (arith, signed_arith) in
    moment_bytes_are c.args.moment _ c.four_digits.result c.two_digits.result c.two_digits-2.result c.clock_bytes-clock.result day_back
    (c.four_digits.ensures ∙ ap (last_digits 4) parts.year)
    (c.two_digits.ensures ∙ ap (last_digits 2) parts.month)
    (c.two_digits-2.ensures ∙ ap (last_digits 2) parts.day)
    (c.clock_bytes-clock.ensures ∙ ap clock_text second_back)

use mir.Syntax.{w64}
use Rattle.std.proofs.Common.{◌≡◌, ap, of_z, rules, subst, sym, to_z, ◌∙◌}
use Rattle.bound_cert.specs.CertText.{part_text}
use Rattle.bound_cert.specs.Parts.{IsFoundPart}
use Rattle.service_days.specs.Bases.{table_of}
use Rattle.std.proofs.lemmas.Int.{to_z-of_z}
use Rattle.journey_rebuild.proofs.PrintedParts.{found_printable}
use Rattle.flexplan.proofs.printout.part.Goals as goal

pub find_part-requires-clause-of_query : goal.find_part-requires-clause-of_query
find_part-requires-clause-of_query c =
    c.in_ok-days.ensures.of_query c.args.query.now (sym (to_z-of_z w64 c.args.query.now.depart (search rules)))

pub write_part-requires : goal.write_part-requires
write_part-requires c =
    found_printable c.args.input.now.feed c.args.input.now.times c.in_ok-days.days c.args.query.now c.in_ok-part.part c.requires.input.feed c.requires.input.times c.in_ok-days.ensures.sound c.requires.query c.in_ok-part.ensures.countable c.in_ok-part.ensures.found

pub returns : goal.returns
returns c =
    let feed = c.args.input.now.feed in
    let times = c.args.input.now.times in
    let query = c.args.query.now in
    let part = c.in_ok-part.part in
    let depart : to_z w64 (of_z w64 query.depart) ≡ query.depart = to_z-of_z w64 query.depart (search rules) in
    let days = c.in_ok-days.ensures.table ∙ ap (table_of c.args.input.now.zone) depart in
    let printable = found_printable feed times c.in_ok-days.days query part c.requires.input.feed c.requires.input.times c.in_ok-days.ensures.sound c.requires.query c.in_ok-part.ensures.countable c.in_ok-part.ensures.found in
    let text : c.write_part.new.into ≡ part_text feed times part = search rules in
    (part, subst (λ these. IsFoundPart feed times these query part) days c.in_ok-part.ensures.found, printable, c.look_at_part.ensures, text)

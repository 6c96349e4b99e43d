-- The pattern is new.
use Rattle.std.proofs.Common.{◌+◌, if◌then◌else◌, is_some, sym, ◌∙◌, ap}
use Rattle.std.specs.BTreeMap.{btree_map_len}
use Rattle.std.specs.Option.{option_copied}
use Rattle.fixed_trips.proofs.PatternNumbers.{added}
use Rattle.fixed_trips.proofs.numbering.number_calls.Goals as goal

pub returns : goal.returns
returns c =
    let absent = sym c.get.ensures.value ∙ ap option_copied c.in_default.is in
    added c.args.met.now c.insert.new.self c.args.calls c.len-number.result c.len-number.ensures.len absent
    c.in_ok-insert.ensures.entries c.in_ok-insert.ensures.updates.1
    (c.in_ok-insert.ensures.len ∙ ap (λ o. btree_map_len c.args.met.now + (if is_some o then 0 else 1)) (c.in_ok-insert.ensures.old ∙ absent))

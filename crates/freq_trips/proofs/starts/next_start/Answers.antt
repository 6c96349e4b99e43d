use Rattle.std.proofs.Common.{◌<◌, get_or, length, sym, ◌∙◌, subst, take}
use Rattle.std.proofs.lemmas.List.{take_all}
use Rattle.flex_model.specs.declared.trip.Repeat.{Repeat}
use Rattle.freq_trips.specs.Starts.{IsLeastFrom}
use Rattle.freq_trips.proofs.NextStarts.{IsStartAmong, none_yet, one_more}
use Rattle.freq_trips.proofs.starts.next_start.Goals as goal

-- what indexing past the end would give
abbrev no_repeat : Repeat
no_repeat = record { first = 0; end = 0; headway = 0 }

pub loop-repeat-init : goal.loop-repeat-init
loop-repeat-init c = none_yet c.args.least

pub next_of-requires : goal.next_of-requires
next_of-requires c =
    let repeats = c.as_slice-repeat-items.result.now in
    let within : c.loop-repeat.repeat-index < length c.args.trip.now.repeats = subst (λ these. c.loop-repeat.repeat-index < length these) c.as_slice-repeat-items.ensures c.loop-repeat-test.true in
    let sound = c.requires c.loop-repeat.repeat-index no_repeat within in
    subst (λ these. 0 < (get_or these c.loop-repeat.repeat-index no_repeat).headway) (sym c.as_slice-repeat-items.ensures) sound.some_headway

pub loop-repeat-preserved : goal.loop-repeat-preserved
loop-repeat-preserved c =
    let repeats = c.as_slice-repeat-items.result.now in
    subst (IsLeastFrom (IsStartAmong (take _ repeats)) c.args.least) (sym c.sooner-next.ensures)
    (one_more repeats c.loop-repeat.repeat-index c.args.least no_repeat c.loop-repeat.next c.next_of.result c.loop-repeat-test.true c.loop-repeat.invariant c.next_of.ensures)

pub returns : goal.returns
returns c =
    let repeats = c.as_slice-repeat-items.result.now in
    let all = take_all c.loop-repeat.repeat-index repeats c.loop-repeat-test.false ∙ c.as_slice-repeat-items.ensures in
    subst (λ these. IsLeastFrom (IsStartAmong these) c.args.least c.loop-repeat.next) all c.loop-repeat.invariant

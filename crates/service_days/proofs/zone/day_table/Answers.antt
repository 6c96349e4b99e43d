-- The loop takes one base after the other from the zone, from the index of the table's first day on.
use Rattle.std.proofs.Common.{◌≡◌, ℕ, ◌+◌, ◌-◌, ◌<◌, ◌≤◌, pos, ◌∷◌, ◌++◌, [], sym, ap, ◌∙◌, subst, to_z, w32, w64, arith}
use Rattle.std.proofs.lemmas.Int.{ints, to_z-of_z}
use Rattle.flex_model.specs.declared.moment.DayTable.{DayTable}
use Rattle.flex_model.specs.SoundQuery.{IsDayTableOf, IsSoundDayTable}
use Rattle.service_days.specs.Bases.{IsZone, first_day, table_first, table_of}
use Rattle.service_days.proofs.ZoneTables.{one_more, table_is_of_query, table_is_sound, table_made}
use Rattle.service_days.proofs.zone.day_table.Goals as goal

same_number : (n : ℕ) → n < 100000 → to_z w32 n ≡ pos n
same_number n lt = omega (arith, ints)

pub loop-index-preserved : goal.loop-index-preserved
loop-index-preserved c =
    let start = c.first_of-first.result - 5785 in
    let index = c.loop-index.index in
    let zone = c.args.zone.now in
    let value = to_z-of_z w64 c.base_at.result (record { sfits = c.base_at.type_inv }) in
    c.in_ok-push.ensures.ok ∙ ap (λ base. c.loop-index.base ++ base ∷ []) value ∙ ap (λ bases. bases ++ c.base_at.result ∷ []) c.loop-index.invariant
    ∙ sym (one_more zone start index c.base_at.result c.loop-index.auto.index c.base_at.ensures)

table : (c : goal.After-loop-index) → (let made : DayTable = record { first = to_z w32 c.first_of-first.result; base = c.loop-index.base } in made) ≡ table_of c.args.zone.now c.args.depart
table c =
    let first = c.first_of-first.result in
    let start = first - 5785 in
    let low : first_day ≤ first = c.first_of-first.ensures.low in
    let high : first + 1526 ≤ first_day + 78226 = c.first_of-first.ensures.high in
    let end : c.loop-index.index ≤ start + 1526 = c.loop-index.auto.index-end (omega arith) in
    table_made c.args.zone.now c.loop-index.base c.args.depart (to_z w32 first) first start c.loop-index.index
    (c.first_of-first.ensures.day ∙ ap table_first (to_z-of_z w64 c.args.depart c.ranges.depart)) (same_number first (omega (arith, high))) low
    (omega arith) c.loop-index.invariant (omega (arith, end, c.loop-index-test.false))

pub returns-clause-table : goal.returns-clause-table
returns-clause-table c = table c

pub returns-clause-of_query : goal.returns-clause-of_query
returns-clause-of_query c query same =
    subst (IsDayTableOf query) (ap (table_of c.args.zone.now) same ∙ sym (table c)) (table_is_of_query c.args.zone.now query)

pub returns-clause-sound : goal.returns-clause-sound
returns-clause-sound c =
    let zone = subst IsZone c.zone.view_is c.zone.invariant in
    subst IsSoundDayTable (sym (table c)) (table_is_sound c.args.zone.now c.args.depart zone c.requires)

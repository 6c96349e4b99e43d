use Rattle.std.proofs.Common.{◌≡◌, ◌∙◌, ◌++◌, [], ap, map, refl}
use Rattle.std.specs.Option.{option_map_or}
use Rattle.flex_model.specs.declared.fault.InputFile.TheVariants as Files
use Rattle.feed_tables.specs.Fields.{value_at}
use Rattle.feed_tables.specs.Records.{header_of}
use Rattle.feed_meaning.specs.FeedRules as FeedRules
use Rattle.feed_meaning.specs.Tables.{entry_of, faults_at, values_of, with_earlier_from}
use Rattle.feed_meaning.proofs.Passes.{pass_more}
use Rattle.feed_rules.proofs.FirstZones.{differs_seen, first_more, zones}
use Rattle.feed_rules.proofs.agency.agency_faults.Goals as goal

pub loop-row-init : goal.loop-row-init
unfolding with_earlier_from
loop-row-init c = record { faults = c.new-faults.ensures; first = refl }

pub loop-row-preserved : goal.loop-row-preserved
loop-row-preserved c =
    let header = header_of c.args.table.now in
    let seen = c.loop-row.yielded in
    let row = c.in-Some.row in
    let earlier = map (λ x. x.values) (map (entry_of header) seen) in
    let zone : c.value-zone.result.now ≡ values_of header row.fields "agency_timezone" = c.value-zone.ensures ∙ ap (λ o. option_map_or (value_at row.fields) o []) c.column-agency_timezone.ensures in
    record {
      faults = pass_more Files.Agency FeedRules.agency_rules header seen row c.loop-row.faults c.add_faults.new.faults c.agency_rules-rules.result c.loop-row.invariant.faults
          (c.in_ok-add_faults.ensures ∙ ap (λ n. c.loop-row.faults ++ faults_at Files.Agency n c.agency_rules-rules.result) c.number.ensures)
          (c.agency_rules-rules.ensures earlier (values_of header row.fields) zone
          (differs_seen c.loop-row.first c.value-zone.result.now earlier (values_of header row.fields) c.differs.result c.loop-row.invariant.first zone c.differs.ensures));
      first = ap zones c.or-first.ensures ∙ first_more header seen row c.loop-row.first c.value-zone.result zone c.loop-row.invariant.first;
    }

use Rattle.std.proofs.Common.{◌∷◌, ◌++◌, ◌∙◌, [], not, ap}
use Rattle.std.proofs.lemmas.List.{take_all}
use Rattle.std.specs.List.{list_any}
use Rattle.std.specs.Str.{bytes_eq}
use Rattle.flex_model.specs.declared.fault.InputFile.TheVariants.{Locations}
use Rattle.feed_meaning.specs.Tables.{faults_at, with_earlier_from}
use Rattle.feed_meaning.proofs.IdFacts.{not-not}
use Rattle.feed_rules.proofs.ZoneIds.{met_more, repeats, repeats_more}
use Rattle.feed_rules.proofs.zones.repeated_ids.Goals as goal

pub loop-zone-init : goal.loop-zone-init
unfolding with_earlier_from
loop-zone-init c = record {
  faults = c.new-faults.ensures;
  met = λ q. ap (list_any (λ k. bytes_eq q k.now)) c.new-met.ensures.empty;
}

pub loop-zone-preserved : goal.loop-zone-preserved
loop-zone-preserved c =
    let zones = c.as_slice-zone-items.result.now in
    let at = c.loop-zone.zone-index in
    let zone = c.zone-item.result in
    let low = c.loop-zone-test.true in
    record {
      faults = repeats_more zones at zone low c.zone-item.is c.loop-zone.met.keys c.as_str.result.now c.loop-zone.faults c.add_faults.new.faults _ c.loop-zone.invariant.met c.as_str.ensures.bytes
          (ap not c.in_ok-is_new.ensures.added ∙ not-not _) c.loop-zone.invariant.faults
          (c.in_ok-add_faults.ensures ∙ ap (λ r. c.loop-zone.faults ++ faults_at Locations zone.line (r ∷ [])) c.rule.ensures);
      met = met_more zones at zone low c.zone-item.is c.loop-zone.met.keys c.insert.new.self.keys c.as_str.result c.loop-zone.invariant.met c.as_str.ensures.bytes c.in_ok-is_new.ensures.keys;
    }

pub returns : goal.returns
returns c =
    c.loop-zone.invariant.faults ∙ ap repeats (take_all c.loop-zone.zone-index c.as_slice-zone-items.result.now c.loop-zone-test.false ∙ c.as_slice-zone-items.ensures)

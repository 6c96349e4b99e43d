use Rattle.std.proofs.Common.{◌∙◌, ◌∷◌, ◌++◌, ◌<◌, ◌^◌, [], Err, ap, arith, length, length-append, map, rules, suc, subst, sym}
use Rattle.std.proofs.lemmas.List.{map-append}
use Rattle.std.proofs.lemmas.Result.{err_from_is_err_and}
use Rattle.std.specs.List.{flat_map}
use Rattle.feed_meaning.specs.Locations.{feature_checks, feature_of}
use Rattle.geo_json.specs.Steps.{AreRead}
use Rattle.geo_json.specs.Zones.{feature_in}
use Rattle.geo_json.proofs.Firsts.{told_err}
use Rattle.geo_json.proofs.ReadOn.{next_above, next_read, next_there, one_more, stopped}
use Rattle.geo_json.proofs.zones.read_each.Goals as goal

pub read_feature-requires : goal.read_feature-requires
read_feature-requires c =
    let there = c.loop-feature.invariant.there in
    (next_there c.args.json.now c.loop-feature.feature-iterator c.in-Some.feature c.next.new.self (there.0, there.1) c.in-Some.ensures.steps).0

pub returns-in_err-zone-clause-faults : goal.returns-in_err-zone-clause-faults
returns-in_err-zone-clause-faults c = λ j of.
    let p = err_from_is_err_and c.from_residual.result c.from_residual.ensures.1 in
    told_err (flat_map (feature_checks j) (j.items c.args.array)) c.from_residual.result c.in_err-zone.field-0.0 (p.1 ∙ ap Err p.2)
    (stopped (feature_checks j) (feature_of c.args.text.now j) c.loop-feature.yielded (j.items c.args.array) c.loop-feature.feature-iterator c.next.new.self (map feature_in c.loop-feature.zones)
    c.in-Some.feature c.in_err-zone.field-0.0 (c.loop-feature.invariant.read j of) (c.loop-feature.invariant.items j of) c.in-Some.ensures.steps (c.in_err-zone.ensures.faults j of))

pub loop-feature-preserved : goal.loop-feature-preserved
loop-feature-preserved c =
    let there = c.loop-feature.invariant.there in
    let node = c.in-Some.feature in
    let zones = c.loop-feature.zones in
    let zone = c.in_ok-zone.zone in
    let above = next_above c.args.json.now there.0 c.loop-feature.feature-iterator node c.next.new.self there.1 c.in-Some.ensures.steps in
    let fits : node < 2 ^ 32 = search rules in
    let count = ap length c.in_ok-push.ensures.ok ∙ length-append zones (zone ∷ []) in
    record {
      there = (
        suc node,
        (next_there c.args.json.now c.loop-feature.feature-iterator node c.next.new.self (there.0, there.1) c.in-Some.ensures.steps).1,
        omega (arith, above, count, there.2),
        omega (arith, fits),
      );
      text = c.in_ok-zone.ensures.same ∙ c.loop-feature.invariant.text;
      items = λ j of. next_read (j.items c.args.array) c.loop-feature.yielded c.loop-feature.feature-iterator node c.next.new.self (c.loop-feature.invariant.items j of) c.in-Some.ensures.steps;
      read = λ j of.
          subst (AreRead (feature_checks j) (feature_of c.args.text.now j) (c.loop-feature.yielded ++ node ∷ [])) (sym (ap (map feature_in) c.in_ok-push.ensures.ok ∙ map-append feature_in zones (zone ∷ [])))
          (one_more (feature_checks j) (feature_of c.args.text.now j) c.loop-feature.yielded (map feature_in zones) node (feature_in zone) (c.loop-feature.invariant.read j of)
          (c.in_ok-zone.ensures.faults j of) (c.in_ok-zone.ensures.value j of ∙ ap (λ t. feature_of t j node) c.loop-feature.invariant.text));
    }

use Rattle.std.proofs.Common.{◌∙◌, ap, sym}
use Rattle.std.proofs.lemmas.Bool.{false≢true}
use Rattle.geo_json.specs.Scans.{is_object_value}
use Rattle.geo_json.specs.There.{is_value}
use Rattle.geo_json.proofs.Told.{is_object_kind, narrowed, not_object, object_kind, told}
use Rattle.geo_json.proofs.values.is_object.Goals as goal

pub returns-in-Object-clause-value : goal.returns-in-Object-clause-value
returns-in-Object-clause-value c = λ j of.
    sym (ap is_object_kind c.in-Object.is)
    ∙ told c.args.json.now is_value c.args.node c.requires is_object_value is_object_kind c.kind.result object_kind c.kind.ensures of.tree of.spelled ∙ ap (λ z. z.is_object c.args.node) (sym of.values)

pub returns-in-Object-clause-object : goal.returns-in-Object-clause-object
returns-in-Object-clause-object c = λ holds.
    narrowed c.args.json.now is_value c.args.node c.requires is_object_value is_object_kind c.kind.result object_kind c.kind.ensures (ap is_object_kind c.in-Object.is)

pub returns-in_default : goal.returns-in_default
returns-in_default c = record {
  value = λ j of.
      not_object c.kind.result c.in_default.not-Object
      ∙ told c.args.json.now is_value c.args.node c.requires is_object_value is_object_kind c.kind.result object_kind c.kind.ensures of.tree of.spelled ∙ ap (λ z. z.is_object c.args.node) (sym of.values);
  object = λ holds. absurd (false≢true holds);
}

use Rattle.std.proofs.Common.{◌∙◌, ap, sym}
use Rattle.std.proofs.lemmas.Bool.{false≢true}
use Rattle.geo_json.specs.Scans.{is_array_value}
use Rattle.geo_json.specs.There.{is_value}
use Rattle.geo_json.proofs.Told.{is_array_kind, narrowed, not_array, array_kind, told}
use Rattle.geo_json.proofs.values.is_array.Goals as goal

pub returns-in-Array-clause-value : goal.returns-in-Array-clause-value
returns-in-Array-clause-value c = λ j of.
    sym (ap is_array_kind c.in-Array.is)
    ∙ told c.args.json.now is_value c.args.node c.requires is_array_value is_array_kind c.kind.result array_kind c.kind.ensures of.tree of.spelled ∙ ap (λ z. z.is_array c.args.node) (sym of.values)

pub returns-in-Array-clause-array : goal.returns-in-Array-clause-array
returns-in-Array-clause-array c = λ holds.
    narrowed c.args.json.now is_value c.args.node c.requires is_array_value is_array_kind c.kind.result array_kind c.kind.ensures (ap is_array_kind c.in-Array.is)

pub returns-in_default : goal.returns-in_default
returns-in_default c = record {
  value = λ j of.
      not_array c.kind.result c.in_default.not-Array
      ∙ told c.args.json.now is_value c.args.node c.requires is_array_value is_array_kind c.kind.result array_kind c.kind.ensures of.tree of.spelled ∙ ap (λ z. z.is_array c.args.node) (sym of.values);
  array = λ holds. absurd (false≢true holds);
}

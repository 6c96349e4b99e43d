use Rattle.std.proofs.Common.{◌∙◌, ap, sym}
use Rattle.std.proofs.lemmas.Bool.{false≢true}
use Rattle.geo_json.specs.Scans.{is_number_value}
use Rattle.geo_json.specs.There.{is_value}
use Rattle.geo_json.proofs.Told.{is_number_kind, narrowed, not_number, number_kind, told}
use Rattle.geo_json.proofs.values.is_number.Goals as goal

pub returns-in-Number-clause-value : goal.returns-in-Number-clause-value
returns-in-Number-clause-value c = λ j of.
    sym (ap is_number_kind c.in-Number.is)
    ∙ told c.args.json.now is_value c.args.node c.requires is_number_value is_number_kind c.kind.result number_kind c.kind.ensures of.tree of.spelled ∙ ap (λ z. z.is_number c.args.node) (sym of.values)

pub returns-in-Number-clause-number : goal.returns-in-Number-clause-number
returns-in-Number-clause-number c = λ holds.
    narrowed c.args.json.now is_value c.args.node c.requires is_number_value is_number_kind c.kind.result number_kind c.kind.ensures (ap is_number_kind c.in-Number.is)

pub returns-in_default : goal.returns-in_default
returns-in_default c = record {
  value = λ j of.
      not_number c.kind.result c.in_default.not-Number
      ∙ told c.args.json.now is_value c.args.node c.requires is_number_value is_number_kind c.kind.result number_kind c.kind.ensures of.tree of.spelled ∙ ap (λ z. z.is_number c.args.node) (sym of.values);
  number = λ holds. absurd (false≢true holds);
}

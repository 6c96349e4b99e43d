use Rattle.std.proofs.Common.{◌∙◌, ap, sym}
use Rattle.std.proofs.lemmas.Bool.{false≢true}
use Rattle.geo_json.specs.Scans.{is_string_value}
use Rattle.geo_json.specs.There.{is_value}
use Rattle.geo_json.proofs.Told.{is_string_kind, narrowed, not_string, string_kind, told}
use Rattle.geo_json.proofs.values.is_string.Goals as goal

pub returns-in-String-clause-value : goal.returns-in-String-clause-value
returns-in-String-clause-value c = λ j of.
    sym (ap is_string_kind c.in-String.is)
    ∙ told c.args.json.now is_value c.args.node c.requires is_string_value is_string_kind c.kind.result string_kind c.kind.ensures of.tree of.spelled ∙ ap (λ z. z.is_word c.args.node) (sym of.values)

pub returns-in-String-clause-string : goal.returns-in-String-clause-string
returns-in-String-clause-string c = λ holds.
    narrowed c.args.json.now is_value c.args.node c.requires is_string_value is_string_kind c.kind.result string_kind c.kind.ensures (ap is_string_kind c.in-String.is)

pub returns-in_default : goal.returns-in_default
returns-in_default c = record {
  value = λ j of.
      not_string c.kind.result c.in_default.not-String
      ∙ told c.args.json.now is_value c.args.node c.requires is_string_value is_string_kind c.kind.result string_kind c.kind.ensures of.tree of.spelled ∙ ap (λ z. z.is_word c.args.node) (sym of.values);
  string = λ holds. absurd (false≢true holds);
}

use Rattle.std.proofs.Common.{IfSome, Option, None, Some, ℕ, List}
use Rattle.json_text.specs.Node.{IsFirstNamed, IsNode, object_members}
use Rattle.json_text.specs.Syntax.{Members, object}
use Rattle.geo_json.specs.Scans.{is_object_value}
use Rattle.geo_json.specs.There.{IsThere, is_value}
use Rattle.geo_json.proofs.Told.{has_object, member_read, member_there}
use Rattle.geo_json.proofs.values.member.Goals as goal

pub member-requires : goal.member-requires
member-requires c = has_object c.args.json.now c.args.object c.requires

pub returns-clause-value : goal.returns-clause-value
returns-clause-value c = λ j of. member_read c.args.json.now c.args.object j of c.args.name.now c.member.result c.requires c.member.ensures

found_there : (bytes : List ℕ) (k : ℕ) (name : List ℕ) (found : Option ℕ) → IsThere bytes is_object_value k
    → ((place : ℕ) (between : Members) → IsNode bytes k (record { place = place; value = object between }) → IsFirstNamed (object_members between k place) name found)
    → IfSome found (IsThere bytes is_value)
found_there bytes k name None there f = tt
found_there bytes k name (Some found) there f = member_there bytes k name found there f

pub returns-clause-there : goal.returns-clause-there
returns-clause-there c = found_there c.args.json.now c.args.object c.args.name.now c.member.result c.requires c.member.ensures

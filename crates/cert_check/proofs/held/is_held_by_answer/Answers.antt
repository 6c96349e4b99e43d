use Rattle.std.proofs.Common.{◌<◌, sym, subst, arith}
use Rattle.std.proofs.lemmas.Bool.{false≢true}
use Rattle.std.proofs.lemmas.Option.{slice_get_within}
use Rattle.flex_model.specs.declared.answer.Triple.{Triple}
use Rattle.flex_model.specs.Answer.{triples}
use Rattle.flex_model.specs.Triple.{CoversPair, pair_of_triple}
use Rattle.flex_model.proofs.Found.{found_in_map, index_of}
use Rattle.cert_check.specs.Tasks.{pair_of_made}
use Rattle.cert_check.proofs.held.is_held_by_answer.Goals as goal

pub returns : goal.returns
returns c = (
  λ is. absurd (false≢true is),
  λ held.
      let at = index_of (triples c.args.answers.now) held.triple held.is_printed in
      let answer = found_in_map (λ a. a.triple) c.args.answers.now at.0 held.triple at.1 in
      let lt = slice_get_within c.args.answers.now at.0 answer.0 answer.1 in
      absurd (c.loop-i.invariant at.0 answer.0 (omega arith) answer.1
      (subst (λ (t : Triple). t.transfers < c.args.round) (sym answer.2) held.few)
      (subst (λ t. CoversPair (pair_of_triple t) (pair_of_made c.args.made.now)) (sym answer.2) held.covers)),
)

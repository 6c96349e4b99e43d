use Rattle.std.proofs.Common.{Some, nat_lt, not, ◌∙◌, ap}
use Rattle.std.specs.Prelude.{is_none}
use Rattle.flex_model.specs.declared.fault.FaultCode.TheVariants as code
use Rattle.field_text.specs.Grammars.{choice, count, moment}
use Rattle.feed_meaning.specs.FeedRules.{is_positive_count}
use Rattle.feed_meaning.specs.QueryFaults.{place_rule}
use Rattle.feed_meaning.specs.Rules.{is_bad, is_empty, is_no, is_text, repeats_id, rule, stand}
use Rattle.query_io.proofs.QueryRecords.{none_if_bad, place_fault_is, same_nine}
use Rattle.query_io.proofs.query_records.query_rules.Goals as goal

pub returns : goal.returns
returns c = λ feed times earlier r has repeated.
    let f = c.args.fields.now in
    same_nine c.rule.result c.rule-2.result c.place_fault.result c.place_fault-2.result c.rule-3.result c.rule-4.result c.rule-5.result c.rule-6.result c.rule-7.result
    (rule code.EmptyField (is_empty (r "query_id")))
    (rule code.DuplicateKey (repeats_id "query_id" earlier r))
    (place_rule feed times (r "origin"))
    (place_rule feed times (r "destination"))
    (rule code.BadMoment (is_no (moment 1990 2199) (r "depart")))
    (rule code.BadMoment (is_no (moment 1990 2199) (r "now")))
    (rule code.BadNumber (is_no (count 7) (r "transfers")))
    (rule code.BadNumber (not (is_positive_count 2880 (r "horizon"))))
    (rule code.BadEnum (is_bad (choice 0 1) (r "walking")))
    (c.rule.ensures ∙ ap (λ b. rule code.EmptyField b) (c.is_empty.ensures ∙ ap is_empty has.id))
    (c.rule-2.ensures ∙ ap (λ b. rule code.DuplicateKey b) repeated)
    (c.place_fault.ensures ∙ place_fault_is feed times (r "origin") f.origin has.origin)
    (c.place_fault-2.ensures ∙ place_fault_is feed times (r "destination") f.destination has.destination)
    (c.rule-3.ensures ∙ ap (λ b. rule code.BadMoment b) (c.is_no.ensures ∙ ap is_none has.depart))
    (c.rule-4.ensures ∙ ap (λ b. rule code.BadMoment b) (c.is_no-2.ensures ∙ ap is_none has.asked))
    (c.rule-5.ensures ∙ ap (λ b. rule code.BadNumber b) (c.is_no-3.ensures ∙ ap is_none has.transfers))
    (c.rule-6.ensures ∙ ap (λ b. rule code.BadNumber (not b)) (c.is_positive.ensures ∙ ap (stand nat_lt (Some 0)) has.horizon))
    (c.rule-7.ensures ∙ ap (λ b. rule code.BadEnum b)
    (c.is_no-4.ensures ∙ ap is_none has.walking ∙ none_if_bad (is_bad (choice 0 1) (r "walking")) (is_text (r "walking") "1")))

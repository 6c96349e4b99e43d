use Rattle.std.proofs.Common.{◌≡◌, ◌∙◌, ◌++◌, [], false, ap, sym}
use Rattle.std.specs.Prelude.{if◌then◌else◌, is_none}
use Rattle.std.proofs.lemmas.Result.{IfOk-weaker}
use Rattle.flex_model.specs.declared.fault.InputFile.TheVariants as Files
use Rattle.field_text.specs.Grammars.{choice}
use Rattle.feed_meaning.specs.FeedRules as FeedRules
use Rattle.feed_meaning.specs.Rules.{is_no}
use Rattle.feed_meaning.specs.Tables.{faults_at}
use Rattle.feed_rules.proofs.BookingFacts.{added_twice}
use Rattle.feed_rules.proofs.booking_rules.add_booking_faults.Goals as goal

pub returns : goal.returns
returns c = λ earlier r read repeated.
    let first = c.record_rules-first_rules.result in
    let notice = c.notice_rules-rules.result in
    let known : is_no (choice 0 2) (r "booking_type") ≡ false = sym (c.is_no.ensures ∙ ap is_none read.kind_number) ∙ c.if-is_no.false in
    let whole : first ++ notice ≡ FeedRules.booking_rules earlier r =
    ap (λ rs. first ++ rs) (c.notice_rules-rules.ensures r read) ∙ ap (λ b. first ++ (if b then [] else FeedRules.notice_rules r)) (sym known)
    ∙ c.record_rules-first_rules.ensures earlier r read repeated in
    IfOk-weaker c.add_faults-2.result _ _
    (λ u added. added_twice Files.BookingRules c.args.row first notice c.args.faults.now c.add_faults.new.faults c.add_faults-2.new.faults c.in_ok-add_faults.ensures added
    ∙ ap (λ rs. c.args.faults.now ++ faults_at Files.BookingRules c.args.row rs) whole)
    c.add_faults-2.ensures

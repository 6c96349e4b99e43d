use Rattle.std.proofs.Common.{◌≡◌, ◌∙◌, ◌∷◌, [], false, ap}
use Rattle.flex_model.specs.declared.fault.FaultCode.TheVariants.{BadNumber, BadTime, FieldForbidden}
use Rattle.feed_tables.specs.Refusals.{is_given}
use Rattle.field_text.specs.Grammars.{count, time}
use Rattle.feed_meaning.specs.FeedRules.{conditional}
use Rattle.feed_meaning.specs.Rules.{is_text, rule}
use Rattle.feed_rules.proofs.booking_rules.notice_rules.Goals as goal

pub returns : goal.returns
returns c r read =
    let least = r "prior_notice_duration_min" in
    let greatest = r "prior_notice_duration_max" in
    let day = r "prior_notice_last_day" in
    let last = r "prior_notice_last_time" in
    let start_day = r "prior_notice_start_day" in
    let start = r "prior_notice_start_time" in
    let same_day : c.is_text-same_day.result ≡ is_text (r "booking_type") "1" = c.is_text-same_day.ensures ∙ ap (λ t. is_text t "1") read.kind in
    let earlier_days : c.is_text-earlier_days.result ≡ is_text (r "booking_type") "2" = c.is_text-earlier_days.ensures ∙ ap (λ t. is_text t "2") read.kind in
    let has_last_day : c.is_given-has_last.result ≡ is_given day = c.is_given-has_last.ensures ∙ ap is_given read.last_day in
    let has_start_day : c.is_given-has_start.result ≡ is_given start_day = c.is_given-has_start.ensures ∙ ap is_given read.start_day in
    λ i.
    (c.conditional.ensures (count 1000000) least read.duration_min read.least_minutes ∙ ap (λ w. conditional w w BadNumber (count 1000000) least) same_day) i
    ∷ (c.conditional-2.ensures (count 1000000) greatest read.duration_max read.most_minutes ∙ ap (λ w. conditional false w BadNumber (count 1000000) greatest) same_day) i
    ∷ (c.conditional-3.ensures (count 1000) day read.last_day read.last_days ∙ ap (λ w. conditional w w BadNumber (count 1000) day) earlier_days) i
    ∷ (c.conditional-4.ensures time last read.last_time read.last_seconds ∙ ap (λ w. conditional w w BadTime time last) has_last_day) i
    ∷ (c.conditional-5.ensures (count 1000) start_day read.start_day read.start_days
    ∙ ap (λ w. conditional false w BadNumber (count 1000) start_day) (c.may_start_on_day-may_start.ensures r read)) i
    ∷ (c.conditional-6.ensures time start read.start_time read.start_seconds ∙ ap (λ w. conditional w w BadTime time start) has_start_day) i
    ∷ (c.rule.ensures ∙ ap (rule FieldForbidden) (c.has_stray_service.ensures r read)) i ∷ []

use Rattle.std.proofs.Common.{◌≡◌, ◌∙◌, ◌&&◌, false, ap, not, sym}
use Rattle.std.specs.Str.{bytes_eq}
use Rattle.std.proofs.lemmas.Result.{IfOk-weaker}
use Rattle.field_text.specs.Grammars.{id}
use Rattle.feed_meaning.specs.FeedRules.{is_passed_over}
use Rattle.feed_meaning.specs.Rules.{both, repeats_ids}
use Rattle.feed_rules.specs.Transfers.{changes, stops_of, texts_of}
use Rattle.feed_rules.proofs.ChangeFacts.{stops_met_more}
use Rattle.feed_rules.proofs.PairFacts.{met_repeats}
use Rattle.feed_rules.proofs.transfers.note_change.Goals as goal

pub returns-clause-repeated : goal.returns-clause-repeated
returns-clause-repeated c = λ earlier r read met.
    let over : is_passed_over r ≡ false = sym (c.is_passed_over.ensures r read) ∙ c.if-is_passed_over.false in
    let same : both (id c.args.t.now.from.now) (id c.args.t.now.to.now) ≡ stops_of r =
    ap (λ t. both (id t) (id c.args.t.now.to.now)) read.from ∙ ap (λ t. both (id (r "from_stop_id")) (id t)) read.to in
    IfOk-weaker c.note_stops.result _ _
    (λ b answer. met_repeats bytes_eq stops_of (texts_of c.args.met.now.keys) (changes earlier) r _ b met answer same
    ∙ sym (ap (λ p. not p && repeats_ids "from_stop_id" "to_stop_id" (changes earlier) r) over))
    c.note_stops.ensures.repeated

pub returns-clause-noted : goal.returns-clause-noted
returns-clause-noted c = λ earlier r read met.
    let over : is_passed_over r ≡ false = sym (c.is_passed_over.ensures r read) ∙ c.if-is_passed_over.false in
    let same : both (id c.args.t.now.from.now) (id c.args.t.now.to.now) ≡ stops_of r =
    ap (λ t. both (id t) (id c.args.t.now.to.now)) read.from ∙ ap (λ t. both (id (r "from_stop_id")) (id t)) read.to in
    IfOk-weaker c.note_stops.result _ _
    (λ b added. stops_met_more c.args.met.now.keys c.note_stops.new.met.keys earlier r _ met added same over)
    c.note_stops.ensures.noted

use Rattle.std.proofs.Common.{◌∙◌, ◌++◌, ap, sym, []}
use Rattle.std.specs.Prelude.{if◌then◌else◌}
use Rattle.std.proofs.lemmas.List.{append-nil}
use Rattle.flex_model.specs.declared.fault.InputFile.TheVariants as Files
use Rattle.feed_tables.specs.Records.{header_of}
use Rattle.feed_meaning.specs.FeedLinks as FeedLinks
use Rattle.feed_meaning.specs.Tables.{faults_at, values_of}
use Rattle.feed_meaning.proofs.LinkFacts.{link_more}
use Rattle.feed_rules.proofs.other_links.transfer_link_faults.Goals as goal

pub loop-row-preserved-then-is_passed_over : goal.loop-row-preserved-then-is_passed_over
loop-row-preserved-then-is_passed_over c = λ tables ids.
    let header = header_of c.args.transfers.now in
    let row = c.in-Some.row in
    let r = values_of header row.fields in
    let read = c.read_transfer-transfer.ensures header c.transfer_columns-columns.ensures in
    let passed = sym (c.is_passed_over.ensures r read) ∙ c.if-is_passed_over.true in
    link_more Files.Transfers (FeedLinks.transfer_links tables) header c.loop-row.yielded row c.loop-row.faults c.loop-row.faults []
    (c.loop-row.invariant tables ids)
    (sym (append-nil c.loop-row.faults))
    (sym (ap (λ b. if b then [] else FeedLinks.change_links tables r) passed))

pub loop-row-preserved : goal.loop-row-preserved
loop-row-preserved c = λ tables ids.
    let header = header_of c.args.transfers.now in
    let row = c.in-Some.row in
    let r = values_of header row.fields in
    let read = c.read_transfer-transfer.ensures header c.transfer_columns-columns.ensures in
    let passed = sym (c.is_passed_over.ensures r read) ∙ c.if-is_passed_over.false in
    link_more Files.Transfers (FeedLinks.transfer_links tables) header c.loop-row.yielded row c.loop-row.faults c.add_faults.new.faults c.change_links-rules.result
    (c.loop-row.invariant tables ids)
    (c.in_ok-add_faults.ensures ∙ ap (λ n. c.loop-row.faults ++ faults_at Files.Transfers n c.change_links-rules.result) c.number.ensures)
    (c.change_links-rules.ensures tables r read ids ∙ sym (ap (λ b. if b then [] else FeedLinks.change_links tables r) passed))

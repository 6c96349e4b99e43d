use Rattle.std.proofs.Common.{◌∙◌, ◌++◌, ap, map, subst, refl, sym}
use Rattle.std.specs.Str.{bytes_eq}
use Rattle.flex_model.specs.declared.fault.InputFile.TheVariants as Files
use Rattle.feed_tables.specs.Records.{header_of}
use Rattle.feed_meaning.specs.FeedRules as FeedRules
use Rattle.feed_meaning.specs.Tables.{entry_of, faults_at, values_of, with_earlier_from}
use Rattle.feed_meaning.proofs.Passes.{pass_more}
use Rattle.feed_rules.specs.Pairs.{has_pair}
use Rattle.feed_rules.specs.Transfers.{AreStopsMet, changes, texts_of}
use Rattle.feed_rules.proofs.PairFacts.{values_more}
use Rattle.feed_rules.proofs.transfers.transfer_faults.Goals as goal

pub loop-row-init : goal.loop-row-init
unfolding with_earlier_from
loop-row-init c = record { faults = c.new-faults.ensures; met = λ q. ap (λ ks. has_pair bytes_eq (texts_of ks) q) c.new-met.ensures.empty }

pub loop-row-preserved : goal.loop-row-preserved
loop-row-preserved c =
    let header = header_of c.args.table.now in
    let seen = c.loop-row.yielded in
    let row = c.in-Some.row in
    let earlier = map (λ x. x.values) (map (entry_of header) seen) in
    let r = values_of header row.fields in
    let read = c.read_transfer-transfer.ensures header c.transfer_columns-columns.ensures in
    let repeated = c.in_ok-is_repeated.ensures.repeated earlier r read c.loop-row.invariant.met in
    record {
      faults = pass_more Files.Transfers FeedRules.transfer_rules header seen row c.loop-row.faults c.add_transfer_faults.new.faults (FeedRules.transfer_rules earlier r) c.loop-row.invariant.faults
          (c.in_ok-add_transfer_faults.ensures earlier r read repeated ∙ ap (λ n. c.loop-row.faults ++ faults_at Files.Transfers n (FeedRules.transfer_rules earlier r)) c.number.ensures)
          refl;
      met = subst (λ rs. AreStopsMet c.note_change.new.met.keys (changes rs)) (sym (values_more header seen row)) (c.in_ok-is_repeated.ensures.noted earlier r read c.loop-row.invariant.met);
    }

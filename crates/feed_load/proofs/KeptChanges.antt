-- Tables that keep the rules of a feed have sound changes.
use Rattle.std.proofs.Common.{◌&&◌, [], None, take, get_or, lit<}
use Rattle.flex_model.specs.declared.fault.FaultCode.TheVariants as code
use Rattle.flex_model.specs.declared.fault.InputFile.TheVariants.{Transfers}
use Rattle.field_text.specs.Grammars.{count}
use Rattle.feed_meaning.specs.FeedLinks.{Tables}
use Rattle.feed_meaning.specs.Rules.{is_bad, is_text}
use Rattle.feed_meaning.proofs.Kept.{is_kept}
use Rattle.feed_meaning.proofs.KeptFeeds.{KeepsFeedRules}
use Rattle.feed_meaning.proofs.SoundChanges.{change_rules_kept, changes_ordered}
use Rattle.feed_load.specs.ChangeTables.{AreSoundChanges}

pub sound_changes : (tables : Tables) → KeepsFeedRules tables → AreSoundChanges tables
sound_changes tables kept = record {
  seconds = λ i d low passed.
      let rs = tables Transfers in
      let r = get_or rs i d in
      is_kept code.BadNumber (is_text (r "transfer_type") "2" && is_bad (count 86400) (r "min_transfer_time"))
      (change_rules_kept (take i rs) r passed (kept.transfers.alone.at i d low) 2 None (lit< tt));
  ordered = changes_ordered tables [] kept;
}

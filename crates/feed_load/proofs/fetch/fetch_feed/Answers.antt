use Rattle.std.proofs.Common.{◌+◌, take, ap, ◌∙◌, rules}
use Rattle.feed_meaning.specs.Told.{told_folder}
use Rattle.feed_load.proofs.FetchedFolders.{set-next, told_both}
use Rattle.feed_load.proofs.fetch.fetch_feed.Goals as goal

pub loop-file-preserved : goal.loop-file-preserved
loop-file-preserved g c = record {
  size = search rules;
  fetched = told_both _ _ _ _ _ c.loop-file.invariant.told c.loop-file.invariant.fetched c.in_ok-fetch_input.ensures.fetched (λ told earlier is.
      ap (take (c.loop-file.file-index + 1)) c.set.ensures
      ∙ set-next (told_folder told c.args.folder.now) c.loop-file.bytes c.loop-file.file-index _ c.in_ok-fetch_input.field-0 c.loop-file-test.true c.loop-file.invariant.size is earlier);
  told = search rules;
  answered = c.in_ok-fetch_input.ensures.answered (λ e. cc) ∙ c.loop-file.invariant.answered;
  steady = λ s. (c.in_ok-fetch_input.ensures.steady (c.loop-file.invariant.steady s)).0;
}

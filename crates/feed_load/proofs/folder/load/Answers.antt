use Rattle.feed_load.proofs.Loading.{told_answer}
use Rattle.feed_load.proofs.folder.load.Goals as goal

pub returns-clause-loaded : goal.returns-clause-loaded
returns-clause-loaded g c =
    told_answer (g.F.Files.told c.args.files.now) c.args.folder.now c.in_ok-bytes.bytes c.in_ok-loaded.loaded c.in_ok-bytes.ensures.fetched c.in_ok-loaded.ensures.loaded

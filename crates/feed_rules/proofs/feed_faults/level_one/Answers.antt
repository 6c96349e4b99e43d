use Rattle.flex_model.specs.declared.fault.InputFile.TheVariants.{Agency}
use Rattle.feed_rules.specs.Levels.{own_faults}
use Rattle.feed_rules.proofs.LevelFacts.{file_more}
use Rattle.feed_rules.proofs.feed_faults.level_one.Goals as goal

pub loop-file-preserved : goal.loop-file-preserved
loop-file-preserved c =
    file_more (own_faults c.args.raw.now) c.loop-file.file-index Agency c.loop-file.faults c.add_all.new.faults c.in_ok-own.own c.loop-file-test.true
    c.loop-file.invariant c.in_ok-own.ensures c.in_ok-add_all.ensures

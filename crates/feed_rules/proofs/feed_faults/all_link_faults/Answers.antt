use Rattle.std.proofs.Common.{◌∙◌, ap}
use Rattle.std.proofs.lemmas.List.{take_all}
use Rattle.std.specs.List.{flat_map}
use Rattle.flex_model.specs.declared.fault.InputFile.TheVariants.{Agency}
use Rattle.feed_meaning.specs.FeedFaults.{feed_files, link_faults}
use Rattle.feed_rules.proofs.LevelFacts.{all_files, file_more}
use Rattle.feed_rules.proofs.feed_faults.all_link_faults.Goals as goal

pub loop-file-preserved : goal.loop-file-preserved
loop-file-preserved c = λ geo folder reads tells none stand orders.
    let i = c.loop-file.file-index in
    file_more (link_faults geo folder) i Agency c.loop-file.faults c.add_all.new.faults c.in_ok-own.own c.loop-file-test.true
    (c.loop-file.invariant geo folder reads tells none stand orders)
    (c.in_ok-own.ensures geo folder (all_files i Agency c.loop-file-test.true) reads tells none stand orders) c.in_ok-add_all.ensures

pub returns : goal.returns
returns c = λ geo folder reads tells none stand orders.
    c.loop-file.invariant geo folder reads tells none stand orders ∙ ap (flat_map (link_faults geo folder)) (take_all c.loop-file.file-index feed_files c.loop-file-test.false)

use Rattle.std.proofs.Common.{◌≡◌, [], fold, take}
use Rattle.feed_meaning.specs.Noted.{noted}
use Rattle.bound_cert.proofs.known.index_texts.Given as goal

abbrev pub invariant-loop-text : goal.invariant-loop-text
invariant-loop-text l = l.ids ≡ fold noted [] (take l.text-index l.texts)

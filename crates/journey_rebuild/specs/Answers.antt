-- Finals as answers. This project's own.
use Rattle.flex_model.specs.declared.answer.Answer.{Answer}
use Rattle.round_engine.specs.declared.label.Final.{Final}
use Rattle.round_engine.specs.Chain.{rides_of}

-- the answer that a final of a search is, with the rides of its label
abbrev pub answer_of : Final → Answer
answer_of best = record { triple = best.triple; rides = rides_of best.label.now }

use Rattle.std.proofs.Common.{◌≡◌, ◌≤◌, take}
use Rattle.flex_io.specs.Outside.{Gains}
use Rattle.flexplan.specs.Answers.{IsQueryText}
use Rattle.flexplan.specs.Texts.{Texts}
use Rattle.flexplan.proofs.printout.print_with.Given as goal

abbrev pub invariant-loop-query : goal.invariant-loop-query
invariant-loop-query g l = record {
  printed : Gains (g.O.Sink.contents l.fn.out) (g.O.Sink.contents l.out) (Texts (IsQueryText l.printout l.input.feed l.input.times l.input.zone) (take l.query-index l.input.queries));
  counted : g.O.Sink.faults l.fn.out ≤ g.O.Sink.faults l.out;
  steady : g.O.Sink.faults l.out ≡ g.O.Sink.faults l.fn.out;
}

use Rattle.std.proofs.Common.{ap, sym, ◌∙◌}
use Rattle.json_text.specs.Moves.{state_of}
use Rattle.json_text.specs.Progress.{stack_in}
use Rattle.json_text.proofs.scanner.Scanner.settle.Goals as goal

pub returns-in_ok-enter-in-Enter-clause-state : goal.returns-in_ok-enter-in-Enter-clause-state
returns-in_ok-enter-in-Enter-clause-state c =
    let stack = stack_in c.args.self.now.frames.items in
    ap (state_of c.first_state-self.result) c.in_ok-enter-in-Enter.ensures.frames
    ∙ c.first_state-self.ensures stack c.args.self.now.state ∙ sym (c.in-Enter.ensures.state stack)

-- The innermost array or object that is open.
use Rattle.std.proofs.Common.{◌≡◌, ℕ, List, [], ◌∷◌, Option, Some, None, arith}
use Rattle.json_text.specs.Machine
use Rattle.json_text.specs.Machine.{Frame}
use Rattle.json_text.specs.Moves.{IsInnermost, IsMove, frame_of}
use Rattle.json_text.specs.declared.moves.Move.{Move}
use Rattle.json_text.specs.declared.state.Bracket.{Bracket}
use mathlib.Core.Path.{subst, ap, sym, ◌∙◌}

abbrev bracket_of : Option Bracket → Bracket → Bracket
bracket_of None otherwise = otherwise
bracket_of (Some bracket) otherwise = bracket

first_of : (bracket : Bracket) (frame : Frame) (innermost : Option Bracket) → innermost ≡ Some bracket
    → (other : Bracket) × (innermost ≡ Some other) × (frame ≡ frame_of other) → frame ≡ frame_of bracket
first_of bracket frame innermost e k = k.2 ∙ ap (λ o. frame_of (bracket_of o bracket)) (sym k.1 ∙ e)

-- After a value the byte means what it means in the innermost array or object.
pub after_value_in : (bracket : Bracket) (stack : List Frame) (innermost : Option Bracket) (byte : ℕ) (move : Move) → innermost ≡ Some bracket
    → IsInnermost stack innermost
    → ((rest : List Frame) → IsMove (Machine.after_value (frame_of bracket ∷ rest)) (frame_of bracket ∷ rest) byte move)
    → IsMove (Machine.after_value stack) stack byte move
after_value_in bracket [] innermost byte move e k is = absurd (grind (arith, e, k))
after_value_in bracket (frame ∷ stack) innermost byte move e k is =
    subst (λ f. IsMove (Machine.after_value (f ∷ stack)) (f ∷ stack) byte move) (sym (first_of bracket frame innermost e k)) (is stack)

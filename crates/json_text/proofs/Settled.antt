-- A step is what is settled before the byte, and then the byte itself.
use Rattle.std.proofs.Common.{◌≡◌, ℕ, suc, Bool, true, false, cond, ◌||◌, ◌==◌, List, ◌∷◌, refl, arith, ◌≤◌, length, reverse, Result, Ok, Err, OnOk, IfErr, eqb-true}
use Rattle.json_text.specs.Byte.{is_white, is_digit, is_exponent}
use Rattle.json_text.specs.Machine as Machine
use Rattle.json_text.specs.Machine.{State, Frame, step, stack_of, open_value, close_value, is_fault}
use Rattle.json_text.specs.Recording.{settled, settled_notes, moved, moved_notes}
use Rattle.json_text.specs.Moves.{state_of, state_after, IsMove}
use Rattle.json_text.specs.Progress.{machine_of, notes_of, stack_in, IsMoved, HasRead, IsRefused}
use Rattle.json_text.specs.declared.moves.Move.{Move}
use Rattle.json_text.specs.declared.scanner.Scanner.{Scanner}
use Rattle.json_text.specs.declared.refusal.ScanRefusal.{ScanRefusal}
use Rattle.json_text.specs.declared.state.State as Code
use Rattle.json_text.specs.declared.state.State.TheVariants.{BeforeValue, AfterOpenArray, AfterOpenObject, BeforeName, AfterName, AfterValue, InString, AfterBackslash, InUnit, InLiteral, AfterMinus, AfterNought, InWhole, AfterPoint, InFraction, AfterExponent, AfterSign, InPower}
use Rattle.json_text.specs.declared.state.Spelling.{Spelling}
use Rattle.json_text.specs.declared.state.Spelling.TheVariants.{Ull, Ll, L, Rue, Ue, E, Alse, Lse, Se}
use Rattle.json_text.specs.declared.scanner.Frame as Frames
use Rattle.json_text.proofs.Rows.{length_map}
use mathlib.Core.Path.{subst, ap, sym, ◌∙◌}
use Rattle.std.proofs.lemmas.List.{length-reverse}

-- one of the bytes of white space, or the other byte
white_or : (b other : ℕ) (P : ℕ → Type 0) → (is_white b || (b == other)) ≡ true → P 32 → P 9 → P 10 → P 13 → P other → P b
white_or b other P e p q r s t = by_test (b == 32) refl (b == 9) refl (b == 10) refl (b == 13) refl (b == other) refl
  where
    at : (n : ℕ) → (b == n) ≡ true → P n → P b
    at n f k = subst P (sym (eqb-true b n f)) k

    by_test : (u : Bool) → (b == 32) ≡ u → (v : Bool) → (b == 9) ≡ v → (w : Bool) → (b == 10) ≡ w → (x : Bool) → (b == 13) ≡ x → (y : Bool) → (b == other) ≡ y → P b
    by_test true f v _ w _ x _ y _ = at 32 f p
    by_test false _ true f w _ x _ y _ = at 9 f q
    by_test false _ false _ true f x _ y _ = at 10 f r
    by_test false _ false _ false _ true f y _ = at 13 f s
    by_test false _ false _ false _ false _ true f = at other f t
    by_test false f1 false f2 false f3 false f4 false f5 = absurd (grind (arith, e, f1, f2, f3, f4, f5))

neither : (w s : Bool) {A : Type 0} (x y z f : A) → (w || s) ≡ false → cond w x f ≡ cond w y (cond s z f)
neither true s x y z f e = absurd (grind (arith, e))
neither false true x y z f e = absurd (grind (arith, e))
neither false false x y z f e = refl

skip_one : (p : Bool) {A : Type 0} (x z : A) → p ≡ false → z ≡ cond p x z
skip_one true x z e = absurd (grind (arith, e))
skip_one false x z e = refl

skip_two : (p q : Bool) {A : Type 0} (x y z : A) → (p || q) ≡ false → z ≡ cond p x (cond q y z)
skip_two true q x y z e = absurd (grind (arith, e))
skip_two false true x y z e = absurd (grind (arith, e))
skip_two false false x y z e = refl

skip_three : (p q r : Bool) {A : Type 0} (x y w z : A) → (p || q || r) ≡ false → z ≡ cond p x (cond q y (cond r w z))
skip_three true q r x y w z e = absurd (grind (arith, e))
skip_three false true r x y w z e = absurd (grind (arith, e))
skip_three false false true x y w z e = absurd (grind (arith, e))
skip_three false false false x y w z e = refl

-- where a test is settled either way
by : (t : Bool) (x y : State) (b : ℕ) (z : State) → (t ≡ true → moved x b ≡ z) → (t ≡ false → moved y b ≡ z) → moved (cond t x y) b ≡ z
by true x y b z hit miss = hit refl
by false x y b z hit miss = miss refl

pub moved_settled : (q : State) (b : ℕ) → moved (settled q b) b ≡ step q b
moved_settled (Machine.after_open_array stack) b =
    by _ _ _ b _
    (λ e. white_or b 93 (λ n. moved (Machine.after_open_array stack) n ≡ step (Machine.after_open_array stack) n) e refl refl refl refl refl)
    (λ e. ap (λ o. open_value (Machine.in_array ∷ stack) o b) (neither (is_white b) (b == 93) _ _ _ _ e))
moved_settled (Machine.after_open_object stack) b =
    by _ _ _ b _
    (λ e. subst (λ n. moved (Machine.before_name (Machine.in_object ∷ stack)) n ≡ step (Machine.after_open_object stack) n) (sym (eqb-true b 34 e)) refl)
    (λ e. ap (λ o. cond (is_white b) (Machine.after_open_object stack) o) (skip_one (b == 34) _ _ e))
moved_settled (Machine.after_nought stack) b =
    by _ _ _ b _ (λ e. refl) (λ e. skip_two (b == 46) (is_exponent b) _ _ (close_value stack b) e)
moved_settled (Machine.in_whole stack) b =
    by _ _ _ b _ (λ e. refl) (λ e. skip_three (is_digit b) (b == 46) (is_exponent b) _ _ _ (close_value stack b) e)
moved_settled (Machine.in_fraction stack) b =
    by _ _ _ b _ (λ e. refl) (λ e. skip_two (is_digit b) (is_exponent b) _ _ (close_value stack b) e)
moved_settled (Machine.in_power stack) b =
    by _ _ _ b _ (λ e. refl) (λ e. skip_one (is_digit b) _ (close_value stack b) e)
moved_settled (Machine.before_value stack) b = refl
moved_settled (Machine.before_name stack) b = refl
moved_settled (Machine.after_name stack) b = refl
moved_settled (Machine.after_value stack) b = refl
moved_settled (Machine.in_string role stack) b = refl
moved_settled (Machine.after_backslash role stack) b = refl
moved_settled (Machine.in_unit n role stack) b = refl
moved_settled (Machine.in_literal byte bytes stack) b = refl
moved_settled (Machine.after_minus stack) b = refl
moved_settled (Machine.after_point stack) b = refl
moved_settled (Machine.after_exponent stack) b = refl
moved_settled (Machine.after_sign stack) b = refl
moved_settled Machine.fault b = refl

levels_by : (t : Bool) (x y : State) (n : ℕ) → length (stack_of x) ≤ n → length (stack_of y) ≤ n → length (stack_of (cond t x y)) ≤ n
levels_by true x y n r s = r
levels_by false x y n r s = s

pub settled_fits : (q : State) (b : ℕ) → length (stack_of (settled q b)) ≤ length (stack_of q)
settled_fits (Machine.after_open_array stack) b = levels_by _ (Machine.after_open_array stack) (Machine.before_value (Machine.in_array ∷ stack)) (suc (length stack)) (omega arith) (omega arith)
settled_fits (Machine.after_open_object stack) b = levels_by _ (Machine.before_name (Machine.in_object ∷ stack)) (Machine.after_open_object stack) (suc (length stack)) (omega arith) (omega arith)
settled_fits (Machine.after_nought stack) b = levels_by _ (Machine.after_nought stack) (Machine.after_value stack) (length stack) (omega arith) (omega arith)
settled_fits (Machine.in_whole stack) b = levels_by _ (Machine.in_whole stack) (Machine.after_value stack) (length stack) (omega arith) (omega arith)
settled_fits (Machine.in_fraction stack) b = levels_by _ (Machine.in_fraction stack) (Machine.after_value stack) (length stack) (omega arith) (omega arith)
settled_fits (Machine.in_power stack) b = levels_by _ (Machine.in_power stack) (Machine.after_value stack) (length stack) (omega arith) (omega arith)
settled_fits (Machine.before_value stack) b = omega arith
settled_fits (Machine.before_name stack) b = omega arith
settled_fits (Machine.after_name stack) b = omega arith
settled_fits (Machine.after_value stack) b = omega arith
settled_fits (Machine.in_string role stack) b = omega arith
settled_fits (Machine.after_backslash role stack) b = omega arith
settled_fits (Machine.in_unit n role stack) b = omega arith
settled_fits (Machine.in_literal byte bytes stack) b = omega arith
settled_fits (Machine.after_minus stack) b = omega arith
settled_fits (Machine.after_point stack) b = omega arith
settled_fits (Machine.after_exponent stack) b = omega arith
settled_fits (Machine.after_sign stack) b = omega arith
settled_fits Machine.fault b = omega arith

literal_fits : (rest : Spelling) (stack : List Frame) → length stack ≤ length (stack_of (state_of (InLiteral rest) stack))
literal_fits Ull stack = omega arith
literal_fits Ll stack = omega arith
literal_fits L stack = omega arith
literal_fits Rue stack = omega arith
literal_fits Ue stack = omega arith
literal_fits E stack = omega arith
literal_fits Alse stack = omega arith
literal_fits Lse stack = omega arith
literal_fits Se stack = omega arith

state_fits : (state : Code.State) (stack : List Frame) → length stack ≤ length (stack_of (state_of state stack))
state_fits BeforeValue stack = omega arith
state_fits AfterOpenArray stack = omega arith
state_fits AfterOpenObject stack = omega arith
state_fits BeforeName stack = omega arith
state_fits AfterName stack = omega arith
state_fits AfterValue stack = omega arith
state_fits (InString role) stack = omega arith
state_fits (AfterBackslash role) stack = omega arith
state_fits (InUnit more role) stack = omega arith
state_fits (InLiteral rest) stack = literal_fits rest stack
state_fits AfterMinus stack = omega arith
state_fits AfterNought stack = omega arith
state_fits InWhole stack = omega arith
state_fits AfterPoint stack = omega arith
state_fits InFraction stack = omega arith
state_fits AfterExponent stack = omega arith
state_fits AfterSign stack = omega arith
state_fits InPower stack = omega arith

pub length_stack : (frames : List Frames.Frame) → length (stack_in frames) ≡ length frames
length_stack frames = length_map _ (reverse frames) ∙ length-reverse frames

pub frames_fit : (s : Scanner) → length s.frames.items ≤ length (stack_of (machine_of s))
frames_fit s = omega (arith, length_stack s.frames.items, state_fits s.state (stack_in s.frames.items))

pub ok_by : {R F : Type 0} (r : Result R F) {P Q : Type 0} → (P → Q) → OnOk r P → OnOk r Q
ok_by (Ok x) f p = f p
ok_by (Err e) f p = p

pub err_by : {R F : Type 0} (r : Result R F) {P Q : F → Type 0} → ((e : F) → P e → Q e) → IfErr r P → IfErr r Q
err_by (Ok x) f p = p
err_by (Err e) f p = f e p

pub has_read : (old mid new : Scanner) (at byte : ℕ) (move : Move) → machine_of mid ≡ settled (machine_of old) byte
    → notes_of mid ≡ settled_notes (machine_of old) byte at (notes_of old) → length mid.rows.items ≤ length old.rows.items
    → IsMove (machine_of mid) (stack_in mid.frames.items) byte move → IsMoved mid new at move → HasRead old new at byte
has_read old mid new at byte move s n r is m = record {
  state = m.state ∙ sym is.state ∙ ap (λ q. moved q byte) s ∙ moved_settled (machine_of old) byte;
  notes = m.notes ∙ sym (is.notes at (notes_of mid)) ∙ ap (λ q. moved_notes q byte at (notes_of mid)) s ∙ ap (moved_notes (settled (machine_of old) byte) byte at) n;
  alive = m.alive;
  fits = m.fits;
  rows = omega (arith, m.rows, r);
}

pub read_refused : (old mid : Scanner) (at byte : ℕ) (move : Move) → machine_of mid ≡ settled (machine_of old) byte
    → IsMove (machine_of mid) (stack_in mid.frames.items) byte move
    → (e : ScanRefusal) → IsRefused at (state_after move (stack_in mid.frames.items)) e → IsRefused at (step (machine_of old) byte) e
read_refused old mid at byte move s is e k =
    subst (λ q. IsRefused at q e) (sym is.state ∙ ap (λ q. moved q byte) s ∙ moved_settled (machine_of old) byte) k

-- what a `?` passes on
pub err_passed : {R F : Type 0} (r : Result R F) (P : F → Type 0) (e y : F) → r ≡ Err y → y ≡ e → P e → IfErr r P
err_passed r P e y f g p = subst (λ r. IfErr r P) (sym f) (subst P (sym g) p)

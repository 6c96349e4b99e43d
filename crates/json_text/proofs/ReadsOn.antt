-- The scanner reads on, stops at a fault, or comes to the end.
use Rattle.std.proofs.Common.{◌≡◌, ℕ, zero, suc, Bool, true, false, List, [], ◌∷◌, ◌++◌, refl, arith, ◌≤◌, ◌<◌, length, take, drop, get_or}
use Rattle.std.proofs.Math.Seq.{drop-cons, take-suc}
use Rattle.json_text.specs.Answer.{IsRefusal}
use Rattle.json_text.specs.Grammar.{IsJsonWithin}
use Rattle.json_text.specs.Machine.{step, run, start, is_end, is_fault, stack_of, StaysWithin}
use Rattle.json_text.specs.Progress.{machine_of, notes_of, HasRead, IsRefused}
use Rattle.json_text.specs.Reading.{IsReading}
use Rattle.json_text.specs.Recording.{no_notes, recorded, finished}
use Rattle.json_text.specs.Refusal.{greatest_depth, IsSyntaxFault}
use Rattle.json_text.specs.declared.refusal.ScanRefusal.{ScanRefusal}
use Rattle.json_text.specs.declared.refusal.ScanRefusal.TheVariants.{Syntax, Depth, NoMemory}
use Rattle.json_text.specs.declared.scanner.Scanner.{Scanner}
use Rattle.json_text.proofs.Accepts.{machine_accepts_within}
use Rattle.json_text.proofs.Found.{fault_is_found, depth_is_found, end_is_alive, take_all}
use Rattle.json_text.proofs.Steps.{run_one, stays_one}
use mathlib.Core.Path.{subst, ap, sym, ◌∙◌}

next_bytes : (bytes : List ℕ) (at b : ℕ) → at < length bytes → get_or bytes at 0 ≡ b → take (suc at) bytes ≡ take at bytes ++ (b ∷ [])
next_bytes bytes at b r e = take-suc bytes at 0 r ∙ ap (λ x. take at bytes ++ (x ∷ [])) e

left_bytes : (bytes : List ℕ) (at b : ℕ) → at < length bytes → get_or bytes at 0 ≡ b → drop at bytes ≡ b ∷ drop (suc at) bytes
left_bytes bytes at b r e = drop-cons bytes at 0 r ∙ ap (λ x. x ∷ drop (suc at) bytes) e

run_next : (s : Scanner) (bytes : List ℕ) (at b : ℕ) → at < length bytes → get_or bytes at 0 ≡ b → IsReading s bytes at
    → step (machine_of s) b ≡ run start (take (suc at) bytes)
run_next s bytes at b r e k =
    ap (λ q. step q b) k.state ∙ sym (run_one start (take at bytes) b) ∙ ap (run start) (sym (next_bytes bytes at b r e))

pub reads_on : (s next : Scanner) (bytes : List ℕ) (at b : ℕ) → at < length bytes → get_or bytes at 0 ≡ b → IsReading s bytes at → HasRead s next at b
    → IsReading next bytes (suc at)
reads_on s next bytes at b r e k h = record {
  state = h.state ∙ run_next s bytes at b r e k;
  stays = subst (StaysWithin greatest_depth start) (sym (next_bytes bytes at b r e))
      (stays_one greatest_depth start (take at bytes) b k.stays
      (subst (λ q. length (stack_of q) ≤ greatest_depth) (h.state ∙ ap (λ q. step q b) k.state) h.fits)
      (sym (ap is_fault (h.state ∙ ap (λ q. step q b) k.state)) ∙ h.alive));
  notes = ap (λ q. recorded q (notes_of next) (suc at) (drop (suc at) bytes)) h.state
      ∙ ap (λ n. recorded (step (machine_of s) b) n (suc at) (drop (suc at) bytes)) h.notes
      ∙ sym (ap (recorded (machine_of s) (notes_of s) at) (left_bytes bytes at b r e)) ∙ k.notes;
  fits = h.fits;
  rows = omega (arith, h.rows, k.rows);
}

-- no whole text has a fault in its beginning
unended : (bytes : List ℕ) (at : ℕ) → is_fault (run start (take at bytes)) ≡ true → is_end (run start bytes) ≡ false
unended bytes at f = by_flag (is_end (run start bytes)) refl
  where
    by_flag : (t : Bool) → is_end (run start bytes) ≡ t → is_end (run start bytes) ≡ false
    by_flag false e = e
    by_flag true e = absurd (end_is_alive bytes at e f)

pub refuses : (s : Scanner) (bytes : List ℕ) (at b : ℕ) → at < length bytes → get_or bytes at 0 ≡ b → IsReading s bytes at
    → (e : ScanRefusal) → IsRefused at (step (machine_of s) b) e → IsRefusal bytes e
refuses s bytes at b r e k (Syntax place) h =
    subst (IsSyntaxFault bytes) (sym h.0)
    (fault_is_found bytes at (omega (arith, r)) k.stays (λ _. fault) (unended bytes (suc at) fault))
  where
    fault : is_fault (run start (take (suc at) bytes)) ≡ true
    fault = sym (ap is_fault (run_next s bytes at b r e k)) ∙ h.1
refuses s bytes at b r e k (Depth place) h =
    subst (λ n. IsRefusal bytes (Depth n)) (sym h.0)
    (depth_is_found bytes at r k.stays (sym (ap is_fault (run_next s bytes at b r e k)) ∙ h.1)
    (subst (λ q. greatest_depth < length (stack_of q)) (run_next s bytes at b r e k) h.2))
refuses s bytes at b r e k NoMemory h = tt

drop_all : {A : Type 0} (xs : List A) (n : ℕ) → length xs ≤ n → drop n xs ≡ []
drop_all [] zero r = refl
drop_all [] (suc n) r = refl
drop_all (x ∷ xs) zero r = absurd (omega (arith, r))
drop_all (x ∷ xs) (suc n) r = drop_all xs n (omega (arith, r))

pub is_json : (s : Scanner) (bytes : List ℕ) (at : ℕ) → length bytes ≤ at → IsReading s bytes at → is_end (machine_of s) ≡ true
    → IsJsonWithin greatest_depth bytes
is_json s bytes at r k e =
    (machine_accepts_within greatest_depth bytes).1 (
      subst (StaysWithin greatest_depth start) (take_all bytes at r) k.stays,
      sym (ap is_end (k.state ∙ ap (run start) (take_all bytes at r))) ∙ e,
    )

pub is_cut_off : (s : Scanner) (bytes : List ℕ) (at : ℕ) → length bytes ≤ at → IsReading s bytes at → is_end (machine_of s) ≡ false
    → IsSyntaxFault bytes (length bytes)
is_cut_off s bytes at r k e =
    fault_is_found bytes (length bytes) (omega arith)
    (subst (StaysWithin greatest_depth start) (take_all bytes at r ∙ sym (take_all bytes (length bytes) (omega arith))) k.stays)
    (λ l. absurd (omega (arith, l)))
    (sym (ap is_end (k.state ∙ ap (run start) (take_all bytes at r))) ∙ e)

pub notes_at_end : (s next : Scanner) (bytes : List ℕ) (at : ℕ) → at ≡ length bytes → IsReading s bytes at
    → notes_of next ≡ finished (machine_of s) (length bytes) (notes_of s) → notes_of next ≡ recorded start no_notes 0 bytes
notes_at_end s next bytes at r k e =
    e ∙ ap (λ n. finished (machine_of s) n (notes_of s)) (sym r) ∙ sym (ap (recorded (machine_of s) (notes_of s) at) (drop_all bytes at (omega (arith, r)))) ∙ k.notes

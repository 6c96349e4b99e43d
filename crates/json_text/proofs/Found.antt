-- The refusals by the machine are those by the grammar.
use Rattle.std.proofs.Common.{◌≡◌, ℕ, zero, suc, Bool, true, false, List, [], ◌∷◌, refl, arith, ◌≤◌, ◌+◌, length, take, nat_le}
use Rattle.json_text.specs.Machine as Machine
use Rattle.json_text.specs.Machine.{step, run, start, is_end, is_fault, StaysWithin}
use Rattle.json_text.specs.Refusal.{greatest_depth}
use Rattle.json_text.specs.Scanning.{FaultIsFound, DepthIsFound}
use Rattle.json_text.proofs.Accepts.{end_alive, machine_accepts_the_grammar, prefix_is_alive, stack_is_the_depth, last_fits}
use mathlib.Core.Path.{ap}

fault_stays : (bytes : List ℕ) → is_fault (run Machine.fault bytes) ≡ true
fault_stays [] = refl
fault_stays (b ∷ bytes) = fault_stays bytes

both_ways : (b : Bool) → b ≡ true → b ≡ false → ⊥
both_ways b e f = grind (arith, e, f)

alive_now : (q : Machine.State) (bytes : List ℕ) → is_fault (run q bytes) ≡ false → is_fault q ≡ false
alive_now q bytes e = by_flag (is_fault q) refl
  where
    faulty : (q : Machine.State) → is_fault q ≡ true → q ≡ Machine.fault
    faulty Machine.fault e = refl
    faulty (Machine.before_value stack) e = absurd (both_ways false e refl)
    faulty (Machine.after_open_array stack) e = absurd (both_ways false e refl)
    faulty (Machine.after_open_object stack) e = absurd (both_ways false e refl)
    faulty (Machine.before_name stack) e = absurd (both_ways false e refl)
    faulty (Machine.after_name stack) e = absurd (both_ways false e refl)
    faulty (Machine.after_value stack) e = absurd (both_ways false e refl)
    faulty (Machine.in_string role stack) e = absurd (both_ways false e refl)
    faulty (Machine.after_backslash role stack) e = absurd (both_ways false e refl)
    faulty (Machine.in_unit n role stack) e = absurd (both_ways false e refl)
    faulty (Machine.in_literal byte bytes stack) e = absurd (both_ways false e refl)
    faulty (Machine.after_minus stack) e = absurd (both_ways false e refl)
    faulty (Machine.after_nought stack) e = absurd (both_ways false e refl)
    faulty (Machine.in_whole stack) e = absurd (both_ways false e refl)
    faulty (Machine.after_point stack) e = absurd (both_ways false e refl)
    faulty (Machine.in_fraction stack) e = absurd (both_ways false e refl)
    faulty (Machine.after_exponent stack) e = absurd (both_ways false e refl)
    faulty (Machine.after_sign stack) e = absurd (both_ways false e refl)
    faulty (Machine.in_power stack) e = absurd (both_ways false e refl)

    by_flag : (b : Bool) → is_fault q ≡ b → is_fault q ≡ false
    by_flag false f = f
    by_flag true f = absurd (both_ways (is_fault (run q bytes)) (rw (faulty q f) (fault_stays bytes)) e)

pub take_all : {A : Type 0} (xs : List A) (n : ℕ) → length xs ≤ n → take n xs ≡ xs
take_all [] zero r = refl
take_all [] (suc n) r = refl
take_all (x ∷ xs) zero r = absurd (omega (arith, r))
take_all (x ∷ xs) (suc n) r = ap (λ ys. x ∷ ys) (take_all xs n (omega (arith, r)))

-- A prefix of what is in no fault is in none.
alive_prefix : (q : Machine.State) (n m : ℕ) (bytes : List ℕ) → n ≤ m → is_fault (run q (take m bytes)) ≡ false → is_fault (run q (take n bytes)) ≡ false
alive_prefix q zero m bytes r e = alive_now q (take m bytes) e
alive_prefix q (suc n) zero bytes r e = absurd (omega (arith, r))
alive_prefix q (suc n) (suc m) [] r e = e
alive_prefix q (suc n) (suc m) (b ∷ bytes) r e = alive_prefix (step q b) n m bytes (omega (arith, r)) e

-- A whole text has no fault in its beginning.
pub end_is_alive : (bytes : List ℕ) (at : ℕ) → is_end (run start bytes) ≡ true → is_fault (run start (take at bytes)) ≡ true → ⊥
end_is_alive bytes at e f =
    both_ways (is_fault (run start (take at bytes))) f
    (alive_prefix start at (at + length bytes) bytes (omega arith)
    (rw (take_all bytes (at + length bytes) (omega arith)) (end_alive (run start bytes) e)))

pub fault_is_found : FaultIsFound
fault_is_found bytes at within stays next unended =
    record {
      good = record {
        within = within;
        begins = (prefix_is_alive (take at bytes)).1 (last_fits greatest_depth start (take at bytes) stays).1;
        longest = λ other short begins. longest other short ((prefix_is_alive (take other bytes)).0 begins);
      };
      flat = (stack_is_the_depth greatest_depth (take at bytes)).1 stays;
      fault = λ json. both_ways (is_end (run start bytes)) ((machine_accepts_the_grammar bytes).0 json) unended;
    }
  where
    longest : (other : ℕ) → other ≤ length bytes → is_fault (run start (take other bytes)) ≡ false → other ≤ at
    longest other short alive = by_order (nat_le other at) refl
      where
        by_order : (b : Bool) → nat_le other at ≡ b → other ≤ at
        by_order true e = grind (arith, e)
        by_order false e = absurd (both_ways (is_fault (run start (take (suc at) bytes))) (next (grind (arith, e, short)))
            (alive_prefix start (suc at) other bytes (grind (arith, e)) alive))

last_within : (levels : ℕ) (q : Machine.State) (bytes : List ℕ) → StaysWithin levels q bytes → length (Machine.stack_of (run q bytes)) ≤ levels
last_within levels q bytes s = (last_fits levels q bytes s).0

pub depth_is_found : DepthIsFound
depth_is_found bytes at within stays alive deep =
    record {
      within = within;
      before = (stack_is_the_depth greatest_depth (take at bytes)).1 stays;
      opens = (prefix_is_alive (take (suc at) bytes)).1 alive;
      deep = λ begins. too_many (last_within greatest_depth start (take (suc at) bytes) ((stack_is_the_depth greatest_depth (take (suc at) bytes)).0 begins));
    }
  where
    too_many : length (Machine.stack_of (run start (take (suc at) bytes))) ≤ greatest_depth → ⊥
    too_many r = omega (arith, r, deep)

-- The machine ends on the JSON texts, and is in no fault on what begins one.
use Rattle.std.proofs.Common.{◌≡◌, ◌↔◌, ℕ, zero, suc, Bool, true, false, List, [], ◌∷◌, ◌++◌, Some, None, Option, refl, arith, ◌+◌, ◌≤◌, length}
use Rattle.json_text.specs.Syntax.{White, Digit, Digits, Whole, nought, positive, Sign, unsigned, plus, minus, Exponent, Mark, plain, escape, unit, null_literal, true_literal, false_literal, Value, literal, number, string, array, object, Items, no_items, items, last_item, next_item, Members, no_members, members, last_member, next_member}
use Rattle.json_text.specs.Byte.{is_plain}
use Rattle.json_text.specs.Grammar.{IsJsonWithin, BeginsJsonWithin, depth, white_bytes, digit_bytes, whole_bytes, fraction_bytes, exponent_bytes, sign_bytes, minus_bytes, mark_bytes, value_bytes, items_bytes, members_bytes}
use Rattle.json_text.specs.Machine as Machine
use Rattle.json_text.specs.Machine.{step, run, start, is_end, is_fault, StaysWithin, MachineAcceptsTheGrammar, PrefixIsAlive, StackIsTheDepth, MachineAcceptsWithin}
use Rattle.json_text.proofs.Completions.{After, AfterName, AfterString, InUnit, Completes, can_be_completed}
use Rattle.json_text.proofs.Forth.{forth}
use Rattle.json_text.proofs.Back.{back}
use mathlib.Core.Path.{subst, ap, sym, ◌∙◌}

module _ (levels : ℕ) where
  after_fits : (stack : List Machine.Frame) (c : List ℕ) → After levels stack c → length stack ≤ levels
  after_fits [] c k = omega arith
  after_fits (Machine.in_array ∷ stack) c (whites, more, rest, k, e) = omega (arith, k.1)
  after_fits (Machine.in_object ∷ stack) c (whites, more, rest, k, e) = omega (arith, k.1)

  name_fits : (stack : List Machine.Frame) (c : List ℕ) → AfterName levels stack c → length stack ≤ levels
  name_fits stack c (before, after, value, rest, k, e) = after_fits stack rest k.0

  string_fits : (role : Machine.Role) (stack : List Machine.Frame) (c : List ℕ) → AfterString levels role stack c → length stack ≤ levels
  string_fits Machine.as_value stack c k = after_fits stack c k
  string_fits Machine.as_name stack c k = name_fits stack c k

  unit_fits : (n : ℕ) (role : Machine.Role) (stack : List Machine.Frame) (c : List ℕ) → InUnit levels n role stack c → length stack ≤ levels
  unit_fits zero role stack c (digit, rest, (marks, rest2, k, e2), e) = string_fits role stack rest2 k
  unit_fits (suc n) role stack c (digit, rest, k, e) = unit_fits n role stack rest k

  -- What can be completed within the levels is within them.
  fits : (q : Machine.State) (c : List ℕ) → Completes levels q c → length (Machine.stack_of q) ≤ levels
  fits (Machine.before_value stack) c (whites, value, rest, k, e) = after_fits stack rest k.0
  fits (Machine.after_open_array stack) c (between, rest, k, e) = omega (arith, k.1)
  fits (Machine.after_open_object stack) c (between, rest, k, e) = omega (arith, k.1)
  fits (Machine.before_name stack) c (whites, name, rest, k, e) = name_fits stack rest k
  fits (Machine.after_name stack) c k = name_fits stack c k
  fits (Machine.after_value stack) c k = after_fits stack c k
  fits (Machine.in_string role stack) c (marks, rest, k, e) = string_fits role stack rest k
  fits (Machine.after_backslash role stack) c (marks, rest, k, e) = string_fits role stack rest k
  fits (Machine.in_unit n role stack) c k = unit_fits n role stack c k
  fits (Machine.in_literal byte bytes stack) c (rest, k, e) = after_fits stack rest k
  fits (Machine.after_minus stack) c (n, rest, k, e) = after_fits stack rest k
  fits (Machine.after_nought stack) c (fraction, exponent, rest, k, e) = after_fits stack rest k
  fits (Machine.in_whole stack) c (digits, fraction, exponent, rest, k, e) = after_fits stack rest k
  fits (Machine.after_point stack) c (digits, exponent, rest, k, e) = after_fits stack rest k
  fits (Machine.in_fraction stack) c (digits, exponent, rest, k, e) = after_fits stack rest k
  fits (Machine.after_exponent stack) c (sign, digits, rest, k, e) = after_fits stack rest k
  fits (Machine.after_sign stack) c (digits, rest, k, e) = after_fits stack rest k
  fits (Machine.in_power stack) c (digits, rest, k, e) = after_fits stack rest k
  fits Machine.fault c l = absurd l

  run_forth : (q : Machine.State) (bytes c : List ℕ) → Completes levels q (bytes ++ c) → Completes levels (run q bytes) c
  run_forth q [] c l = l
  run_forth q (b ∷ bytes) c l = run_forth (step q b) bytes c (forth levels q b (bytes ++ c) l)

  run_back : (q : Machine.State) (bytes c : List ℕ) → StaysWithin levels q bytes → Completes levels (run q bytes) c → Completes levels q (bytes ++ c)
  run_back q [] c s l = l
  run_back q (b ∷ bytes) c s l = back levels q b (bytes ++ c) s.0 (run_back (step q b) bytes c s.1 l)

  pub last_fits : (q : Machine.State) (bytes : List ℕ) → StaysWithin levels q bytes
      → (length (Machine.stack_of (run q bytes)) ≤ levels) × (is_fault (run q bytes) ≡ false)
  last_fits q [] s = s
  last_fits q (b ∷ bytes) s = last_fits (step q b) bytes s.1

  json_completes : (bytes : List ℕ) → IsJsonWithin levels bytes → Completes levels start bytes
  json_completes bytes (text, e, d) = (text.before, text.value, white_bytes text.after [], ((text.after, refl), omega (arith, d)), e)

  completes_json : (bytes : List ℕ) → Completes levels start bytes → IsJsonWithin levels bytes
  completes_json bytes (before, value, rest, ((after, f), d), e) =
      (record { before = before; value = value; after = after }, ap (λ z. white_bytes before (value_bytes value z)) f ∙ e, omega (arith, d))

  -- What ends a text completes the states in which the machine is at an end, and no others.
  some : {x : ℕ} {xs : List ℕ} → x ∷ xs ≡ [] → ⊥
  some e = grind (arith, e)

  number_some : (negative : Bool) (whole : Whole) (rest : List ℕ) → minus_bytes negative (whole_bytes whole rest) ≡ [] → ⊥
  number_some true whole rest e = some e
  number_some false nought rest e = some e
  number_some false (positive first more) rest e = some e

  value_some : (value : Value) (rest : List ℕ) → value_bytes value rest ≡ [] → ⊥
  value_some (literal null_literal) rest e = some e
  value_some (literal true_literal) rest e = some e
  value_some (literal false_literal) rest e = some e
  value_some (number n) rest e = number_some n.negative n.whole _ e
  value_some (string marks) rest e = some e
  value_some (array between) rest e = some e
  value_some (object between) rest e = some e

  before_value_some : (whites : List White) (value : Value) (rest : List ℕ) → white_bytes whites (value_bytes value rest) ≡ [] → ⊥
  before_value_some [] value rest e = value_some value rest e
  before_value_some (w ∷ whites) value rest e = some e

  white_some : (whites : List White) (x : ℕ) (xs : List ℕ) → white_bytes whites (x ∷ xs) ≡ [] → ⊥
  white_some [] x xs e = some e
  white_some (w ∷ whites) x xs e = some e

  items_some : (between : Items) (rest : List ℕ) → items_bytes between rest ≡ [] → ⊥
  items_some (no_items whites) rest e = white_some whites _ _ e
  items_some (items whites value after more) rest e = before_value_some whites value _ e

  members_some : (between : Members) (rest : List ℕ) → members_bytes between rest ≡ [] → ⊥
  members_some (no_members whites) rest e = white_some whites _ _ e
  members_some (members whites name after_name before_value value after more) rest e = white_some whites _ _ e

  marks_some : (marks : List Mark) (rest : List ℕ) → mark_bytes marks rest ≡ [] → ⊥
  marks_some [] rest e = some e
  marks_some (plain b p ∷ marks) rest e = some e
  marks_some (escape b p ∷ marks) rest e = some e
  marks_some (unit x y z w ∷ marks) rest e = some e

  abbrev first_or : ℕ → List ℕ → ℕ
  first_or n [] = n
  first_or n (x ∷ xs) = x

  -- after a backslash
  marks_two : (marks : List Mark) (rest : List ℕ) → mark_bytes marks rest ≡ 92 ∷ [] → ⊥
  marks_two [] rest e = grind (arith, e)
  marks_two (plain b p ∷ marks) rest e = grind (arith, subst (λ n. is_plain n ≡ true) (ap (first_or 0) e) p)
  marks_two (escape b p ∷ marks) rest e = grind (arith, e)
  marks_two (unit x y z w ∷ marks) rest e = grind (arith, e)

  unit_some : (n : ℕ) (role : Machine.Role) (stack : List Machine.Frame) → InUnit levels n role stack [] → ⊥
  unit_some zero role stack (digit, rest, k, e) = some e
  unit_some (suc n) role stack (digit, rest, k, e) = some e

  sign_some : (sign : Sign) (x : ℕ) (xs : List ℕ) → sign_bytes sign (x ∷ xs) ≡ [] → ⊥
  sign_some unsigned x xs e = some e
  sign_some plus x xs e = some e
  sign_some minus x xs e = some e

  -- Nothing can stand for the rest of an array or an object.
  after_empty : (stack : List Machine.Frame) → After levels stack [] → stack ≡ []
  after_empty [] k = refl
  after_empty (Machine.in_array ∷ stack) (whites, last_item, rest, k, e) = absurd (white_some whites _ _ e)
  after_empty (Machine.in_array ∷ stack) (whites, next_item before value after more, rest, k, e) = absurd (white_some whites _ _ e)
  after_empty (Machine.in_object ∷ stack) (whites, last_member, rest, k, e) = absurd (white_some whites _ _ e)
  after_empty (Machine.in_object ∷ stack) (whites, next_member before name after_name before_value value after more, rest, k, e) = absurd (white_some whites _ _ e)

  exponent_rest : (exponent : Option Exponent) (stack : List Machine.Frame) (rest : List ℕ) → After levels stack rest → exponent_bytes exponent rest ≡ [] → After levels stack []
  exponent_rest None stack rest k e = subst (After levels stack) e k
  exponent_rest (Some exponent) stack rest k e = absurd (some e)

  fraction_rest : (fraction : Option Digits) (exponent : Option Exponent) (stack : List Machine.Frame) (rest : List ℕ) → After levels stack rest
      → fraction_bytes fraction (exponent_bytes exponent rest) ≡ [] → After levels stack []
  fraction_rest None exponent stack rest k e = exponent_rest exponent stack rest k e
  fraction_rest (Some digits) exponent stack rest k e = absurd (some e)

  digits_rest : (digits : List Digit) (rest : List ℕ) → digit_bytes digits rest ≡ [] → rest ≡ []
  digits_rest [] rest e = e
  digits_rest (digit ∷ digits) rest e = absurd (some e)

  ended : (q : Machine.State) → Completes levels q [] → is_end q ≡ true
  ended (Machine.before_value stack) (whites, value, rest, k, e) = absurd (before_value_some whites value rest e)
  ended (Machine.after_open_array stack) (between, rest, k, e) = absurd (items_some between rest e)
  ended (Machine.after_open_object stack) (between, rest, k, e) = absurd (members_some between rest e)
  ended (Machine.before_name stack) (whites, name, rest, k, e) = absurd (white_some whites _ _ e)
  ended (Machine.after_name stack) (before, after, value, rest, k, e) = absurd (white_some before _ _ e)
  ended (Machine.after_value stack) k = rw (after_empty stack k) refl
  ended (Machine.in_string role stack) (marks, rest, k, e) = absurd (marks_some marks rest e)
  ended (Machine.after_backslash role stack) (marks, rest, k, e) = absurd (marks_two marks rest e)
  ended (Machine.in_unit n role stack) l = absurd (unit_some n role stack l)
  ended (Machine.in_literal byte bytes stack) (rest, k, e) = absurd (some e)
  ended (Machine.after_minus stack) (n, rest, k, e) = absurd (number_some false n.whole _ e)
  ended (Machine.after_nought stack) (fraction, exponent, rest, k, e) =
      rw (after_empty stack (fraction_rest fraction exponent stack rest k e)) refl
  ended (Machine.in_whole stack) (digits, fraction, exponent, rest, k, e) =
      rw (after_empty stack (fraction_rest fraction exponent stack rest k (digits_rest digits _ e))) refl
  ended (Machine.after_point stack) (digits, exponent, rest, k, e) = absurd (some e)
  ended (Machine.in_fraction stack) (digits, exponent, rest, k, e) =
      rw (after_empty stack (exponent_rest exponent stack rest k (digits_rest digits _ e))) refl
  ended (Machine.after_exponent stack) (sign, digits, rest, k, e) = absurd (sign_some sign _ _ e)
  ended (Machine.after_sign stack) (digits, rest, k, e) = absurd (some e)
  ended (Machine.in_power stack) (digits, rest, k, e) = rw (after_empty stack (subst (After levels stack) (digits_rest digits rest e) k)) refl
  ended Machine.fault l = absurd l

  wrong : {A : Type 0} → false ≡ true → A
  wrong e = grind (arith, e)

  ends : (q : Machine.State) → is_end q ≡ true → Completes levels q []
  ends (Machine.after_value []) e = ([], refl)
  ends (Machine.after_value (frame ∷ stack)) e = wrong e
  ends (Machine.after_nought []) e = (None, None, [], ([], refl), refl)
  ends (Machine.after_nought (frame ∷ stack)) e = wrong e
  ends (Machine.in_whole []) e = ([], None, None, [], ([], refl), refl)
  ends (Machine.in_whole (frame ∷ stack)) e = wrong e
  ends (Machine.in_fraction []) e = ([], None, [], ([], refl), refl)
  ends (Machine.in_fraction (frame ∷ stack)) e = wrong e
  ends (Machine.in_power []) e = ([], [], ([], refl), refl)
  ends (Machine.in_power (frame ∷ stack)) e = wrong e
  ends (Machine.before_value stack) e = wrong e
  ends (Machine.after_open_array stack) e = wrong e
  ends (Machine.after_open_object stack) e = wrong e
  ends (Machine.before_name stack) e = wrong e
  ends (Machine.after_name stack) e = wrong e
  ends (Machine.in_string role stack) e = wrong e
  ends (Machine.after_backslash role stack) e = wrong e
  ends (Machine.in_unit n role stack) e = wrong e
  ends (Machine.in_literal byte bytes stack) e = wrong e
  ends (Machine.after_minus stack) e = wrong e
  ends (Machine.after_point stack) e = wrong e
  ends (Machine.after_exponent stack) e = wrong e
  ends (Machine.after_sign stack) e = wrong e
  ends Machine.fault e = wrong e

  nothing_after : (bytes : List ℕ) → bytes ++ [] ≡ bytes
  nothing_after [] = refl
  nothing_after (b ∷ bytes) = ap (λ z. b ∷ z) (nothing_after bytes)

  sound : (q : Machine.State) (c : List ℕ) → Completes levels q c → is_fault q ≡ false
  sound (Machine.before_value stack) c l = refl
  sound (Machine.after_open_array stack) c l = refl
  sound (Machine.after_open_object stack) c l = refl
  sound (Machine.before_name stack) c l = refl
  sound (Machine.after_name stack) c l = refl
  sound (Machine.after_value stack) c l = refl
  sound (Machine.in_string role stack) c l = refl
  sound (Machine.after_backslash role stack) c l = refl
  sound (Machine.in_unit n role stack) c l = refl
  sound (Machine.in_literal byte bytes stack) c l = refl
  sound (Machine.after_minus stack) c l = refl
  sound (Machine.after_nought stack) c l = refl
  sound (Machine.in_whole stack) c l = refl
  sound (Machine.after_point stack) c l = refl
  sound (Machine.in_fraction stack) c l = refl
  sound (Machine.after_exponent stack) c l = refl
  sound (Machine.after_sign stack) c l = refl
  sound (Machine.in_power stack) c l = refl
  sound Machine.fault c l = absurd l

  stays : (q : Machine.State) (bytes c : List ℕ) → Completes levels q (bytes ++ c) → StaysWithin levels q bytes
  stays q [] c l = (fits q c l, sound q c l)
  stays q (b ∷ bytes) c l = (fits q (b ∷ (bytes ++ c)) l, stays (step q b) bytes c (forth levels q b (bytes ++ c) l))

  pub accepts : (bytes : List ℕ) → IsJsonWithin levels bytes ↔ (StaysWithin levels start bytes × (is_end (run start bytes) ≡ true))
  accepts bytes = (
    (λ json. let l = subst (Completes levels start) (sym (nothing_after bytes)) (json_completes bytes json) in
        (stays start bytes [] l, ended (run start bytes) (run_forth start bytes [] l))),
    (λ e. completes_json bytes (subst (Completes levels start) (nothing_after bytes) (run_back start bytes [] e.0 (ends (run start bytes) e.1)))),
  )

  pub begins : (bytes : List ℕ) → BeginsJsonWithin levels bytes ↔ StaysWithin levels start bytes
  begins bytes = (
    (λ json. stays start bytes json.0 (json_completes (bytes ++ json.0) json.1)),
    (λ s. let last = last_fits start bytes s in
        let k = can_be_completed levels (run start bytes) last.1 last.0 in
        (k.0, completes_json (bytes ++ k.0) (run_back start bytes k.0 s k.1))),
  )

-- Every run without a fault stays within some number of levels.
widen : (small large : ℕ) → small ≤ large → (q : Machine.State) (bytes : List ℕ) → StaysWithin small q bytes → StaysWithin large q bytes
widen small large r q [] s = (omega (arith, r, s.0), s.1)
widen small large r q (b ∷ bytes) s = (omega (arith, r, s.0), widen small large r (step q b) bytes s.1)

peak : (q : Machine.State) (bytes : List ℕ) → is_fault (run q bytes) ≡ false → (levels : ℕ) × StaysWithin levels q bytes
peak q [] e = (length (Machine.stack_of q), (omega arith, e))
peak q (b ∷ bytes) e =
    let more = peak (step q b) bytes e in
    let here = length (Machine.stack_of q) in
    (here + more.0, (omega arith, widen more.0 (here + more.0) (omega arith) (step q b) bytes more.1))

last_alive : (levels : ℕ) (bytes : List ℕ) → StaysWithin levels start bytes → is_fault (run start bytes) ≡ false
last_alive levels bytes s = (last_fits levels start bytes s).1

pub end_alive : (q : Machine.State) → is_end q ≡ true → is_fault q ≡ false
end_alive q e = sound 0 q [] (ends 0 q e)

pub machine_accepts_the_grammar : MachineAcceptsTheGrammar
machine_accepts_the_grammar bytes = (
  (λ json. ((accepts (depth json.0.value) bytes).0 (json.0, json.1, omega arith)).1),
  (λ e. let high = peak start bytes (end_alive (run start bytes) e) in
      let json = (accepts high.0 bytes).1 (high.1, e) in (json.0, json.1)),
)

pub prefix_is_alive : PrefixIsAlive
prefix_is_alive bytes = (
  (λ json. last_alive (depth json.1.0.value) bytes ((begins (depth json.1.0.value) bytes).0 (json.0, (json.1.0, json.1.1, omega arith)))),
  (λ e. let high = peak start bytes e in
      let json = (begins high.0 bytes).1 high.1 in (json.0, (json.1.0, json.1.1))),
)

pub stack_is_the_depth : StackIsTheDepth
stack_is_the_depth levels bytes = begins levels bytes

pub machine_accepts_within : MachineAcceptsWithin
machine_accepts_within levels bytes = accepts levels bytes

-- The numbers that digits write.
use Rattle.std.proofs.Common.{Bool, ◌≡◌, ℕ, ◌+◌, ◌-◌, ◌*◌, ◌<◌, ◌≤◌, true, false, nat_le, List, [], ◌∷◌, ◌++◌, length, get_or, take, drop, Some, None, refl, sym, ap, ◌∙◌, subst, arith}
use Rattle.std.proofs.Common.{take-append-drop}
use Rattle.std.proofs.lemmas.Bool.{and_parts, le-leb, leb-true, lt-leb}
use Rattle.std.proofs.lemmas.List.Sums.{fold-append, fold_more}
use Rattle.field_text.specs.Grammars.{count, number, number_after, some_if}

pub number_after-append : (before : ℕ) (xs ys : List ℕ) → number_after before (xs ++ ys) ≡ number_after (number_after before xs) ys
number_after-append before xs ys = fold-append (λ n digit. 10 * n + (digit - 48)) before xs ys

-- digits only add to a number
pub le-number_after : (before : ℕ) (xs : List ℕ) → before ≤ number_after before xs
le-number_after before [] = omega arith
le-number_after before (x ∷ xs) = let more = le-number_after (10 * before + (x - 48)) xs in omega arith

-- so the digits of a front write no more than all digits
pub front-le-number_after : (before : ℕ) (xs : List ℕ) (i : ℕ) → i < length xs → 10 * number_after before (take i xs) + (get_or xs i 0 - 48) ≤ number_after before xs
front-le-number_after before xs i within =
    let step = fold_more (λ n digit. 10 * n + (digit - 48)) before xs i 0 within in
    let all = number_after-append before (take (i + 1) xs) (drop (i + 1) xs) in
    let rest = le-number_after (number_after before (take (i + 1) xs)) (drop (i + 1) xs) in
    let whole = ap (number_after before) (take-append-drop (i + 1) xs) in
    omega (arith, step, all, rest, whole)

-- a number up to the greatest is there, and a greater one isn't
pub some_up_to : (n greatest : ℕ) → n ≤ greatest → Some n ≡ some_if (nat_le n greatest) n
some_up_to n greatest low = ap (λ b. some_if b n) (sym (le-leb n greatest low))

pub none_past : (n greatest : ℕ) → greatest < n → None ≡ some_if (nat_le n greatest) n
none_past n greatest high = ap (λ b. some_if b n) (sym (lt-leb n greatest high))

-- where a front of the digits writes more than the greatest number, all digits do
pub none_past_front : (before : ℕ) (xs : List ℕ) (i greatest : ℕ) → i < length xs → greatest < 10 * number_after before (take i xs) + (get_or xs i 0 - 48)
    → None ≡ some_if (nat_le (number_after before xs) greatest) (number_after before xs)
none_past_front before xs i greatest within high =
    none_past (number_after before xs) greatest (omega (arith, front-le-number_after before xs i within))

-- a value that is there passed its test
pub some_if-passed : {X : Type 0} (b : Bool) (v n : X) → Some n ≡ some_if b v → (b ≡ true) × (n ≡ v)
some_if-passed true v n e = (refl, cc)
some_if-passed false v n e = absurd (cc)

-- and is there where it passes
pub some_if-passes : {X : Type 0} (b : Bool) (v n : X) → b ≡ true → n ≡ v → Some n ≡ some_if b v
some_if-passes b v n h e = ap Some e ∙ ap (λ t. some_if t v) (sym h)

-- a count is no greater than the greatest
pub count-bound : (greatest : ℕ) (text : List ℕ) (n : ℕ) → count greatest text ≡ Some n → n ≤ greatest
count-bound greatest text n is =
    let read = some_if-passed _ _ _ (sym is) in
    let within : number text ≤ greatest = leb-true (number text) greatest (and_parts _ _ read.0).1 in
    subst (λ k. k ≤ greatest) (sym read.1) within

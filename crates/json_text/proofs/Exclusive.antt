-- No text has two answers.
use Rattle.std.proofs.Common.{◌≡◌, ℕ, zero, suc, Bool, true, false, List, [], ◌∷◌, ◌++◌, inl, inr, Result, Ok, Err, IfOk, IfErr, IsOkUnless, refl, arith, ◌≤◌, ◌<◌, take, drop, append_assoc, nat_lt}
use Rattle.std.proofs.lemmas.List.{take-append-drop}
use Rattle.json_text.specs.Answer.{IsRefusal, IsRefusedWith}
use Rattle.json_text.specs.Grammar.{IsJsonWithin, BeginsJsonWithin}
use Rattle.json_text.specs.Refusal.{greatest_depth, IsSyntaxFault, IsTooDeep}
use Rattle.json_text.specs.declared.refusal.ScanRefusal.{ScanRefusal}
use Rattle.json_text.specs.declared.refusal.ScanRefusal.TheVariants.{Syntax, Depth, NoMemory}
use mathlib.Core.Path.{subst, ap, sym, ◌∙◌}

take_take : {A : Type 0} (n m : ℕ) (xs : List A) → n ≤ m → take n (take m xs) ≡ take n xs
take_take zero zero [] r = refl
take_take zero (suc m) [] r = refl
take_take zero zero (x ∷ xs) r = refl
take_take zero (suc m) (x ∷ xs) r = refl
take_take (suc n) zero xs r = absurd (omega (arith, r))
take_take (suc n) (suc m) [] r = refl
take_take (suc n) (suc m) (x ∷ xs) r = ap (λ z. x ∷ z) (take_take n m xs (omega (arith, r)))

-- What begins a text, begins one wherever it is cut.
prefix_begins : (levels n m : ℕ) (bytes : List ℕ) → n ≤ m → BeginsJsonWithin levels (take m bytes) → BeginsJsonWithin levels (take n bytes)
prefix_begins levels n m bytes r b =
    let mid = take m bytes in
    let whole : take n bytes ++ (drop n mid ++ b.0) ≡ mid ++ b.0 =
    sym (append_assoc (take n bytes) (drop n mid) b.0) ∙ ap (λ z. (z ++ drop n mid) ++ b.0) (sym (take_take n m bytes r)) ∙ ap (λ z. z ++ b.0) (take-append-drop n mid) in
    (drop n mid ++ b.0, subst (IsJsonWithin levels) (sym whole) b.1)

json_begins : (levels n : ℕ) (bytes : List ℕ) → IsJsonWithin levels bytes → BeginsJsonWithin levels (take n bytes)
json_begins levels n bytes json = (drop n bytes, subst (IsJsonWithin levels) (sym (take-append-drop n bytes)) json)

pub json_has_no_fault : (bytes : List ℕ) (at : ℕ) → IsJsonWithin greatest_depth bytes → IsSyntaxFault bytes at → ⊥
json_has_no_fault bytes at json fault = fault.fault (json.0, json.1)

pub json_is_not_deep : (bytes : List ℕ) (at : ℕ) → IsJsonWithin greatest_depth bytes → IsTooDeep bytes at → ⊥
json_is_not_deep bytes at json deep = deep.deep (json_begins greatest_depth (suc at) bytes json)

pub faults_agree : (bytes : List ℕ) (at other : ℕ) → IsSyntaxFault bytes at → IsSyntaxFault bytes other → at ≡ other
faults_agree bytes at other f g = omega (arith, f.good.longest other g.good.within g.good.begins, g.good.longest at f.good.within f.good.begins)

pub fault_is_not_deep : (bytes : List ℕ) (at deep : ℕ) → IsSyntaxFault bytes at → IsTooDeep bytes deep → ⊥
fault_is_not_deep bytes at deep f d =
    d.deep (prefix_begins greatest_depth (suc deep) at bytes (f.good.longest (suc deep) (omega (arith, d.within)) d.opens) f.flat)

not_before : (bytes : List ℕ) (at other : ℕ) → IsTooDeep bytes at → IsTooDeep bytes other → at < other → ⊥
not_before bytes at other d e r = d.deep (prefix_begins greatest_depth (suc at) other bytes (omega (arith, r)) e.before)

pub deeps_agree : (bytes : List ℕ) (at other : ℕ) → IsTooDeep bytes at → IsTooDeep bytes other → at ≡ other
deeps_agree bytes at other d e = by (nat_lt at other) refl (nat_lt other at) refl
  where
    by : (t : Bool) → nat_lt at other ≡ t → (u : Bool) → nat_lt other at ≡ u → at ≡ other
    by true f u g = absurd (not_before bytes at other d e (grind (arith, f)))
    by false f true g = absurd (not_before bytes other at e d (grind (arith, g)))
    by false f false g = grind (arith, f, g)

pub syntax_only : {T : Type 0} (bytes : List ℕ) (r : Result T ScanRefusal) (at : ℕ) → IfOk r (λ _. IsJsonWithin greatest_depth bytes) → IfErr r (IsRefusal bytes)
    → IsSyntaxFault bytes at → IsRefusedWith r (Syntax at)
syntax_only bytes (Ok value) at json refused fault = json_has_no_fault bytes at json fault
syntax_only bytes (Err (Syntax other)) at json refused fault = inr (ap Syntax (faults_agree bytes other at refused fault))
syntax_only bytes (Err (Depth other)) at json refused fault = absurd (fault_is_not_deep bytes at other fault refused)
syntax_only bytes (Err NoMemory) at json refused fault = inl refl

pub depth_only : {T : Type 0} (bytes : List ℕ) (r : Result T ScanRefusal) (at : ℕ) → IfOk r (λ _. IsJsonWithin greatest_depth bytes) → IfErr r (IsRefusal bytes)
    → IsTooDeep bytes at → IsRefusedWith r (Depth at)
depth_only bytes (Ok value) at json refused deep = json_is_not_deep bytes at json deep
depth_only bytes (Err (Syntax other)) at json refused deep = absurd (fault_is_not_deep bytes other at refused deep)
depth_only bytes (Err (Depth other)) at json refused deep = inr (ap Depth (deeps_agree bytes other at refused deep))
depth_only bytes (Err NoMemory) at json refused deep = inl refl

pub accepted : {T : Type 0} (bytes : List ℕ) (r : Result T ScanRefusal) → IfErr r (IsRefusal bytes) → IsJsonWithin greatest_depth bytes → IsOkUnless r NoMemory
accepted bytes (Ok value) refused json = tt
accepted bytes (Err (Syntax at)) refused json = absurd (json_has_no_fault bytes at json refused)
accepted bytes (Err (Depth at)) refused json = absurd (json_is_not_deep bytes at json refused)
accepted bytes (Err NoMemory) refused json = refl

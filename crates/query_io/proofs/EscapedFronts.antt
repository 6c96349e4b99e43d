-- Going over an id beside its escape, byte by byte.
use Rattle.std.proofs.Common.{◌≡◌, ◌≢◌, ℕ, suc, ◌<◌, false, eqb, List, [], ◌∷◌, ◌++◌, length, get_or, take, drop, sym, ap, ◌∙◌, append-nil, arith, drop-cons, take-append-drop}
use Rattle.std.specs.Str.{bytes_eq}
use Rattle.std.proofs.lemmas.Bool.{eqb-true, false_from_ne_true}
use Rattle.std.proofs.lemmas.List.Concat.{flat_map-append, flat_map-cons}
use Rattle.std.proofs.lemmas.Slice.Eq.{bytes_eq-Decides}
use Rattle.field_text.specs.Grammars.{escape, escaped_byte}

append_cancel : (xs ys zs : List ℕ) → xs ++ ys ≡ xs ++ zs → ys ≡ zs
append_cancel [] ys zs e = e
append_cancel (x ∷ xs) ys zs e = append_cancel xs ys zs (tail x (xs ++ ys) (xs ++ zs) e)
  where
    tail : (x : ℕ) (s t : List ℕ) → x ∷ s ≡ x ∷ t → s ≡ t
    tail x s t h = cc

-- the escape from a byte on
escape_from : (id : List ℕ) (i : ℕ) → i < length id → escape id ≡ escape (take i id) ++ (escaped_byte (get_or id i 0) ++ escape (drop (suc i) id))
escape_from id i low =
    ap escape (sym (take-append-drop i id)) ∙ flat_map-append escaped_byte (take i id) (drop i id)
    ∙ ap (λ (z : List ℕ). escape (take i id) ++ escape z) (drop-cons id i 0 low)
    ∙ ap (λ (z : List ℕ). escape (take i id) ++ z) (flat_map-cons escaped_byte (get_or id i 0) (drop (suc i) id))

-- where the next byte's escape doesn't follow, the text is another one
pub other_text : (text rest id : List ℕ) (i : ℕ) → i < length id → text ≡ escape (take i id) ++ rest
    → ((after : List ℕ) → rest ≢ escaped_byte (get_or id i 0) ++ after) → false ≡ bytes_eq text (escape id)
other_text text rest id i low begun none =
    sym (false_from_ne_true (bytes_eq text (escape id)) (λ same.
    none (escape (drop (suc i) id))
    (append_cancel (escape (take i id)) rest (escaped_byte (get_or id i 0) ++ escape (drop (suc i) id))
    (sym begun ∙ (bytes_eq-Decides text (escape id)).0 same ∙ escape_from id i low))))

-- the text is the escape where nothing is left
pub whole_text : (text rest id : List ℕ) → text ≡ escape id ++ rest → eqb (length rest) 0 ≡ bytes_eq text (escape id)
whole_text text [] id begun = sym ((bytes_eq-Decides text (escape id)).1 (begun ∙ append-nil (escape id)))
whole_text text (r ∷ rest) id begun =
    false_from_ne_true (eqb (length (r ∷ rest)) 0) (λ h. let none = eqb-true (length (r ∷ rest)) 0 h in omega (arith, none))
    ∙ sym (false_from_ne_true (bytes_eq text (escape id)) (λ same.
    some r rest (append_cancel (escape id) (r ∷ rest) [] (sym begun ∙ (bytes_eq-Decides text (escape id)).0 same ∙ sym (append-nil (escape id))))))
  where
    some : (r : ℕ) (rest : List ℕ) → (r ∷ rest) ≡ [] → ⊥
    some r rest e = cc

-- Lines of many fields as they are printed, piece by piece.
use Rattle.std.proofs.Common.{◌≡◌, ◌∙◌, ℕ, ◌+◌, ◌%◌, List, [], ◌∷◌, ◌++◌, ap, append_assoc, refl, sym}
use Rattle.std.specs.Prelude.{codes, decimal}
use Rattle.std.specs.List.{join_with_byte}
use Rattle.feed_gen.specs.Draws.{pick}
use Rattle.feed_gen.specs.QueriesText.{depart_text, now_text, query_record}
use Rattle.feed_gen.specs.StopTimesText.{fixed_record, seconds_at, stop_of, time_text}
use Rattle.feed_gen.specs.Texts.{record_line}

-- a field, a comma and the rest of its record
pub first_field : (x y : List ℕ) (rest : List (List ℕ)) → record_line (x ∷ y ∷ rest) ≡ x ++ 44 ∷ record_line (y ∷ rest)
first_field x y rest = append_assoc x (44 ∷ join_with_byte 44 (y ∷ rest)) (codes "\n")

-- the same before the rest as it is printed
then_printed : (x y : List ℕ) (rest : List (List ℕ)) (printed : List ℕ) → record_line (y ∷ rest) ≡ printed
    → record_line (x ∷ y ∷ rest) ≡ x ++ 44 ∷ printed
then_printed x y rest printed e = first_field x y rest ∙ ap (λ text. x ++ 44 ∷ text) e

pub query_line : (query origin destination depart now later : List ℕ)
    → record_line ((113 ∷ query) ∷ (112 ∷ origin) ∷ (115 ∷ destination) ∷ depart ∷ now ∷ later ∷ codes "120" ∷ [])
    ≡ 113 ∷ (query ++ 44 ∷ 112 ∷ (origin ++ 44 ∷ 115 ∷ (destination ++ 44 ∷ (depart ++ 44 ∷ (now ++ 44 ∷ (later ++ 44 ∷ codes "120\n"))))))
query_line query origin destination depart now later =
    then_printed (113 ∷ query) (112 ∷ origin) ((115 ∷ destination) ∷ depart ∷ now ∷ later ∷ codes "120" ∷ []) _
    (then_printed (112 ∷ origin) (115 ∷ destination) (depart ∷ now ∷ later ∷ codes "120" ∷ []) _
    (then_printed (115 ∷ destination) depart (now ∷ later ∷ codes "120" ∷ []) _
    (then_printed depart now (later ∷ codes "120" ∷ []) _
    (then_printed now later (codes "120" ∷ []) _
    (first_field later (codes "120") [])))))

abbrev no_fields : List (List ℕ)
no_fields = [] ∷ [] ∷ [] ∷ [] ∷ [] ∷ [] ∷ []

pub timed_line : (route trip place stop time : List ℕ)
    → record_line ((102 ∷ ((route ++ 95 ∷ []) ++ trip)) ∷ place ∷ (115 ∷ stop) ∷ [] ∷ time ∷ time ∷ [] ∷ [] ∷ [] ∷ [] ∷ [] ∷ [] ∷ [])
    ≡ 102 ∷ (route ++ 95 ∷ (trip ++ 44 ∷ (place ++ 44 ∷ 115 ∷ (stop ++ 44 ∷ 44 ∷ (time ++ 44 ∷ (time ++ codes ",,,,,,\n"))))))
timed_line route trip place stop time =
    then_printed (102 ∷ ((route ++ 95 ∷ []) ++ trip)) place ((115 ∷ stop) ∷ [] ∷ time ∷ time ∷ no_fields) _
    (then_printed place (115 ∷ stop) ([] ∷ time ∷ time ∷ no_fields) _
    (then_printed (115 ∷ stop) [] (time ∷ time ∷ no_fields) _
    (then_printed [] time (time ∷ no_fields) _
    (then_printed time time no_fields _
    (first_field time [] ([] ∷ [] ∷ [] ∷ [] ∷ [] ∷ []))))))
    ∙ ap (λ text. 102 ∷ text)
    (append_assoc (route ++ 95 ∷ []) trip _ ∙ append_assoc route (95 ∷ []) _)

-- the same where the places, and the values, were printed before
pub printed_query : (text places : List ℕ) (number i o d later : ℕ) (depart now : List ℕ)
    → o ≡ pick number (900 + i) 10 → d ≡ pick number (920 + i) 40 → later ≡ i % 3 → depart ≡ depart_text later → now ≡ now_text
    → places ≡ 113 ∷ (decimal i ++ 44 ∷ 112 ∷ (decimal o ++ 44 ∷ 115 ∷ decimal d))
    → text ≡ places ++ 44 ∷ (depart ++ 44 ∷ (now ++ 44 ∷ (decimal later ++ codes ",120\n")))
    → text ≡ record_line (query_record number i)
printed_query text places number i o d later depart now same_o same_d same_later same_depart same_now same_places e =
    let rest : List ℕ = 44 ∷ (depart ++ 44 ∷ (now ++ 44 ∷ (decimal later ++ codes ",120\n"))) in
    e ∙ ap (λ front. front ++ rest) same_places
    ∙ ap (λ more. 113 ∷ more)
    (append_assoc (decimal i) (44 ∷ 112 ∷ (decimal o ++ 44 ∷ 115 ∷ decimal d)) rest
    ∙ ap (λ more. decimal i ++ 44 ∷ 112 ∷ more) (append_assoc (decimal o) (44 ∷ 115 ∷ decimal d) rest))
    ∙ sym (query_line (decimal i) (decimal o) (decimal d) depart now (decimal later))
    ∙ rw (same_depart, same_now, same_o, same_d, same_later) refl

pub printed_stop_time : (text trip : List ℕ) (number l k v stop : ℕ) (time : List ℕ)
    → stop ≡ stop_of number l v → time ≡ time_text (seconds_at number l k v)
    → trip ≡ 102 ∷ (decimal l ++ 95 ∷ decimal k)
    → text ≡ trip ++ 44 ∷ (decimal v ++ 44 ∷ 115 ∷ (decimal stop ++ 44 ∷ 44 ∷ (time ++ 44 ∷ (time ++ codes ",,,,,,\n"))))
    → text ≡ record_line (fixed_record number l k v)
printed_stop_time text trip number l k v stop time same_stop same_time same_trip e =
    let rest : List ℕ = 44 ∷ (decimal v ++ 44 ∷ 115 ∷ (decimal stop ++ 44 ∷ 44 ∷ (time ++ 44 ∷ (time ++ codes ",,,,,,\n")))) in
    e ∙ ap (λ front. front ++ rest) same_trip
    ∙ ap (λ more. 102 ∷ more) (append_assoc (decimal l) (95 ∷ decimal k) rest)
    ∙ sym (timed_line (decimal l) (decimal k) (decimal v) (decimal stop) time)
    ∙ rw (same_stop, same_time) refl

-- Escaped ids are ids: distinct and not empty.
use Rattle.std.proofs.Common.{◌≡◌, ◌≢◌, ℕ, ◌<◌, List, [], length, map, get_or, All, IsUtf8, ap, ◌∙◌, arith}
use Rattle.std.specs.Prelude.{position}
use Rattle.std.specs.Option.{option_map}
use Rattle.std.specs.Str.{bytes_eq}
use Rattle.std.proofs.lemmas.List.Elements.{All-map}
use Rattle.std.proofs.lemmas.Option.{slice_get-get_or, slice_get-map}
use Rattle.std.proofs.lemmas.Str.{IsUtf8-from_ascii}
use Rattle.std.proofs.lemmas.Str.Ascii.{IsAscii-nil}
use Rattle.bound_cert.proofs.EscapedIds.{escape_injective}
use Rattle.bound_cert.proofs.PlaceLines.{id_given}
use Rattle.feed_meaning.proofs.IdFacts.{position-map}
use Rattle.feed_meaning.proofs.Places.{AllPairs-map}
use Rattle.field_text.specs.Grammars.{escape}
use Rattle.flex_model.specs.SoundTimes.{AreIds}
use Rattle.flex_model.proofs.Found.{AllPairs-at}

module _ {X : Type 0} (id : X → List ℕ) (items : List X) where
  pub each_given : All (λ name. name ≢ []) (map id items) → All (λ x. id x ≢ []) items
  each_given given k d low = id_given id items k (get_or items k d) given (slice_get-get_or items k d low)

  given_is : All (λ name. name ≢ []) (map id items) → (k : ℕ) (d : X) → k < length items → id (get_or items k d) ≢ []
  given_is given k d low = each_given given k d low

  pub escaped_ids : All (λ x. IsUtf8 (id x)) items → AreIds (map id items) → AreIds (map (λ x. escape (id x)) items)
  escaped_ids utf8 ids = record {
    distinct = AllPairs-map (λ a b. a ≢ b) (λ x. escape (id x)) items (λ i j d lt low same.
        let first = slice_get-get_or items i d (omega (arith, lt, low)) in
        let second = slice_get-get_or items j d low in
        AllPairs-at (λ a b. a ≢ b) (map id items) i j (id (get_or items i d)) (id (get_or items j d)) ids.distinct lt
        (slice_get-map id items i ∙ ap (option_map id) first) (slice_get-map id items j ∙ ap (option_map id) second)
        (escape_injective (id (get_or items i d)) (id (get_or items j d)) (utf8 i d (omega (arith, lt, low))) (utf8 j d low) same));
    given = All-map (λ name. name ≢ []) (λ x. escape (id x)) items (λ k d low none.
        given_is ids.given k d low (escape_injective (id (get_or items k d)) [] (utf8 k d low) (IsUtf8-from_ascii [] IsAscii-nil) none));
  }

  -- the item of an escaped id is found in the index of the escapes
  pub found_in : (names : List (List ℕ)) (text : List ℕ) → names ≡ map (λ x. escape (id x)) items → position (bytes_eq text) names ≡ position (λ x. bytes_eq text (escape (id x))) items
  found_in names text is = ap (position (bytes_eq text)) is ∙ position-map (λ x. escape (id x)) (bytes_eq text) items

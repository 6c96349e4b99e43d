-- Coordinates as they are kept.
use Rattle.std.proofs.Common.{◌≡◌, ◌∙◌, ℕ, List, Option, Some, ap, sym, pos, unwrap_or, ℤ, to_z, of_z, w64}
use mir.Val.{SFits}
use Rattle.std.proofs.lemmas.Int.{to_z-of_z}
use Rattle.feed_meaning.specs.Locations.{Json}
use Rattle.field_text.specs.Grammars.{degree}

pub kept : (greatest : ℕ) (value : ℤ) (told : Option ℤ) (digits : List ℕ) (json : Json) (node at : ℕ) → SFits w64 value → told ≡ Some value → told ≡ degree greatest digits
    → digits ≡ json.digits node → node ≡ at → to_z w64 (of_z w64 value) ≡ unwrap_or (degree greatest (json.digits at)) (pos 0)
kept greatest value told digits json node at fits some is e same =
    to_z-of_z w64 value fits ∙ ap (λ o. unwrap_or o (pos 0)) (sym some ∙ is ∙ ap (degree greatest) (e ∙ ap json.digits same))

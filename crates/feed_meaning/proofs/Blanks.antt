-- A table lacks its header just where it has no record at all.
use Rattle.std.proofs.Common.{◌≡◌, ℕ, ◌+◌, true, false, List, [], ◌∷◌, Option, Some, length, refl, sym}
use Rattle.feed_tables.specs.Refusals.{first_refusal, first_refusal_from, refusal_of}
use Rattle.feed_tables.specs.declared.refusal.TableRefusal.{TableRefusal}
use Rattle.feed_tables.specs.declared.refusal.TableRefusal.TheVariants as refusal
use Rattle.feed_meaning.specs.Folder.{has_no_record}
use Rattle.feed_meaning.proofs.Kept.{or-not, refusal-not}

refusals-not : (columns place : ℕ) (records : List (List (List ℕ))) → first_refusal_from columns place records ≡ Some refusal.NoHeader → ⊥
unfolding first_refusal_from
refusals-not columns place [] e = cc
refusals-not columns place (fields ∷ rest) e =
    or-not (refusal_of columns place fields) (first_refusal_from columns (place + 1) rest) refusal.NoHeader
    (refusal-not columns place fields refusal.NoHeader (λ h. cc) (λ h. cc) (λ h. cc) (λ h. cc)) (refusals-not columns (place + 1) rest) e

-- a table that lacks its header has no record
pub no_header_is_blank : (records : List (List (List ℕ))) → first_refusal records ≡ Some refusal.NoHeader → has_no_record records ≡ true
no_header_is_blank [] e = refl
no_header_is_blank (header ∷ rows) e = absurd (refusals-not (length header) 0 (header ∷ rows) e)

-- any other answer shows a record
pub other_refusal_is_not_blank : (records : List (List (List ℕ))) (o : Option TableRefusal) → first_refusal records ≡ o → (o ≡ Some refusal.NoHeader → ⊥) → has_no_record records ≡ false
other_refusal_is_not_blank [] o e differs = absurd (differs (sym e))
other_refusal_is_not_blank (header ∷ rows) o e differs = refl

-- The moment of a text.
use Rattle.std.proofs.Common.{◌≡◌, ℕ, ◌+◌, ◌*◌, true, false, ◌&&◌, nat_le, List, ℤ, pos, ◌+ℤ◌, ◌*ℤ◌, Some, None, slice_range, refl, ap, ◌∙◌}
use Rattle.std.proofs.lemmas.Bool.{and_from, and_parts}
use Rattle.std.specs.Prelude.{codes}
use Rattle.jiff_core.specs.Calendar.{days_from_civil}
use Rattle.field_text.specs.Grammars.{is_civil, is_shaped, moment, number, some_if}
use Rattle.field_text.proofs.NumberLemmas.{some_if-passed, some_if-passes}

-- a text of another shape is no moment
pub moment-unshaped : (first last : ℕ) (text : List ℕ) → is_shaped (codes "0000-00-00T00:00:00Z") text ≡ false → None ≡ moment first last text
moment-unshaped first last text h = rw h refl

-- a moment is that of its day and of its second of the day
pub moment-from_parts : (first last : ℕ) (text : List ℕ) (day : ℤ) (second : ℕ) → is_shaped (codes "0000-00-00T00:00:00Z") text ≡ true
    → Some day ≡ some_if (is_civil first last (number (slice_range text 0 4)) (number (slice_range text 5 7)) (number (slice_range text 8 10)))
    (days_from_civil (pos (number (slice_range text 0 4))) (number (slice_range text 5 7)) (number (slice_range text 8 10)))
    → Some second ≡ some_if (nat_le (number (slice_range text 11 13)) 23 && nat_le (number (slice_range text 14 16)) 59 && nat_le (number (slice_range text 17 19)) 59)
    (3600 * number (slice_range text 11 13) + 60 * number (slice_range text 14 16) + number (slice_range text 17 19))
    → Some ((pos 86400 *ℤ day) +ℤ pos second) ≡ moment first last text
moment-from_parts first last text day second shaped on at =
    let date = some_if-passed _ _ _ on in
    let clock = some_if-passed _ _ _ at in
    let parts = and_parts _ _ clock.0 in
    let first_parts = and_parts _ _ parts.0 in
    some_if-passes _ _ _ (and_from _ _ (and_from _ _ (and_from _ _ (and_from _ _ shaped date.0) first_parts.0) first_parts.1) parts.1)
    (ap (λ d. (pos 86400 *ℤ d) +ℤ pos second) date.1 ∙ ap (λ n. (pos 86400 *ℤ days_from_civil (pos (number (slice_range text 0 4))) (number (slice_range text 5 7)) (number (slice_range text 8 10))) +ℤ pos n) clock.1)

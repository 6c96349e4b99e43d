-- Rows, and the shapes that they stand for.
use Rattle.std.proofs.Common.{◌≡◌, ℕ, zero, suc, List, [], ◌∷◌, ◌++◌, refl, arith, ◌-◌, ◌<◌, ◌≤◌, length, map, get_or, slice_set}
use Rattle.json_text.specs.Recording.{Shape, Notes, change, close}
use Rattle.json_text.specs.Progress.{shape_of, stack_in, numbers_in}
use Rattle.json_text.specs.Moves.{frame_of}
use Rattle.json_text.specs.declared.scanner.Frame.{Frame}
use Rattle.std.proofs.lemmas.List.{reverse-append}
use Rattle.json_text.specs.declared.row.Row.{Row}
use mathlib.Core.Path.{subst, ap, sym, ◌∙◌}

pub length_map : {A B : Type 0} (f : A → B) (xs : List A) → length (map f xs) ≡ length xs
length_map f [] = refl
length_map f (x ∷ xs) = ap suc (length_map f xs)

-- A row that is written changes its shape.
pub write_row : (f : Shape → Shape) (rows : List Row) (i : ℕ) (row old : Row) → i < length rows → old ≡ get_or rows i old → shape_of row ≡ f (shape_of old)
    → map shape_of (slice_set rows i row) ≡ change f i (map shape_of rows)
write_row f [] i row old r o e = absurd (omega (arith, r))
write_row f (x ∷ rows) zero row old r o e = ap (λ s. s ∷ map shape_of rows) (e ∙ ap (λ x. f (shape_of x)) o)
write_row f (x ∷ rows) (suc i) row old r o e = ap (λ s. shape_of x ∷ s) (write_row f rows i row old (omega (arith, r)) o e)

pub write_last : (f : Shape → Shape) (rows : List Row) (count : ℕ) (row old : Row) → count ≡ length rows → 0 < count → old ≡ get_or rows (count - 1) old
    → shape_of row ≡ f (shape_of old) → map shape_of (slice_set rows (count - 1) row) ≡ change f (length (map shape_of rows) - 1) (map shape_of rows)
write_last f rows count row old l r o e =
    write_row f rows (count - 1) row old (omega (arith, r, l)) o e
    ∙ ap (λ n. change f (n - 1) (map shape_of rows)) (l ∙ sym (length_map shape_of rows))

-- Behind the last, nothing is changed.
pub change_behind : (f : Shape → Shape) (i : ℕ) (shapes : List Shape) → length shapes ≤ i → change f i shapes ≡ shapes
change_behind f i [] r = refl
change_behind f zero (x ∷ shapes) r = absurd (omega (arith, r))
change_behind f (suc i) (x ∷ shapes) r = ap (λ s. x ∷ s) (change_behind f i shapes (omega (arith, r)))

pub numbers_push : (frames : List Frame) (frame : Frame) → numbers_in (frames ++ frame ∷ []) ≡ frame.node ∷ numbers_in frames
numbers_push frames frame = ap (map (λ f. f.node)) (reverse-append frames (frame ∷ []))

pub stack_push : (frames : List Frame) (frame : Frame) → stack_in (frames ++ frame ∷ []) ≡ frame_of frame.bracket ∷ stack_in frames
stack_push frames frame = ap (map (λ f. frame_of f.bracket)) (reverse-append frames (frame ∷ []))

abbrev noted_with : List Shape → List ℕ → ℕ → ℕ → Notes
noted_with shapes opened from to = record { shapes = shapes; opened = opened; name_from = from; name_to = to }

pub close_frame : (rows : List Row) (shapes : List Shape) (old new : List Frame) (frame : Frame) (next from to : ℕ) → old ≡ new ++ frame ∷ []
    → next ≡ length rows → shapes ≡ change (λ s. record s { next = next }) frame.node (map shape_of rows)
    → noted_with shapes (numbers_in new) from to ≡ close (noted_with (map shape_of rows) (numbers_in old) from to)
close_frame rows shapes old new frame next from to e l s =
    subst (λ opened. noted_with shapes (numbers_in new) from to ≡ close (noted_with (map shape_of rows) opened from to))
    (sym (ap numbers_in e ∙ numbers_push new frame))
    (ap (λ z. noted_with z (numbers_in new) from to) (s ∙ ap (λ n. change (λ s. record s { next = n }) frame.node (map shape_of rows)) (l ∙ sym (length_map shape_of rows))))

nothing_in : {A : Type 0} (xs : List A) → length xs ≡ 0 → xs ≡ []
nothing_in [] e = refl
nothing_in (x ∷ xs) e = absurd (omega (arith, e))

pub close_none : (shapes : List Shape) (old new : List Frame) (from to : ℕ) → length old ≡ 0 → length new ≡ 0
    → noted_with shapes (numbers_in new) from to ≡ close (noted_with shapes (numbers_in old) from to)
close_none shapes old new from to o n =
    subst (λ x. noted_with shapes (numbers_in new) from to ≡ close (noted_with shapes (numbers_in x) from to)) (sym (nothing_in old o))
    (ap (λ x. noted_with shapes (numbers_in x) from to) (nothing_in new n))

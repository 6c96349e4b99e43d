-- Texts that are printed one after another.
use Rattle.std.proofs.Common.{map, Option, OnOk, ◌≡◌, ℕ, zero, suc, ◌+◌, ◌<◌, List, [], ◌∷◌, ◌++◌, length, get_or, take, Result, Ok, Err, refl, sym, ap, subst, arith, append_assoc, inl, inr, ◌∙◌, add-one}
use Rattle.std.proofs.lemmas.List.{append-nil}
use Rattle.flex_io.specs.Outside.{Gains, grown, IsBeginning}
use Rattle.flex_io.specs.declared.error.PutError.{PutError}
use Rattle.flex_io.specs.declared.error.PutError.TheVariants.{Failed, NoMemory}
use Rattle.flexplan.proofs.Gains.{grown-nil}
use Rattle.flexplan.specs.Texts.{Texts, FirstTexts, PartText, PartTexts, Prints, PrintsAll}

take_none : (Q : Type 0) (count : ℕ) → take {A = Q} count [] ≡ []
take_none Q zero = refl
take_none Q (suc count) = refl

module _ {Q : Type 0} (IsTextOf : Q → List ℕ → Type 0) where
  -- one text more
  pub one_more : (items : List Q) (count : ℕ) (d : Q) (first rest : List ℕ) → count < length items
      → Texts IsTextOf (take count items) first → IsTextOf (get_or items count d) rest → Texts IsTextOf (take (suc count) items) (first ++ rest)
  one_more [] count d first rest in_range so_far next = absurd (omega arith)
  one_more (item ∷ items) zero d first rest in_range so_far next =
      (rest, [], next, refl, ap (λ (l : List ℕ). l ++ rest) so_far ∙ sym (append-nil rest))
  one_more (item ∷ items) (suc count) d first rest in_range so_far next = (
    so_far.0,
    so_far.1 ++ rest,
    so_far.2,
    one_more items count d so_far.1 rest (omega arith) so_far.3 next,
    ap (λ (l : List ℕ). l ++ rest) so_far.4 ∙ append_assoc so_far.0 so_far.1 rest,
  )

  -- a part of one text more
  pub part_more : (items : List Q) (count : ℕ) (d : Q) (first part : List ℕ) → count < length items
      → Texts IsTextOf (take count items) first → PartText IsTextOf (get_or items count d) part → PartTexts IsTextOf items (first ++ part)
  part_more [] count d first part in_range so_far next = absurd (omega arith)
  part_more (item ∷ items) zero d first part in_range so_far next =
      inl (subst (PartText IsTextOf item) (sym (ap (λ (l : List ℕ). l ++ part) so_far)) next)
  part_more (item ∷ items) (suc count) d first part in_range so_far next = inr (
    so_far.0,
    so_far.1 ++ part,
    so_far.2,
    part_more items count d so_far.1 part (omega arith) so_far.3 next,
    ap (λ (l : List ℕ). l ++ part) so_far.4 ∙ append_assoc so_far.0 so_far.1 part,
  )

  -- a print that stopped ends the whole
  pub stops : (items : List Q) (count : ℕ) (d : Q) (e : PutError) (first rest : List ℕ) → count < length items
      → Texts IsTextOf (take count items) first → Prints IsTextOf (get_or items count d) (Err e) rest → PrintsAll IsTextOf items (Err e) (first ++ rest)
  stops items count d Failed first rest in_range so_far next = part_more items count d first rest in_range so_far next
  stops items count d NoMemory first rest in_range so_far next =
      (count, subst (Texts IsTextOf (take count items)) (sym (ap (λ (l : List ℕ). first ++ l) next ∙ append-nil first)) so_far)

  pub stops_as : (items : List Q) (count : ℕ) (d : Q) (e : PutError) (one all : Result (Unit {0}) PutError) (first rest : List ℕ) → count < length items
      → one ≡ Err e → all ≡ Err e → Texts IsTextOf (take count items) first → Prints IsTextOf (get_or items count d) one rest → PrintsAll IsTextOf items all (first ++ rest)
  stops_as items count d e one all first rest in_range one_is all_is so_far next =
      let stopped = subst (λ r. Prints IsTextOf (get_or items count d) r rest) one_is next in
      subst (λ r. PrintsAll IsTextOf items r (first ++ rest)) (sym all_is) (stops items count d e first rest in_range so_far stopped)

  pub goes_on : (items : List Q) (count : ℕ) (d : Q) (u : Unit {0}) (one : Result (Unit {0}) PutError) (first rest : List ℕ) → count < length items
      → one ≡ Ok u → Texts IsTextOf (take count items) first → Prints IsTextOf (get_or items count d) one rest → Texts IsTextOf (take (count + 1) items) (first ++ rest)
  goes_on items count d u one first rest in_range one_is so_far next =
      let whole = subst (λ r. Prints IsTextOf (get_or items count d) r rest) one_is next in
      rw add-one (one_more items count d first rest in_range so_far whole)

  -- Where each item has a text, all have.
  pub all_texts : ((item : Q) → (text : List ℕ) × IsTextOf item text) → (items : List Q) → (text : List ℕ) × Texts IsTextOf items text
  all_texts some [] = ([], refl)
  all_texts some (item ∷ items) =
      let first = some item in
      let rest = all_texts some items in
      (first.0 ++ rest.0, (first.0, rest.0, first.1, rest.1, refl))

  -- So what was cut short is the beginning of a whole.
  pub completed : (items : List Q) (bytes : List ℕ) → (text : List ℕ) × Texts IsTextOf items text → PartTexts IsTextOf items bytes
      → (text : List ℕ) × Texts IsTextOf items text × IsBeginning text bytes
  completed [] bytes whole part = absurd part
  completed (item ∷ items) bytes whole (inl part) =
      let rest = whole.1.1 in (
        part.0 ++ rest,
        (part.0, rest, part.1, whole.1.3, refl),
        (part.2.0 ++ rest, ap (λ (l : List ℕ). l ++ rest) part.2.1 ∙ append_assoc bytes part.2.0 rest),
      )
  completed (item ∷ items) bytes whole (inr more) =
      let later = completed items more.1 (whole.1.1, whole.1.3) more.3 in (
        more.0 ++ later.0,
        (more.0, later.0, more.2, later.1, refl),
        (
          later.2.0,
          ap (λ (l : List ℕ). more.0 ++ l) later.2.1 ∙ sym (append_assoc more.0 more.1 later.2.0) ∙ ap (λ (l : List ℕ). l ++ later.2.0) (sym more.4),
        ),
      )

  -- an item that was printed before others
  prepend : (item : Q) (items : List Q) (r : Result (Unit {0}) PutError) (first rest : List ℕ) → IsTextOf item first
      → PrintsAll IsTextOf items r rest → PrintsAll IsTextOf (item ∷ items) r (first ++ rest)
  prepend item items (Ok _) first rest is others = (first, rest, is, others, refl)
  prepend item items (Err Failed) first rest is others = inr (first, rest, is, others, refl)
  prepend item items (Err NoMemory) first rest is others = (suc others.0, (first, rest, is, others.1, refl))

  -- items that were printed before others
  pub print_after : (items more : List Q) (r : Result (Unit {0}) PutError) (first rest : List ℕ) → Texts IsTextOf items first
      → PrintsAll IsTextOf more r rest → PrintsAll IsTextOf (items ++ more) r (first ++ rest)
  print_after [] more r first rest none others =
      subst (PrintsAll IsTextOf more r) (sym (ap (λ (l : List ℕ). l ++ rest) none)) others
  print_after (item ∷ items) more r first rest texts others =
      let later = print_after items more r texts.1 rest texts.3 others in
      subst (PrintsAll IsTextOf (item ∷ (items ++ more)) r) (sym (ap (λ (l : List ℕ). l ++ rest) texts.4 ∙ append_assoc texts.0 texts.1 rest))
      (prepend item (items ++ more) r texts.0 (texts.1 ++ rest) texts.2 later)

  -- one item alone
  pub print_one : (item : Q) (r : Result (Unit {0}) PutError) (bytes : List ℕ) → Prints IsTextOf item r bytes → PrintsAll IsTextOf (item ∷ []) r bytes
  print_one item (Ok _) bytes is = (bytes, [], is, refl, sym (append-nil bytes))
  print_one item (Err Failed) bytes is = inl is
  print_one item (Err NoMemory) bytes is = (0, is)

  -- a print that stopped had stopped before more items too
  pub print_stopped : (items more : List Q) (e : PutError) (bytes : List ℕ) → PrintsAll IsTextOf items (Err e) bytes → PrintsAll IsTextOf (items ++ more) (Err e) bytes
  print_stopped [] more Failed bytes stopped = absurd stopped
  print_stopped (item ∷ items) more Failed bytes (inl part) = inl part
  print_stopped (item ∷ items) more Failed bytes (inr later) =
      inr (later.0, later.1, later.2, print_stopped items more Failed later.1 later.3, later.4)
  print_stopped [] more NoMemory bytes (count, none) = (0, subst (λ (l : List Q). Texts IsTextOf l bytes) (take_none Q count) none)
  print_stopped (item ∷ items) more NoMemory bytes (zero, none) = (0, none)
  print_stopped (item ∷ items) more NoMemory bytes (suc count, texts) =
      let later = print_stopped items more NoMemory texts.1 (count, texts.3) in
      (suc later.0, (texts.0, texts.1, texts.2, later.1, texts.4))

  -- a right text was put
  pub put_prints : (item : Q) (text : List ℕ) (before after : Option (List ℕ)) (r : Result (Unit {0}) PutError) → IsTextOf item text
      → OnOk r (after ≡ grown before text) → (r ≡ Err Failed → Gains before after (IsBeginning text)) → (r ≡ Err NoMemory → after ≡ before)
      → Gains before after (Prints IsTextOf item r)
  put_prints item text before after (Ok u) is whole part nothing = (text, is, whole)
  put_prints item text before after (Err Failed) is whole part nothing =
      let kept = part refl in (kept.0, (text, is, kept.1), kept.2)
  put_prints item text before after (Err NoMemory) is whole part nothing = ([], refl, nothing refl ∙ sym (grown-nil before))

module _ {P Q : Type 0} (f : P → Q) (IsTextOf : Q → List ℕ → Type 0) where
  -- the same texts, of items that were made of others
  pub texts-map : (items : List P) (bytes : List ℕ) → Texts (λ item. IsTextOf (f item)) items bytes → Texts IsTextOf (map f items) bytes
  texts-map [] bytes none = none
  texts-map (item ∷ items) bytes texts = (texts.0, texts.1, texts.2, texts-map items texts.1 texts.3, texts.4)

  parts-map : (items : List P) (bytes : List ℕ) → PartTexts (λ item. IsTextOf (f item)) items bytes → PartTexts IsTextOf (map f items) bytes
  parts-map [] bytes none = none
  parts-map (item ∷ items) bytes (inl part) = inl part
  parts-map (item ∷ items) bytes (inr later) =
      inr (later.0, later.1, later.2, parts-map items later.1 later.3, later.4)

  first-map : (items : List P) (bytes : List ℕ) → FirstTexts (λ item. IsTextOf (f item)) items bytes → FirstTexts IsTextOf (map f items) bytes
  first-map [] bytes (zero, none) = (0, none)
  first-map [] bytes (suc count, none) = (0, none)
  first-map (item ∷ items) bytes (zero, none) = (0, none)
  first-map (item ∷ items) bytes (suc count, texts) =
      let later = first-map items texts.1 (count, texts.3) in
      (suc later.0, (texts.0, texts.1, texts.2, later.1, texts.4))

  pub prints-map : (items : List P) (r : Result (Unit {0}) PutError) (bytes : List ℕ) → PrintsAll (λ item. IsTextOf (f item)) items r bytes → PrintsAll IsTextOf (map f items) r bytes
  prints-map items (Ok _) bytes prints = texts-map items bytes prints
  prints-map items (Err Failed) bytes prints = parts-map items bytes prints
  prints-map items (Err NoMemory) bytes prints = first-map items bytes prints

module _ {Q : Type 0} (P R : Q → List ℕ → Type 0) (weaker : (item : Q) (text : List ℕ) → P item text → R item text) where
  -- the same texts, of which less is said
  texts_weaker : (items : List Q) (bytes : List ℕ) → Texts P items bytes → Texts R items bytes
  texts_weaker [] bytes none = none
  texts_weaker (item ∷ items) bytes texts = (texts.0, texts.1, weaker item texts.0 texts.2, texts_weaker items texts.1 texts.3, texts.4)

  parts_weaker : (items : List Q) (bytes : List ℕ) → PartTexts P items bytes → PartTexts R items bytes
  parts_weaker [] bytes none = none
  parts_weaker (item ∷ items) bytes (inl part) = inl (part.0, weaker item part.0 part.1, part.2)
  parts_weaker (item ∷ items) bytes (inr later) =
      inr (later.0, later.1, weaker item later.0 later.2, parts_weaker items later.1 later.3, later.4)

  pub prints_weaker : (items : List Q) (r : Result (Unit {0}) PutError) (bytes : List ℕ) → PrintsAll P items r bytes → PrintsAll R items r bytes
  prints_weaker items (Ok _) bytes prints = texts_weaker items bytes prints
  prints_weaker items (Err Failed) bytes prints = parts_weaker items bytes prints
  prints_weaker items (Err NoMemory) bytes prints = (prints.0, texts_weaker (take prints.0 items) bytes prints.1)

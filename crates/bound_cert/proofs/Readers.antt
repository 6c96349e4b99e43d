-- Readers: what is read is the text of a value, the text of a value is read, and where reading stops is the first bad line.
use Rattle.std.proofs.Common.{◌≡◌, ◌⊎◌, ℕ, zero, suc, ◌+◌, ◌≤◌, List, [], ◌∷◌, ◌++◌, length, Result, Ok, Err, refl, sym, ap, subst, ◌∙◌, append_assoc, append-nil, arith, inl, inr}
use Rattle.bound_cert.specs.Reading.{Read, ◌>>=◌, each_from, map_at, pair_at}
use Rattle.bound_cert.specs.Syntax.{AreWholeLines}

-- the text of a value begins with the bytes
pub record Begins {A : Type 0} (text : A → List ℕ) (Valid : A → Type 0) (bytes : List ℕ) : Type 0 where
  pub value : A
  pub valid : Valid value
  pub more : List ℕ
  pub is : text value ≡ bytes ++ more

-- so many bytes are left from the first bad line on
pub record Stops {A : Type 0} (text : A → List ℕ) (Valid : A → Type 0) (bytes : List ℕ) (left : ℕ) : Type 0 where
  pub before : List ℕ
  pub after : List ℕ
  pub parts : bytes ≡ before ++ after
  pub left_is : length after ≡ left
  pub whole : AreWholeLines before
  pub begins : Begins text Valid before
  pub bad : (next rest : List ℕ) → after ≡ next ++ 10 ∷ rest → ¬ (Begins text Valid (before ++ (next ++ 10 ∷ [])))

pub record IsReader {A : Type 0} (text : A → List ℕ) (Valid : A → Type 0) (read : List ℕ → Read A) : Type 0 where
  pub sound : (bytes : List ℕ) (a : A) (rest : List ℕ) → read bytes ≡ Ok (a, rest) → Valid a × (bytes ≡ text a ++ rest)
  pub complete : (a : A) (rest : List ℕ) → Valid a → read (text a ++ rest) ≡ Ok (a, rest)
  pub stops : (bytes : List ℕ) (left : ℕ) → read bytes ≡ Err left → Stops text Valid bytes left
  pub lines : (a : A) → Valid a → AreWholeLines (text a)

-- ---- results

pub bind_ok : {A B : Type 0} (r : Result A ℕ) (f : A → Result B ℕ) (y : B) → (r >>= f) ≡ Ok y → (x : A) × (r ≡ Ok x) × (f x ≡ Ok y)
bind_ok (Ok x) f y e = (x, refl, e)
bind_ok (Err d) f y e = absurd cc

abbrev pub failed : {A : Type 0} → ℕ → Result A ℕ
failed e = Err e

err_is : {A : Type 0} (d e : ℕ) → failed {A = A} d ≡ failed e → d ≡ e
err_is d e h = cc

-- where both in a row fail, the first fails or the second does
pub bind_err : {A B : Type 0} (r : Result A ℕ) (f : A → Result B ℕ) (e : ℕ) → (r >>= f) ≡ Err e → (r ≡ Err e) ⊎ ((x : A) × (r ≡ Ok x) × (f x ≡ Err e))
bind_err (Ok x) f e h = inr (x, refl, h)
bind_err (Err d) f e h = inl (ap failed (err_is d e h))

abbrev pub done : {A : Type 0} → A → Result A ℕ
done x = Ok x

pub ok_is : {A : Type 0} (x y : A) → done x ≡ done y → x ≡ y
ok_is x y e = cc

pub ok_not_err : {A : Type 0} (r : Result A ℕ) (x : A) (e : ℕ) → r ≡ Ok x → r ≡ Err e → ⊥
ok_not_err r x e is is' = differ (sym is ∙ is')
  where
    differ : done x ≡ failed e → ⊥
    differ h = cc

-- ---- bytes

-- of two texts that begin alike one begins with the other
pub append_fork : (xs ys zs ws : List ℕ) → xs ++ ys ≡ zs ++ ws
    → ((more : List ℕ) × (xs ≡ zs ++ more)) ⊎ ((more : List ℕ) × (zs ≡ xs ++ more) × (ys ≡ more ++ ws))
append_fork xs ys [] ws e = inl (xs, refl)
append_fork [] ys (z ∷ zs) ws e = inr (z ∷ zs, refl, e)
append_fork (x ∷ xs) ys (z ∷ zs) ws e = by (append_fork xs ys zs ws (tails x z (xs ++ ys) (zs ++ ws) e))
  where
    tails : (x z : ℕ) (s t : List ℕ) → x ∷ s ≡ z ∷ t → s ≡ t
    tails x z s t h = cc

    heads : (x z : ℕ) (s t : List ℕ) → x ∷ s ≡ z ∷ t → x ≡ z
    heads x z s t h = cc

    same : x ≡ z
    same = heads x z (xs ++ ys) (zs ++ ws) e

    by : ((more : List ℕ) × (xs ≡ zs ++ more)) ⊎ ((more : List ℕ) × (zs ≡ xs ++ more) × (ys ≡ more ++ ws))
        → ((more : List ℕ) × (x ∷ xs ≡ (z ∷ zs) ++ more)) ⊎ ((more : List ℕ) × (z ∷ zs ≡ (x ∷ xs) ++ more) × (ys ≡ more ++ ws))
    by (inl h) = inl (h.0, ap (λ (k : ℕ). k ∷ xs) same ∙ ap (λ (s : List ℕ). z ∷ s) h.1)
    by (inr h) = inr (h.0, ap (λ (k : ℕ). k ∷ zs) (sym same) ∙ ap (λ (s : List ℕ). x ∷ s) h.1, h.2)

pub whole_append : (xs ys : List ℕ) → AreWholeLines xs → AreWholeLines ys → AreWholeLines (xs ++ ys)
whole_append xs ys first (inl none) = subst AreWholeLines (sym (ap (λ (z : List ℕ). xs ++ z) none ∙ append-nil xs)) first
whole_append xs ys first (inr some) = inr (xs ++ some.0, ap (λ (z : List ℕ). xs ++ z) some.1 ∙ sym (append_assoc xs some.0 (10 ∷ [])))

-- ---- a value and another

module _ {A B : Type 0} (first_text : A → List ℕ) (FirstValid : A → Type 0) (read_first : List ℕ → Read A)
    (second_text : A → B → List ℕ) (SecondValid : A → B → Type 0) (read_second : A → List ℕ → Read B) where
  abbrev pub pair_text : A × B → List ℕ
  pair_text p = first_text p.0 ++ second_text p.0 p.1

  abbrev pub PairValid : A × B → Type 0
  PairValid p = FirstValid p.0 × SecondValid p.0 p.1

  abbrev read_pair : List ℕ → Read (A × B)
  read_pair = pair_at read_first read_second

  module _ (first_is : IsReader first_text FirstValid read_first) (second_is : (a : A) → FirstValid a → IsReader (second_text a) (SecondValid a) (read_second a))
      (some : (a : A) → FirstValid a → (b : B) × SecondValid a b) where
    abbrev paired : A → B × List ℕ → Read (A × B)
    paired a y = Ok ((a, y.0), y.1)

    abbrev second_then : A × List ℕ → Read (A × B)
    second_then x = read_second x.0 x.1 >>= paired x.0

    pair_sound : (bytes : List ℕ) (p : A × B) (rest : List ℕ) → read_pair bytes ≡ Ok (p, rest) → PairValid p × (bytes ≡ pair_text p ++ rest)
    pair_sound bytes p rest e =
        let b = bind_ok (read_first bytes) second_then (p, rest) e in
        let x = b.0 in
        let d = bind_ok (read_second x.0 x.1) (paired x.0) (p, rest) b.2 in
        let y = d.0 in
        let one = first_is.sound bytes x.0 x.1 b.1 in
        let two = (second_is x.0 one.0).sound x.1 y.0 y.1 d.1 in
        let is : bytes ≡ (first_text x.0 ++ second_text x.0 y.0) ++ y.1 =
        one.1 ∙ ap (λ (z : List ℕ). first_text x.0 ++ z) two.1 ∙ sym (append_assoc (first_text x.0) (second_text x.0 y.0) y.1) in
        let made : (A × B) × List ℕ = ((x.0, y.0), y.1) in
        subst (λ (q : (A × B) × List ℕ). PairValid q.0 × (bytes ≡ pair_text q.0 ++ q.1)) (ok_is made (p, rest) d.2) ((one.0, two.0), is)

    pair_complete : (p : A × B) (rest : List ℕ) → PairValid p → read_pair (pair_text p ++ rest) ≡ Ok (p, rest)
    pair_complete p rest valid =
        ap read_pair (append_assoc (first_text p.0) (second_text p.0 p.1) rest)
        ∙ ap (λ (r : Read A). r >>= second_then) (first_is.complete p.0 (second_text p.0 p.1 ++ rest) valid.0)
        ∙ ap (λ (r : Read B). r >>= paired p.0) ((second_is p.0 valid.0).complete p.1 rest valid.1)

    -- texts that begin alike have the same first part
    same_first : (p : A × B) (a : A) (rest : List ℕ) → PairValid p → FirstValid a → pair_text p ≡ first_text a ++ rest
        → (p.0 ≡ a) × (second_text p.0 p.1 ≡ rest)
    same_first p a rest valid valid' e =
        let here = first_is.complete p.0 (second_text p.0 p.1) valid.0 in
        let there = first_is.complete a rest valid' in
        let same : (p.0, second_text p.0 p.1) ≡ (a, rest) = ok_is (p.0, second_text p.0 p.1) (a, rest) (sym here ∙ ap read_first e ∙ there) in
        (ap (λ (q : A × List ℕ). q.0) same, ap (λ (q : A × List ℕ). q.1) same)

    -- where the first part fails, so does the pair
    first_bad : (bytes : List ℕ) (left : ℕ) → read_first bytes ≡ Err left → (s : Stops first_text FirstValid bytes left)
        → (next rest : List ℕ) → s.after ≡ next ++ 10 ∷ rest → Begins pair_text PairValid (s.before ++ (next ++ 10 ∷ [])) → ⊥
    first_bad bytes left e s next rest is begun =
        by (append_fork (first_text p.0) (second_text p.0 p.1) (s.before ++ (next ++ 10 ∷ [])) begun.more begun.is)
      where
        p : A × B
        p = begun.value

        front : List ℕ
        front = s.before ++ (next ++ 10 ∷ [])

        by : ((more : List ℕ) × (first_text begun.value.0 ≡ (s.before ++ (next ++ 10 ∷ [])) ++ more))
            ⊎ ((more : List ℕ) × (s.before ++ (next ++ 10 ∷ []) ≡ first_text begun.value.0 ++ more) × (second_text begun.value.0 begun.value.1 ≡ more ++ begun.more)) → ⊥
        by (inl h) = s.bad next rest is (record { value = begun.value.0; valid = begun.valid.0; more = h.0; is = h.1 })
        by (inr h) =
            let whole : bytes ≡ first_text begun.value.0 ++ (h.0 ++ rest) =
            s.parts ∙ ap (λ (z : List ℕ). s.before ++ z) (is ∙ sym (append_assoc next (10 ∷ []) rest)) ∙ sym (append_assoc s.before (next ++ 10 ∷ []) rest)
            ∙ ap (λ (z : List ℕ). z ++ rest) h.1 ∙ append_assoc (first_text begun.value.0) h.0 rest in
            ok_not_err (read_first bytes) (begun.value.0, h.0 ++ rest) left (ap read_first whole ∙ first_is.complete begun.value.0 (h.0 ++ rest) begun.valid.0) e

    first_stops : (bytes : List ℕ) (left : ℕ) → read_first bytes ≡ Err left → Stops pair_text PairValid bytes left
    first_stops bytes left e =
        let s = first_is.stops bytes left e in
        let b = s.begins in
        let other = some b.value b.valid in
        record {
          before = s.before;
          after = s.after;
          parts = s.parts;
          left_is = s.left_is;
          whole = s.whole;
          begins = record {
            value = (b.value, other.0);
            valid = (b.valid, other.1);
            more = b.more ++ second_text b.value other.0;
            is = ap (λ (z : List ℕ). z ++ second_text b.value other.0) b.is ∙ append_assoc s.before b.more (second_text b.value other.0);
          };
          bad = first_bad bytes left e s;
        }

    second_stops : (bytes : List ℕ) (left : ℕ) (a : A) (r : List ℕ) → read_first bytes ≡ Ok (a, r) → read_second a r ≡ Err left → Stops pair_text PairValid bytes left
    second_stops bytes left a r is e =
        let one = first_is.sound bytes a r is in
        let s = (second_is a one.0).stops r left e in
        let b = s.begins in
        record {
          before = first_text a ++ s.before;
          after = s.after;
          parts = one.1 ∙ ap (λ (z : List ℕ). first_text a ++ z) s.parts ∙ sym (append_assoc (first_text a) s.before s.after);
          left_is = s.left_is;
          whole = whole_append (first_text a) s.before (first_is.lines a one.0) s.whole;
          begins = record {
            value = (a, b.value);
            valid = (one.0, b.valid);
            more = b.more;
            is = ap (λ (z : List ℕ). first_text a ++ z) b.is ∙ sym (append_assoc (first_text a) s.before b.more);
          };
          bad = λ next rest after begun.
              let front = s.before ++ (next ++ 10 ∷ []) in
              let regrouped : pair_text begun.value ≡ first_text a ++ (front ++ begun.more) =
              begun.is ∙ ap (λ (z : List ℕ). z ++ begun.more) (append_assoc (first_text a) s.before (next ++ 10 ∷ []))
              ∙ append_assoc (first_text a) front begun.more in
              let same = same_first begun.value a (front ++ begun.more) begun.valid one.0 regrouped in
              let second : (second_text a begun.value.1 ≡ front ++ begun.more) × SecondValid a begun.value.1 =
              subst (λ (x : A). (second_text x begun.value.1 ≡ front ++ begun.more) × SecondValid x begun.value.1) same.0 (same.1, begun.valid.1) in
              s.bad next rest after (record { value = begun.value.1; valid = second.1; more = begun.more; is = second.0 });
        }

    pair_stops : (bytes : List ℕ) (left : ℕ) → read_pair bytes ≡ Err left → Stops pair_text PairValid bytes left
    pair_stops bytes left e = by (bind_err (read_first bytes) second_then left e)
      where
        later : (x : A × List ℕ) → read_first bytes ≡ Ok x
            → (read_second x.0 x.1 ≡ Err left) ⊎ ((y : B × List ℕ) × (read_second x.0 x.1 ≡ Ok y) × (paired x.0 y ≡ Err left)) → Stops pair_text PairValid bytes left
        later x is (inl e) = second_stops bytes left x.0 x.1 is e
        later x is (inr d) = absurd (ok_not_err (paired x.0 d.0) ((x.0, d.0.0), d.0.1) left refl d.2)

        by : (read_first bytes ≡ Err left) ⊎ ((x : A × List ℕ) × (read_first bytes ≡ Ok x) × (second_then x ≡ Err left))
            → Stops pair_text PairValid bytes left
        by (inl e) = first_stops bytes left e
        by (inr d) = later d.0 d.1 (bind_err (read_second d.0.0 d.0.1) (paired d.0.0) left d.2)

    pub pair_reads : IsReader pair_text PairValid read_pair
    pair_reads = record {
      sound = pair_sound;
      complete = pair_complete;
      stops = pair_stops;
      lines = λ p valid. whole_append (first_text p.0) (second_text p.0 p.1) (first_is.lines p.0 valid.0) ((second_is p.0 valid.0).lines p.1 valid.1);
    }

-- ---- what a function makes of a value

module _ {A C : Type 0} (text : A → List ℕ) (Valid : A → Type 0) (read : List ℕ → Read A) (made_text : C → List ℕ) (MadeValid : C → Type 0) (f : A → C)
    (is : IsReader text Valid read) (to : (a : A) → Valid a → MadeValid (f a) × (made_text (f a) ≡ text a)) (from : (c : C) → MadeValid c → (a : A) × Valid a × (c ≡ f a)) where
  abbrev make : A × List ℕ → Read C
  make x = Ok (f x.0, x.1)

  made_text_is : (c : C) (valid : MadeValid c) → made_text c ≡ text (from c valid).0
  made_text_is c valid = let a = from c valid in ap made_text a.2 ∙ (to a.0 a.1).1

  pub map_reads : IsReader made_text MadeValid (map_at f read)
  map_reads = record {
    sound = λ bytes c rest e.
        let b = bind_ok (read bytes) make (c, rest) e in
        let one = is.sound bytes b.0.0 b.0.1 b.1 in
        let there = to b.0.0 one.0 in
        let made : C × List ℕ = (f b.0.0, b.0.1) in
        subst (λ (q : C × List ℕ). MadeValid q.0 × (bytes ≡ made_text q.0 ++ q.1)) (ok_is made (c, rest) b.2)
        (there.0, one.1 ∙ ap (λ (z : List ℕ). z ++ b.0.1) (sym there.1));
    complete = λ c rest valid.
        let a = from c valid in
        ap (λ (z : List ℕ). map_at f read (z ++ rest)) (made_text_is c valid)
        ∙ ap (λ (r : Read A). r >>= make) (is.complete a.0 rest a.1)
        ∙ ap (λ (x : C). done (x, rest)) (sym a.2);
    stops = λ bytes left e. by bytes left (bind_err (read bytes) make left e);
    lines = λ c valid. subst AreWholeLines (sym (made_text_is c valid)) (let a = from c valid in is.lines a.0 a.1);
  }
    where
      by : (bytes : List ℕ) (left : ℕ) → (read bytes ≡ Err left) ⊎ ((x : A × List ℕ) × (read bytes ≡ Ok x) × (make x ≡ Err left)) → Stops made_text MadeValid bytes left
      by bytes left (inr d) = absurd (ok_not_err (make d.0) (f d.0.0, d.0.1) left refl d.2)
      by bytes left (inl e) =
          let s = is.stops bytes left e in
          let b = s.begins in
          let there = to b.value b.valid in
          record {
            before = s.before;
            after = s.after;
            parts = s.parts;
            left_is = s.left_is;
            whole = s.whole;
            begins = record { value = f b.value; valid = there.0; more = b.more; is = there.1 ∙ b.is };
            bad = λ next rest after begun.
                let a = from begun.value begun.valid in
                s.bad next rest after (record { value = a.0; valid = a.1; more = begun.more; is = sym (made_text_is begun.value begun.valid) ∙ begun.is });
          }

-- ---- so many values

-- the texts of values that are numbered from k on
unfoldable pub texts_from : {A : Type 0} → (ℕ → A → List ℕ) → ℕ → List A → List ℕ
texts_from text k [] = []
texts_from text k (a ∷ xs) = text k a ++ texts_from text (k + 1) xs

-- each value is valid under its number
abbrev pub AllFrom : {A : Type 0} → (ℕ → A → Type 0) → ℕ → List A → Type 0
AllFrom Valid k [] = Unit {0}
AllFrom Valid k (a ∷ xs) = Valid k a × AllFrom Valid (k + 1) xs

-- so many values, each valid under its number
abbrev pub SoMany : {A : Type 0} → (ℕ → A → Type 0) → ℕ → ℕ → List A → Type 0
SoMany Valid k n xs = (length xs ≡ n) × AllFrom Valid k xs

pub none_reads : {A : Type 0} (text : ℕ → A → List ℕ) (Valid : ℕ → A → Type 0) (read : ℕ → List ℕ → Read A) (k : ℕ) → IsReader (texts_from text k) (SoMany Valid k 0) (each_from read k 0)
unfolding texts_from each_from
none_reads {A = A} text Valid read k = record {
  sound = λ bytes xs rest e.
      subst (λ (q : List A × List ℕ). SoMany Valid k 0 q.0 × (bytes ≡ texts_from text k q.0 ++ q.1)) (ok_is ([], bytes) (xs, rest) e) ((refl, tt), refl);
  complete = λ xs rest valid. by xs rest valid;
  stops = λ bytes left e. absurd (ok_not_err (done ([], bytes)) ([], bytes) left refl e);
  lines = λ xs valid. no_lines xs valid;
}
  where
    by : (xs : List A) (rest : List ℕ) → SoMany Valid k 0 xs → each_from read k 0 (texts_from text k xs ++ rest) ≡ Ok (xs, rest)
    by [] rest valid = refl
    by (a ∷ xs) rest valid = absurd (omega (arith, valid.0))

    no_lines : (xs : List A) → SoMany Valid k 0 xs → AreWholeLines (texts_from text k xs)
    no_lines [] valid = inl refl
    no_lines (a ∷ xs) valid = absurd (omega (arith, valid.0))

module _ {A : Type 0} (text : ℕ → A → List ℕ) (Valid : ℕ → A → Type 0) (read : ℕ → List ℕ → Read A) (most : ℕ)
    (is : (k : ℕ) → k ≤ most → IsReader (text k) (Valid k) (read k)) (some : (k : ℕ) → k ≤ most → (a : A) × Valid k a) where
  -- as many as are wanted
  example : (k n : ℕ) → k + n ≤ most + 1 → (xs : List A) × SoMany Valid k n xs
  example k zero low = ([], (refl, tt))
  example k (suc n) low =
      let more = example (k + 1) n (omega (arith, low)) in
      let one = some k (omega (arith, low)) in
      (one.0 ∷ more.0, (ap suc more.1.0, (one.1, more.1.1)))

  pub each_from_reads : (k n : ℕ) → k + n ≤ most + 1 → IsReader (texts_from text k) (SoMany Valid k n) (each_from read k n)
  unfolding texts_from each_from
  each_from_reads k zero low = none_reads text Valid read k
  each_from_reads k (suc n) low =
      let later : k + 1 + n ≤ most + 1 = omega (arith, low) in
      let pairs = pair_reads (text k) (Valid k) (read k) (λ a. texts_from text (k + 1)) (λ a. SoMany Valid (k + 1) n) (λ a. each_from read (k + 1) n)
      (is k (omega (arith, low))) (λ a valid. each_from_reads (k + 1) n later) (λ a valid. example (k + 1) n later) in
      map_reads (pair_text (text k) (Valid k) (read k) (λ a. texts_from text (k + 1)) (λ a. SoMany Valid (k + 1) n) (λ a. each_from read (k + 1) n))
      (PairValid (text k) (Valid k) (read k) (λ a. texts_from text (k + 1)) (λ a. SoMany Valid (k + 1) n) (λ a. each_from read (k + 1) n))
      (pair_at (read k) (λ a. each_from read (k + 1) n)) (texts_from text k) (SoMany Valid k (suc n)) (λ p. p.0 ∷ p.1)
      pairs to from
    where
      to : (p : A × List A) → Valid k p.0 × SoMany Valid (k + 1) n p.1 → SoMany Valid k (suc n) (p.0 ∷ p.1) × (texts_from text k (p.0 ∷ p.1) ≡ text k p.0 ++ texts_from text (k + 1) p.1)
      to p valid = ((ap suc valid.1.0, (valid.0, valid.1.1)), refl)

      from : (xs : List A) → SoMany Valid k (suc n) xs → (p : A × List A) × (Valid k p.0 × SoMany Valid (k + 1) n p.1) × (xs ≡ p.0 ∷ p.1)
      from [] valid = absurd (omega (arith, valid.0))
      from (a ∷ xs) valid = ((a, xs), (valid.1.0, (omega (arith, valid.0), valid.1.1)), refl)

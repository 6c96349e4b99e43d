-- The pass that fills the times of rows: what it knows at each index.
use Rattle.std.proofs.Common.{◌≡◌, ◌≢◌, ℕ, zero, suc, ◌+◌, ◌-◌, ◌<◌, ◌≤◌, Bool, true, false, cond, not, ◌&&◌, ◌||◌, List, [], ◌∷◌, Option, None, Some, take, drop, length, get_or, refl, sym, ◌∙◌, ap, subst, arith, inl, inr}
use Rattle.std.specs.Prelude.{MatchOption, count_by, is_some}
use Rattle.std.proofs.Math.ListN.{set}
use Rattle.std.proofs.Math.Seq.{take-add}
use Rattle.std.proofs.lemmas.Bool.{cases_lt, cases_order, false≢true}
use Rattle.std.proofs.lemmas.List.{drop-set-lt, drop_more, get_or-drop, get_or_default, get_or-set_other, get_or-set_same, get_or_past, length-set}
use Rattle.std.proofs.lemmas.List.Sums.{count_by_more_no, count_by_more_yes, sum_by-append, sum_by-cons}
use Rattle.std.proofs.lemmas.Grind.{common_steps}
use Rattle.feed_load.specs.LinearTimes.{AreFilled, HasNone, IsFilledAt, IsGap, IsOpenFrom, arrival, departure, is_timed, is_timed_at, is_untimed, row_at, share, time_between, timed_row, untimed_before}
use Rattle.feed_load.specs.declared.linear_times.Gap.{Gap}
use Rattle.feed_load.specs.declared.linear_times.GivenRow.{GivenRow}

abbrev pub blank : GivenRow
blank = record { window = true; arrives = None; departs = None }

-- what a read stands for
abbrev pub no_times : GivenRow
no_times = record { window = false; arrives = None; departs = None }

-- a row that isn't the one past the end is in range
pub timed-low : (rows : List GivenRow) (i : ℕ) → is_timed_at rows i ≡ true → i < length rows
timed-low rows i e = elim (cases_lt i (length rows)) [
  | inl low ↦ low
  | inr past ↦ absurd (false≢true (ap is_timed (sym (get_or_past rows i blank past)) ∙ e))
]

pub untimed-low : (rows : List GivenRow) (i : ℕ) → is_untimed (row_at rows i) ≡ true → i < length rows
untimed-low rows i e = elim (cases_lt i (length rows)) [
  | inl low ↦ low
  | inr past ↦ absurd (false≢true (ap is_untimed (sym (get_or_past rows i blank past)) ∙ e))
]

-- no row is both
pub not-both : (row : GivenRow) → is_timed row ≡ true → is_untimed row ≡ true → ⊥
not-both row t u = by row.window (is_some row.arrives || is_some row.departs) t u
  where
    by : (w s : Bool) → (not w && s) ≡ true → (not w && not s) ≡ true → ⊥
    by true s t u = false≢true t
    by false true t u = false≢true u
    by false false t u = false≢true t

none-taken : {X : Type 0} (p : X → Bool) (i : ℕ) → count_by p (take i []) ≡ 0
none-taken p zero = refl
none-taken p (suc i) = refl

-- fewer items pass in a shorter beginning
pub count-rises : {X : Type 0} (p : X → Bool) (xs : List X) (i j : ℕ) → i ≤ j → count_by p (take i xs) ≤ count_by p (take j xs)
count-rises p [] i j le = omega (arith, none-taken p i, none-taken p j)
count-rises p (x ∷ xs) zero j le = omega arith
count-rises p (x ∷ xs) (suc i) zero le = absurd (omega arith)
count-rises p (x ∷ xs) (suc i) (suc j) le =
    let rest = count-rises p xs i j (omega arith) in
    let left = sum_by-cons (λ y. cond (p y) 1 0) x (take i xs) in
    let right = sum_by-cons (λ y. cond (p y) 1 0) x (take j xs) in
    omega (arith, rest, left, right)

-- the rows from a index on
pub rows_from : (rows : List GivenRow) (n : ℕ) → take (length rows - n) (drop n rows) ≡ drop n rows
rows_from rows n = grind (arith, common_steps)

module _ (rows : List GivenRow) where
  -- ---- counts

  pub more : (i : ℕ) → is_untimed (row_at rows i) ≡ true → untimed_before rows (i + 1) ≡ untimed_before rows i + 1
  more i e = count_by_more_yes is_untimed rows i blank (untimed-low rows i e) e

  pub same : (i : ℕ) → i < length rows → is_untimed (row_at rows i) ≡ false → untimed_before rows (i + 1) ≡ untimed_before rows i
  same i low e = count_by_more_no is_untimed rows i blank low e

  timed-not-untimed : (i : ℕ) → is_timed_at rows i ≡ true → is_untimed (row_at rows i) ≡ false
  timed-not-untimed i t = Rattle.std.proofs.lemmas.Bool.false_from_ne_true (is_untimed (row_at rows i)) (λ u. not-both (row_at rows i) t u)

  untimed-not-timed : (i : ℕ) → is_untimed (row_at rows i) ≡ true → is_timed_at rows i ≡ false
  untimed-not-timed i u = Rattle.std.proofs.lemmas.Bool.false_from_ne_true (is_timed_at rows i) (λ t. not-both (row_at rows i) t u)

  -- ---- the gap around a index

  -- the gap that the index lies in, or before whose end it lies
  pub record IsOpen (i : ℕ) (gap : Gap) : Type 0 where
    pub p : ℕ
    pub q : ℕ
    pub at : IsGap rows p q
    pub after : p < i
    pub before : i ≤ q
    pub leaves : gap.leaves ≡ departure (row_at rows p)
    pub arrives : gap.arrives ≡ arrival (row_at rows q)
    pub passed : gap.passed + untimed_before rows p ≡ untimed_before rows i
    pub untimed : gap.untimed + untimed_before rows p ≡ untimed_before rows q

  abbrev pub IsState : ℕ → Option Gap → Type 0
  IsState i None = (p q : ℕ) → IsGap rows p q → p < i → i ≤ q → ⊥
  IsState i (Some gap) = IsOpen i gap

  -- a gap that begins at the row before
  pub opened : (i : ℕ) (row : GivenRow) (gap : Gap) → is_timed_at rows i ≡ true → row ≡ row_at rows i → IsOpenFrom row (drop (i + 1) rows) gap → IsOpen (i + 1) gap
  opened i row gap timed is o =
      let m = o.next.index in
      let at : row_at (drop (i + 1) rows) m ≡ row_at rows (i + 1 + m) = get_or-drop (i + 1) rows m blank in
      let step = same i (timed-low rows i timed) (timed-not-untimed i timed) in
      let parts : untimed_before rows (i + 1 + m) ≡ untimed_before rows (i + 1) + untimed_before (drop (i + 1) rows) m =
      ap (count_by is_untimed) (take-add (i + 1) m rows) ∙ sum_by-append (λ r. cond (is_untimed r) 1 0) (take (i + 1) rows) (take m (drop (i + 1) rows)) in
      let none_passed = o.passed in
      let so_many = o.next.untimed in
      record {
        p = i;
        q = i + 1 + m;
        at = record {
          former = timed;
          latter = ap is_timed (sym at) ∙ o.next.timed;
          none = λ j lt high.
              let there : i + 1 + (j - (i + 1)) ≡ j = omega arith in
              ap (λ n. is_timed_at rows n) (sym there) ∙ ap is_timed (sym (get_or-drop (i + 1) rows (j - (i + 1)) blank)) ∙ o.next.none (j - (i + 1)) (omega arith);
        };
        after = omega arith;
        before = omega arith;
        leaves = o.leaves ∙ ap departure is;
        arrives = o.next.arrives ∙ ap arrival at;
        passed = omega (arith, none_passed, step);
        untimed = omega (arith, so_many, step, parts);
      }

  pub none_opened : (i : ℕ) → is_timed_at rows i ≡ true → HasNone (drop (i + 1) rows) → IsState (i + 1) None
  none_opened i timed none p q gap lt le =
      let there : i + 1 + (q - (i + 1)) ≡ q = omega arith in
      false≢true (sym (none (q - (i + 1))) ∙ ap is_timed (get_or-drop (i + 1) rows (q - (i + 1)) blank) ∙ ap (λ n. is_timed_at rows n) there ∙ gap.latter)

  pub opens : (i : ℕ) (row : GivenRow) (later : List GivenRow) (gap : Option Gap) → is_timed row ≡ true → row ≡ row_at rows i → later ≡ drop (i + 1) rows
      → MatchOption gap (HasNone later) (IsOpenFrom row later) → IsState (i + 1) gap
  opens i row later None timed is same' none = none_opened i (ap is_timed (sym is) ∙ timed) (subst HasNone same' none)
  opens i row later (Some gap) timed is same' from = opened i row gap (ap is_timed (sym is) ∙ timed) is (subst (λ xs. IsOpenFrom row xs gap) same' from)

  -- a row without time leaves the index in its gap
  pub passed_by : (i : ℕ) (gap : Option Gap) → i < length rows → is_timed_at rows i ≡ false → is_untimed (row_at rows i) ≡ false → IsState i gap → IsState (i + 1) gap
  passed_by i None low timed untimed none = λ p q gap lt le. elim (cases_lt p i) [
    | inl less ↦ none p q gap less (omega arith)
    | inr most ↦ let at : p ≡ i = omega arith in false≢true (sym timed ∙ ap (λ n. is_timed_at rows n) (sym at) ∙ gap.former)
  ]
  passed_by i (Some gap) low timed untimed o =
      let step = same i low untimed in
      let passed = o.passed in
      let after = o.after in
      let further : i < o.q = later o.q i o.before timed o.at.latter in
      record {
        p = o.p;
        q = o.q;
        at = o.at;
        after = omega arith;
        before = omega arith;
        leaves = o.leaves;
        arrives = o.arrives;
        passed = omega (arith, passed, step);
        untimed = o.untimed;
      }
    where
      later : (q i : ℕ) → i ≤ q → is_timed_at rows i ≡ false → is_timed_at rows q ≡ true → i < q
      later q i le fails passes = elim (cases_lt i q) [
        | inl lt ↦ lt
        | inr ge ↦ let at : q ≡ i = omega arith in absurd (false≢true (sym fails ∙ ap (λ n. is_timed_at rows n) (sym at) ∙ passes))
      ]

  -- as does one without time or window in no gap
  pub none_by : (i : ℕ) → is_untimed (row_at rows i) ≡ true → IsState i None → IsState (i + 1) None
  none_by i un none p q gap lt le = elim (cases_lt p i) [
    | inl less ↦ none p q gap less (omega arith)
    | inr most ↦ let at : p ≡ i = omega arith in not-both (row_at rows i) (ap (λ n. is_timed_at rows n) (sym at) ∙ gap.former) un
  ]

  further : (q i : ℕ) → i ≤ q → is_untimed (row_at rows i) ≡ true → is_timed_at rows q ≡ true → i < q
  further q i le un passes = elim (cases_lt i q) [
    | inl lt ↦ lt
    | inr ge ↦ let at : q ≡ i = omega arith in absurd (not-both (row_at rows i) (ap (λ n. is_timed_at rows n) (sym at) ∙ passes) un)
  ]

  pub some_left : (i : ℕ) (gap : Gap) → is_untimed (row_at rows i) ≡ true → IsOpen i gap → gap.passed < gap.untimed
  some_left i gap un o =
      let step = more i un in
      let lt = further o.q i o.before un o.at.latter in
      let rise = count-rises is_untimed rows (i + 1) o.q (omega arith) in
      let passed = o.passed in
      let untimed = o.untimed in
      omega (arith, step, rise, passed, untimed)

  pub next_in : (i : ℕ) (gap : Gap) → is_untimed (row_at rows i) ≡ true → IsOpen i gap → IsOpen (i + 1) (record gap { passed = gap.passed + 1 })
  next_in i gap un o =
      let step = more i un in
      let lt = further o.q i o.before un o.at.latter in
      let passed = o.passed in
      let after = o.after in
      record {
        p = o.p;
        q = o.q;
        at = o.at;
        after = omega arith;
        before = omega arith;
        leaves = o.leaves;
        arrives = o.arrives;
        passed = omega (arith, passed, step);
        untimed = o.untimed;
      }

  -- ---- rows after filling

  -- a row that has a time or a window stays
  pub stays : (i : ℕ) → is_untimed (row_at rows i) ≡ false → IsFilledAt rows i (row_at rows i)
  stays i fails = record { filled = λ p q b. absurd (false≢true (sym fails ∙ b.untimed)); kept = λ none. refl }

  -- and one that lies in no gap
  pub alone : (i : ℕ) → IsState i None → IsFilledAt rows i (row_at rows i)
  alone i none = record { filled = λ p q b. let before = b.before in absurd (none p q b.gap b.after (omega arith)); kept = λ none. refl }

  one-former : (p q p' q' i : ℕ) → IsGap rows p q → IsGap rows p' q' → p < i → p' < i → i ≤ q → i ≤ q' → p ≡ p'
  one-former p q p' q' i g g' lt lt' le le' = elim (cases_order p p') [
    | inl e ↦ e
    | inr (inl less) ↦ absurd (false≢true (sym (g.none p' less (omega arith)) ∙ g'.former))
    | inr (inr less) ↦ absurd (false≢true (sym (g'.none p less (omega arith)) ∙ g.former))
  ]

  one-latter : (p q p' q' i : ℕ) → IsGap rows p q → IsGap rows p' q' → p < i → p' < i → i ≤ q → i ≤ q' → q ≡ q'
  one-latter p q p' q' i g g' lt lt' le le' = elim (cases_order q q') [
    | inl e ↦ e
    | inr (inl less) ↦ absurd (false≢true (sym (g'.none q (omega arith) less) ∙ g.latter))
    | inr (inr less) ↦ absurd (false≢true (sym (g.none q' (omega arith) less) ∙ g'.latter))
  ]

  pub fills : (i : ℕ) (gap : Gap) → is_untimed (row_at rows i) ≡ true → IsOpen i gap → IsFilledAt rows i (timed_row (share gap.leaves gap.arrives (gap.passed + 1) (gap.untimed + 1)))
  fills i gap un o =
      let lt = further o.q i o.before un o.at.latter in
      let passed : gap.passed ≡ untimed_before rows i - untimed_before rows o.p = let e = o.passed in omega (arith, e) in
      let untimed : gap.untimed ≡ untimed_before rows o.q - untimed_before rows o.p = let e = o.untimed in omega (arith, e) in
      let time : share gap.leaves gap.arrives (gap.passed + 1) (gap.untimed + 1) ≡ time_between rows o.p i o.q =
      ap (λ n. share n gap.arrives (gap.passed + 1) (gap.untimed + 1)) o.leaves
      ∙ ap (λ n. share (departure (row_at rows o.p)) n (gap.passed + 1) (gap.untimed + 1)) o.arrives
      ∙ ap (λ n. share (departure (row_at rows o.p)) (arrival (row_at rows o.q)) (n + 1) (gap.untimed + 1)) passed
      ∙ ap (λ n. share (departure (row_at rows o.p)) (arrival (row_at rows o.q)) (untimed_before rows i - untimed_before rows o.p + 1) (n + 1)) untimed in
      record {
        filled = λ p q b.
            let before = b.before in
            ap timed_row (time
            ∙ ap (λ n. time_between rows n i o.q) (one-former o.p o.q p q i o.at b.gap o.after b.after o.before (omega arith))
            ∙ ap (time_between rows p i) (one-latter o.p o.q p q i o.at b.gap o.after b.after o.before (omega arith)));
        kept = λ none. absurd (none o.p o.q (record { gap = o.at; untimed = un; after = o.after; before = lt }));
      }

  -- ---- the pass

  pub record IsFilledTo (i : ℕ) (new : List GivenRow) (gap : Option Gap) : Type 0 where
    pub many : length new ≡ length rows
    pub done : (j : ℕ) → j < i → IsFilledAt rows j (row_at new j)
    pub rest : drop i new ≡ drop i rows
    pub state : IsState i gap

  pub row_is : (i : ℕ) (new : List GivenRow) (gap : Option Gap) → IsFilledTo i new gap → row_at new i ≡ row_at rows i
  row_is i new gap f =
      let at : i + 0 ≡ i = omega arith in
      ap (row_at new) (sym at) ∙ sym (get_or-drop i new 0 blank) ∙ ap (λ xs. get_or xs 0 blank) f.rest ∙ get_or-drop i rows 0 blank ∙ ap (row_at rows) at

  pub read_is : (i : ℕ) (new : List GivenRow) (gap : Option Gap) → IsFilledTo i new gap → i < length rows → get_or new i no_times ≡ row_at rows i
  read_is i new gap f low =
      let many = f.many in
      get_or_default new i no_times blank (omega (arith, many)) ∙ row_is i new gap f

  pub rest_is : (i : ℕ) (new : List GivenRow) (gap : Option Gap) → IsFilledTo i new gap → i < length rows → drop (i + 1) new ≡ drop (i + 1) rows
  rest_is i new gap f low =
      let many = f.many in
      let left = drop_more new i blank (omega (arith, many)) in
      let right = drop_more rows i blank low in
      let both : get_or new i blank ∷ drop (i + 1) new ≡ get_or rows i blank ∷ drop (i + 1) rows = sym left ∙ f.rest ∙ right in
      cc

  one-more : (i : ℕ) (new : List GivenRow) (P : ℕ → Type 0) → ((j : ℕ) → j < i → P j) → P i → (j : ℕ) → j < i + 1 → P j
  one-more i new P below here j lt = elim (cases_lt j i) [
    | inl less ↦ below j less
    | inr most ↦ let at : i ≡ j = omega arith in subst P at here
  ]

  -- the row at the index stays
  pub goes_on : (i : ℕ) (new : List GivenRow) (gap gap' : Option Gap) → i < length rows → IsFilledTo i new gap → IsFilledAt rows i (row_at rows i) → IsState (i + 1) gap' → IsFilledTo (i + 1) new gap'
  goes_on i new gap gap' low f here state = record {
    many = f.many;
    done = one-more i new (λ j. IsFilledAt rows j (row_at new j)) f.done (subst (IsFilledAt rows i) (sym (row_is i new gap f)) here);
    rest = rest_is i new gap f low;
    state = state;
  }

  -- or is written
  pub writes : (i : ℕ) (new : List GivenRow) (row : GivenRow) (gap gap' : Option Gap) → i < length rows → IsFilledTo i new gap → IsFilledAt rows i row → IsState (i + 1) gap' → IsFilledTo (i + 1) (set new i row) gap'
  writes i new row gap gap' low f here state =
      let many = f.many in
      record {
        many = length-set new i row ∙ f.many;
        done = one-more i new (λ j. IsFilledAt rows j (row_at (set new i row) j))
            (λ j lt. let other : j ≢ i = omega arith in subst (IsFilledAt rows j) (sym (get_or-set_other new i j row blank other)) (f.done j lt))
            (subst (IsFilledAt rows i) (sym (get_or-set_same new i row blank (omega (arith, many)))) here);
        rest = drop-set-lt (i + 1) new i row (omega arith) ∙ rest_is i new gap f low;
        state = state;
      }

  pub begins : IsFilledTo 0 rows None
  begins = record { many = refl; done = λ j lt. absurd (omega arith); rest = refl; state = λ p q gap lt le. absurd (omega arith) }

  pub ends : (i : ℕ) (new : List GivenRow) (gap : Option Gap) → length rows ≤ i → IsFilledTo i new gap → AreFilled rows new
  ends i new gap le f = record { many = f.many; each = λ j low. f.done j (omega arith) }

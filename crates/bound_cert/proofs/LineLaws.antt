-- The lines of a certificate: what is read is what is printed, and what is printed is read.
use Rattle.std.proofs.Common.{◌≡◌, ◌≢◌, ℕ, ◌-◌, ◌^◌, ◌<◌, ◌≤◌, Bool, true, false, not, cond, ◌&&◌, ◌||◌, eqb, ltb, ℤ, List, [], ◌∷◌, length, IsUtf8, Option, Some, None, refl, sym, ap, subst, ◌∙◌, arith, lit<, lit≤}
use Rattle.std.specs.Prelude.{IfSome, codes, decimal, is_some}
use Rattle.std.specs.List.{list_all}
use Rattle.std.specs.Option.{option_map}
use Rattle.std.specs.Str.{bytes_eq, is_utf8}
use Rattle.std.proofs.lemmas.Bool.{and_from, and_parts, eq-eqb, eqb-true, false≢true, lt-ltb}
use Rattle.std.proofs.lemmas.Fmt.{decimal_digit}
use Rattle.std.proofs.lemmas.Slice.Eq.{bytes_eq-Decides}
use Rattle.std.proofs.lemmas.Str.{IsUtf8-from_is_utf8, is_utf8-from_IsUtf8}
use Rattle.bound_cert.specs.LineWords.{◌>>=◌, count_in, heading_in, is_allowed, label_count_in, query_in, query_words_in, round_count_in, small_in, start_in, triple_from, triple_in, version_in, walk_in, walking_in}
use Rattle.bound_cert.proofs.EscapedIds.{escapes_back}
use Rattle.bound_cert.proofs.LineReaders.{AreWords, IsLine, is_graphic}
use Rattle.bound_cert.proofs.Words.{IsWord, deadline_word, moment_word, none_some, number_word, some_is, then_some}
use Rattle.field_text.specs.Grammars.{escape, moment, some_if}
use Rattle.field_text.specs.Texts.{IsPrintableMoment, moment_text}
use Rattle.field_text.proofs.EscapeLemmas.{utf8-bytes}
use Rattle.field_text.proofs.NumberLemmas.{some_if-passed, some_if-passes}
use Rattle.field_text.proofs.WordLemmas.{escape-graphic}
use Rattle.flex_model.specs.declared.answer.Triple.{Triple}
use Rattle.flex_model.specs.declared.moment.Deadline.{Deadline}
use Rattle.query_io.specs.AnswerText.{deadline_text, start_words, word_if}
use Rattle.query_io.specs.Lines.{deadline_in, id_in, number_in, without_escapes}
use Rattle.query_io.specs.Printable.{IsPrintableDeadline}

pub bind_some : {A B : Type 0} (o : Option A) (f : A → Option B) (y : B) → (o >>= f) ≡ Some y → (x : A) × (o ≡ Some x) × (f x ≡ Some y)
bind_some (Some x) f y e = (x, refl, e)
bind_some None f y e = absurd (none_some y e)

-- the word is this one
pub is_text : (w text : List ℕ) → bytes_eq w text ≡ true → w ≡ text
is_text w text h = (bytes_eq-Decides w text).0 h

same_text : (text : List ℕ) → bytes_eq text text ≡ true
same_text text = (bytes_eq-Decides text text).1 refl

pub count_word : IsWord decimal (λ n. n ≤ 2 ^ 64 - 1) count_in
count_word = number_word (2 ^ 64 - 1) (lit< tt)

pub small_word : IsWord decimal (λ n. n ≤ 4294967295) small_in
small_word = number_word 4294967295 (lit< tt)

pub no_yes : true ≡ false → ⊥
no_yes h = false≢true (sym h)

-- ---- last words

-- how a value stands in the last words of a line, of which there is at most one
pub record IsTail {A : Type 0} (words : A → List (List ℕ)) (Valid : A → Type 0) (value : List (List ℕ) → Option A) : Type 0 where
  pub sound : (ws : List (List ℕ)) (a : A) → value ws ≡ Some a → Valid a × (ws ≡ words a)
  pub complete : (a : A) → Valid a → value (words a) ≡ Some a
  pub few : (a : A) → length (words a) ≤ 1
  pub are_words : (a : A) → Valid a → AreWords (words a)

abbrev pub walking_words : Bool → List (List ℕ)
walking_words walking = word_if walking (codes "walking")

walking_sound : (ws : List (List ℕ)) (a : Bool) → walking_in ws ≡ Some a → Unit {0} × (ws ≡ walking_words a)
walking_sound [] a e = (tt, ap walking_words (some_is false a e))
walking_sound (w ∷ []) a e =
    let passed = then_some (bytes_eq w (codes "walking")) (Some true) a e in
    (tt, ap (λ (x : List ℕ). x ∷ []) (is_text w (codes "walking") passed.0) ∙ ap walking_words (some_is true a passed.1))
walking_sound (w ∷ v ∷ ws) a e = absurd (none_some a e)

walking_complete : (a : Bool) → walking_in (walking_words a) ≡ Some a
walking_complete true = refl
walking_complete false = refl

walking_few : (a : Bool) → length (walking_words a) ≤ 1
walking_few true = lit≤ tt
walking_few false = lit≤ tt

walking_are : (a : Bool) → AreWords (walking_words a)
walking_are true = (refl, tt)
walking_are false = tt

pub walking_tail : IsTail walking_words (λ a. Unit {0}) walking_in
walking_tail = record { sound = walking_sound; complete = λ a v. walking_complete a; few = walking_few; are_words = λ a v. walking_are a }

-- a walk of 32 bits, and none where there is no asking for walking
abbrev pub IsWalk : Bool → ℕ → Type 0
IsWalk walking walk = (walk < 2 ^ 32) × (walking ≡ false → walk ≡ 0)

abbrev pub walk_words : Bool → ℕ → List (List ℕ)
walk_words walking walk = word_if walking (decimal walk)

walk_sound : (walking : Bool) (ws : List (List ℕ)) (a : ℕ) → walk_in walking ws ≡ Some a → IsWalk walking a × (ws ≡ walk_words walking a)
walk_sound false [] a e = let zero : 0 ≡ a = some_is 0 a e in ((omega (arith, zero), λ h. sym zero), refl)
walk_sound false (w ∷ ws) a e = absurd (none_some a e)
walk_sound true [] a e = absurd (none_some a e)
walk_sound true (w ∷ []) a e = let read = small_word.sound w a e in let low = read.0 in ((omega (arith, low), λ h. absurd (no_yes h)), ap (λ (x : List ℕ). x ∷ []) read.1)
walk_sound true (w ∷ v ∷ ws) a e = absurd (none_some a e)

walk_complete : (walking : Bool) (a : ℕ) → IsWalk walking a → walk_in walking (walk_words walking a) ≡ Some a
walk_complete false a v = ap (λ (n : ℕ). Some n) (sym (v.1 refl))
walk_complete true a v = let low = v.0 in small_word.complete a (omega (arith, low))

pub walk_few : (walking : Bool) (a : ℕ) → length (walk_words walking a) ≤ 1
walk_few true a = lit≤ tt
walk_few false a = lit≤ tt

pub walk_are : (walking : Bool) (a : ℕ) → IsWalk walking a → AreWords (walk_words walking a)
walk_are true a v = let low = v.0 in (small_word.graphic a (omega (arith, low)), tt)
walk_are false a v = tt

pub walk_tail : (walking : Bool) → IsTail (walk_words walking) (IsWalk walking) (walk_in walking)
walk_tail walking = record { sound = walk_sound walking; complete = walk_complete walking; few = walk_few walking; are_words = walk_are walking }

-- a start of 32 bits where frequencies.txt names the trip, and none elsewhere
abbrev pub IsStart : Bool → Option ℕ → Type 0
IsStart frequent start = IfSome start (λ s. s < 2 ^ 32) × (is_some start ≡ frequent)

abbrev started : Option ℕ → Option (Option ℕ)
started start = Some start

start_sound : (frequent : Bool) (ws : List (List ℕ)) (a : Option ℕ) → start_in frequent ws ≡ Some a → IsStart frequent a × (ws ≡ start_words a)
start_sound false [] a e = subst (λ (o : Option ℕ). IsStart false o × ([] ≡ start_words o)) (some_is None a e) ((tt, refl), refl)
start_sound false (w ∷ ws) a e = absurd (none_some a e)
start_sound true [] a e = absurd (none_some a e)
start_sound true (w ∷ []) a e = by (small_in w) refl e
  where
    by : (o : Option ℕ) → small_in w ≡ o → option_map Some o ≡ Some a → IsStart true a × ((w ∷ []) ≡ start_words a)
    by None is e = absurd (none_some a e)
    by (Some s) is e =
        let read = small_word.sound w s is in
        let low = read.0 in
        subst (λ (o : Option ℕ). IsStart true o × ((w ∷ []) ≡ start_words o)) (some_is (Some s) a e) ((omega (arith, low), refl), ap (λ (x : List ℕ). x ∷ []) read.1)
start_sound true (w ∷ v ∷ ws) a e = absurd (none_some a e)

pub start_complete : (frequent : Bool) (a : Option ℕ) → IsStart frequent a → start_in frequent (start_words a) ≡ Some a
start_complete false None v = refl
start_complete false (Some s) v = absurd (no_yes v.1)
start_complete true None v = absurd (false≢true v.1)
start_complete true (Some s) v = let low = v.0 in ap (option_map Some) (small_word.complete s (omega (arith, low)))

pub start_few : (a : Option ℕ) → length (start_words a) ≤ 1
start_few None = lit≤ tt
start_few (Some s) = lit≤ tt

pub start_are : (frequent : Bool) (a : Option ℕ) → IsStart frequent a → AreWords (start_words a)
start_are frequent None v = tt
start_are frequent (Some s) v = let low = v.0 in (small_word.graphic s (omega (arith, low)), tt)

pub start_tail : (frequent : Bool) → IsTail start_words (IsStart frequent) (start_in frequent)
start_tail frequent = record { sound = start_sound frequent; complete = start_complete frequent; few = start_few; are_words = start_are frequent }

-- ---- flexcert VERSION COUNT

abbrev version_text : Bool → List ℕ
version_text two = decimal (cond two 2 1)

one_is : decimal 1 ≡ codes "1"
one_is = decimal_digit 1 (lit< tt)

two_is : decimal 2 ≡ codes "2"
two_is = decimal_digit 2 (lit< tt)

version_sound : (w : List ℕ) (two : Bool) → version_in w ≡ Some two → Unit {0} × (w ≡ version_text two)
version_sound w two e = by (bytes_eq w (codes "1")) refl e
  where
    by : (b : Bool) → bytes_eq w (codes "1") ≡ b → cond b (Some false) (cond (bytes_eq w (codes "2")) (Some true) None) ≡ Some two → Unit {0} × (w ≡ version_text two)
    by true is e = (tt, is_text w (codes "1") is ∙ sym one_is ∙ ap version_text (some_is false two e))
    by false is e =
        let passed = then_some (bytes_eq w (codes "2")) (Some true) two e in
        (tt, is_text w (codes "2") passed.0 ∙ sym two_is ∙ ap version_text (some_is true two passed.1))

version_complete : (two : Bool) → version_in (version_text two) ≡ Some two
version_complete true = ap version_in two_is
version_complete false = ap version_in one_is

version_graphic : (two : Bool) → list_all is_graphic (version_text two) ≡ true
version_graphic true = count_word.graphic 2 (lit≤ tt)
version_graphic false = count_word.graphic 1 (lit≤ tt)

version_word : IsWord version_text (λ two. Unit {0}) version_in
version_word = record { sound = version_sound; complete = λ two v. version_complete two; graphic = λ two v. version_graphic two }

-- whether some part asks for walking, and how many parts there are
abbrev pub heading_words : Bool × ℕ → List (List ℕ)
heading_words h = codes "flexcert" ∷ version_text h.0 ∷ decimal h.1 ∷ []

-- a count that fits, and isn't 0 where some part asks
abbrev pub IsHeading : Bool × ℕ → Type 0
IsHeading h = (h.1 ≤ 2 ^ 64 - 1) × ((not h.0 || ltb 0 h.1) ≡ true)

abbrev with_count : Bool → ℕ → Option (Bool × ℕ)
with_count two n = some_if (not two || ltb 0 n) (two, n)

heading_sound : (ws : List (List ℕ)) (h : Bool × ℕ) → heading_in ws ≡ Some h → IsHeading h × (ws ≡ heading_words h)
unfolding heading_in
heading_sound [] h e = absurd (none_some h e)
heading_sound (k ∷ []) h e = absurd (none_some h e)
heading_sound (k ∷ v ∷ []) h e = absurd (none_some h e)
heading_sound (k ∷ v ∷ c ∷ []) h e =
    let passed = then_some (bytes_eq k (codes "flexcert")) (version_in v >>= λ two. count_in c >>= with_count two) h e in
    let version = bind_some (version_in v) (λ two. count_in c >>= with_count two) h passed.1 in
    let count = bind_some (count_in c) (with_count version.0) h version.2 in
    let read = some_if-passed (not version.0 || ltb 0 count.0) (version.0, count.0) h (sym count.2) in
    let v-is = version_word.sound v version.0 version.1 in
    let c-is = count_word.sound c count.0 count.1 in
    let made : Bool × ℕ = (version.0, count.0) in
    subst (λ (x : Bool × ℕ). IsHeading x × ((k ∷ v ∷ c ∷ []) ≡ heading_words x)) (sym read.1)
    ((c-is.0, read.0), ap (λ (x : List ℕ). x ∷ v ∷ c ∷ []) (is_text k (codes "flexcert") passed.0) ∙ ap (λ (x : List ℕ). codes "flexcert" ∷ x ∷ c ∷ []) v-is.1 ∙ ap (λ (x : List ℕ). codes "flexcert" ∷ version_text version.0 ∷ x ∷ []) c-is.1)
heading_sound (k ∷ v ∷ c ∷ x ∷ ws) h e = absurd (none_some h e)

pub heading_line : IsLine heading_words IsHeading heading_in
unfolding heading_in
heading_line = record {
  sound = heading_sound;
  complete = λ h valid.
      ap (λ o. o >>= λ two. count_in (decimal h.1) >>= with_count two) (version_complete h.0)
      ∙ ap (λ o. o >>= with_count h.0) (count_word.complete h.1 valid.0)
      ∙ sym (some_if-passes (not h.0 || ltb 0 h.1) (h.0, h.1) h valid.1 refl);
  some = λ h e. cc;
  few = λ h. lit≤ tt;
  are_words = λ h valid. (refl, (version_graphic h.0, (count_word.graphic h.1 valid.0, tt)));
}

-- ---- rounds COUNT

abbrev pub round_count_words : ℕ → List (List ℕ)
round_count_words n = codes "rounds" ∷ decimal n ∷ []

round_count_sound : (ws : List (List ℕ)) (n : ℕ) → round_count_in ws ≡ Some n → (n ≤ 2 ^ 64 - 1) × (ws ≡ round_count_words n)
unfolding round_count_in
round_count_sound [] n e = absurd (none_some n e)
round_count_sound (k ∷ []) n e = absurd (none_some n e)
round_count_sound (k ∷ c ∷ []) n e =
    let passed = then_some (bytes_eq k (codes "rounds")) (count_in c) n e in
    let read = count_word.sound c n passed.1 in
    (read.0, ap (λ (x : List ℕ). x ∷ c ∷ []) (is_text k (codes "rounds") passed.0) ∙ ap (λ (x : List ℕ). codes "rounds" ∷ x ∷ []) read.1)
round_count_sound (k ∷ c ∷ x ∷ ws) n e = absurd (none_some n e)

pub round_count_line : IsLine round_count_words (λ n. n ≤ 2 ^ 64 - 1) round_count_in
unfolding round_count_in
round_count_line = record {
  sound = round_count_sound;
  complete = λ n within. count_word.complete n within;
  some = λ n e. cc;
  few = λ n. lit≤ tt;
  are_words = λ n within. (refl, (count_word.graphic n within, tt));
}

-- ---- round K COUNT

abbrev pub label_count_words : ℕ → ℕ → List (List ℕ)
label_count_words k n = codes "round" ∷ decimal k ∷ decimal n ∷ []

-- a count that fits, and is 0 where there is no place
abbrev pub IsLabelCount : ℕ → Bool → ℕ → Type 0
IsLabelCount k places n = (k ≤ 2 ^ 64 - 1) × (n ≤ 2 ^ 64 - 1) × ((eqb n 0 || places) ≡ true)

label_count_sound : (k : ℕ) (places : Bool) (ws : List (List ℕ)) (n : ℕ) → label_count_in k places ws ≡ Some n → IsLabelCount k places n × (ws ≡ label_count_words k n)
unfolding label_count_in
label_count_sound k places [] n e = absurd (none_some n e)
label_count_sound k places (w ∷ []) n e = absurd (none_some n e)
label_count_sound k places (w ∷ v ∷ []) n e = absurd (none_some n e)
label_count_sound k places (w ∷ v ∷ c ∷ []) n e =
    let passed = then_some (bytes_eq w (codes "round")) (count_in v >>= λ m. count_in c >>= λ n. some_if (eqb m k && (eqb n 0 || places)) n) n e in
    let number = bind_some (count_in v) (λ m. count_in c >>= λ n. some_if (eqb m k && (eqb n 0 || places)) n) n passed.1 in
    let count = bind_some (count_in c) (λ n. some_if (eqb number.0 k && (eqb n 0 || places)) n) n number.2 in
    let read = some_if-passed _ _ _ (sym count.2) in
    let tests = and_parts (eqb number.0 k) (eqb count.0 0 || places) read.0 in
    let is_k : number.0 ≡ k = eqb-true number.0 k tests.0 in
    let v-is = count_word.sound v number.0 number.1 in
    let c-is = count_word.sound c count.0 count.1 in
    let is : (w ∷ v ∷ c ∷ []) ≡ label_count_words k count.0 =
    ap (λ (x : List ℕ). x ∷ v ∷ c ∷ []) (is_text w (codes "round") passed.0) ∙ ap (λ (x : List ℕ). codes "round" ∷ x ∷ c ∷ []) (v-is.1 ∙ ap decimal is_k)
    ∙ ap (λ (x : List ℕ). codes "round" ∷ decimal k ∷ x ∷ []) c-is.1 in
    subst (λ (m : ℕ). IsLabelCount k places m × ((w ∷ v ∷ c ∷ []) ≡ label_count_words k m)) (sym read.1) ((subst (λ (m : ℕ). m ≤ 2 ^ 64 - 1) is_k v-is.0, c-is.0, tests.1), is)
label_count_sound k places (w ∷ v ∷ c ∷ x ∷ ws) n e = absurd (none_some n e)

pub label_count_line : (k : ℕ) (places : Bool) → IsLine (label_count_words k) (IsLabelCount k places) (label_count_in k places)
unfolding label_count_in
label_count_line k places = record {
  sound = label_count_sound k places;
  complete = λ n valid.
      ap (λ o. o >>= λ m. count_in (decimal n) >>= λ c. some_if (eqb m k && (eqb c 0 || places)) c) (count_word.complete k valid.0)
      ∙ ap (λ o. o >>= λ c. some_if (eqb k k && (eqb c 0 || places)) c) (count_word.complete n valid.1)
      ∙ sym (some_if-passes (eqb k k && (eqb n 0 || places)) n n (and_from (eqb k k) (eqb n 0 || places) (eq-eqb k k refl) valid.2) refl);
  some = λ n e. cc;
  few = λ n. lit≤ tt;
  are_words = λ n valid. (refl, (count_word.graphic k valid.0, (count_word.graphic n valid.1, tt)));
}

-- ---- journey DEADLINE ARRIVAL TRANSFERS, and WALK

abbrev pub triple_words : Bool → Triple → List (List ℕ)
triple_words walking t = codes "journey" ∷ deadline_text t.deadline ∷ moment_text t.arrival ∷ decimal t.transfers ∷ walk_words walking t.walk

pub record IsTripleLine (walking : Bool) (t : Triple) : Type 0 where
  pub deadline : IsPrintableDeadline t.deadline
  pub arrival : IsPrintableMoment t.arrival
  pub few : t.transfers ≤ 7
  pub walk : IsWalk walking t.walk

transfers_word : IsWord decimal (λ n. n ≤ 7) (number_in 7)
transfers_word = number_word 7 (lit< tt)

triple_parts : (d : Option Deadline) (a : Option ℤ) (n w : Option ℕ) (t : Triple) → triple_from d a n w ≡ Some t
    → (d ≡ Some t.deadline) × (a ≡ Some t.arrival) × (n ≡ Some t.transfers) × (w ≡ Some t.walk)
triple_parts None a n w t e = absurd (none_some t e)
triple_parts (Some d) None n w t e = absurd (none_some t e)
triple_parts (Some d) (Some a) None w t e = absurd (none_some t e)
triple_parts (Some d) (Some a) (Some n) None t e = absurd (none_some t e)
triple_parts (Some d) (Some a) (Some n) (Some w) t e =
    let is = some_is (record { deadline = d; arrival = a; transfers = n; walk = w }) t e in
    (ap (λ (x : Triple). Some x.deadline) is, ap (λ (x : Triple). Some x.arrival) is, ap (λ (x : Triple). Some x.transfers) is, ap (λ (x : Triple). Some x.walk) is)

triple_whole : (d : Option Deadline) (a : Option ℤ) (n w : Option ℕ) (t : Triple) → d ≡ Some t.deadline → a ≡ Some t.arrival → n ≡ Some t.transfers → w ≡ Some t.walk
    → triple_from d a n w ≡ Some t
triple_whole d a n w t hd ha hn hw =
    ap (λ x. triple_from x a n w) hd ∙ ap (λ x. triple_from (Some t.deadline) x n w) ha
    ∙ ap (λ x. triple_from (Some t.deadline) (Some t.arrival) x w) hn ∙ ap (λ x. triple_from (Some t.deadline) (Some t.arrival) (Some t.transfers) x) hw

triple_sound : (walking : Bool) (ws : List (List ℕ)) (t : Triple) → triple_in walking ws ≡ Some t → IsTripleLine walking t × (ws ≡ triple_words walking t)
unfolding triple_in
triple_sound walking [] t e = absurd (none_some t e)
triple_sound walking (k ∷ []) t e = absurd (none_some t e)
triple_sound walking (k ∷ d ∷ []) t e = absurd (none_some t e)
triple_sound walking (k ∷ d ∷ a ∷ []) t e = absurd (none_some t e)
triple_sound walking (k ∷ d ∷ a ∷ n ∷ last) t e =
    let passed = then_some (bytes_eq k (codes "journey")) (triple_from (deadline_in d) (moment 1980 2209 a) (number_in 7 n) (walk_in walking last)) t e in
    let parts = triple_parts (deadline_in d) (moment 1980 2209 a) (number_in 7 n) (walk_in walking last) t passed.1 in
    let d-is = deadline_word.sound d t.deadline parts.0 in
    let a-is = moment_word.sound a t.arrival parts.1 in
    let n-is = transfers_word.sound n t.transfers parts.2 in
    let w-is = (walk_tail walking).sound last t.walk parts.3 in (
      record { deadline = d-is.0; arrival = a-is.0; few = n-is.0; walk = w-is.0 },
      ap (λ (x : List ℕ). x ∷ d ∷ a ∷ n ∷ last) (is_text k (codes "journey") passed.0) ∙ ap (λ (x : List ℕ). codes "journey" ∷ x ∷ a ∷ n ∷ last) d-is.1
          ∙ ap (λ (x : List ℕ). codes "journey" ∷ deadline_text t.deadline ∷ x ∷ n ∷ last) a-is.1
          ∙ ap (λ (x : List ℕ). codes "journey" ∷ deadline_text t.deadline ∷ moment_text t.arrival ∷ x ∷ last) n-is.1
          ∙ ap (λ (x : List (List ℕ)). codes "journey" ∷ deadline_text t.deadline ∷ moment_text t.arrival ∷ decimal t.transfers ∷ x) w-is.1,
    )

pub triple_line : (walking : Bool) → IsLine (triple_words walking) (IsTripleLine walking) (triple_in walking)
unfolding triple_in
triple_line walking = record {
  sound = triple_sound walking;
  complete = λ t valid.
      triple_whole (deadline_in (deadline_text t.deadline)) (moment 1980 2209 (moment_text t.arrival)) (number_in 7 (decimal t.transfers)) (walk_in walking (walk_words walking t.walk)) t
      (deadline_word.complete t.deadline valid.deadline) (moment_word.complete t.arrival valid.arrival) (transfers_word.complete t.transfers valid.few) ((walk_tail walking).complete t.walk valid.walk);
  some = λ t e. cc;
  few = λ t. omega (arith, walk_few walking t.walk);
  are_words = λ t valid. (refl, (deadline_word.graphic t.deadline valid.deadline, (moment_word.graphic t.arrival valid.arrival, (transfers_word.graphic t.transfers valid.few, walk_are walking t.walk valid.walk))));
}

-- ---- query ID COUNT, and walking

-- an id that is a text, and a count that fits and is 0 where there is no ride
pub record IsQueryLine (may_ask may_not rides : Bool) (query : List ℕ × (Bool × ℕ)) : Type 0 where
  pub given : query.0 ≢ []
  pub utf8 : IsUtf8 query.0
  pub allowed : is_allowed may_ask may_not query.1.0 ≡ true
  pub count : query.1.1 ≤ 2 ^ 64 - 1
  pub some : (eqb query.1.1 0 || rides) ≡ true

abbrev pub query_words : List ℕ × (Bool × ℕ) → List (List ℕ)
query_words q = codes "query" ∷ escape q.0 ∷ decimal q.1.1 ∷ walking_words q.1.0

module _ (may_ask may_not rides : Bool) where
  abbrev Query : Type 0
  Query = List ℕ × (Bool × ℕ)

  abbrev passes : Bool → ℕ → Bool
  passes walking n = is_allowed may_ask may_not walking && (eqb n 0 || rides)

  -- what the words of a query line tell, with the id still escaped
  abbrev AreQueryWords : List (List ℕ) → Query → Type 0
  AreQueryWords ws x =
      (x.1.1 ≤ 2 ^ 64 - 1) × (passes x.1.0 x.1.1 ≡ true) × (ws ≡ codes "query" ∷ x.0 ∷ decimal x.1.1 ∷ walking_words x.1.0)

  words_sound : (ws : List (List ℕ)) (x : Query) → query_words_in may_ask may_not rides ws ≡ Some x → AreQueryWords ws x
  unfolding query_words_in
  words_sound [] x e = absurd (none_some x e)
  words_sound (k ∷ []) x e = absurd (none_some x e)
  words_sound (k ∷ v ∷ []) x e = absurd (none_some x e)
  words_sound (k ∷ v ∷ c ∷ last) x e =
      let passed = then_some (bytes_eq k (codes "query")) (count_in c >>= λ n. walking_in last >>= λ walking. some_if (passes walking n) (v, (walking, n))) x e in
      let count = bind_some (count_in c) (λ n. walking_in last >>= λ walking. some_if (passes walking n) (v, (walking, n))) x passed.1 in
      let walking = bind_some (walking_in last) (λ walking. some_if (passes walking count.0) (v, (walking, count.0))) x count.2 in
      let read = some_if-passed (passes walking.0 count.0) (v, (walking.0, count.0)) x (sym walking.2) in
      let c-is = count_word.sound c count.0 count.1 in
      let w-is = walking_sound last walking.0 walking.1 in
      subst (AreQueryWords (k ∷ v ∷ c ∷ last)) (sym read.1) (
        c-is.0,
        read.0,
        ap (λ (y : List ℕ). y ∷ v ∷ c ∷ last) (is_text k (codes "query") passed.0) ∙ ap (λ (y : List ℕ). codes "query" ∷ v ∷ y ∷ last) c-is.1
            ∙ ap (λ (y : List (List ℕ)). codes "query" ∷ v ∷ decimal count.0 ∷ y) w-is.1,
      )

  words_complete : (id : List ℕ) (walking : Bool) (n : ℕ) → n ≤ 2 ^ 64 - 1 → passes walking n ≡ true
      → query_words_in may_ask may_not rides (codes "query" ∷ id ∷ decimal n ∷ walking_words walking) ≡ Some (id, (walking, n))
  unfolding query_words_in
  words_complete id walking n within ok =
      ap (λ o. o >>= λ m. walking_in (walking_words walking) >>= λ w. some_if (passes w m) (id, (w, m))) (count_word.complete n within)
      ∙ ap (λ o. o >>= λ w. some_if (passes w n) (id, (w, n))) (walking_complete walking)
      ∙ sym (some_if-passes (passes walking n) (id, (walking, n)) (id, (walking, n)) ok refl)

id_sound : (w id : List ℕ) → id_in w ≡ Some id → ((id ≢ []) × IsUtf8 id) × (w ≡ escape id)
id_sound w id e =
    let own = without_escapes w in
    let read = some_if-passed (ltb 0 (length own) && is_utf8 own && bytes_eq w (escape own)) own id (sym e) in
    let last = and_parts (ltb 0 (length own) && is_utf8 own) (bytes_eq w (escape own)) read.0 in
    let first = and_parts (ltb 0 (length own)) (is_utf8 own) last.0 in
    subst (λ (x : List ℕ). ((x ≢ []) × IsUtf8 x) × (w ≡ escape x)) (sym read.1)
    ((not_empty own first.0, IsUtf8-from_is_utf8 own first.1), (bytes_eq-Decides w (escape own)).0 last.1)
  where
    not_empty : (xs : List ℕ) → ltb 0 (length xs) ≡ true → xs ≢ []
    not_empty [] h none = false≢true h
    not_empty (x ∷ xs) h none = cc

pub id_word : IsWord escape (λ id. (id ≢ []) × IsUtf8 id) id_in
id_word = record {
  sound = id_sound;
  complete = λ id valid.
      let back = escapes_back id (utf8-bytes id valid.1) in
      let given : ltb 0 (length id) ≡ true = some_given id valid.0 in
      let tests : (ltb 0 (length id) && is_utf8 id && bytes_eq (escape id) (escape id)) ≡ true =
      and_from (ltb 0 (length id) && is_utf8 id) (bytes_eq (escape id) (escape id)) (and_from (ltb 0 (length id)) (is_utf8 id) given (is_utf8-from_IsUtf8 id valid.1)) (same_text (escape id)) in
      ap (λ (x : List ℕ). some_if (ltb 0 (length x) && is_utf8 x && bytes_eq (escape id) (escape x)) x) back
      ∙ sym (some_if-passes (ltb 0 (length id) && is_utf8 id && bytes_eq (escape id) (escape id)) id id tests refl);
  graphic = λ id valid. escape-graphic id valid.1;
}
  where
    some_given : (xs : List ℕ) → xs ≢ [] → ltb 0 (length xs) ≡ true
    some_given [] h = absurd (h refl)
    some_given (x ∷ xs) h = lt-ltb 0 (length (x ∷ xs)) (omega arith)

pub query_line : (may_ask may_not rides : Bool) → IsLine query_words (IsQueryLine may_ask may_not rides) (query_in may_ask may_not rides)
query_line may_ask may_not rides = record {
  sound = λ ws q e.
      let words = bind_some (query_words_in may_ask may_not rides ws) (λ x. id_in x.0 >>= λ id. Some (id, x.1)) q e in
      let id = bind_some (id_in words.0.0) (λ id. Some (id, words.0.1)) q words.2 in
      let w = words_sound may_ask may_not rides ws words.0 words.1 in
      let i = id_sound words.0.0 id.0 id.1 in
      let tests = and_parts (is_allowed may_ask may_not words.0.1.0) (eqb words.0.1.1 0 || rides) w.1 in
      subst (λ (x : List ℕ × (Bool × ℕ)). IsQueryLine may_ask may_not rides x × (ws ≡ query_words x)) (some_is (id.0, words.0.1) q id.2)
      (record { given = i.0.0; utf8 = i.0.1; allowed = tests.0; count = w.0; some = tests.1 }, w.2 ∙ ap (λ (x : List ℕ). codes "query" ∷ x ∷ decimal words.0.1.1 ∷ walking_words words.0.1.0) i.1);
  complete = λ q valid.
      ap (λ o. o >>= λ x. id_in x.0 >>= λ id. Some (id, x.1))
      (words_complete may_ask may_not rides (escape q.0) q.1.0 q.1.1 valid.count (and_from (is_allowed may_ask may_not q.1.0) (eqb q.1.1 0 || rides) valid.allowed valid.some))
      ∙ ap (λ o. o >>= λ id. Some (id, q.1)) (id_word.complete q.0 (valid.given, valid.utf8));
  some = λ q e. cc;
  few = λ q. omega (arith, walking_few q.1.0);
  are_words = λ q valid. (refl, (id_word.graphic q.0 (valid.given, valid.utf8), (count_word.graphic q.1.1 valid.count, walking_are q.1.0)));
}

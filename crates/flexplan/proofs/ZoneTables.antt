-- The offset of a zone file at a moment depends on what the file says alone.
use Rattle.std.proofs.Common.{◌≡◌, ◌∙◌, ◌-◌, ℕ, zero, suc, ℤ, pos, get_or, length, map, Option, Some, None, List, [], ◌∷◌, Bool, true, false, refl, sym, ap, subst}
use Rattle.std.specs.Prelude.{option_map, if◌then◌else◌, ◌==◌, int_le, int_lt, not, vec_len}
use Rattle.std.specs.List.{prefix_len}
use Rattle.std.proofs.lemmas.Option.{none-some, same_Some}
use Rattle.std.proofs.lemmas.List.{length-map}
use Rattle.jiff.specs.Types.{AmbiguousOffset, DateTime, Offset, Gap, Fold, Unambiguous}
use Rattle.jiff.specs.Words.{civil_nanos, civil_seconds, compatible_offset}
use Rattle.jiff_tz.specs.PosixRule.{ambiguous_at_by, ambiguous_ahead, ambiguous_behind, ambiguous_by, in_span, in_window, match_some, rule_nanos, saturating_add, saturating_sub, shift_between}
use Rattle.jiff_tz.specs.PosixRule as Posix
use Rattle.jiff_tz.specs.PosixText.{DstText, TzText, dst_view, tz_view}
use Rattle.jiff_tz.specs.Tzif.{ambiguous_after, ambiguous_at, civil_count_at, is_inside, no_transition, offsets_in, rule_after, transition_at, type_after, tzif_view}
use Rattle.jiff_tz.specs.TzifReader.{TzifText}
use Rattle.jiff_tz.specs.TzifText.{TransitionText, TypeText, transition_text, type_view}
use Rattle.jiff_tz.specs.TzifText as Text
use Rattle.jiff_tz.specs.declared.posix.DayTime.{DayTime}
use Rattle.jiff_tz.specs.declared.posix.Dst.{Dst}
use Rattle.jiff_tz.specs.declared.posix.TimeZone.{TimeZone as Rule}
use Rattle.jiff_tz.specs.declared.tzif.Tzif.{Tzif}
use Rattle.jiff_tz.specs.declared.tzif.transition.LocalTimeType.{LocalTimeType}
use Rattle.jiff_tz.specs.declared.tzif.transition.Transition.{Transition}

-- how far the clock is ahead, by the offset before a step
abbrev pub seconds_of : AmbiguousOffset → ℤ
seconds_of offsets = (compatible_offset offsets).seconds

either : (p q : Bool) (a b c d : AmbiguousOffset) → p ≡ q → seconds_of a ≡ seconds_of c → seconds_of b ≡ seconds_of d
    → seconds_of (if p then a else b) ≡ seconds_of (if q then c else d)
either true true a b c d e same other = same
either false false a b c d e same other = other
either true false a b c d e same other = absurd (cc)
either false true a b c d e same other = absurd (cc)

-- rules

nanos-same : (y z : ℤ) (a b : DayTime) → y ≡ z → a.date ≡ b.date → a.time ≡ b.time → rule_nanos y a (pos 0) ≡ rule_nanos z b (pos 0)
unfolding rule_nanos
nanos-same y z a b year date time = rw (year, date, time) refl

module _ (std dst own its : Offset) (same_std : std.seconds ≡ own.seconds) (same_dst : dst.seconds ≡ its.seconds) (w : ℤ × ℤ) (at : ℤ) where
  shift-same : shift_between std dst ≡ shift_between own its
  shift-same = rw (same_std, same_dst) refl

  behind-same : seconds_of (ambiguous_behind std dst w at) ≡ seconds_of (ambiguous_behind own its w at)
  behind-same = either (in_window w at) (in_window w at) _ _ _ _ refl same_dst
      (either (in_span (saturating_add w.0 (shift_between std dst)) w.0 at) (in_span (saturating_add w.0 (shift_between own its)) w.0 at) _ _ _ _
      (ap (λ s. in_span (saturating_add w.0 s) w.0 at) shift-same) same_std
      (either (in_span w.1 (saturating_sub w.1 (shift_between std dst)) at) (in_span w.1 (saturating_sub w.1 (shift_between own its)) at) _ _ _ _
      (ap (λ s. in_span w.1 (saturating_sub w.1 s) at) shift-same) same_dst same_std))

  ahead-same : seconds_of (ambiguous_ahead std dst w at) ≡ seconds_of (ambiguous_ahead own its w at)
  ahead-same = either (not (in_window w at)) (not (in_window w at)) _ _ _ _ refl same_std
      (either (in_span w.0 (saturating_add w.0 (shift_between std dst)) at) (in_span w.0 (saturating_add w.0 (shift_between own its)) at) _ _ _ _
      (ap (λ s. in_span w.0 (saturating_add w.0 s) at) shift-same) same_std
      (either (in_span (saturating_sub w.1 (shift_between std dst)) w.1 at) (in_span (saturating_sub w.1 (shift_between own its)) w.1 at) _ _ _ _
      (ap (λ s. in_span (saturating_sub w.1 s) w.1 at) shift-same) same_dst same_dst))

  by-same : seconds_of (ambiguous_by std dst w at) ≡ seconds_of (ambiguous_by own its w at)
  by-same = either (int_lt dst.seconds std.seconds) (int_lt its.seconds own.seconds) _ _ _ _ (rw (same_std, same_dst) refl) behind-same
      (either (int_lt std.seconds dst.seconds) (int_lt own.seconds its.seconds) _ _ _ _ (rw (same_std, same_dst) refl) ahead-same same_std)

-- two moments of a clock that are the same
pub record IsSameMoment (a b : DateTime) : Type 0 where
  pub year : a.date.year ≡ b.date.year
  pub nanos : civil_nanos a ≡ civil_nanos b
  pub seconds : civil_seconds a ≡ civil_seconds b

module _ (at by : DateTime) (same : IsSameMoment at by) where
  dst-same : (std own : Offset) (d e : Option Dst) → std.seconds ≡ own.seconds → option_map dst_view d ≡ option_map dst_view e
      → seconds_of (ambiguous_at_by std d at) ≡ seconds_of (ambiguous_at_by own e by)
  dst-same std own None None seconds view = seconds
  dst-same std own None (Some e) seconds view = absurd (none-some (dst_view e) view)
  dst-same std own (Some d) None seconds view = absurd (none-some (dst_view d) (sym view))
  dst-same std own (Some d) (Some e) seconds view =
      let told : dst_view d ≡ dst_view e = same_Some (dst_view d) (dst_view e) view in
      let start = nanos-same at.date.year by.date.year d.rule.start e.rule.start same.year (ap (λ (v : DstText). v.start.0) told) (ap (λ (v : DstText). v.start.1) told) in
      let finish = nanos-same at.date.year by.date.year d.rule.end e.rule.end same.year (ap (λ (v : DstText). v.finish.0) told) (ap (λ (v : DstText). v.finish.1) told) in
      let window : (rule_nanos at.date.year d.rule.start (pos 0), rule_nanos at.date.year d.rule.end (pos 0)) ≡ (rule_nanos by.date.year e.rule.start (pos 0), rule_nanos by.date.year e.rule.end (pos 0)) = rw (start, finish) refl in
      by-same std d.offset own e.offset seconds (ap (λ (v : DstText). v.seconds) told) (rule_nanos at.date.year d.rule.start (pos 0), rule_nanos at.date.year d.rule.end (pos 0)) (civil_nanos at)
      ∙ ap (λ w. seconds_of (ambiguous_by own e.offset w (civil_nanos at))) window
      ∙ ap (λ n. seconds_of (ambiguous_by own e.offset (rule_nanos by.date.year e.rule.start (pos 0), rule_nanos by.date.year e.rule.end (pos 0)) n)) same.nanos

  rule-same : (a b : Rule) → tz_view a ≡ tz_view b → seconds_of (Posix.ambiguous_at a at) ≡ seconds_of (Posix.ambiguous_at b by)
  rule-same a b view = dst-same a.std_offset b.std_offset a.dst b.dst (ap (λ (v : TzText). v.std_seconds) view) (ap (λ (v : TzText). v.dst) view)

-- tables

prefix-map : {X Y : Type 0} (f : X → Y) (p : Y → Bool) (xs : List X) → prefix_len (λ x. p (f x)) xs ≡ prefix_len p (map f xs)
prefix-map f p [] = refl
prefix-map f p (x ∷ xs) = rw (prefix-map f p xs) refl

read-map : {X Y : Type 0} (f : X → Y) (xs : List X) (i : ℕ) (d : X) → f (get_or xs i d) ≡ get_or (map f xs) i (f d)
read-map f [] i d = refl
read-map f (x ∷ xs) zero d = refl
read-map f (x ∷ xs) (suc i) d = read-map f xs i d

abbrev rows_of : Tzif → List TransitionText
rows_of z = map transition_text z.transitions.items

-- a row past the table's end
abbrev row_past : TypeText → TransitionText
row_past told = record {
  second = pos 0;
  before = told.seconds;
  after = told;
}

row-at : (z : Tzif) (i : ℕ) → transition_text (transition_at z i) ≡ get_or (rows_of z) i (row_past (type_view z.first))
row-at z i = read-map transition_text z.transitions.items i (no_transition z)

count-of : (z : Tzif) (second : ℤ) → civil_count_at z second ≡ prefix_len (λ t. int_le (Text.civil_start t) second) (rows_of z)
count-of z second = prefix-map transition_text (λ t. int_le (Text.civil_start t) second) z.transitions.items

inside-before : (t : Transition) → seconds_of (offsets_in t) ≡ t.before.seconds
inside-before t = by (int_lt t.before.seconds t.after.offset.seconds)
  where
    by : (p : Bool) → seconds_of (if p then Gap t.before t.after.offset else Fold t.before t.after.offset) ≡ t.before.seconds
    by true = refl
    by false = refl

kind-either : (p q : Bool) (a b c d : LocalTimeType) → p ≡ q → a.offset.seconds ≡ c.offset.seconds → b.offset.seconds ≡ d.offset.seconds
    → (if p then a else b).offset.seconds ≡ (if q then c else d).offset.seconds
kind-either true true a b c d e same other = same
kind-either false false a b c d e same other = other
kind-either true false a b c d e same other = absurd (cc)
kind-either false true a b c d e same other = absurd (cc)

module _ (a b : Tzif) (view : tzif_view a ≡ tzif_view b) where
  rows-same : rows_of a ≡ rows_of b
  rows-same = ap (λ (v : TzifText). v.transitions) view

  first-same : type_view a.first ≡ type_view b.first
  first-same = ap (λ (v : TzifText). v.first) view

  rule-told : option_map tz_view a.posix_tz ≡ option_map tz_view b.posix_tz
  rule-told = ap (λ (v : TzifText). v.rule) view

  row-same : (i j : ℕ) → i ≡ j → transition_text (transition_at a i) ≡ transition_text (transition_at b j)
  row-same i j e = row-at a i ∙ ap (λ k. get_or (rows_of a) k (row_past (type_view a.first))) e ∙ ap (λ rows. get_or rows j (row_past (type_view a.first))) rows-same
      ∙ ap (λ told. get_or (rows_of b) j (row_past told)) first-same ∙ sym (row-at b j)

  count-same : (second : ℤ) → civil_count_at a second ≡ civil_count_at b second
  count-same second = count-of a second ∙ ap (λ rows. prefix_len (λ t. int_le (Text.civil_start t) second) rows) rows-same ∙ sym (count-of b second)

  length-same : length a.transitions.items ≡ length b.transitions.items
  length-same = sym (length-map a.transitions.items transition_text) ∙ ap length rows-same ∙ length-map b.transitions.items transition_text

  type-same : (n : ℕ) → (type_after a n).offset.seconds ≡ (type_after b n).offset.seconds
  type-same n = kind-either (n == 0) (n == 0) a.first (transition_at a (n - 1)).after b.first (transition_at b (n - 1)).after refl (ap (λ (v : TypeText). v.seconds) first-same)
      (ap (λ (v : TransitionText). v.after.seconds) (row-same (n - 1) (n - 1) refl))

  inside-same : (n : ℕ) (second : ℤ) → is_inside a n second ≡ is_inside b n second
  inside-same n second = ap (λ e. if n == 0 then false else int_lt second e) (ap Text.civil_end (row-same (n - 1) (n - 1) refl))

  rule-past : (n : ℕ) → option_map tz_view (rule_after a n) ≡ option_map tz_view (rule_after b n)
  rule-past n = by (n == vec_len a.transitions) (n == vec_len b.transitions) (ap (λ k. n == k) (a.transitions.ok.0 ∙ length-same ∙ sym b.transitions.ok.0))
    where
      by : (p q : Bool) → p ≡ q → option_map tz_view (if p then a.posix_tz else None) ≡ option_map tz_view (if q then b.posix_tz else None)
      by true true e = rule-told
      by false false e = refl
      by true false e = absurd (cc)
      by false true e = absurd (cc)

  module _ (at by : DateTime) (same : IsSameMoment at by) where
    past-same : (own its : LocalTimeType) (r s : Option Rule) → own.offset.seconds ≡ its.offset.seconds → option_map tz_view r ≡ option_map tz_view s
        → seconds_of (match_some r (Unambiguous own.offset) (λ tz. Posix.ambiguous_at tz at)) ≡ seconds_of (match_some s (Unambiguous its.offset) (λ tz. Posix.ambiguous_at tz by))
    past-same own its None None seconds told = seconds
    past-same own its None (Some s) seconds told = absurd (none-some (tz_view s) told)
    past-same own its (Some r) None seconds told = absurd (none-some (tz_view r) (sym told))
    past-same own its (Some r) (Some s) seconds told = rule-same at by same r s (same_Some (tz_view r) (tz_view s) told)

    after-same : (n : ℕ) → seconds_of (ambiguous_after a n at) ≡ seconds_of (ambiguous_after b n by)
    after-same n = past-same (type_after a n) (type_after b n) (rule_after a n) (rule_after b n) (type-same n) (rule-past n)

    counted-same : (n m : ℕ) (s t : ℤ) → n ≡ m → s ≡ t
        → seconds_of (if is_inside a n s then offsets_in (transition_at a (n - 1)) else ambiguous_after a n at)
        ≡ seconds_of (if is_inside b m t then offsets_in (transition_at b (m - 1)) else ambiguous_after b m by)
    counted-same n m s t e f = subst (λ k. seconds_of (if is_inside a n s then offsets_in (transition_at a (n - 1)) else ambiguous_after a n at)
        ≡ seconds_of (if is_inside b k t then offsets_in (transition_at b (k - 1)) else ambiguous_after b k by)) e
        (either (is_inside a n s) (is_inside b n t) _ _ _ _ (ap (λ k. is_inside a n k) f ∙ inside-same n t)
        (inside-before (transition_at a (n - 1)) ∙ ap (λ (v : TransitionText). v.before) (row-same (n - 1) (n - 1) refl) ∙ sym (inside-before (transition_at b (n - 1))))
        (after-same n))

    -- at the same moment two tables that say the same have the clock as far ahead
    pub table-same : seconds_of (ambiguous_at a at) ≡ seconds_of (ambiguous_at b by)
    table-same = counted-same (civil_count_at a (civil_seconds at)) (civil_count_at b (civil_seconds by)) (civil_seconds at) (civil_seconds by)
        (count-same (civil_seconds at) ∙ ap (λ s. civil_count_at b s) same.seconds) same.seconds

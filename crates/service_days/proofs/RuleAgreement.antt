-- Whether a rule agrees with a table depends on what the rule says alone.
use Rattle.std.proofs.Common.{◌≡◌, ◌∙◌, ◌-◌, ℤ, get_or, length, Option, Some, None, List, Bool, true, false, refl, sym, ap}
use Rattle.std.specs.Prelude.{option_map, if◌then◌else◌}
use Rattle.std.proofs.lemmas.Option.{none-some, same_Some}
use Rattle.jiff.specs.Types.{Offset}
use Rattle.jiff_core.specs.Timestamp.{nanos_of_seconds}
use Rattle.jiff_tz.specs.Abbreviation.{abbreviation_text}
use Rattle.jiff_tz.specs.PosixRule.{dst_at_by, dst_info, in_window, match_some, rule_nanos, std_info, utc_window}
use Rattle.jiff_tz.specs.PosixText.{DstText, TzText, dst_view, tz_view}
use Rattle.jiff_tz.specs.TzifAgree.{FooterAgrees, RowAgrees}
use Rattle.jiff_tz.specs.TzifText.{TransitionText, no_row}
use Rattle.jiff_tz.specs.Year.{year_of_nanos}
use Rattle.jiff_tz.specs.declared.info.OffsetInfo.{OffsetInfo}
use Rattle.jiff_tz.specs.declared.posix.DayTime.{DayTime}
use Rattle.jiff_tz.specs.declared.posix.Dst.{Dst}
use Rattle.jiff_tz.specs.declared.posix.TimeZone.{TimeZone}

nanos-same : (y : ℤ) (a b : DayTime) (s t : ℤ) → a.date ≡ b.date → a.time ≡ b.time → s ≡ t → rule_nanos y a s ≡ rule_nanos y b t
unfolding rule_nanos
nanos-same y a b s t date time seconds = rw (date, time, seconds) refl

window-same : (a b : Dst) (y : ℤ) (s t : Offset) → dst_view a ≡ dst_view b → s.seconds ≡ t.seconds → utc_window a y s ≡ utc_window b y t
unfolding utc_window
window-same a b y s t view seconds =
    let start = nanos-same y a.rule.start b.rule.start s.seconds t.seconds (ap (λ (v : DstText). v.start.0) view) (ap (λ (v : DstText). v.start.1) view) seconds in
    let finish = nanos-same y a.rule.end b.rule.end a.offset.seconds b.offset.seconds (ap (λ (v : DstText). v.finish.0) view) (ap (λ (v : DstText). v.finish.1) view) (ap (λ (v : DstText). v.seconds) view) in
    rw (start, finish, seconds) refl

-- what a row of a table is compared with
record SaysSame (a b : OffsetInfo) : Type 0 where
  pub seconds : a.offset.seconds ≡ b.offset.seconds
  pub dst : a.dst ≡ b.dst
  pub name : abbreviation_text a.abbreviation ≡ abbreviation_text b.abbreviation

says-same : (a b : TimeZone) (c d : Option Dst) (n : ℤ) → a.std_offset.seconds ≡ b.std_offset.seconds → abbreviation_text a.std_abbrev ≡ abbreviation_text b.std_abbrev
    → option_map dst_view c ≡ option_map dst_view d
    → SaysSame (match_some (dst_at_by a.std_offset c n) (std_info a) dst_info) (match_some (dst_at_by b.std_offset d n) (std_info b) dst_info)
says-same a b None None n seconds name view = record { seconds = seconds; dst = refl; name = name }
says-same a b None (Some d) n seconds name view = absurd (none-some (dst_view d) view)
says-same a b (Some c) None n seconds name view = absurd (none-some (dst_view c) (sym view))
says-same a b (Some c) (Some d) n seconds name view = by _ _ (ap (λ w. in_window w n) (window-same c d (year_of_nanos n) a.std_offset b.std_offset same seconds))
  where
    same : dst_view c ≡ dst_view d
    same = same_Some (dst_view c) (dst_view d) view

    by : (p q : Bool) → p ≡ q → SaysSame (match_some (if p then Some c else None) (std_info a) dst_info) (match_some (if q then Some d else None) (std_info b) dst_info)
    by true true e = record { seconds = ap (λ (v : DstText). v.seconds) same; dst = refl; name = ap (λ (v : DstText). v.name) same }
    by true false e = absurd (cc)
    by false true e = absurd (cc)
    by false false e = record { seconds = seconds; dst = refl; name = name }

row-same : (a b : TimeZone) (row : TransitionText) → tz_view a ≡ tz_view b → RowAgrees a row → RowAgrees b row
row-same a b row view agrees =
    let same = says-same a b a.dst b.dst (nanos_of_seconds row.second) (ap (λ (v : TzText). v.std_seconds) view) (ap (λ (v : TzText). v.std_name) view) (ap (λ (v : TzText). v.dst) view) in
    (sym same.seconds ∙ agrees.0, sym same.dst ∙ agrees.1, sym same.name ∙ agrees.2)

-- rules that say the same agree with the same tables
pub footer-same : (rows : List TransitionText) (a b : TimeZone) → tz_view a ≡ tz_view b → FooterAgrees rows a → FooterAgrees rows b
footer-same rows a b view agrees some = row-same a b (get_or rows (length rows - 1) no_row) view (agrees some)

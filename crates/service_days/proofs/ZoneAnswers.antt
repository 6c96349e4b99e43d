-- What the readers of zones answer.
use Rattle.std.proofs.Common.{◌≡◌, inl, inr, ◌∙◌, ℕ, ℤ, List, Option, Some, None, Ok, Err, refl, ap, subst}
use Rattle.std.specs.Prelude.{IfSome, option_map}
use Rattle.std.specs.Borrow.{Bor}
use Rattle.std.specs.Str.{IsUtf8}
use Rattle.std.proofs.lemmas.Option.{none-some, same_Some}
use Rattle.jiff.specs.Types.{TimeZone, Tzif as Table}
use Rattle.jiff_tz.specs.PosixText.{TzText, tz_view}
use Rattle.jiff_tz.specs.Tzif.{HasBadRule, RuleAgrees, tzif_view}
use Rattle.jiff_tz.specs.TzifAgree.{FooterAgrees}
use Rattle.jiff_tz.specs.TzifReader.{TzifText, read_tzif}
use Rattle.jiff_tz.specs.TzifText.{TransitionText}
use Rattle.jiff_tz.specs.declared.posix.TimeZone.{TimeZone as Rule}
use Rattle.jiff_tz.specs.declared.tzif.Tzif.{Tzif as TzifTable}
use Rattle.service_days.specs.declared.forms.ZoneForm.TheVariants.{Posix, Tzif}
use Rattle.service_days.specs.declared.forms.ZoneRefusal.TheVariants.{BadZone}
use Rattle.service_days.specs.Noons.{HasBasesOf}
use Rattle.service_days.specs.ZoneForms.{IsBadZone, IsZoneAnswer}
use Rattle.service_days.proofs.RuleAgreement.{footer-same}
use Rattle.service_days.proofs.TextUtf8.{utc-utf8}

-- bytes that aren't UTF-8
pub posix-broken : (bytes : List ℕ) → (IsUtf8 bytes → ⊥) → IsZoneAnswer Posix bytes (Err BadZone)
posix-broken bytes broken = record {
  utc = λ u. absurd (broken (utc-utf8 bytes u));
  bases = tt;
  good = tt;
  bad = λ e. inl broken;
  malformed = λ m. refl;
}

agreeing : (rule : Option Rule) (rows : List TransitionText) (text : TzText) → IfSome rule (λ tz. FooterAgrees rows tz) → option_map tz_view rule ≡ Some text
    → (tz : Rule) × (tz_view tz ≡ text) × FooterAgrees rows tz
agreeing None rows text agrees e = absurd (none-some text e)
agreeing (Some tz) rows text agrees e = (tz, same_Some (tz_view tz) text e, agrees)

-- a file that was read has no rule that disagrees
no-bad-rule : (bytes : List ℕ) (table : TzifTable) → read_tzif bytes ≡ Ok (tzif_view table) → RuleAgrees table → HasBadRule (read_tzif bytes) → ⊥
no-bad-rule bytes table read agrees bad =
    let same : tzif_view table ≡ bad.text = let e = bad.read in cc in
    let rows = ap (λ (t : TzifText). t.transitions) same in
    let known = agreeing table.posix_tz (tzif_view table).transitions (tz_view bad.rule) agrees (ap (λ (t : TzifText). t.rule) same ∙ bad.is_rule) in
    bad.disagrees (subst (λ r. FooterAgrees r bad.rule) rows (footer-same (tzif_view table).transitions known.0 bad.rule known.1 known.2))

not-bad : (bytes : List ℕ) (table : TzifTable) → read_tzif bytes ≡ Ok (tzif_view table) → RuleAgrees table → IsBadZone Tzif bytes → ⊥
not-bad bytes table read agrees bad = elim bad.2 [
  | inl failure ↦ elim failure [
    | inl memory ↦ bad.1 memory
    | inr fault ↦ (let e = fault.1 in cc)
  ]
  | inr rule ↦ no-bad-rule bytes table read agrees rule.1
]

-- a zone file
pub tzif-zone : (bytes : List ℕ) (zone : TimeZone) (table : Bor TzifTable) (bases : List ℤ) → zone ≡ Table table → read_tzif bytes ≡ Ok (tzif_view table.now)
    → RuleAgrees table.now → HasBasesOf zone bases → IsZoneAnswer Tzif bytes (Ok bases)
tzif-zone bytes zone table bases is read agrees has = record {
  utc = λ u. absurd u;
  bases = λ n. (Table table, (read, agrees), subst (λ z. HasBasesOf z bases) is has);
  good = λ bad. not-bad bytes table.now read agrees bad;
  bad = λ e. absurd (cc);
  malformed = λ m. absurd (let e = m.1 in cc);
}

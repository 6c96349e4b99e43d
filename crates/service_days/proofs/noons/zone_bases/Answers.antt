-- Each turn adds the base of the next day.
use Rattle.std.proofs.Common.{◌≡◌, ◌<◌, ◌≤◌, ◌∙◌, ◌+◌, ◌+ℤ◌, ◌-ℤ◌, ◌*ℤ◌, ◌++◌, ◌∷◌, [], refl, sym, ap, subst, arith, ℕ, ℤ, pos, List, Some, length, slice_get, to_z, of_z, w64}
use Rattle.std.specs.Prelude.{unsigned_abs}
use Rattle.std.proofs.lemmas.Int.{ints, to_z-of_z}
use Rattle.std.proofs.lemmas.List.{length-append}
use Rattle.jiff.specs.Words.{plain_zone}
use Rattle.service_days.specs.Bases.{first_day}
use Rattle.service_days.specs.Noons.{IsBaseIn}
use Rattle.service_days.proofs.NoonFacts.{each-none, each-push}
use Rattle.service_days.proofs.noons.zone_bases.Goals as goal

pub loop-index-init : goal.loop-index-init
loop-index-init c = rw c.new-bases.ensures record {
  count = refl;
  each = each-none (λ k base. IsBaseIn (plain_zone c.args.zone.now) (pos first_day +ℤ pos k) base);
  near = each-none (λ k base. unsigned_abs (base -ℤ (pos 86400 *ℤ (pos first_day +ℤ pos k))) ≤ 93599);
}

-- the day of a index
day-at : (day from : ℤ) (index count : ℕ) → day ≡ to_z w64 (of_z w64 from) → from ≡ pos (5785 + index) → index < 78226 → count ≡ index → day ≡ pos first_day +ℤ pos count
day-at day from index count e f lt same = e ∙ rw (f, same) (grind (arith, ints, to_z-of_z))

pub loop-index-preserved : goal.loop-index-preserved
loop-index-preserved c =
    let i = c.loop-index.invariant in
    let zone = plain_zone c.args.zone.now in
    let base = c.base_of.result in
    let bases = c.loop-index.bases in
    let item = to_z-of_z w64 base (record { sfits = c.base_of.type_inv }) in
    let pushed = c.in_ok-push.ensures.ok ∙ ap (λ b. bases ++ b ∷ []) item in
    let day = day-at _ _ c.loop-index.index (length bases) c.date_of.ensures c.from.ensures c.loop-index-test.true i.count in
    let size = ap length pushed ∙ length-append bases (base ∷ []) in
    record {
      count = omega (arith, size, i.count);
      each = subst (λ (all : List ℤ). (k : ℕ) (b : ℤ) → slice_get all k ≡ Some b → IsBaseIn zone (pos first_day +ℤ pos k) b) (sym pushed)
          (each-push (λ k b. IsBaseIn zone (pos first_day +ℤ pos k) b) bases base i.each (subst (λ d. IsBaseIn zone d base) day c.base_of.ensures.base));
      near = subst (λ (all : List ℤ). (k : ℕ) (b : ℤ) → slice_get all k ≡ Some b → unsigned_abs (b -ℤ (pos 86400 *ℤ (pos first_day +ℤ pos k))) ≤ 93599) (sym pushed)
          (each-push (λ k b. unsigned_abs (b -ℤ (pos 86400 *ℤ (pos first_day +ℤ pos k))) ≤ 93599) bases base i.near (subst (λ d. unsigned_abs (base -ℤ (pos 86400 *ℤ d)) ≤ 93599) day c.base_of.ensures.near));
    }

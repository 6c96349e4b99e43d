-- Rules for changes by where they begin: those that begin at a stop stand together.
use Rattle.std.proofs.Common.{◌≡◌, ◌↔◌, inl, inr, ℕ, ◌<◌, ◌≤◌, true, false, List, AllPairs, Contains, length, arith}
use Rattle.std.specs.Prelude.{nat_le, nat_lt}
use Rattle.std.proofs.lemmas.Bool.{le-leb, leb-true, lt-ltb, ltb-true}
use Rattle.std.proofs.lemmas.Bool.Decides.{nat_tests}
use Rattle.std.specs.List.{between}
use Rattle.std.specs.List.Sorted.{IsPartitionPoint, IsPartitionedBy}
use Rattle.flex_model.specs.declared.change.ChangeRow.{ChangeRow}
use Rattle.flex_model.specs.SoundFeed.{IsChangeBefore}
use Rattle.transfers.specs.ChangeOrder.{begins_before, begins_by}
use Rattle.transfers.proofs.PartedRows.{parted, stands_between}

no_later : (x y : ChangeRow) → IsChangeBefore x y → x.from ≤ y.from
no_later x y (inl lt) = omega arith
no_later x y (inr both) = let e = both.0 in omega arith

before_down : (stop : ℕ) (x y : ChangeRow) → IsChangeBefore x y → begins_before stop y ≡ true → begins_before stop x ≡ true
before_down stop x y p e =
    let le : x.from ≤ y.from = no_later x y p in
    let lt : y.from < stop = ltb-true y.from stop e in
    lt-ltb x.from stop (omega arith)

by_down : (stop : ℕ) (x y : ChangeRow) → IsChangeBefore x y → begins_by stop y ≡ true → begins_by stop x ≡ true
by_down stop x y p e =
    let le : x.from ≤ y.from = no_later x y p in
    let up_to : y.from ≤ stop = leb-true y.from stop e in
    le-leb x.from stop (omega arith)

pub parted_before : (stop : ℕ) (changes : List ChangeRow) → AllPairs IsChangeBefore changes → IsPartitionedBy (begins_before stop) changes
parted_before stop = parted IsChangeBefore (begins_before stop) (before_down stop)

pub parted_by : (stop : ℕ) (changes : List ChangeRow) → AllPairs IsChangeBefore changes → IsPartitionedBy (begins_by stop) changes
parted_by stop = parted IsChangeBefore (begins_by stop) (by_down stop)

only_there : (n stop : ℕ) → (n ≡ stop) ↔ ((nat_lt n stop ≡ false) × (nat_le n stop ≡ true))
only_there n stop = (
  λ e. (grind (arith, nat_tests), grind (arith, nat_tests)),
  λ both. let no = both.0 in let yes = both.1 in grind (arith, nat_tests),
)

pub changes_between : (changes : List ChangeRow) (stop start end : ℕ) → start ≤ length changes → end ≤ length changes
    → IsPartitionPoint (λ x. begins_before stop x ≡ true) (λ x. begins_before stop x ≡ false) changes start
    → IsPartitionPoint (λ x. begins_by stop x ≡ true) (λ x. begins_by stop x ≡ false) changes end
    → (row : ChangeRow) → Contains (between start end changes) row ↔ (Contains changes row × (row.from ≡ stop))
changes_between changes stop start end low high first last =
    stands_between changes (begins_before stop) (begins_by stop) start end low high first last (λ x. x.from ≡ stop) (λ x. only_there x.from stop)

use Rattle.std.proofs.Common.{◌≡◌, ◌↔◌, List, Contains, sym, ◌∙◌, ap, subst}
use Rattle.std.specs.Prelude.{IsPermutation}
use Rattle.std.proofs.lemmas.List.Sorted.{Contains-permutation, IsPermutation-sym}
use Rattle.cert_check.specs.declared.labels.RoundLabel.{RoundLabel}
use Rattle.cert_check.specs.Labels.{labels_from, labels_of}
use Rattle.cert_check.specs.Tasks.{AreByPlace}
use Rattle.cert_check.proofs.checker.first_reason.Goals as goal

-- labels that are moved are the same ones
same_labels : (all before after : List RoundLabel) → before ≡ all → IsPermutation before after
    → (label : RoundLabel) → Contains after label ↔ Contains all label
same_labels all before after same moved label = (
  λ there. subst (λ xs. Contains xs label) same (Contains-permutation after before label (IsPermutation-sym before after moved) there),
  λ here. Contains-permutation before after label moved (subst (λ xs. Contains xs label) (sym same) here),
)

pub uncovered-requires-clause-lookups : goal.uncovered-requires-clause-lookups
uncovered-requires-clause-lookups c =
    let part = c.args.task.now.part.now in
    let sorted = c.in_ok-sorted.sorted.items in
    let value = sym c.as_slice-5.ensures.value in
    record {
      index = c.requires.index;
      active = c.in_ok-active.ensures;
      by_place = subst AreByPlace value c.in_ok-sorted.ensures.sorted;
      labels = λ label.
          subst (λ (xs : List RoundLabel). Contains xs label ↔ Contains (labels_of part) label) value
          (same_labels (labels_of part) c.in_ok-labels_of.field-0.items sorted (c.in_ok-labels_of.ensures ∙ ap (labels_from 1) c.as_slice-4.ensures) c.in_ok-sorted.ensures.moved label);
    }

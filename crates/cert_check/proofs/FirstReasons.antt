-- The kinds of tests, one after another.
use Rattle.std.proofs.Common.{inl, inr, ℕ, ◌+◌, ◌<◌, Option, Some, None, ◌∙◌, arith}
use Rattle.std.proofs.lemmas.Bool.{cases_lt}
use Rattle.cert_check.specs.declared.reason.Reason.{Reason}
use Rattle.cert_check.specs.declared.reason.Reason.TheVariants.{Query, Rounds, Journey, TripleDiffers, NotOrdered, Beaten, LabelPlace, FinalUncovered, Uncovered}
use Rattle.cert_check.specs.declared.task.Task.{Task}
use Rattle.bound_cert.specs.Parts.{IsValidPart}
use Rattle.cert_check.specs.Reasons.{IsFirstReason, kind}
use Rattle.cert_check.specs.Tasks.{IsFound, IsFoundBelow}
use Rattle.cert_check.proofs.ValidParts.{reasons_fail, valid_parts_pass}

-- the values of a task, as verdicts speak of them
abbrev pub IsFirst : Task → Reason → Type 0
IsFirst task reason = IsFirstReason task.feed.now task.times.now task.days.now task.query.now task.part.now reason

abbrev pub IsValid : Task → Type 0
IsValid task = IsValidPart task.feed.now task.times.now task.days.now task.query.now task.part.now

module _ (task : Task) where
  pub none_below : IsFoundBelow task 0 None
  none_below reason lt = absurd (omega arith)

  -- the first that fails of the next kind is the first of all
  pub first_of : (k : ℕ) → IsFoundBelow task k None → (reason : Reason) → IsFound task k (Some reason) → IsFirst task reason
  first_of k below reason found = record {
    applies = found.1;
    first = λ other before. elim before [
      | inl less ↦ (let e = found.0 in below other (omega arith))
      | inr both ↦ found.2 other (both.0 ∙ found.0) both.1
    ];
  }

  pub kind_more : (k : ℕ) → IsFoundBelow task k None → IsFound task k None → IsFoundBelow task (k + 1) None
  kind_more k below none reason lt = elim (cases_lt (kind reason) k) [
    | inl less ↦ below reason less
    | inr ge ↦ none reason (omega arith)
  ]

  pub found_more : (k : ℕ) → IsFoundBelow task k None → (found : Option Reason) → IsFound task k found → IsFoundBelow task (k + 1) found
  found_more k below None none = kind_more k below none
  found_more k below (Some reason) found = first_of k below reason found

  kind_few : (reason : Reason) → kind reason < 9
  kind_few Query = omega arith
  kind_few Rounds = omega arith
  kind_few (Journey answer flaw) = omega arith
  kind_few (TripleDiffers answer told real) = omega arith
  kind_few (NotOrdered answer) = omega arith
  kind_few (Beaten answer by) = omega arith
  kind_few (LabelPlace label) = omega arith
  kind_few (FinalUncovered label) = omega arith
  kind_few (Uncovered from ride) = omega arith

  -- where no test fails, the part is valid
  pub all_pass : IsFoundBelow task 9 None → IsValid task
  all_pass below =
      (valid_parts_pass task.feed.now task.times.now task.days.now task.query.now task.part.now).1 (λ reason. below reason (kind_few reason))

  -- where one does, it isn't
  pub one_fails : (reason : Reason) → IsFirst task reason → IsFirst task reason × (IsValid task → ⊥)
  one_fails reason first = (
    first,
    λ valid. reasons_fail task.feed.now task.times.now task.days.now task.query.now task.part.now reason first.applies
        ((valid_parts_pass task.feed.now task.times.now task.days.now task.query.now task.part.now).0 valid reason),
  )

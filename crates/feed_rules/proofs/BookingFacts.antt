-- The faults of a record by two lists of rules, one after the other.
use Rattle.std.proofs.Common.{◌≡◌, ℕ, List, ◌++◌, map, sym, ◌∙◌, ap}
use Rattle.std.specs.List.{filter_map}
use Rattle.std.proofs.lemmas.List.{append_assoc, map-append}
use Rattle.std.proofs.lemmas.List.Elements.{filter_map-append}
use Rattle.flex_model.specs.declared.fault.Fault.{Fault}
use Rattle.flex_model.specs.declared.fault.InputFile.{InputFile}
use Rattle.feed_meaning.specs.Rules.{Rule}
use Rattle.feed_meaning.specs.Tables.{fault, faults_at}

faults_at-append : (file : InputFile) (row : ℕ) (first rest : List Rule) → faults_at file row (first ++ rest) ≡ faults_at file row first ++ faults_at file row rest
faults_at-append file row first rest =
    ap (map (fault file row)) (filter_map-append (λ r. r) first rest)
    ∙ map-append (fault file row) (filter_map (λ r. r) first) (filter_map (λ r. r) rest)

pub added_twice : (file : InputFile) (row : ℕ) (first rest : List Rule) (before between after : List Fault) → between ≡ before ++ faults_at file row first
    → after ≡ between ++ faults_at file row rest → after ≡ before ++ faults_at file row (first ++ rest)
added_twice file row first rest before between after one two =
    two ∙ ap (λ fs. fs ++ faults_at file row rest) one ∙ append_assoc before (faults_at file row first) (faults_at file row rest)
    ∙ ap (λ fs. before ++ fs) (sym (faults_at-append file row first rest))

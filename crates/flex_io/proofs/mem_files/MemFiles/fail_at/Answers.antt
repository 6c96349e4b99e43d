use Rattle.std.proofs.Common.{◌≡◌, ℕ, ap, ◌∙◌}
use Rattle.std.specs.Ordering.{nat_cmp}
use Rattle.std.specs.Cmp.{nat_cmp_total}
use Rattle.std.specs.FinSet.{FinSet, insert, from_list, from_list_push, nat_cmp-IsAntisymmetric}
use Rattle.flex_io.specs.Memory.{MemoryFiles}
use Rattle.flex_io.proofs.mem_files.MemFiles.fail_at.Goals as goal

-- the same files, whose named calls are others
abbrev with_failing : MemoryFiles → FinSet nat_cmp → MemoryFiles
with_failing m failing = record m { failing = failing }

named : (m n : MemoryFiles) (pushed : FinSet nat_cmp) (call : ℕ) → m ≡ n → pushed ≡ insert m.failing call → with_failing m pushed ≡ with_failing n (insert n.failing call)
named m n pushed call same is = ap (with_failing m) is ∙ ap (λ (m : MemoryFiles). with_failing m (insert m.failing call)) same

pub returns-clause-ok : goal.returns-clause-ok
returns-clause-ok c =
    named _ _ _ c.args.call c.self.view_is (ap from_list c.in_ok-push.ensures.items ∙ from_list_push nat_cmp_total nat_cmp-IsAntisymmetric _ _)

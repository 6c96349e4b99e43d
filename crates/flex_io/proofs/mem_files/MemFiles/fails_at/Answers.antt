use Rattle.std.proofs.Common.{List, ℕ, ap, sym, ◌∙◌, nat_eq}
use Rattle.std.specs.List.{list_any}
use Rattle.std.specs.FinSet.{contains, contains-from_list_nat}
use Rattle.flex_io.specs.Memory.{MemoryFiles}
use Rattle.flex_io.proofs.mem_files.MemFiles.fails_at.Goals as goal

pub returns : goal.returns
returns c =
    c.contains.ensures.value
    ∙ ap (λ (numbers : List ℕ). list_any (λ y. nat_eq y c.args.call) numbers) c.deref.ensures.value
    ∙ sym (contains-from_list_nat _ c.args.call)
    ∙ ap (λ (m : MemoryFiles). contains m.failing c.args.call) c.self.view_is

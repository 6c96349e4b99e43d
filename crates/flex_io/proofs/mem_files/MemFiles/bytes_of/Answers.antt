use Rattle.std.proofs.Common.{ap, sym, ◌∙◌, arith}
use Rattle.std.proofs.lemmas.Grind.{common_steps}
use Rattle.std.proofs.lemmas.Map.Text.{is_eq-slice_cmp}
use Rattle.std.specs.Ordering.{nat_cmp}
use Rattle.std.specs.Cmp.Lexicographic.{slice_cmp, nat_list_cmp_total}
use Rattle.std.specs.FinMap.{get, find, get-from_entries}
use Rattle.flex_io.proofs.mem_files.MemFiles.bytes_of.Goals as goal

pub loop-file-init : goal.loop-file-init
loop-file-init c =
    ap (λ m. get m.files c.args.path.now) (sym c.self.view_is)
    ∙ get-from_entries nat_list_cmp_total _ _
    ∙ ap (find (slice_cmp nat_cmp) c.args.path.now) (sym c.into_iter-file-iterator.ensures.into_iter_gives.0)

pub returns-then-eq : goal.returns-then-eq
returns-then-eq c = grind (arith, common_steps, is_eq-slice_cmp)

pub loop-file-preserved : goal.loop-file-preserved
loop-file-preserved c = grind (arith, common_steps, is_eq-slice_cmp)

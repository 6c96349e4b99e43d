use Rattle.std.proofs.Common.{◌≡◌, Some, sym, ◌∙◌, ap, inl, inr}
use Rattle.feed_tables.specs.declared.refusal.TableRefusal.{TableRefusal}
use Rattle.feed_tables.specs.declared.refusal.TableRefusal.TheVariants as refusal
use Rattle.flex_model.specs.declared.fault.RawFile.TheVariants.{Bytes}
use Rattle.place_times.proofs.FoundFacts.{absent_file, headless_file}
use Rattle.place_times.proofs.found.read_file.Goals as goal

differ : (r : TableRefusal) → r ≡ refusal.NoMemory → r ≡ refusal.NoHeader → ⊥
differ r a b = let h = sym a ∙ b in cc

pub returns-in-Absent : goal.returns-in-Absent
returns-in-Absent c = absent_file c.args.file c.args.raw.now c.in-Absent.is

pub returns-in-Err-NoHeader : goal.returns-in-Err-NoHeader
returns-in-Err-NoHeader c = elim c.in-Err-NoHeader.ensures.refused [
  | inl lacks ↦ absurd (differ c.in-Err-NoHeader.field-0 lacks c.in-Err-NoHeader.field-0-is)
  | inr refused ↦ headless_file c.args.file c.args.raw.now c.as_slice.result.now (c.in-Bytes.is ∙ ap Bytes (sym c.as_slice.ensures)) (refused ∙ ap Some c.in-Err-NoHeader.field-0-is)
]

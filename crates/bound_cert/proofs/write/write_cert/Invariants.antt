use Rattle.std.proofs.Common.{◌≡◌, ◌++◌, length, take}
use Rattle.std.specs.List.{flat_map}
use Rattle.bound_cert.specs.CertText.{heading_line, part_text, some_asks}
use Rattle.bound_cert.proofs.write.write_cert.Given as goal

abbrev pub invariant-loop-part : goal.invariant-loop-part
invariant-loop-part l =
    l.text ≡ heading_line (some_asks l.parts) (length l.parts) ++ flat_map (part_text l.feed l.times) (take l.part-index l.parts)

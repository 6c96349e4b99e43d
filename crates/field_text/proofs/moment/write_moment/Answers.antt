use Rattle.std.proofs.Common.{IsAscii, sym, subst}
use Rattle.field_text.proofs.TextLemmas.{moment_text-IsAscii}
use Rattle.field_text.proofs.moment.write_moment.Goals as goal

pub ascii_text-requires : goal.ascii_text-requires
ascii_text-requires c = subst IsAscii (sym c.moment_bytes.ensures) (moment_text-IsAscii _)

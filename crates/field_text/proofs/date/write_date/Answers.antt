use Rattle.std.proofs.Common.{IsAscii, sym, subst}
use Rattle.field_text.proofs.TextLemmas.{date_text-IsAscii}
use Rattle.field_text.proofs.date.write_date.Goals as goal

pub ascii_text-requires : goal.ascii_text-requires
ascii_text-requires c = subst IsAscii (sym c.date_bytes.ensures) (date_text-IsAscii _)

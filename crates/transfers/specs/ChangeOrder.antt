-- The order of the rules for changes: by where they begin, and then by where they end. This project's own.
use Rattle.std.specs.Prelude.{ℕ, Bool, nat_le, nat_lt}
use Rattle.std.specs.declared.cmp.Ordering.{Ordering}
use Rattle.std.specs.Ordering.{nat_cmp, ordering_then}
use Rattle.flex_model.specs.declared.change.ChangeRow.{ChangeRow}

-- where a rule stands among those for changing from the one stop to the other
abbrev pub change_cmp : ℕ → ℕ → ChangeRow → Ordering
change_cmp from to row = ordering_then (nat_cmp row.from from) (nat_cmp row.to to)

-- the rule is for changing from an earlier stop than this one
abbrev pub begins_before : ℕ → ChangeRow → Bool
begins_before stop row = nat_lt row.from stop

-- the rule is for changing from this stop or an earlier one
abbrev pub begins_by : ℕ → ChangeRow → Bool
begins_by stop row = nat_le row.from stop

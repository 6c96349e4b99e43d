-- Where direct times begin, among times that rise by where they begin. This project's own.
use Rattle.std.specs.Prelude.{Bool}
use Rattle.std.specs.Ordering.{is_lt, is_le}
use Rattle.flex_model.specs.declared.place.Place.{Place}
use Rattle.flex_model.specs.declared.times.Span.{Span}
use Rattle.flex_model.specs.Place.{place_cmp}

-- the span begins at an earlier place than this one
abbrev pub begins_before : Place → Span → Bool
begins_before place span = is_lt (place_cmp span.from place)

-- the span begins at this place or an earlier one
abbrev pub begins_by : Place → Span → Bool
begins_by place span = is_le (place_cmp span.from place)

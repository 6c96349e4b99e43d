-- Where labels stand, among those in the order of their places. This project's own.
use Rattle.std.specs.Prelude.{Bool}
use Rattle.std.specs.Ordering.{is_le, is_lt}
use Rattle.cert_check.specs.declared.labels.RoundLabel.{RoundLabel}
use Rattle.flex_model.specs.declared.place.Place.{Place}
use Rattle.flex_model.specs.Place.{place_cmp}

-- the label stands at an earlier place than this one
abbrev pub stands_before : Place → RoundLabel → Bool
stands_before place label = is_lt (place_cmp label.label.place place)

-- the label stands at this place or an earlier one
abbrev pub stands_by : Place → RoundLabel → Bool
stands_by place label = is_le (place_cmp label.label.place place)

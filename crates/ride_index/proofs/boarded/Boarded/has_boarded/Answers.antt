-- What the note tells is tested.
use Rattle.std.proofs.Common.{◌≡◌, w64, to_z, of_z, Some, slice_get, sym, ◌∙◌, subst}
use Rattle.std.proofs.lemmas.Int.{to_z-of_z}
use Rattle.std.proofs.lemmas.Option.{same_Some}
use Rattle.ride_index.specs.Boarded.{IsBoardedAt}
use Rattle.ride_index.proofs.boarded.Boarded.has_boarded.Goals as goal

pub returns : goal.returns
returns c =
    let rows = c.args.rows.now in
    let carried = c.args.carried.now in
    let note = c.in-Some.note in
    let point = c.in-Some-point.point in
    let zero : to_z w64 (of_z w64 c.args.zero) ≡ c.args.zero = to_z-of_z w64 c.args.zero c.ranges.zero in (
      λ e. record {
        note = note;
        is_note = sym c.note.ensures ∙ c.in-Some.is;
        point = point;
        is_point = sym c.point.ensures ∙ c.in-Some-point.is;
        boarded_at = subst (λ z. IsBoardedAt rows note.row c.args.row z point carried) zero (c.is_boarded.ensures.0 e);
      },
      λ h.
          let same = same_Some h.note note (sym h.is_note ∙ sym c.note.ensures ∙ c.in-Some.is) in
          let same_point = same_Some h.point point (sym h.is_point ∙ subst (λ n. slice_get c.args.self.now.0 n.point ≡ Some point) (sym same) (sym c.point.ensures ∙ c.in-Some-point.is)) in
          c.is_boarded.ensures.1 (subst (λ z. IsBoardedAt rows note.row c.args.row z point carried) (sym zero)
          (subst (λ p. IsBoardedAt rows note.row c.args.row c.args.zero p carried) same_point
          (subst (λ n. IsBoardedAt rows n.row c.args.row c.args.zero h.point carried) same h.boarded_at))),
    )

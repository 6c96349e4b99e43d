use Rattle.cert_check.proofs.held.is_held_by_label.Goals as goal

pub returns : goal.returns
returns c = (
  λ is.
      let held = c.is_any.ensures.0 is in
      let of = (c.labels_at.ensures held.label).0 held.among in
      record { label = held.label; among = of.0; early = held.early; at_place = of.1; covers = held.covers },
  λ held.
      c.is_any.ensures.1 (record { label = held.label; among = (c.labels_at.ensures held.label).1 (held.among, held.at_place); early = held.early; covers = held.covers }),
)

-- A certificate has no more labels than its text has bytes.
use Rattle.std.proofs.Common.{ℕ, ◌+◌, ◌≤◌, Bool, List, [], ◌∷◌, ◌++◌, length, ap, arith}
use Rattle.std.specs.Prelude.{codes, decimal}
use Rattle.std.specs.List.{flat_map, join_with_byte}
use Rattle.std.proofs.lemmas.List.{length-append}
use Rattle.std.proofs.lemmas.List.Concat.{flat_map-cons}
use Rattle.bound_cert.specs.declared.cert.Cert.{Cert}
use Rattle.bound_cert.specs.declared.cert.CertLabel.{CertLabel}
use Rattle.bound_cert.specs.declared.cert.CertPart.{CertPart}
use Rattle.bound_cert.specs.declared.cert.CertRound.{CertRound}
use Rattle.bound_cert.specs.CertText.{cert_text, heading_line, label_line, part_text, round_count_line, round_text, rounds_text, some_asks}
use Rattle.bound_cert.specs.Syntax.{label_count, labels_in_parts, labels_in_rounds}
use Rattle.field_text.specs.Texts.{moment_text}
use Rattle.flex_model.specs.declared.feed.Feed.{Feed}
use Rattle.flex_model.specs.declared.times.Times.{Times}
use Rattle.query_io.specs.AnswerText.{deadline_text, line, named_answers_text, place_text, word_if}

later_part : (xs ys : List ℕ) (n : ℕ) → n ≤ length ys → n ≤ length (xs ++ ys)
later_part xs ys n low = omega (arith, low, length-append xs ys)

line_length : (words : List (List ℕ)) → 1 ≤ length (line words)
line_length words = omega (arith, length-append (join_with_byte 32 words) (10 ∷ []))

module _ (feed : Feed) (times : Times) where
  labels_length : (walking : Bool) (labels : List CertLabel) → length labels ≤ length (flat_map (label_line feed times walking) labels)
  labels_length walking [] = omega arith
  labels_length walking (l ∷ labels) =
      let rest = labels_length walking labels in
      let whole = ap (λ (z : List ℕ). length z) (flat_map-cons (label_line feed times walking) l labels) in
      let parts = length-append (label_line feed times walking l) (flat_map (label_line feed times walking) labels) in
      let first : 1 ≤ length (label_line feed times walking l) = line_length (codes "label" ∷ place_text feed times l.place ∷ deadline_text l.deadline ∷ moment_text l.arrival ∷ word_if walking (decimal l.walk)) in
      omega (arith, rest, whole, parts, first)

  round_length : (walking : Bool) (k : ℕ) (r : CertRound) → length r.labels ≤ length (round_text feed times walking k r)
  round_length walking k r =
      later_part (line (codes "round" ∷ decimal k ∷ decimal (length r.labels) ∷ [])) (flat_map (label_line feed times walking) r.labels) (length r.labels) (labels_length walking r.labels)

  rounds_length : (walking : Bool) (k : ℕ) (rounds : List CertRound) → labels_in_rounds rounds ≤ length (rounds_text feed times walking k rounds)
  unfolding labels_in_rounds rounds_text
  rounds_length walking k [] = omega arith
  rounds_length walking k (r ∷ rounds) =
      let first = round_length walking k r in
      let rest = rounds_length walking (k + 1) rounds in
      omega (arith, first, rest, length-append (round_text feed times walking k r) (rounds_text feed times walking (k + 1) rounds))

  part_length : (part : CertPart) → labels_in_rounds part.rounds ≤ length (part_text feed times part)
  unfolding part_text
  part_length part =
      let w = part.walking in
      later_part (named_answers_text feed times w part.query part.answers) (round_count_line (length part.rounds) ++ rounds_text feed times w 1 part.rounds) (labels_in_rounds part.rounds)
      (later_part (round_count_line (length part.rounds)) (rounds_text feed times w 1 part.rounds) (labels_in_rounds part.rounds) (rounds_length w 1 part.rounds))

  parts_length : (parts : List CertPart) → labels_in_parts parts ≤ length (flat_map (part_text feed times) parts)
  unfolding labels_in_parts
  parts_length [] = omega arith
  parts_length (p ∷ parts) =
      let first = part_length p in
      let rest = parts_length parts in
      let whole = ap (λ (z : List ℕ). length z) (flat_map-cons (part_text feed times) p parts) in
      omega (arith, first, rest, whole, length-append (part_text feed times p) (flat_map (part_text feed times) parts))

  pub cert_length : (cert : Cert) → label_count cert ≤ length (cert_text feed times cert)
  unfolding cert_text
  cert_length cert =
      later_part (heading_line (some_asks cert.parts) (length cert.parts)) (flat_map (part_text feed times) cert.parts) (label_count cert) (parts_length cert.parts)

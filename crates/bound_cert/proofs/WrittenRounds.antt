-- Rounds that are written one after the other.
use Rattle.std.proofs.Common.{◌≡◌, ℕ, ◌+◌, ◌<◌, Bool, List, [], ◌∷◌, ◌++◌, length, get_or, take, sym, ap, ◌∙◌, append_assoc, append-nil, arith}
use Rattle.std.proofs.lemmas.List.{length-take-le, take_more}
use Rattle.bound_cert.specs.declared.cert.CertRound.{CertRound}
use Rattle.bound_cert.specs.CertText.{round_text, rounds_text}
use Rattle.flex_model.specs.declared.feed.Feed.{Feed}
use Rattle.flex_model.specs.declared.times.Times.{Times}

module _ (feed : Feed) (times : Times) (walking : Bool) where
  abbrev one : ℕ → CertRound → List ℕ
  one = round_text feed times walking

  abbrev all : ℕ → List CertRound → List ℕ
  all = rounds_text feed times walking

  -- one more round
  rounds_push : (k : ℕ) (rounds : List CertRound) (round : CertRound) → all k (rounds ++ round ∷ []) ≡ all k rounds ++ one (k + length rounds) round
  unfolding rounds_text
  rounds_push k [] round = append-nil (one k round) ∙ ap (λ n. one n round) (omega arith)
  rounds_push k (r ∷ rounds) round =
      ap (λ z. one k r ++ z) (rounds_push (k + 1) rounds round)
      ∙ sym (append_assoc (one k r) (all (k + 1) rounds) (one (k + 1 + length rounds) round))
      ∙ ap (λ n. (one k r ++ all (k + 1) rounds) ++ one n round) (omega arith)

  -- no round was written
  pub rounds_none : (rounds : List CertRound) (before : List ℕ) → before ≡ before ++ all 1 (take 0 rounds)
  unfolding rounds_text
  rounds_none rounds before = sym (append-nil before)

  -- one more of these rounds was written
  pub rounds_more : (rounds : List CertRound) (i : ℕ) (round : CertRound) (before text : List ℕ) → i < length rounds → round ≡ get_or rounds i round
      → text ≡ before ++ all 1 (take i rounds) → text ++ one (i + 1) round ≡ before ++ all 1 (take (i + 1) rounds)
  rounds_more rounds i round before text low is so_far =
      let within : length (take i rounds) ≡ i = length-take-le i rounds (omega (arith, low)) in
      ap (λ z. z ++ one (i + 1) round) so_far ∙ append_assoc before (all 1 (take i rounds)) (one (i + 1) round)
      ∙ ap (λ z. before ++ z) (ap (λ n. all 1 (take i rounds) ++ one n round) (omega (arith, within))
      ∙ sym (rounds_push 1 (take i rounds) round)
      ∙ ap (λ x. all 1 (take i rounds ++ x ∷ [])) is ∙ ap (λ z. all 1 z) (sym (take_more rounds i round low)))

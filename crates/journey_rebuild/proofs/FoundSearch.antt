-- What a search gives is a valid part with labels that are found.
use Rattle.std.proofs.Common.{◌≡◌, ℕ, ◌+◌, List, [], Some, All, map, slice_get, sym, ◌∙◌, ap, subst}
use Rattle.std.specs.Borrow.{Bor}
use Rattle.std.proofs.lemmas.Option.{get_or_from_slice_get}
use Rattle.bound_cert.specs.declared.cert.CertPart.{CertPart}
use Rattle.bound_cert.specs.Parts.{IsFoundPart, told_rounds}
use Rattle.flex_model.specs.declared.answer.Answer.{Answer}
use Rattle.flex_model.specs.declared.answer.Triple.{Triple}
use Rattle.flex_model.specs.declared.feed.Feed.{Feed}
use Rattle.flex_model.specs.declared.moment.DayTable.{DayTable}
use Rattle.flex_model.specs.declared.query.Query.{Query}
use Rattle.flex_model.specs.declared.times.Times.{Times}
use Rattle.flex_model.specs.Answer.{IsExactAnswer, triples}
use Rattle.flex_model.specs.Certificate.{IsValidCertificate}
use Rattle.flex_model.specs.Journey.{IsLabelPlace}
use Rattle.flex_model.specs.LabelTable.{AreFound, IsAttained, IsClosed, Label}
use Rattle.flex_model.specs.Triple.{Covers, IsTripleBefore}
use Rattle.flex_model.proofs.Found.{All-at, All-from_contains, Contains-at, found_in_map, index_of}
use Rattle.flex_model.proofs.Orders.{before_irreflexive}
use Rattle.flex_model.proofs.RisingLists.{one_index}
use Rattle.round_engine.specs.declared.label.Final.{Final}
use Rattle.round_engine.specs.Attained.{IsSoundTask}
use Rattle.round_engine.specs.Bags.{Entry, round_at}
use Rattle.round_engine.specs.Flat.{labels_in}
use Rattle.round_engine.specs.Table.{IsSearchTable}
use Rattle.round_engine.proofs.Flats.{map_length}
use Rattle.journey_rebuild.specs.Answers.{answer_of}
use Rattle.journey_rebuild.specs.Rounds.{AreBagsOf}
use Rattle.journey_rebuild.proofs.Orders.{found}
use Rattle.journey_rebuild.proofs.SearchAnswers.{exact_of, same_triples}

-- no triple of an exact answer covers another
apart : (feed : Feed) (times : Times) (days : DayTable) (query : Query) (answers : List Answer) → IsExactAnswer feed times days query answers
    → (i j : ℕ) (a b : Triple) → slice_get (triples answers) i ≡ Some a → slice_get (triples answers) j ≡ Some b → Covers a b → i ≡ j
apart feed times days query answers exact i j a b e f covers =
    let first = exact.best a (Contains-at (triples answers) i a e) in
    let same : a ≡ b = (exact.best b (Contains-at (triples answers) j b f)).best first.rides a first.attained covers in
    one_index IsTripleBefore before_irreflexive (triples answers) i j b exact.rising (subst (λ t. slice_get (triples answers) i ≡ Some t) same e) f

module _ (feed : Bor Feed) (times : Bor Times) (days : Bor DayTable) (query : Bor Query) (rounds : List (List (List Entry))) (finals : List Final) where
  module _ (sound : IsSoundTask (record { feed = feed; times = times; days = days; query = query })) (table : IsSearchTable (record { feed = feed; times = times; days = days; query = query }) rounds finals) (are_bags : (r : ℕ) → AreBagsOf (round_at rounds r)) where
    round_found : (k : ℕ) (labels : List Label) → slice_get (map labels_in rounds) k ≡ Some labels
        → AreFound feed.now times.now days.now query.now (k + 1) labels
    round_found k labels e =
        let of = found_in_map labels_in rounds k labels e in
        let at = get_or_from_slice_get rounds k of.0 [] of.1 in
        subst (AreFound feed.now times.now days.now query.now (k + 1)) (ap labels_in at ∙ of.2)
        (found feed times days query sound (k + 1) (round_at rounds k) (λ i entry c. table.labels k i entry c) (are_bags k))

    places : All (λ labels. All (λ label. IsLabelPlace feed.now query.now label.place) labels) (map labels_in rounds)
    places = All-from_contains (λ labels. All (λ label. IsLabelPlace feed.now query.now label.place) labels) (map labels_in rounds) (λ labels c.
        All-from_contains (λ label. IsLabelPlace feed.now query.now label.place) labels (λ label d.
        let round = index_of (map labels_in rounds) labels c in
        let at = index_of labels label d in
        let attained = (round_found round.0 labels round.1).attained in
        let reaches = (All-at (IsAttained feed.now times.now days.now query.now (round.0 + 1)) labels at.0 label attained at.1).2 in
        subst (IsLabelPlace feed.now query.now) reaches.at_place reaches.journey.place))

    pub certificate : IsValidCertificate feed.now times.now days.now query.now (map answer_of finals) (map labels_in rounds)
    certificate =
        let exact = exact_of feed times days query rounds finals table in
        record {
          round_count = map_length rounds ∙ table.round_count;
          attained = exact.attained;
          rising = exact.rising;
          apart = apart feed.now times.now days.now query.now (map answer_of finals) exact;
          places = places;
          closed = subst (λ these. IsClosed feed.now times.now days.now query.now these (map labels_in rounds)) (same_triples finals) table.closed;
        }

    pub found_part : (part : CertPart) → part.query ≡ query.now.id → part.walking ≡ query.now.walking → part.answers ≡ map answer_of finals
        → told_rounds part ≡ map labels_in rounds → IsFoundPart feed.now times.now days.now query.now part
    found_part part id walking answers told = record {
      valid = record {
        id = id;
        walking = walking;
        certificate = subst (IsValidCertificate feed.now times.now days.now query.now part.answers) (sym told)
            (subst (λ these. IsValidCertificate feed.now times.now days.now query.now these (map labels_in rounds)) (sym answers) certificate);
      };
      found = λ k labels e. round_found k labels (subst (λ these. slice_get these k ≡ Some labels) told e);
    }

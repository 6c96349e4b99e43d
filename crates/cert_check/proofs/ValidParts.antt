-- A part is valid just where it passes each test, and a reason that is true of it is a test that it fails.
use Rattle.std.proofs.Common.{◌≡◌, ℕ, zero, suc, ◌+◌, ◌-◌, ◌<◌, ◌≤◌, pos, ◌+ℤ◌, ◌≤ℤ◌, List, Some, All, AllPairs, Contains, get_or, length, map, slice_get, option_map, refl, sym, ◌∙◌, ap, subst, arith}
use Rattle.std.proofs.lemmas.List.{length-map}
use Rattle.std.proofs.lemmas.Option.{slice_get-get_or, slice_get-map}
use Rattle.bound_cert.specs.declared.cert.CertPart.{CertPart}
use Rattle.cert_check.specs.declared.labels.RoundLabel.{RoundLabel}
use Rattle.cert_check.specs.declared.reason.Reason.{Reason}
use Rattle.cert_check.specs.declared.reason.Reason.TheVariants.{Query, Rounds, Journey, TripleDiffers, NotOrdered, Beaten, LabelPlace, FinalUncovered, Uncovered}
use Rattle.flex_model.specs.declared.answer.Answer.{Answer}
use Rattle.flex_model.specs.declared.answer.Triple.{Triple}
use Rattle.flex_model.specs.declared.feed.Feed.{Feed}
use Rattle.flex_model.specs.declared.moment.DayTable.{DayTable}
use Rattle.flex_model.specs.declared.query.Query as query
use Rattle.flex_model.specs.declared.times.Times.{Times}
use Rattle.flex_model.specs.Answer.{triples}
use Rattle.flex_model.specs.Change.{HasEgress}
use Rattle.flex_model.specs.Journey.{Attains, IsLabelPlace, limit}
use Rattle.flex_model.specs.LabelTable.{IsHeld, IsInRound, Label, LeadsTo, next_pair, triple_of}
use Rattle.flex_model.specs.Triple.{Covers, IsTripleBefore}
use Rattle.flex_model.proofs.Flaws.{journeys_flawed}
use Rattle.flex_model.proofs.Found.{All-at, All-from_contains, AllPairs-at, Contains-at, found_in_map, index_of}
use Rattle.flex_model.proofs.Orders.{IsTripleBefore_trans}
use Rattle.bound_cert.specs.Parts.{IsValidPart, told_label, told_rounds}
use Rattle.cert_check.specs.Labels.{labels_of}
use Rattle.cert_check.specs.Laws.{ReasonsAreFailedTests, ValidPartsPass}
use Rattle.cert_check.specs.Numbers.{IsNumber}
use Rattle.cert_check.specs.Reasons.{Applies, Passes}
use Rattle.cert_check.proofs.LabelTables.{in_table, listed}

-- ---- lists in which each item comes before the next one

module _ {A : Type 0} (R : A → A → Type 0) (trans : (x y z : A) → R x y → R y z → R x z) (xs : List A)
    (next : (k : ℕ) (x y : A) → slice_get xs k ≡ Some x → slice_get xs (suc k) ≡ Some y → R x y) where
  far : (i m : ℕ) (d : A) → i + suc m < length xs → R (get_or xs i d) (get_or xs (i + suc m) d)
  far i zero d low =
      let e : i + 1 ≡ suc i = omega arith in
      subst (λ k. R (get_or xs i d) (get_or xs k d)) (sym e)
      (next i (get_or xs i d) (get_or xs (suc i) d) (slice_get-get_or xs i d (omega arith)) (slice_get-get_or xs (suc i) d (omega arith)))
  far i (suc m) d low =
      let e : i + suc (suc m) ≡ suc (i + suc m) = omega arith in
      subst (λ k. R (get_or xs i d) (get_or xs k d)) (sym e)
      (trans (get_or xs i d) (get_or xs (i + suc m) d) (get_or xs (suc (i + suc m)) d) (far i m d (omega arith))
      (next (i + suc m) (get_or xs (i + suc m) d) (get_or xs (suc (i + suc m)) d) (slice_get-get_or xs (i + suc m) d (omega arith)) (slice_get-get_or xs (suc (i + suc m)) d (omega arith))))

  all_rise : AllPairs R xs
  all_rise i j d lt low =
      let e : i + suc (j - i - 1) ≡ j = omega arith in
      subst (λ k. R (get_or xs i d) (get_or xs k d)) e (far i (j - i - 1) d (omega arith))

module _ (feed : Feed) (times : Times) (days : DayTable) (query : query.Query) (part : CertPart) where
  abbrev Passed : Reason → Type 0
  Passed = Passes feed times days query part

  -- ---- from the tests to the part

  module _ (passes : (reason : Reason) → Passed reason) where
    attained : All (λ answer. Attains feed times days query answer.rides answer.triple) part.answers
    attained k d lt = passes (TripleDiffers (suc k) d.triple d.triple) (get_or part.answers k d) (slice_get-get_or part.answers k d lt)

    rising : AllPairs IsTripleBefore (triples part.answers)
    rising = all_rise IsTripleBefore IsTripleBefore_trans (triples part.answers) (λ k x y at after.
        let a = found_in_map (λ answer. answer.triple) part.answers k x at in
        let b = found_in_map (λ answer. answer.triple) part.answers (suc k) y after in
        let e : suc (suc k) ≡ suc k + 1 = omega arith in
        let before : IsTripleBefore a.0.triple b.0.triple = passes (NotOrdered (suc k)) a.0 a.1 b.0 (subst (λ n. IsNumber part.answers n b.0) e b.1) in
        subst (λ t. IsTripleBefore t y) a.2 (subst (IsTripleBefore a.0.triple) b.2 before))

    apart : (i j : ℕ) (a b : Triple) → slice_get (triples part.answers) i ≡ Some a → slice_get (triples part.answers) j ≡ Some b → Covers a b → i ≡ j
    apart i j a b at after covers =
        let x = found_in_map (λ answer. answer.triple) part.answers i a at in
        let y = found_in_map (λ answer. answer.triple) part.answers j b after in
        let same : suc i ≡ suc j = passes (Beaten (suc j) (suc i)) y.0 x.0 y.1 x.1
        (subst (λ t. Covers x.0.triple t) (sym y.2) (subst (λ t. Covers t b) (sym x.2) covers)) in
        omega arith

    places : All (λ labels. All (λ label. IsLabelPlace feed query label.place) labels) (told_rounds part)
    places = All-from_contains (λ labels. All (λ label. IsLabelPlace feed query label.place) labels) (told_rounds part) (λ labels c.
        All-from_contains (λ label. IsLabelPlace feed query label.place) labels (λ label d.
        let at = index_of (told_rounds part) labels c in
        let its = listed part (suc at.0) label (labels, at.1, d) in
        subst (λ (l : Label). IsLabelPlace feed query l.place) its.same (passes (LabelPlace (suc its.number)) its.its its.at_number)))

    valid : IsValidPart feed times days query part
    valid = record {
      id = (passes Query).0;
      walking = (passes Query).1;
      certificate = record {
        round_count = length-map part.rounds (λ round. map told_label round.labels) ∙ passes Rounds;
        attained = attained;
        rising = rising;
        apart = apart;
        places = places;
        closed = record {
          first = λ ride deadline walk way starts. passes (Uncovered 0 ride) deadline walk way starts;
          next = λ k label ride deadline walk is few way leads.
              let its = listed part k label is in
              let few' : its.its.round ≤ query.transfers = (let e = its.round in omega arith) in
              let leads' : LeadsTo feed query (told_label its.its.label) ride walk = subst (λ l. LeadsTo feed query l ride walk) (sym its.same) leads in
              subst (λ l. IsHeld (triples part.answers) (told_rounds part) ride.alight (next_pair l ride deadline walk) (k + 1)) its.same
              (subst (λ n. IsHeld (triples part.answers) (told_rounds part) ride.alight (next_pair (told_label its.its.label) ride deadline walk) (n + 1)) its.round
              (passes (Uncovered (suc its.number) ride) its.its its.at_number deadline walk few' way leads'));
          last = λ k label seconds is egress le.
              let its = listed part k label is in
              subst (λ n. (triple : Triple) × Contains (triples part.answers) triple × Covers triple (triple_of query label seconds n)) its.round
              (subst (λ l. (triple : Triple) × Contains (triples part.answers) triple × Covers triple (triple_of query l seconds its.its.round)) its.same
              (passes (FinalUncovered (suc its.number)) its.its its.at_number seconds
              (subst (λ (l : Label). HasEgress times query l.place seconds) (sym its.same) egress)
              (subst (λ (l : Label). (l.arrival +ℤ pos seconds) ≤ℤ limit query) (sym its.same) le)));
        };
      };
    }

  -- ---- from the part to the tests

  module _ (part_valid : IsValidPart feed times days query part) where
    its_answer : (n : ℕ) (answer : Answer) → IsNumber part.answers n answer → Attains feed times days query answer.rides answer.triple
    its_answer zero answer is = absurd is
    its_answer (suc n) answer is = All-at (λ a. Attains feed times days query a.rides a.triple) part.answers n answer part_valid.certificate.attained is

    triple_at : (n : ℕ) (answer : Answer) → slice_get part.answers n ≡ Some answer → slice_get (triples part.answers) n ≡ Some answer.triple
    triple_at n answer is = slice_get-map (λ a. a.triple) part.answers n ∙ ap (option_map (λ a. a.triple)) is

    in_order : (n : ℕ) (answer next : Answer) → IsNumber part.answers n answer → IsNumber part.answers (n + 1) next → IsTripleBefore answer.triple next.triple
    in_order zero answer next is after = absurd is
    in_order (suc n) answer next is after =
        let e : suc n + 1 ≡ suc (suc n) = omega arith in
        AllPairs-at IsTripleBefore (triples part.answers) n (suc n) answer.triple next.triple part_valid.certificate.rising (omega arith)
        (triple_at n answer is) (triple_at (suc n) next (subst (λ m. IsNumber part.answers m next) e after))

    unbeaten : (n m : ℕ) (answer other : Answer) → IsNumber part.answers n answer → IsNumber part.answers m other → Covers other.triple answer.triple → m ≡ n
    unbeaten zero m answer other is its covers = absurd is
    unbeaten (suc n) zero answer other is its covers = absurd its
    unbeaten (suc n) (suc m) answer other is its covers =
        ap suc (part_valid.certificate.apart m n other.triple answer.triple (triple_at m other its) (triple_at n answer is) covers)

    its_round : (n : ℕ) (label : RoundLabel) → IsNumber (labels_of part) n label → IsInRound (told_rounds part) label.round (told_label label.label)
    its_round zero label is = absurd is
    its_round (suc n) label is = in_table part label (Contains-at (labels_of part) n label is)

    its_place : (n : ℕ) (label : RoundLabel) → IsNumber (labels_of part) n label → (k : ℕ) → label.round ≡ k → IsInRound (told_rounds part) k (told_label label.label)
        → IsLabelPlace feed query label.label.place
    its_place n label is zero e in_k = absurd in_k
    its_place n label is (suc k) e in_k =
        let labels = All-at (λ ls. All (λ l. IsLabelPlace feed query l.place) ls) (told_rounds part) k in_k.0 part_valid.certificate.places in_k.1 in
        let at = index_of in_k.0 (told_label label.label) in_k.2 in
        All-at (λ (l : Label). IsLabelPlace feed query l.place) in_k.0 at.0 (told_label label.label) labels at.1

    passed : (reason : Reason) → Passed reason
    passed Query = (part_valid.id, part_valid.walking)
    passed Rounds = sym (length-map part.rounds (λ round. map told_label round.labels)) ∙ part_valid.certificate.round_count
    passed (Journey n flaw) = λ answer is. (its_answer n answer is).journey
    passed (TripleDiffers n told real) = λ answer is. its_answer n answer is
    passed (NotOrdered n) = λ answer is next after. in_order n answer next is after
    passed (Beaten n m) = λ answer other is its covers. unbeaten n m answer other is its covers
    passed (LabelPlace n) = λ label is. its_place n label is label.round refl (its_round n label is)
    passed (FinalUncovered n) = λ label is seconds egress le.
        part_valid.certificate.closed.last label.round (told_label label.label) seconds (its_round n label is) egress le
    passed (Uncovered zero ride) = λ deadline walk way starts. part_valid.certificate.closed.first ride deadline walk way starts
    passed (Uncovered (suc n) ride) = λ label is deadline walk few way leads.
        part_valid.certificate.closed.next label.round (told_label label.label) ride deadline walk (its_round (suc n) label is) few way leads

  -- ---- reasons

  failed : (reason : Reason) → Applies feed times days query part reason → Passed reason → ⊥
  failed Query is p = is p.0 p.1
  failed Rounds is p = is p
  failed (Journey n flaw) is p = journeys_flawed feed times days query is.0.rides flaw is.2 (p is.0 is.1)
  failed (TripleDiffers n told real) is p =
      is.4 (subst (Attains feed times days query is.0.rides) is.2 (p is.0 is.1))
  failed (NotOrdered n) is p = is.4 (p is.0 is.2 is.1 is.3)
  failed (Beaten n m) is p = is.5 (p is.0 is.1 is.2 is.3 is.4)
  failed (LabelPlace n) is p = is.2 (p is.0 is.1)
  failed (FinalUncovered n) is p = (let covered = p is.0 is.2 is.1 is.3 is.4 in is.5 covered.0 covered.1 covered.2)
  failed (Uncovered zero ride) is p = is.4 (p is.0 is.1 is.2 is.3)
  failed (Uncovered (suc n) ride) is p = (let u = is.2 in u.5 (p is.0 is.1 u.0 u.1 u.2 u.3 u.4))

pub valid_parts_pass : ValidPartsPass
valid_parts_pass feed times days query part = (λ v. passed feed times days query part v, λ p. valid feed times days query part p)

pub reasons_fail : ReasonsAreFailedTests
reasons_fail feed times days query part reason is p = failed feed times days query part reason is p

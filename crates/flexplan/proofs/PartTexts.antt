-- Every query of a sound feed has a right part of a certificate, and so a whole printout has a right text.
use Rattle.std.proofs.Common.{◌≡◌, ℕ, ℤ, List, [], ◌∷◌, ◌++◌, Some, length, map, slice_get, refl, sym, ap, subst, ◌∙◌}
use Rattle.bound_cert.specs.CertText.{heading_line, part_text}
use Rattle.bound_cert.specs.Parts.{told_label}
use Rattle.bound_cert.specs.declared.cert.CertLabel.{CertLabel}
use Rattle.bound_cert.specs.declared.cert.CertPart.{CertPart}
use Rattle.bound_cert.specs.declared.cert.CertRound.{CertRound}
use Rattle.flex_model.specs.declared.feed.Feed.{Feed}
use Rattle.flex_model.specs.declared.query.Query.{Query}
use Rattle.flex_model.specs.declared.times.Times.{Times}
use Rattle.flex_model.specs.Certificate.{IsValidCertificate}
use Rattle.flex_model.specs.LabelTable.{Label}
use Rattle.flex_model.specs.SoundFeed.{IsSoundFeed}
use Rattle.flex_model.proofs.ExactAnswers.{exact_answer}
use Rattle.flex_model.proofs.ValidCertificates.{valid_certificate}
use Rattle.query_io.specs.AnswerText.{answer_text}
use Rattle.service_days.specs.Bases.{table_of}
use Rattle.flexplan.specs.Answers.{IsAnswerText, RightText, answer, part, pieces_of}
use Rattle.flexplan.specs.Certified.{IsPartText, some_asks}
use Rattle.flexplan.specs.Texts.{Texts}
use Rattle.flexplan.specs.declared.printout.Printout.{Printout}
use Rattle.flexplan.specs.declared.printout.Printout.TheVariants.{Answers, Parts}
use Rattle.flexplan.proofs.Texts.{all_texts, texts-map}

abbrev cert_label : Label → CertLabel
cert_label label = record {
  place = label.place;
  deadline = label.deadline;
  arrival = label.arrival;
  walk = label.walk;
}

abbrev cert_round : List Label → CertRound
cert_round labels = record { labels = map cert_label labels }

labels_back : (labels : List Label) → map told_label (map cert_label labels) ≡ labels
labels_back [] = refl
labels_back (label ∷ labels) = ap (λ these. label ∷ these) (labels_back labels)

rounds_back : (rounds : List (List Label)) → map (λ (round : CertRound). map told_label round.labels) (map cert_round rounds) ≡ rounds
rounds_back [] = refl
rounds_back (labels ∷ rounds) =
    ap (λ these. these ∷ map (λ (round : CertRound). map told_label round.labels) (map cert_round rounds)) (labels_back labels)
    ∙ ap (λ these. labels ∷ these) (rounds_back rounds)

-- every query has an exact answer, and so a right text
some_answer : (feed : Feed) (times : Times) (bases : List ℤ) (query : Query) → (text : List ℕ) × IsAnswerText feed times bases query text
some_answer feed times bases query =
    let exact = exact_answer feed times (table_of bases query.depart) query in
    (answer_text feed times query exact.0, (exact.0, exact.1, refl))

some_part : (feed : Feed) (times : Times) (bases : List ℤ) → IsSoundFeed feed → (query : Query) → (text : List ℕ) × IsPartText feed times bases query text
some_part feed times bases sound query =
    let days = table_of bases query.depart in
    let its = valid_certificate feed times days query sound in
    let found : CertPart = record {
      query = query.id;
      walking = query.walking;
      answers = its.0;
      rounds = map cert_round its.1;
    } in
    let back = rounds_back its.1 in (
      part_text feed times found,
      (
        found,
        record {
          valid = record {
            id = refl;
            walking = refl;
            certificate = subst (IsValidCertificate feed times days query its.0) (sym back) its.2;
          };
          found = λ k labels at. its.3 k labels (subst (λ these. slice_get these k ≡ Some labels) back at);
        },
        refl,
      ),
    )

-- a whole printout has a right text
pub some_printout : (printout : Printout) (feed : Feed) (times : Times) (bases : List ℤ) (queries : List Query) → IsSoundFeed feed
    → (text : List ℕ) × Texts RightText (pieces_of printout feed times bases queries) text
some_printout Answers feed times bases queries sound =
    let all = all_texts (IsAnswerText feed times bases) (some_answer feed times bases) queries in
    (all.0, texts-map (answer feed times bases) RightText queries all.0 all.1)
some_printout Parts feed times bases queries sound =
    let all = all_texts (IsPartText feed times bases) (some_part feed times bases sound) queries in
    let first = heading_line (some_asks queries) (length queries) in
    (first ++ all.0, (first, all.0, refl, texts-map (part feed times bases) RightText queries all.0 all.1, refl))

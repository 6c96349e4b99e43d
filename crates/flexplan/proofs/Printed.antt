-- What a printout printed: right texts of its pieces, and a whole certificate.
use Rattle.std.proofs.Common.{◌≡◌, ◌^◌, ◌<◌, ℕ, zero, suc, ℤ, ◌||◌, List, [], ◌∷◌, ◌++◌, Some, All, Result, Ok, Err, length, map, slice_get, refl, sym, ap, subst, ◌∙◌, arith}
use Rattle.std.specs.List.{flat_map}
use Rattle.std.proofs.lemmas.List.{append-nil}
use Rattle.std.proofs.lemmas.List.Elements.{All-cons, All-nil}
use Rattle.std.proofs.lemmas.Option.{slice_get_within}
use Rattle.bound_cert.specs.CertText as Lines
use Rattle.bound_cert.specs.CertText.{cert_text, heading_line, part_text}
use Rattle.bound_cert.specs.HeldCert.{IsHeldPart}
use Rattle.bound_cert.specs.PrintableCert.{IsPrintablePart}
use Rattle.bound_cert.specs.declared.cert.Cert.{Cert}
use Rattle.bound_cert.specs.declared.cert.CertPart.{CertPart}
use Rattle.flex_io.specs.declared.error.PutError.{PutError}
use Rattle.flex_model.specs.declared.feed.Feed.{Feed}
use Rattle.flex_model.specs.declared.query.Query.{Query}
use Rattle.flex_model.specs.declared.times.Times.{Times}
use Rattle.flex_model.proofs.Found.{slice_get_unique}
use Rattle.flexplan.specs.Answers.{IsPrinted, IsQueryText, RightText, front_of, heading, piece_of, pieces_of}
use Rattle.flexplan.specs.Certified.{AreForQueries, IsCertificateText, IsFoundFor, IsWrittenPartText, some_asks}
use Rattle.flexplan.specs.Texts.{PrintsAll, Texts}
use Rattle.flexplan.specs.declared.printout.Printout.{Printout}
use Rattle.flexplan.specs.declared.printout.Printout.TheVariants.{Answers, Parts}
use Rattle.flexplan.proofs.Texts.{print_after, print_stopped, prints-map, prints_weaker}

abbrev no_queries : List Query
no_queries = []

none_at : (k : ℕ) (query : Query) → slice_get no_queries k ≡ Some query → ⊥
none_at k query at = (let within = slice_get_within no_queries k query at in absurd (omega (arith, within)))

not_parts : Answers ≡ Parts → ⊥
not_parts is = cc

abbrev failed : PutError → Result (Unit {0}) PutError
failed e = Err e

not_ok : (e : PutError) → failed e ≡ Ok tt → ⊥
not_ok e is = cc

each_more : (Fits : Query → CertPart → Type 0) (query : Query) (part : CertPart) (queries : List Query) (parts : List CertPart) → Fits query part
    → AreForQueries Fits queries parts → (k : ℕ) (q : Query) (p : CertPart) → slice_get (query ∷ queries) k ≡ Some q → slice_get (part ∷ parts) k ≡ Some p → Fits q p
each_more Fits query part queries parts fits are zero q p e f =
    let same : query ≡ q = slice_get_unique (query ∷ queries) zero query q refl e in
    let also : part ≡ p = slice_get_unique (part ∷ parts) zero part p refl f in
    subst (Fits q) also (subst (λ it. Fits it part) same fits)
each_more Fits query part queries parts fits are (suc k) q p e f = are.each k q p e f

-- one query and its part more
for_more : (Fits : Query → CertPart → Type 0) (query : Query) (part : CertPart) (queries : List Query) (parts : List CertPart) → Fits query part
    → AreForQueries Fits queries parts → AreForQueries Fits (query ∷ queries) (part ∷ parts)
for_more Fits query part queries parts fits are = record {
  count = ap suc are.count;
  each = each_more Fits query part queries parts fits are;
}

module _ (feed : Feed) (times : Times) (bases : List ℤ) where
  -- the parts that were printed for the queries
  pub record ArePrintedParts (queries : List Query) (text : List ℕ) : Type 0 where
    pub parts : List CertPart
    pub fits : AreForQueries (IsFoundFor feed times bases) queries parts
    pub printable : All (IsPrintablePart feed times) parts
    pub held : All IsHeldPart parts
    pub walking : Lines.some_asks parts ≡ some_asks queries
    pub told : text ≡ flat_map (part_text feed times) parts

  printed_parts : (queries : List Query) (text : List ℕ) → Texts (IsWrittenPartText feed times bases) queries text → ArePrintedParts queries text
  printed_parts [] text none = record {
    parts = [];
    fits = record { count = refl; each = λ k q p e f. absurd (none_at k q e) };
    printable = All-nil (IsPrintablePart feed times);
    held = All-nil IsHeldPart;
    walking = refl;
    told = none;
  }
  printed_parts (query ∷ queries) text texts =
      let later = printed_parts queries texts.1 texts.3 in
      let first = texts.2 in
      let its : CertPart = first.0 in
      record {
        parts = its ∷ later.parts;
        fits = for_more (IsFoundFor feed times bases) query its queries later.parts first.1 later.fits;
        printable = All-cons (IsPrintablePart feed times) its later.parts first.2 later.printable;
        held = All-cons IsHeldPart its later.parts first.3 later.held;
        walking = ap (λ b. b || Lines.some_asks later.parts) first.1.valid.walking ∙ ap (λ b. query.walking || b) later.walking;
        told = texts.4 ∙ ap (λ (l : List ℕ). l ++ texts.1) first.4 ∙ ap (λ (l : List ℕ). part_text feed times its ++ l) later.told;
      }

  -- a first line and a part for each query are a certificate
  certificate : (queries : List Query) (first rest : List ℕ) → length queries < 2 ^ 64 → first ≡ heading_line (some_asks queries) (length queries)
      → Texts (IsWrittenPartText feed times bases) queries rest → IsCertificateText feed times bases queries (first ++ rest)
  unfolding cert_text
  certificate queries first rest few first_is texts =
      let its = printed_parts queries rest texts in
      let cert : Cert = record { parts = its.parts } in
      let same : heading_line (some_asks queries) (length queries) ≡ heading_line (Lines.some_asks its.parts) (length its.parts) =
      ap (λ b. heading_line b (length queries)) (sym its.walking) ∙ ap (heading_line (Lines.some_asks its.parts)) (sym its.fits.count) in (
        cert,
        record {
          printable = record { count = subst (λ n. n < 2 ^ 64) (sym its.fits.count) few; parts = its.printable };
          held = its.held;
        },
        its.fits,
        ap (λ (l : List ℕ). l ++ rest) (first_is ∙ same) ∙ ap (λ (l : List ℕ). heading_line (Lines.some_asks its.parts) (length its.parts) ++ l) its.told,
      )

  right_query : (printout : Printout) (query : Query) (text : List ℕ) → IsQueryText printout feed times bases query text → RightText (piece_of printout feed times bases query) text
  right_query Answers query text is = is
  right_query Parts query text is = (is.0, is.1, is.4)

  heading_told : (queries : List Query) (first : List ℕ) → Texts RightText (heading queries ∷ []) first → first ≡ heading_line (some_asks queries) (length queries)
  heading_told queries first texts =
      texts.4 ∙ ap (λ (l : List ℕ). texts.0 ++ l) texts.3 ∙ append-nil texts.0 ∙ texts.2

  whole : (printout : Printout) (queries : List Query) (r : Result (Unit {0}) PutError) (first rest : List ℕ) → (printout ≡ Parts → length queries < 2 ^ 64)
      → Texts RightText (front_of printout queries) first → PrintsAll (IsQueryText printout feed times bases) queries r rest → printout ≡ Parts → r ≡ Ok tt
      → IsCertificateText feed times bases queries (first ++ rest)
  whole Answers queries r first rest few front texts is ok = absurd (not_parts is)
  whole Parts queries (Err e) first rest few front texts is ok = absurd (not_ok e ok)
  whole Parts queries (Ok u) first rest few front texts is ok =
      certificate queries first rest (few refl) (heading_told queries first front) texts

  -- the front and the queries were printed, or a print of the queries failed
  pub printed_after : (printout : Printout) (queries : List Query) (one r : Result (Unit {0}) PutError) (u : Unit {0}) (first rest : List ℕ)
      → (printout ≡ Parts → length queries < 2 ^ 64) → one ≡ Ok u → PrintsAll RightText (front_of printout queries) one first
      → PrintsAll (IsQueryText printout feed times bases) queries r rest → IsPrinted printout feed times bases queries r (first ++ rest)
  printed_after printout queries one r u first rest few one_is front texts =
      let fronts : Texts RightText (front_of printout queries) first = subst (λ o. PrintsAll RightText (front_of printout queries) o first) one_is front in
      record {
        pieces = print_after RightText (front_of printout queries) (map (piece_of printout feed times bases) queries) r first rest fronts
            (prints-map (piece_of printout feed times bases) RightText queries r rest
            (prints_weaker (IsQueryText printout feed times bases) (λ query. RightText (piece_of printout feed times bases query)) (right_query printout) queries r rest texts));
        certificate = whole printout queries r first rest few fronts texts;
      }

  -- the print of the front failed
  pub printed_not : (printout : Printout) (queries : List Query) (one all : Result (Unit {0}) PutError) (e : PutError) (bytes : List ℕ)
      → one ≡ Err e → all ≡ Err e → PrintsAll RightText (front_of printout queries) one bytes → IsPrinted printout feed times bases queries all bytes
  printed_not printout queries one all e bytes one_is all_is front =
      let stopped = subst (λ o. PrintsAll RightText (front_of printout queries) o bytes) one_is front in
      record {
        pieces = subst (λ r. PrintsAll RightText (pieces_of printout feed times bases queries) r bytes) (sym all_is)
            (print_stopped RightText (front_of printout queries) (map (piece_of printout feed times bases) queries) e bytes stopped);
        certificate = λ is ok. absurd (not_ok e (sym all_is ∙ ok));
      }

-- The queries of a file are those of its pieces, in order.
use Rattle.std.proofs.Common.{◌≡◌, ℕ, ◌+◌, ℤ, List, [], ◌∷◌, ◌++◌, map, Ok, refl, sym, ap, subst, ◌∙◌}
use Rattle.std.proofs.lemmas.List.{map-append}
use Rattle.flex_io.specs.Outside.{FileMap}
use Rattle.flex_model.specs.declared.feed.Feed.{Feed}
use Rattle.flex_model.specs.declared.query.Query.{Query}
use Rattle.flex_model.specs.declared.times.Times.{Times}
use Rattle.feed_meaning.specs.FeedFaults.{Geo}
use Rattle.feed_meaning.specs.FeedValue.{feed_of}
use Rattle.feed_meaning.specs.Tables.{Entry, entries_of, entry_of, values_of}
use Rattle.feed_meaning.specs.TimesValue.{query_of, times_of}
use Rattle.feed_meaning.specs.Told.{told_folder}
use Rattle.feed_tables.specs.Records.{numbered_from, table_records}
use Rattle.feed_meaning.specs.Folder.{bytes_of}
use Rattle.flexplan.specs.Answers.{Piece, RightText, answer}
use Rattle.flexplan.specs.Input.{feed, query_file, times}
use Rattle.flexplan.specs.Pieces.{AnswersComeInPieces}
use Rattle.flexplan.specs.Reply.{answers_of}
use Rattle.flexplan.specs.Texts.{Texts}
use Rattle.flexplan.specs.Words.{InputPaths}
use Rattle.flexplan.proofs.Texts.{print_after}

module _ (its : Feed) (own : Times) where
  abbrev queries_in : List (List (List ℕ)) → List Query
  queries_in records = map (λ (e : Entry). query_of its own e.values) (entries_of records)

  abbrev query_at : List (List ℕ) → List (List ℕ) → Query
  query_at header fields = query_of its own (values_of header fields)

  -- row numbers don't count
  numbered : (header : List (List ℕ)) (n : ℕ) (rows : List (List (List ℕ)))
      → map (λ (e : Entry). query_of its own e.values) (map (entry_of header) (numbered_from n rows)) ≡ map (query_at header) rows
  unfolding numbered_from
  numbered header n [] = refl
  numbered header n (fields ∷ rows) = ap (λ qs. query_at header fields ∷ qs) (numbered header (n + 1) rows)

  in_order : (header : List (List ℕ)) (early later : List (List (List ℕ)))
      → queries_in (header ∷ (early ++ later)) ≡ queries_in (header ∷ early) ++ queries_in (header ∷ later)
  in_order header early later =
      numbered header 2 (early ++ later) ∙ map-append (query_at header) early later
      ∙ ap (λ qs. qs ++ map (query_at header) later) (sym (numbered header 2 early))
      ∙ ap (λ qs. queries_in (header ∷ early) ++ qs) (sym (numbered header 2 later))

module _ (bases : List ℤ) (its : Feed) (own : Times) where
  abbrev answers_in : List (List (List ℕ)) → List Piece
  answers_in records = map (answer its own bases) (queries_in its own records)

  joined : (header : List (List ℕ)) (early later : List (List (List ℕ)))
      → answers_in (header ∷ (early ++ later)) ≡ answers_in (header ∷ early) ++ answers_in (header ∷ later)
  joined header early later =
      ap (map (answer its own bases)) (in_order its own header early later)
      ∙ map-append (answer its own bases) (queries_in its own (header ∷ early)) (queries_in its own (header ∷ later))

module _ (geo : Geo) (files : FileMap) (whole : InputPaths) (bases : List ℤ) where
  abbrev records_of : InputPaths → List (List (List ℕ))
  records_of paths = table_records (bytes_of (query_file files paths))

  -- a piece is read beside the feed and the times of the whole
  beside : (paths : InputPaths) (records : List (List (List ℕ))) → paths.feed ≡ whole.feed → paths.times ≡ whole.times → records_of paths ≡ records
      → answers_of geo files paths bases ≡ answers_in bases (feed geo files whole) (times geo files whole) records
  beside paths records e f is =
      let same_feed : feed geo files paths ≡ feed geo files whole = ap (λ path. feed_of geo (told_folder files path)) e in
      let same_times : times geo files paths ≡ times geo files whole =
      ap (λ held. times_of held (told_folder files paths.times)) same_feed ∙ ap (λ path. times_of (feed geo files whole) (told_folder files path)) f in
      ap (λ held. answers_in bases held (times geo files paths) (records_of paths)) same_feed
      ∙ ap (λ held. answers_in bases (feed geo files whole) held (records_of paths)) same_times
      ∙ ap (answers_in bases (feed geo files whole) (times geo files whole)) is

pub in_pieces : AnswersComeInPieces
in_pieces geo files whole first second bases a b p texts_a texts_b =
    let its = feed geo files whole in
    let own = times geo files whole in
    let all = beside geo files whole bases whole (p.header ∷ (p.early ++ p.later)) refl refl p.all ∙ joined bases its own p.header p.early p.later in
    let one = beside geo files whole bases first (p.header ∷ p.early) p.feeds.0 p.times.0 p.beginning in
    let two = beside geo files whole bases second (p.header ∷ p.later) p.feeds.1 p.times.1 p.ending in
    subst (λ these. Texts RightText these (a ++ b)) (sym all)
    (print_after RightText (answers_in bases its own (p.header ∷ p.early)) (answers_in bases its own (p.header ∷ p.later)) (Ok tt) a b
    (subst (λ these. Texts RightText these a) one texts_a) (subst (λ these. Texts RightText these b) two texts_b))

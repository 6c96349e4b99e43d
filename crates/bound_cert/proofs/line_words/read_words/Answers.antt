use Rattle.std.proofs.Common.{◌≡◌, ◌+◌, ◌-◌, ℕ, List, Ok, length, map, take, drop, sym, ap, ◌∙◌, arith}
use Rattle.std.specs.List.{slice_split}
use Rattle.std.proofs.lemmas.List.{length-drop, take_all}
use Rattle.bound_cert.specs.Reading.{is_space}
use Rattle.bound_cert.proofs.Readers.{ok_is}
use Rattle.bound_cert.proofs.SplitWords.{no_feed, no_text, too_many, words_are}
use Rattle.bound_cert.proofs.line_words.read_words.Goals as goal

pub returns-in_default : goal.returns-in_default
returns-in_default c = no_feed c.args.bytes.now (sym c.line_end.ensures ∙ c.in_default.is)

pub returns-then-count_spaces-gt-MOST_SPACES : goal.returns-then-count_spaces-gt-MOST_SPACES
returns-then-count_spaces-gt-MOST_SPACES c =
    too_many c.args.bytes.now c.in-Some.end (sym c.line_end.ensures ∙ c.in-Some.is) (omega (arith, c.count_spaces.ensures, c.if-count_spaces-gt-MOST_SPACES.true))

pub returns-in_default-from_utf8 : goal.returns-in_default-from_utf8
returns-in_default-from_utf8 c =
    no_text c.args.bytes.now c.in-Some.end (sym c.line_end.ensures ∙ c.in-Some.is) c.in_default-from_utf8.ensures.cases.0

pub returns : goal.returns
returns c =
    let bytes = c.args.bytes.now in
    let end = c.in-Some.end in
    let cut = length-drop (end + 1) bytes in
    let rest : take (length bytes - (end + 1)) (drop (end + 1) bytes) ≡ drop (end + 1) bytes = take_all (length bytes - (end + 1)) (drop (end + 1) bytes) (omega (arith, cut)) in
    let text = c.in-Ok.ensures.cases in
    let words = c.in_ok-words.ensures in
    let first : slice_split is_space (take end bytes) ≡ map (λ word. word.now) c.in_ok-words.words.items =
    ap (λ (z : List ℕ). slice_split is_space z) (sym text.0) ∙ ok_is (slice_split is_space c.in-Ok.text.now) (map (λ word. word.now) c.in_ok-words.words.items) words in
    words_are bytes end (sym c.line_end.ensures ∙ c.in-Some.is) (omega (arith, c.count_spaces.ensures, c.if-count_spaces-gt-MOST_SPACES.false)) text.1
    ∙ ap (λ (ws : List (List ℕ)). Ok (ws, drop (end + 1) bytes)) first ∙ ap (λ (z : List ℕ). Ok (map (λ word. word.now) c.in_ok-words.words.items, z)) (sym rest)

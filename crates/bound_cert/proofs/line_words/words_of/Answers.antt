use Rattle.std.proofs.Common.{Ok, List, ℕ, lit<, sym, ap, rules}
use Rattle.std.specs.List.{slice_split}
use Rattle.std.proofs.lemmas.Str.Pattern.{split_once_first}
use Rattle.bound_cert.specs.Reading.{is_space}
use Rattle.bound_cert.proofs.SplitWords.{first_word, last_word, no_more, one_more}
use Rattle.bound_cert.proofs.line_words.words_of.Goals as goal

pub words-preserved : goal.words-preserved
words-preserved c =
    let parts = split_once_first 32 c.words.rest.now c.split_once.result c.split_once.ensures.cases (lit< tt) in
    let here = rw c.in-Some.is at parts in
    let first = first_word c.words.rest.now c.in-Some.word.now c.in-Some.after.now here.0 here.1 here.2 in
    record {
      split = one_more c.words.words.items c.push.new.self.items c.in-Some.word (slice_split is_space c.words.rest.now) (slice_split is_space c.in-Some.after.now) (slice_split is_space c.args.text.now)
          c.in_ok-push.ensures.items first.0 c.words.invariant.split;
      text = search rules;
    }

pub words-smaller : goal.words-smaller
words-smaller c =
    let parts = split_once_first 32 c.words.rest.now c.split_once.result c.split_once.ensures.cases (lit< tt) in
    let here = rw c.in-Some.is at parts in
    (first_word c.words.rest.now c.in-Some.word.now c.in-Some.after.now here.0 here.1 here.2).1

pub returns : goal.returns
returns c =
    let parts = split_once_first 32 c.words.rest.now c.split_once.result c.split_once.ensures.cases (lit< tt) in
    let none = rw c.in_default.is at parts in
    let only = last_word c.words.rest.now none in
    ap (λ (z : List (List ℕ)). Ok z)
    (sym (no_more c.words.words.items c.push-2.new.self.items c.words.rest (slice_split is_space c.words.rest.now) (slice_split is_space c.args.text.now) c.in_ok-push-2.ensures.items only c.words.invariant.split))

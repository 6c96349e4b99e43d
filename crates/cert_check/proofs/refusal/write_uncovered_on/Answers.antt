use Rattle.std.proofs.Common.{◌≡◌, ℕ, List, ◌∷◌, ◌++◌, All, OnOk, drop, ap, subst}
use Rattle.std.specs.Borrow.{Bor}
use Rattle.std.specs.Prelude.{codes, decimal}
use Rattle.std.specs.Option.{option_to_list}
use Rattle.std.proofs.lemmas.List.Elements.{All-cons}
use Rattle.query_io.specs.declared.word.Word.{Word}
use Rattle.query_io.specs.declared.word.Word.TheVariants.{Number, Plain}
use Rattle.query_io.specs.AnswerText.{line}
use Rattle.query_io.specs.Word.{IsPrintableWord}
use Rattle.query_io.proofs.PrintedRides.{ride_words, ride_words_printable, ride_words_told}
use Rattle.cert_check.proofs.refusal.write_uncovered_on.Goals as goal

-- the words of a refusal before those of a ride
numbered_printable : (number from : ℕ) (name : Bor (List ℕ)) (words : List Word) → All IsPrintableWord words
    → All IsPrintableWord (Number number ∷ Plain name ∷ Number from ∷ words)
numbered_printable number from name words printable =
    All-cons IsPrintableWord (Number number) (Plain name ∷ Number from ∷ words) tt
    (All-cons IsPrintableWord (Plain name) (Number from ∷ words) tt (All-cons IsPrintableWord (Number from) words tt printable))

pub write_line-requires-clause-words : goal.write_line-requires-clause-words
write_line-requires-clause-words c =
    numbered_printable c.args.number c.args.from _
    (ride_words c.as_str.result c.args.ride.now.day c.sequence.result c.sequence-2.result c.place_id.result c.place_id-2.result c.args.ride.now.departs c.args.ride.now.arrives)
    (ride_words_printable c.args.feed.now c.args.times.now c.args.ride.now c.args.trip.now c.requires.printable c.requires.of_trip
    c.as_str.result c.place_id.result c.place_id-2.result c.sequence.result c.sequence-2.result
    c.as_str.ensures.bytes c.place_id.ensures.given c.place_id-2.ensures.given)

pub returns-clause-ok : goal.returns-clause-ok
returns-clause-ok c =
    let e = ride_words_told c.args.feed.now c.args.times.now c.args.ride.now c.args.trip.now c.requires.printable c.requires.of_trip
    c.as_str.result c.place_id.result c.place_id-2.result c.sequence.result c.sequence-2.result
    (option_to_list c.start_word.result) c.start_word.ensures.text
    c.as_str.ensures.bytes c.sequence.ensures c.sequence-2.ensures c.place_id.ensures.text c.place_id-2.ensures.text in
    subst (λ words. OnOk c.write_line.result (c.write_line.new.into
    ≡ c.args.into.now ++ line (codes "refused" ∷ decimal c.args.number ∷ codes "UNCOVERED" ∷ decimal c.args.from ∷ words)))
    (ap (drop 1) e) c.write_line.ensures.ok

-- What a search gives is an exact answer.
use Rattle.std.proofs.Common.{◌≡◌, List, AllPairs, Contains, map, subst, sym}
use Rattle.std.specs.Borrow.{Bor}
use Rattle.std.proofs.lemmas.List.Elements.{All-map, All-weaker}
use Rattle.std.proofs.lemmas.Simd.{map-map}
use Rattle.flex_model.specs.declared.answer.Answer.{Answer}
use Rattle.flex_model.specs.declared.feed.Feed.{Feed}
use Rattle.flex_model.specs.declared.moment.DayTable.{DayTable}
use Rattle.flex_model.specs.declared.query.Query.{Query}
use Rattle.flex_model.specs.declared.times.Times.{Times}
use Rattle.flex_model.specs.Answer.{IsExactAnswer, triples}
use Rattle.flex_model.specs.Journey.{Attains}
use Rattle.flex_model.specs.Triple.{IsTripleBefore}
use Rattle.round_engine.specs.declared.label.Final.{Final}
use Rattle.round_engine.specs.Bags.{Entry}
use Rattle.round_engine.specs.Table.{IsFinal, IsSearchTable, final_triples}
use Rattle.journey_rebuild.specs.Answers.{answer_of}

pub same_triples : (finals : List Final) → final_triples finals ≡ triples (map answer_of finals)
same_triples finals = sym (map-map (λ (answer : Answer). answer.triple) answer_of finals)

pub exact_of : (feed : Bor Feed) (times : Bor Times) (days : Bor DayTable) (query : Bor Query) (rounds : List (List (List Entry))) (finals : List Final)
    → IsSearchTable (record { feed = feed; times = times; days = days; query = query }) rounds finals
    → IsExactAnswer feed.now times.now days.now query.now (map answer_of finals)
exact_of feed times days query rounds finals table =
    let attains : Answer → Type 0 = λ answer. Attains feed.now times.now days.now query.now answer.rides answer.triple in
    record {
      attained = All-map attains answer_of finals
          (All-weaker (IsFinal (record { feed = feed; times = times; days = days; query = query })) (λ best. attains (answer_of best)) (λ best is. is.attained) finals table.each_final);
      rising = subst (AllPairs IsTripleBefore) (same_triples finals) table.rising;
      best = λ triple c. (table.best triple).0 (subst (λ these. Contains these triple) (sym (same_triples finals)) c);
      complete = λ triple is. subst (λ these. Contains these triple) (same_triples finals) ((table.best triple).1 is);
    }

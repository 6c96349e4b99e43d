use Rattle.std.proofs.Common.{◌∙◌, ◌+◌, inr, ap, length, arith}
use Rattle.std.proofs.lemmas.List.{length-append}
use Rattle.std.proofs.lemmas.Result.{err_from_is_err_and}
use Rattle.feed_tables.proofs.Bounds.{header-fits}
use Rattle.feed_tables.proofs.TableFacts.{refusal-many}
use Rattle.feed_tables.proofs.TableReads.{first-stays, found-first, found-none, found-some-true, header-needs, header-parts, header-refused, header-room, header-sound, header-text-refused, records-start, row-needs, row-refused, row-room, row-sound, row-text-refused, rows-done, rows-more, starts}
use Rattle.feed_tables.proofs.table.Table.read.Goals as goal

pub returns-in_err-push_header-clause-refused : goal.returns-in_err-push_header-clause-refused
returns-in_err-push_header-clause-refused c =
    let p = err_from_is_err_and c.from_residual-in_err-push_header.result c.from_residual-in_err-push_header.ensures.1 in
    let got = found-first _ c.if-not-branch.false c.in_ok-next.ensures.found in
    let start = starts _ _ _ _ _ c.without_mark.ensures c.new-left.ensures got in
    rw (p.1, p.2) (header-refused _ _ _ _ start c.in_err-push_header.ensures.refused)

pub loop-index-init : goal.loop-index-init
loop-index-init c =
    let got = found-first _ c.if-not-branch.false c.in_ok-next.ensures.found in
    let start = starts _ _ _ _ _ c.without_mark.ensures c.new-left.ensures got in
    let h = c.in_ok-push_header.ensures in
    let (some, cut, small, only) = header-parts _ _ _ _ h.ends h.fields (header-fits _ _ _ c.requires start) in
    record {
      count = ap length h.ends;
      some = some;
      cut = cut;
      small = small;
      records = records-start _ _ _ _ start only;
      room = header-room _ _ _ _ c.requires start h.fields;
      sound = header-sound _ _ _ _ start c.len-columns.ensures h.sound;
    }

pub returns-then-not-branch-2-clause-accepted : goal.returns-then-not-branch-2-clause-accepted
returns-then-not-branch-2-clause-accepted c =
    let none = found-none _ _ c.if-not-branch-2.true c.in_ok-next-2.ensures.found in
    rows-done _ _ _ _ none c.loop-index.invariant.sound

pub returns-in_err-push_row-clause-refused : goal.returns-in_err-push_row-clause-refused
returns-in_err-push_row-clause-refused c =
    let p = err_from_is_err_and c.from_residual-in_err-push_row.result c.from_residual-in_err-push_row.ensures.1 in
    let got = found-first _ c.if-not-branch-2.false c.in_ok-next-2.ensures.found in
    rw (p.1, p.2) (row-refused _ _ _ _ _ _ _ got c.loop-index.invariant.sound c.in_err-push_row.ensures.refused)

pub loop-index-preserved : goal.loop-index-preserved
loop-index-preserved c =
    let got = found-first _ c.if-not-branch-2.false c.in_ok-next-2.ensures.found in
    let i = c.loop-index.invariant in
    let r = c.in_ok-push_row.ensures in
    let (some, first) = first-stays _ _ _ i.some r.ends in
    record {
      count = ap length r.ends ∙ length-append c.loop-index.ends.items _ ∙ ap (λ n. n + 1) i.count;
      some = some;
      cut = r.cut;
      small = omega (arith, first, i.small);
      records = rows-more _ _ _ _ _ _ got i.records r.record;
      room = row-room _ _ _ _ _ got i.room r.fields;
      sound = row-sound _ _ _ _ _ _ got i.sound r.sound;
    }

pub returns-then-branch-clause-refused : goal.returns-then-branch-clause-refused
returns-then-branch-clause-refused c =
    let (fields, rest, got) = found-some-true _ _ c.if-branch.true c.in_ok-has_next.ensures.found in
    row-refused _ _ _ _ _ _ _ got c.loop-index.invariant.sound (inr (refusal-many _ _ _ (omega (arith, c.loop-index-test.false))))

pub returns-clause-accepted : goal.returns-clause-accepted
returns-clause-accepted c =
    let none = found-none _ _ c.if-branch.false c.in_ok-has_next.ensures.found in
    rows-done _ _ _ _ none c.loop-index.invariant.sound

pub returns-in_err-next-clause-refused : goal.returns-in_err-next-clause-refused
returns-in_err-next-clause-refused c =
    let p = err_from_is_err_and c.from_residual.result c.from_residual.ensures.1 in
    rw (p.1, p.2) (header-text-refused _ _ _ _ c.without_mark.ensures c.new-left.ensures c.in_err-next.ensures.refused)

pub push_header-requires-clause-room : goal.push_header-requires-clause-room
push_header-requires-clause-room c =
    let got = found-first _ c.if-not-branch.false c.in_ok-next.ensures.found in
    header-needs _ _ _ c.requires (starts _ _ _ _ _ c.without_mark.ensures c.new-left.ensures got)

pub returns-in_err-next-2-clause-refused : goal.returns-in_err-next-2-clause-refused
returns-in_err-next-2-clause-refused c =
    let p = err_from_is_err_and c.from_residual-in_err-next-2.result c.from_residual-in_err-next-2.ensures.1 in
    rw (p.1, p.2) (row-text-refused _ _ _ _ _ (omega arith) c.loop-index.invariant.sound c.in_err-next-2.ensures.refused)

pub push_row-requires-clause-room : goal.push_row-requires-clause-room
push_row-requires-clause-room c =
    let got = found-first _ c.if-not-branch-2.false c.in_ok-next-2.ensures.found in
    row-needs c.loop-index.left _ _ c.loop-index.pool got c.loop-index.invariant.room

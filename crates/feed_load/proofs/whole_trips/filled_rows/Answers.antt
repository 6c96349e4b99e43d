use Rattle.std.proofs.Common.{◌≡◌, ◌++◌, take, drop, length, ◌∙◌, ap, subst, arith}
use Rattle.std.proofs.Math.Seq.{take-append_seam}
use Rattle.std.proofs.lemmas.List.{length-map}
use Rattle.std.proofs.lemmas.Result.{IfOk-weaker}
use Rattle.feed_load.specs.LinearTimes.{AreFilled}
use Rattle.feed_load.specs.WholeTrips.{AreRowsOf, AreRowsWith}
use Rattle.feed_load.specs.declared.drafts.Draft.{Draft}
use Rattle.feed_load.proofs.whole_trips.filled_rows.Goals as goal

pub rows_with-requires : goal.rows_with-requires
rows_with-requires c =
    let new = c.fill_times.new.rows in
    let items = c.in_ok-times.times.items in
    let many = c.fill_times.ensures.many in
    let kept = ap length c.as_mut_slice.ensures.value in
    let e : c.in_ok-times.times.len ≡ length new = omega (arith, many, kept, c.in_ok-times.times.ok.0) in
    let given = ap length c.in_ok-times.ensures ∙ length-map c.args.drafts.now (λ (draft : Draft). draft.given) in
    ap length (c.as_slice.ensures.value ∙ ap (λ n. take n (new ++ drop (length new) items)) e ∙ take-append_seam new (drop (length new) items)) ∙ many ∙ kept ∙ given

pub returns : goal.returns
returns c =
    let new = c.fill_times.new.rows in
    let items = c.in_ok-times.times.items in
    let many = c.fill_times.ensures.many in
    let kept = ap length c.as_mut_slice.ensures.value in
    let e : c.in_ok-times.times.len ≡ length new = omega (arith, many, kept, c.in_ok-times.times.ok.0) in
    let same = c.as_slice.ensures.value ∙ ap (λ n. take n (new ++ drop (length new) items)) e ∙ take-append_seam new (drop (length new) items) in
    IfOk-weaker c.rows_with.result (AreRowsWith c.args.drafts.now c.as_slice.result.now) (AreRowsOf c.args.drafts.now)
    (λ rows are. record {
      times = new;
      filled = subst (λ xs. AreFilled xs new) (c.as_mut_slice.ensures.value ∙ c.in_ok-times.ensures) c.fill_times.ensures;
      are = subst (λ xs. AreRowsWith c.args.drafts.now xs rows) same are;
    })
    c.rows_with.ensures

use Rattle.std.proofs.Common.{◌≡◌, ◌∙◌, ap, arith, subst, sym}
use Rattle.feed_meaning.specs.Locations.{row_at}
use Rattle.geo_json.proofs.LineFeeds.{row_on, row_within}
use Rattle.geo_json.proofs.lines.Lines.line_at.Goals as goal

pub invariant_of-self : goal.invariant_of-self
invariant_of-self c =
    let text = c.self.inside.text.now in
    let start = c.start_for-start.result in
    let told = subst (λ t. start.1 ≡ row_at t start.0) (sym c.self.view_is) c.start_for-start.ensures.line in
    (c.self.invariant.0, omega arith, row_on text start.0 c.min-end.result start.1 c.line_feeds.result c.start_for-start.ensures.before told c.line_feeds.ensures)

pub returns-clause-line : goal.returns-clause-line
returns-clause-line c =
    let text = c.self.inside.text.now in
    let start = c.start_for-start.result in
    let told = subst (λ t. start.1 ≡ row_at t start.0) (sym c.self.view_is) c.start_for-start.ensures.line in
    row_on text start.0 c.min-end.result start.1 c.line_feeds.result c.start_for-start.ensures.before told c.line_feeds.ensures
    ∙ ap (row_at text) c.min-end.ensures ∙ row_within text c.args.offset ∙ ap (λ t. row_at t c.args.offset) c.self.view_is

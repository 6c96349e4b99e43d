use Rattle.std.proofs.Common.{◌≡◌, ◌-◌, ◌+◌, Bool, false, subst, sym, ap, ◌∙◌, arith}
use Rattle.std.proofs.lemmas.Result.{err_from_is_err_and}
use Rattle.bound_cert.specs.Given.{Fails}
use Rattle.bound_cert.specs.Reading.{part_at, parts_from}
use Rattle.bound_cert.proofs.PartLoops.{begins_parts, free, parts_done, parts_end, parts_go_on}
use Rattle.bound_cert.proofs.read.read_parts.Goals as goal

pub loop-k-init : goal.loop-k-init
loop-k-init c =
    begins_parts c.args.known.now.feed.now c.args.known.now.times.now c.args.two c.new-parts.result c.args.count (c.args.count - 0) c.args.bytes.now c.new-parts.ensures (omega arith)

pub returns-in_err-part : goal.returns-in_err-part
returns-in_err-part c =
    let p = err_from_is_err_and c.from_residual.result c.from_residual.ensures.1 in
    let feed = c.args.known.now.feed.now in
    let times = c.args.known.now.times.now in
    let rest = c.loop-k.rest.now in
    let asking = c.asking_of-asking.result in
    let e = c.in_err-part.field-0.0 in
    let left = c.args.count - (c.loop-k.k + 1) in
    let first : Fails e (part_at feed times c.args.two asking.may_not rest) = subst (λ (b : Bool). Fails e (part_at feed times b asking.may_not rest)) c.asking_of-asking.ensures.may_ask c.in_err-part.ensures in
    let both : Fails e (part_at feed times c.args.two (free feed times c.args.two c.loop-k.asked left) rest) = subst (λ (b : Bool). Fails e (part_at feed times c.args.two b rest)) c.asking_of-asking.ensures.may_not first in
    rw (p.1, p.2) (parts_end feed times c.args.two e c.loop-k.parts c.args.count c.loop-k.k c.loop-k.asked rest (parts_from feed times c.args.two false c.args.count c.args.bytes.now)
    c.loop-k-test.true both c.loop-k.invariant)

pub loop-k-preserved : goal.loop-k-preserved
loop-k-preserved c =
    let feed = c.args.known.now.feed.now in
    let times = c.args.known.now.times.now in
    let rest = c.loop-k.rest.now in
    let asking = c.asking_of-asking.result in
    let left = c.args.count - (c.loop-k.k + 1) in
    let same : part_at feed times asking.may_ask asking.may_not rest ≡ part_at feed times c.args.two (free feed times c.args.two c.loop-k.asked left) rest =
    ap (λ (b : Bool). part_at feed times b asking.may_not rest) c.asking_of-asking.ensures.may_ask ∙ ap (λ (b : Bool). part_at feed times c.args.two b rest) c.asking_of-asking.ensures.may_not in
    rw (c.in_ok-push.ensures.ok, c.either-asked.ensures) (parts_go_on feed times c.args.two c.loop-k.parts c.args.count c.loop-k.k c.loop-k.asked rest c.in_ok-part.part c.in_ok-part.after.now
    (parts_from feed times c.args.two false c.args.count c.args.bytes.now) c.loop-k-test.true (sym same ∙ c.in_ok-part.ensures) c.loop-k.invariant)

pub returns : goal.returns
returns c =
    parts_done c.args.known.now.feed.now c.args.known.now.times.now c.args.two c.loop-k.parts c.args.count c.loop-k.k c.loop-k.asked c.loop-k.rest.now
    (parts_from c.args.known.now.feed.now c.args.known.now.times.now c.args.two false c.args.count c.args.bytes.now) c.loop-k-test.false c.loop-k.invariant

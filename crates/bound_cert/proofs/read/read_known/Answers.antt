use Rattle.std.proofs.Common.{◌≡◌, ◌≤◌, ℕ, List, Result, Err, length, subst, sym, ap, ◌∙◌}
use Rattle.flex_model.specs.declared.feed.Feed.{Feed}
use Rattle.flex_model.specs.declared.times.Times.{Times}
use Rattle.bound_cert.specs.declared.cert.Cert.{Cert}
use Rattle.bound_cert.specs.declared.error.CertError.{CertError}
use Rattle.bound_cert.specs.declared.error.ReadError.{ReadError}
use Rattle.bound_cert.specs.Given.{Fails}
use Rattle.bound_cert.specs.Reading.{cert_at}
use Rattle.bound_cert.specs.Syntax.{IsSyntaxFault, label_count}
use Rattle.bound_cert.specs.declared.error.CertError.TheVariants as Errors
use Rattle.bound_cert.proofs.CertReaders.{cert_complete, cert_left, cert_sound, cert_stops}
use Rattle.bound_cert.proofs.Readers.{ok_is}
use Rattle.bound_cert.proofs.LabelCounts.{cert_length}
use Rattle.bound_cert.proofs.read.read_known.Goals as goal

-- what is read over the feed and times of an index is what is read over these
same_read : (feed feed' : Feed) (times times' : Times) (bytes : List ℕ) → feed' ≡ feed → times' ≡ times → cert_at feed times bytes ≡ cert_at feed' times' bytes
same_read feed feed' times times' bytes is is' = sym (ap (λ (f : Feed). cert_at f times' bytes) is ∙ ap (λ (t : Times). cert_at feed t bytes) is')

abbrev fails_at : ℕ → Result Cert CertError
fails_at line = Err (Errors.Syntax line)

same_line : (a b : ℕ) → fails_at a ≡ fails_at b → a ≡ b
same_line a b e = cc

pub line_number-requires : goal.line_number-requires
line_number-requires c =
    let same = same_read c.args.feed.now c.args.known.now.feed.now c.args.times.now c.args.known.now.times.now c.args.bytes.now c.requires.feed_is c.requires.times_is in
    let left = subst (λ (e : ReadError). Fails e (cert_at c.args.known.now.feed.now c.args.known.now.times.now c.args.bytes.now)) c.in-Err-Bad.field-0-is c.in-Err-Bad.ensures in
    cert_left c.args.feed.now c.args.times.now c.requires.feed c.requires.times c.requires.held c.args.bytes.now c.in-Err-Bad.left (same ∙ left)

pub returns-in-Ok-clause-written : goal.returns-in-Ok-clause-written
returns-in-Ok-clause-written c =
    let same = same_read c.args.feed.now c.args.known.now.feed.now c.args.times.now c.args.known.now.times.now c.args.bytes.now c.requires.feed_is c.requires.times_is in
    (cert_sound c.args.feed.now c.args.times.now c.requires.feed c.requires.times c.requires.held c.args.bytes.now c.in-Ok.cert (same ∙ c.in-Ok.ensures)).0

pub returns-in-Ok-clause-text : goal.returns-in-Ok-clause-text
returns-in-Ok-clause-text c =
    let same = same_read c.args.feed.now c.args.known.now.feed.now c.args.times.now c.args.known.now.times.now c.args.bytes.now c.requires.feed_is c.requires.times_is in
    (cert_sound c.args.feed.now c.args.times.now c.requires.feed c.requires.times c.requires.held c.args.bytes.now c.in-Ok.cert (same ∙ c.in-Ok.ensures)).1

pub returns-in-Ok-clause-back : goal.returns-in-Ok-clause-back
returns-in-Ok-clause-back c = λ cert written is.
    let same = same_read c.args.feed.now c.args.known.now.feed.now c.args.times.now c.args.known.now.times.now c.args.bytes.now c.requires.feed_is c.requires.times_is in
    ok_is c.in-Ok.cert cert
    (sym (same ∙ c.in-Ok.ensures) ∙ ap (cert_at c.args.feed.now c.args.times.now) is ∙ cert_complete c.args.feed.now c.args.times.now c.requires.feed c.requires.times c.requires.held cert written)

pub returns-in-Ok-clause-labels : goal.returns-in-Ok-clause-labels
returns-in-Ok-clause-labels c =
    let same = same_read c.args.feed.now c.args.known.now.feed.now c.args.times.now c.args.known.now.times.now c.args.bytes.now c.requires.feed_is c.requires.times_is in
    let text = (cert_sound c.args.feed.now c.args.times.now c.requires.feed c.requires.times c.requires.held c.args.bytes.now c.in-Ok.cert (same ∙ c.in-Ok.ensures)).1 in
    subst (λ (z : List ℕ). label_count c.in-Ok.cert ≤ length z) (sym text) (cert_length c.args.feed.now c.args.times.now c.in-Ok.cert)

pub returns-in-Err-Bad-clause-syntax : goal.returns-in-Err-Bad-clause-syntax
returns-in-Err-Bad-clause-syntax c = λ line e.
    let same = same_read c.args.feed.now c.args.known.now.feed.now c.args.times.now c.args.known.now.times.now c.args.bytes.now c.requires.feed_is c.requires.times_is in
    let left = subst (λ (e : ReadError). Fails e (cert_at c.args.known.now.feed.now c.args.known.now.times.now c.args.bytes.now)) c.in-Err-Bad.field-0-is c.in-Err-Bad.ensures in
    let fault = cert_stops c.args.feed.now c.args.times.now c.requires.feed c.requires.times c.requires.held c.args.bytes.now c.in-Err-Bad.left (same ∙ left) in
    subst (λ (n : ℕ). IsSyntaxFault c.args.feed.now c.args.times.now c.args.bytes.now n) (sym c.line_number.ensures ∙ same_line c.line_number.result line e) fault

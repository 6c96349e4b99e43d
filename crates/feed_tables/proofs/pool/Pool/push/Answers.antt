use Rattle.std.proofs.Common.{◌≡◌, ◌∙◌, ◌++◌, ◌+◌, ◌∷◌, [], ℕ, List, refl, ap, length, arith}
use Rattle.std.specs.Prelude.{string_bytes, sum_by}
use Rattle.std.proofs.lemmas.List.{length-append}
use Rattle.feed_tables.specs.Parts.{EndAt, parts}
use Rattle.feed_tables.proofs.Pools.{cut-more, sum-parts}
use Rattle.feed_tables.proofs.TableFacts.{parts-pushed}
use Rattle.feed_tables.proofs.pool.Pool.push.Goals as goal

-- the size of a buffer that gained a text
size-more : (old : List (List ℕ)) (ends buffer new text : List ℕ) → EndAt 0 ends (length buffer) → parts 0 ends buffer ≡ old → new ≡ buffer ++ text → length new ≡ sum_by length old + length text
size-more old ends buffer new text cut is e =
    let size = sum-parts 0 ends buffer cut in
    omega (arith, size, ap (sum_by length) is, ap length e, length-append buffer text)

pub overflow_cast-len : goal.overflow_cast-len
overflow_cast-len c =
    let ends = c.self.inside.ends.items in
    let size = size-more c.args.self.now ends (string_bytes c.self.inside.buffer) (string_bytes c.push_str.new.self) c.args.text.now c.self.invariant.rising c.self.view_is c.in_ok-push_str.ensures.bytes in
    omega (arith, c.len.ensures, size, c.requires)

-- the indices with the end of the buffer put last
indices-more : (new now ends : List ℕ) (n m : ℕ) → new ≡ now ++ n ∷ [] → now ≡ ends → n ≡ m → new ≡ ends ++ m ∷ []
indices-more new now ends n m e f g = rw (e, f, g) refl

pub invariant_of-self-2 : goal.invariant_of-self-2
invariant_of-self-2 c =
    let ends = c.self.inside.ends.items in
    let buffer = string_bytes c.self.inside.buffer in
    let bytes = c.in_ok-push_str.ensures.bytes in
    let size : c.len.result ≡ length (buffer ++ c.args.text.now) = omega (arith, c.len.ensures, ap length bytes) in
    rw (indices-more _ _ ends _ _ c.push_reserved.ensures.items c.reserve.ensures.items size, bytes) (cut-more ends buffer c.args.text.now c.self.invariant c.utf8.text)

pub returns-clause-ok : goal.returns-clause-ok
returns-clause-ok c =
    let ends = c.self.inside.ends.items in
    let buffer = string_bytes c.self.inside.buffer in
    let indices = indices-more _ _ ends c.len.result c.len.result c.push_reserved.ensures.items c.reserve.ensures.items refl in
    let size : c.len.result ≡ length (string_bytes c.push_str.new.self) = omega (arith, c.len.ensures) in
    let gained = parts-pushed ends _ buffer _ c.args.text.now _ c.self.invariant.rising indices size c.in_ok-push_str.ensures.bytes in
    gained ∙ ap (λ texts. texts ++ c.args.text.now ∷ []) c.self.view_is

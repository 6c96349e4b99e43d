-- What a loop has read of a file or written of a piece, and what it has after one turn more.
use Rattle.std.proofs.Common.{◌≡◌, ◌≤◌, ◌+◌, ℕ, List, ◌++◌, length, length-append, arith, take, drop, Option, None, Some, sym, ap, ◌∙◌, append_assoc, take-append-drop}
use Rattle.std.specs.Io.KnownBytes.{Appends, Consumes}
use Rattle.flex_io.specs.Host.{TakesAtMost}

-- the bytes that were read are within the limit by what is left of it, and were appended
pub record HasRead (limit left : ℕ) (into now : List ℕ) (file rest : Option (List ℕ)) : Type 0 where
  pub bytes : List ℕ
  pub within_limit : length bytes + left ≡ limit
  pub appended : now ≡ into ++ bytes
  pub consumed : Consumes file rest bytes

-- the piece is what the stream has taken and what is left
pub record HasWritten (piece left : List ℕ) (stream now : Option (List ℕ)) : Type 0 where
  pub taken : List ℕ
  pub split : piece ≡ taken ++ left
  pub appended : Appends stream now taken

consumes_twice : (before between after : Option (List ℕ)) (first rest : List ℕ) → Consumes before between first → Consumes between after rest → Consumes before after (first ++ rest)
consumes_twice None between after first rest p q = tt
consumes_twice (Some xs) None after first rest p q = absurd p
consumes_twice (Some xs) (Some ys) None first rest p q = absurd q
consumes_twice (Some xs) (Some ys) (Some zs) first rest p q =
    p ∙ ap (λ (l : List ℕ). first ++ l) q ∙ sym (append_assoc first rest zs)

-- one read more, of at most one byte above what is left of the limit
pub read_more : {limit left : ℕ} {into now : List ℕ} {file rest : Option (List ℕ)} → HasRead limit left into now file rest → (count : ℕ) (buffer : List ℕ) (after : Option (List ℕ))
    → count ≡ length (take count buffer) → count ≤ left + 1 → Consumes rest after (take count buffer) → TakesAtMost (limit + 1) file after
read_more {file = file} {rest = rest} read count buffer after all few consumed = (
  read.bytes ++ take count buffer,
  omega (arith, length-append read.bytes (take count buffer), read.within_limit, all),
  consumes_twice file rest after read.bytes (take count buffer) read.consumed consumed,
)

appends_twice : (before between after : Option (List ℕ)) (first rest : List ℕ) → Appends before between first → Appends between after rest → Appends before after (first ++ rest)
appends_twice None between after first rest p q = tt
appends_twice (Some xs) None after first rest p q = absurd p
appends_twice (Some xs) (Some ys) None first rest p q = absurd q
appends_twice (Some xs) (Some ys) (Some zs) first rest p q =
    q ∙ ap (λ (l : List ℕ). l ++ rest) p ∙ append_assoc xs first rest

-- one write more, which took some of what was left
pub written_more : {piece left : List ℕ} {stream now : Option (List ℕ)} → HasWritten piece left stream now → (count : ℕ) (rest : List ℕ) (after : Option (List ℕ)) → rest ≡ drop count left
    → Appends now after (take count left) → HasWritten piece rest stream after
written_more {left = left} {stream = stream} {now = now} written count rest after is appended = record {
  taken = written.taken ++ take count left;
  split = written.split
      ∙ ap (λ (l : List ℕ). written.taken ++ l) (sym (take-append-drop count left))
      ∙ sym (append_assoc written.taken (take count left) (drop count left))
      ∙ ap (λ (l : List ℕ). (written.taken ++ take count left) ++ l) (sym is);
  appended = appends_twice stream now after written.taken (take count left) written.appended appended;
}

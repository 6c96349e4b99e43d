-- Numbers that are printed in two digits.
use Rattle.std.proofs.Common.{◌≡◌, ◌<◌, ◌++◌, ◌/◌, ◌%◌, ℕ, true, refl}
use Rattle.std.specs.Prelude.{decimal}
use Rattle.std.specs.Fmt.{digits}
use Rattle.std.specs.Str.{bytes_eq}
use Rattle.std.specs.List.{list_all}
use Rattle.std.proofs.lemmas.Slice.Eq.{bytes_eq-Decides}
use Rattle.field_text.specs.Texts.{last_digits}
use Rattle.feed_gen.specs.Texts.{below}
use Rattle.feed_gen.proofs.Checks.{checked}

each : list_all (λ n. bytes_eq (decimal (n / 10) ++ decimal (n % 10)) (last_digits 2 n)) (below 100) ≡ true
unfolding digits below
each = refl

pub in_two_digits : (n : ℕ) → n < 100 → decimal (n / 10) ++ decimal (n % 10) ≡ last_digits 2 n
in_two_digits n lt = (bytes_eq-Decides (decimal (n / 10) ++ decimal (n % 10)) (last_digits 2 n)).0 (checked (λ k. bytes_eq (decimal (k / 10) ++ decimal (k % 10)) (last_digits 2 k)) 100 each n lt)

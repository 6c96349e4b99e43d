-- How the demo feed draws its numbers, this project's own: each is given by the feed's number and a
-- place in a sequence.
use Rattle.std.specs.Prelude.{ℕ, ◌+◌, ◌*◌, ◌/◌, ◌%◌}

-- a number below 65,536
abbrev pub mix : ℕ → ℕ → ℕ
mix number k = ((k + 1) * 2654435761 + number * 40503) % 4294967296 / 65536

-- one of so many choices
unfoldable pub pick : ℕ → ℕ → ℕ → ℕ
pick number k choices = mix number k % choices

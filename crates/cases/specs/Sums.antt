-- A number that stands for the bytes of a long buffer, in their order.
use Rattle.std.specs.Prelude.{List, ℕ, ◌+◌, ◌*◌, ◌%◌, fold}

-- the sum with one byte more
abbrev pub next_sum : ℕ → ℕ → ℕ
next_sum sum b = ((sum % 16777213) * 251 + b) % 16777213

-- the sum with the bytes of a list more
abbrev pub sum_on : ℕ → List ℕ → ℕ
sum_on = fold next_sum

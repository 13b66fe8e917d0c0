-- What the builder and the tester do with the entries of a table.
use Rattle.std.specs.Prelude.{◌&&◌, List, ℕ, zero, suc}
use Rattle.arena.specs.Arena.{fine, left, shield}
use Rattle.tasks.specs.declared.sets.Set.{Set}
use Rattle.tasks.specs.Sets.{states_of}
use Rattle.game.specs.Game.{arena_of}
use Rattle.shield.specs.Entries.{names, entry_of, entry_at, live, list_to}

-- what is left of a state's entry: of the choices that it names, those with all outcomes no miss and on an entry that is not zero
unfoldable pub next_entry : Set → List ℕ → ℕ → ℕ
next_entry s table i = entry_of (λ c. names (entry_at table i) c && fine (arena_of s) (live table) i c)

-- the entry of a state after k rounds: every choice before the first, and then those that are fine for what the round before left
unfoldable pub entry_after : Set → ℕ → ℕ → ℕ
entry_after s zero i = 255
entry_after s (suc k) i = entry_of (fine (arena_of s) (left (arena_of s) k) i)

abbrev pub table_after : Set → ℕ → List ℕ
table_after s k = list_to (entry_after s k) (states_of s)

-- the shield of a set as a table: bit c of an entry is set when each outcome of the choice c is no miss and safe
abbrev pub shield_table : Set → List ℕ
shield_table s = list_to (λ i. entry_of (shield (arena_of s) i)) (states_of s)

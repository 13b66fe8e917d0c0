-- A build that is answered, in the terms of the set's game. Assumes nothing.
use mathlib.Core.Path.{◌≡◌, sym, ap, subst, ◌∙◌}
use mathlib.Core.Bool.{true, not}
use mathlib.Core.List.{List, ◌++◌}
use Prim.Native.Nat.{ℕ, ◌≤◌, ◌<◌}
use native.Mathlib.Omega.{arith}
use lib.Dec.{T, eqb}
use lib.ListN.{length, drop, length-append}
use Rattle.arena.specs.Arena.{safe, shield}
use Rattle.arena.proofs.Exact as Exact
use Rattle.std.specs.Prelude.{Result}
use Rattle.tasks.specs.declared.refusals.Refusal.{Refusal}
use Rattle.tasks.specs.declared.sets.Set.{Set}
use Rattle.tasks.specs.Sets.{states_of, Passed}
use Rattle.game.specs.Game.{arena_of}
use Rattle.game.proofs.Sound.{sound}
use Rattle.shield.specs.declared.builder.Built.{Built}
use Rattle.shield.specs.Entries.{names, entry_of, entry_at, Bytes, live}
use Rattle.shield.specs.Shield.{shield_table}
use Rattle.shield.specs.Build.{build_if, table_built, Builds, said_built}
use Rattle.shield.proofs.Done.{Made, made, made_safe}
use Rattle.shield.proofs.EntryLaws.{marks_lt, marks_zero, names_marks, list_length, list_at}

-- the set passed its own test, the start is safe, the answer is that of a safe start, and the table holds the shield
pub record Shielded (s : Set) (r : Result Built Refusal) (table : List ℕ) : Type 0 where
  pub set : Passed s
  pub start : T (safe (arena_of s) 0)
  pub answer : r ≡ build_if s true
  pub room : states_of s ≤ length table
  pub entry : (i : ℕ) → i < states_of s → entry_at table i ≡ entry_of (shield (arena_of s) i)

pub shielded : (s : Set) (t w t' w' : List ℕ) (r : Result Built Refusal) → Builds s t w r t' w' → (said_built r).number ≡ 0 → Shielded s r t'
shielded s t w t' w' r B a =
    let M : Made s r = made s (length t) (length w) r (λ h. absurd (omega arith)) B.answer in
    let v = made_safe s r M a in
    let q : r ≡ build_if s true = M.judged ∙ ap (build_if s) v in
    let e : t' ≡ shield_table s ++ drop (states_of s) t = B.table ∙ ap (λ r. table_built s r t) q in
    let f : ℕ → ℕ = λ i. entry_of (shield (arena_of s) i) in
    record {
      set = M.set;
      start = subst T (sym v) tt;
      answer = q;
      room = omega (arith, ap length e ∙ length-append (shield_table s) (drop (states_of s) t), list_length f (states_of s));
      entry = λ i h. ap (λ l. entry_at l i) e ∙ list_at f (states_of s) (drop (states_of s) t) i h;
    }

module _ (s : Set) (r : Result Built Refusal) (table : List ℕ) (S : Shielded s r table) where
  -- its entries are bytes
  pub shield_bytes : Bytes (states_of s) table
  shield_bytes i h = subst (λ (e : ℕ). e < 256) (sym (S.entry i h)) (marks_lt 8 (shield (arena_of s) i))

  -- they name what the shield names
  pub shield_names : (i k : ℕ) → i < states_of s → k < 8 → names (entry_at table i) k ≡ shield (arena_of s) i k
  shield_names i k h l = ap (λ e. names e k) (S.entry i h) ∙ names_marks 8 (shield (arena_of s) i) k l

  -- and are not zero in the safe states
  pub shield_live : (i : ℕ) → i < states_of s → live table i ≡ safe (arena_of s) i
  unfolding arena_of
  shield_live i h =
      ap (λ (e : ℕ). not (eqb e 0)) (S.entry i h) ∙ marks_zero 8 (shield (arena_of s) i) ∙ Exact.used_exactly (arena_of s) (sound s S.set) i h

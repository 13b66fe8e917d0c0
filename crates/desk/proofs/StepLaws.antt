-- What `build` leaves of the table and the work buffer.
use mathlib.Core.List.{List}
use mathlib.Core.Path.{◌≡◌, ap, ◌∙◌}
use Prim.Native.Nat.{ℕ}
use Rattle.tasks.specs.declared.sets.Set.{Set}
use Rattle.std.specs.Prelude.{Result}
use Rattle.tasks.specs.declared.refusals.Refusal.{Refusal}
use Rattle.shield.specs.declared.builder.Built.{Built}
use Rattle.shield.specs.Build.{table_built, work_built, Builds}
use Rattle.desk.specs.After.{built_table, built_work}

-- what the builder leaves, by its answer
pub built_leaves : (s : Set) (t w t' w' : List ℕ) (r : Result Built Refusal) → Builds s t w r t' w' → (t' ≡ built_table s t w) × (w' ≡ built_work s t w)
built_leaves s t w t' w' r e = (e.table ∙ ap (λ x. table_built s x t) e.answer, e.work ∙ ap (λ x. work_built s x w) e.answer)

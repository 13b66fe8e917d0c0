-- Safe runs with the table that the builder made, and with the part that a file hands back. Assumes nothing.
use mathlib.Core.List.{List}
use Prim.Native.Nat.{ℕ}
use Rattle.std.specs.Prelude.{Result}
use Rattle.tasks.specs.declared.refusals.Refusal.{Refusal}
use Rattle.tasks.specs.declared.sets.Set.{Set}
use Rattle.shield.specs.declared.builder.Built.{Built}
use Rattle.tasks.specs.Sets.{states_of}
use Rattle.shield.specs.Entries.{Bytes}
use Rattle.shield.specs.Build.{Builds}
use Rattle.table_file.specs.Open.{handed}
use Rattle.table_file.proofs.Trips.{Opens, handed_passes}
use Rattle.promises.proofs.Shield.{Answered, built_bytes, built_passes}
use Rattle.safe_runs.proofs.Safe.{SafeRuns, safe_runs}

-- the table of a builder that refuses nothing
module _ (s : Set) (t w t' w' : List ℕ) (r : Result Built Refusal) (B : Builds s t w r t' w') (a : Answered r) where
  pub built_runs : SafeRuns s t'
  built_runs = safe_runs s t' (built_bytes s t w t' w' r B a) (built_passes s t w t' w' r B a)

-- the part that a file hands back
module _ (s : Set) (file : List ℕ) (o : Opens s file) (b : Bytes (states_of s) (handed s file)) where
  pub opened_runs : SafeRuns s (handed s file)
  opened_runs = safe_runs s (handed s file) b (handed_passes s file o)

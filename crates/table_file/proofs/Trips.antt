-- Files and tables, there and back. Assumes nothing.
use mathlib.Core.Path.{◌≡◌, refl, sym, ap, ap₂, ◌∙◌}
use mathlib.Core.Bool.{Bool, true, false, not, cond}
use mathlib.Core.List.{List, [], ◌∷◌, ◌++◌}
use Prim.Native.Nat.{ℕ, ◌+◌, ◌≤◌, ◌<◌}
use native.Mathlib.Nat.{le_of_eq}
use native.Mathlib.Omega.{arith}
use lib.Dec.{T, ltb, nltb→le}
use lib.ListN.{length, get_or, take, drop, length-append, take-append-drop, length-drop, get_or-append}
use lib.Seq.{length-take-le, take_all, take_at, drop_at, get_or-take, ext_get_or}
use Rattle.tasks.specs.declared.refusals.Refusal.{Refusal}
use Rattle.std.specs.Prelude.{Result, Ok, Err}
use Rattle.tasks.specs.declared.sets.Set.{Set}
use Rattle.tasks.specs.Refusals.{answered, number_of}
use Rattle.tasks.specs.Sets.{states_of, test_set, Passed}
use Rattle.tasks.proofs.Valid.{valid, passed, refused_number}
use Rattle.shield.specs.Test.{test_of, said_verdict}
use Rattle.shield.proofs.Tested.{entries_test, refused_said}
use Rattle.table_file.specs.Files.{header, header_length, file_of, file_length}
use Rattle.table_file.specs.Write.{write_verdict, write_tested, write_of, file_written, Writes, said_written}
use Rattle.table_file.specs.Open.{open_of, part_of, handed, said_opened}
use Rattle.table_file.proofs.FileLaws.{header_length_lem}
use Rattle.table_file.proofs.WriteLaws.{with_room}
use Rattle.table_file.proofs.Opening.{Opening, opening, opens, said_opens}

-- a set's file: its length, its parts, and that it opens
module _ (s : Set) (n : length s.name ≡ 16) (p : Passed s) (t : List ℕ) (ht : states_of s ≤ length t) where
  pub file_length_lem : length (file_of s t) ≡ file_length s
  unfolding file_of
  file_length_lem = length-append (header s) (take (states_of s) t) ∙ ap₂ ◌+◌ (header_length_lem s n) (length-take-le (states_of s) t ht)

  pub file_header : (i : ℕ) → i < header_length s → get_or (file_of s t) i 0 ≡ get_or (header s) i 0
  unfolding file_of
  file_header i h = get_or-append (header s) (take (states_of s) t) 0 i (omega (arith, header_length_lem s n))

  pub file_part : drop (header_length s) (file_of s t) ≡ take (states_of s) t
  unfolding file_of
  file_part = drop_at (header s) (take (states_of s) t) (header_length s) (header_length_lem s n)

  pub file_opens : test_of s t ≡ Ok tt → open_of s (file_of s t) ≡ (Ok tt)
  file_opens e =
      opens s (file_of s t)
      (record { set = p; same = file_header; long = file_length_lem; part = ap (test_of s) file_part ∙ entries_test s p t ht ∙ e })

-- a file that opens for a set is the file of its table part
module _ (s : Set) (file : List ℕ) (o : Opening s file) where
  part_length : length (drop (header_length s) file) ≡ states_of s
  part_length = length-drop (header_length s) file ∙ omega (arith, o.long)

  pub file_same : length s.name ≡ 16 → file ≡ file_of s (drop (header_length s) file)
  unfolding file_of
  file_same n =
      let k = header_length s in
      let h = header_length_lem s n in
      let l : length (take k file) ≡ k = length-take-le k file (omega (arith, o.long)) in
      let e : take k file ≡ header s = ext_get_or 0 (take k file) (header s) (l ∙ sym h) (λ i b. get_or-take k file i 0 (omega arith) ∙ o.same i (omega arith)) in
      sym (take-append-drop k file) ∙ ap₂ (λ (x y : List ℕ). x ++ y) e (sym (take_all (states_of s) (drop k file) (le_of_eq part_length)))

-- what a file that was written says: the set passes, and the table is long enough and passes the test
pub record Wrote (s : Set) (t : List ℕ) (r : Result ℕ Refusal) : Type 0 where
  pub set : Passed s
  pub table : states_of s ≤ length t
  pub test : test_of s t ≡ Ok tt
  pub answer : r ≡ Ok (file_length s)

on : (b : Bool) (f : Refusal) (r x : Result ℕ Refusal) → (said_written r).number ≡ 0 → 1 ≤ number_of f.reason → r ≡ cond b (Err f) x → T (not b) × (r ≡ x)
on true f r x a h e = absurd (omega (arith, ap (λ r. (said_written r).number) e))
on false f r x a h e = (tt, e)

pub wrote : (s : Set) (t : List ℕ) (k : ℕ) (r : Result ℕ Refusal) → (said_written r).number ≡ 0 → r ≡ write_of s t k → Wrote s t r
wrote s t k r a = go (test_set s) refl
  where
    tested : (v : Result Unit Refusal) → test_of s t ≡ v → r ≡ write_verdict s v → (test_of s t ≡ Ok tt) × (r ≡ Ok (file_length s))
    tested (Ok u) q e = (q, e)
    tested (Err f) q e = absurd (omega (arith, refused_said s t f q, ap (λ r. (said_written r).number) e))

    go : (x : Result ℕ Refusal) → test_set s ≡ x → r ≡ write_tested s t k x → Wrote s t r
    go (Err f) q e = absurd (omega (arith, (refused_number s f q).0, ap (λ r. (said_written r).number) e))
    go (Ok S) q e =
        let v = (valid s S q).1 in
        let b = on (ltb (length t) S) _ r _ a (omega arith) e in
        let c = on (ltb k (file_length s)) _ r _ a (omega arith) b.1 in
        let d = tested (test_of s t) refl c.1 in
        record { set = passed s S q; table = omega (arith, nltb→le (length t) S b.0); test = d.0; answer = d.1 }

-- in the paper's terms: nothing is refused
abbrev pub Opens : Set → List ℕ → Type 0
Opens s file = (said_opened (open_of s file)).number ≡ 0

-- opening what was written gives back the table's first S bytes; n is the length that the writer answered
pub written_opens : (s : Set) → length s.name ≡ 16 → (t f f' : List ℕ) (r : Result ℕ Refusal) → Writes s t f r f' → (n : ℕ) → said_written r ≡ answered (n ∷ [])
    → Opens s (take n f') × (handed s (take n f') ≡ take (states_of s) t)
written_opens s b t f f' r w n a =
    let x = wrote s t (length f) r (ap (λ a. a.number) a) w.answer in
    let l = file_length_lem s b x.set t x.table in
    let k : n ≡ file_length s = ap (λ a. get_or a.values 0 0) (sym a ∙ ap said_written x.answer) in
    let e : take n f' ≡ file_of s t = ap (take n) (w.file ∙ ap (λ r. file_written s t r f) x.answer) ∙ take_at (file_of s t) (drop (file_length s) f) n (l ∙ sym k) in
    let o = ap (open_of s) e ∙ file_opens s b x.set t x.table x.test in
    (ap (λ o. (said_opened o).number) o, ap (part_of s (take n f')) o ∙ ap (drop (header_length s)) e ∙ file_part s b x.set t x.table)

-- what is handed back passes the tester
pub handed_passes : (s : Set) (file : List ℕ) → Opens s file → (said_verdict (test_of s (handed s file))).number ≡ 0
handed_passes s file o =
    let e = said_opens s file o in
    ap (λ v. (said_verdict v).number) (ap (test_of s) (ap (part_of s file) e) ∙ (opening s file e).part)

-- a file that opens for a set is byte for byte the one that the writer makes of its table
pub opened_written : (s : Set) → length s.name ≡ 16 → (file : List ℕ) → Opens s file → (f f' : List ℕ) (r : Result ℕ Refusal)
    → length file ≤ length f → Writes s (handed s file) f r f' → (said_written r ≡ answered (length file ∷ [])) × (take (length file) f' ≡ file)
opened_written s n file e f f' r h w =
    let v = said_opens s file e in
    let o = opening s file v in
    let t = handed s file in
    let q : t ≡ drop (header_length s) file = ap (part_of s file) v in
    let l : length t ≡ states_of s = ap length q ∙ part_length s file o in
    let a : r ≡ Ok (length file) = w.answer ∙ with_room s o.set t f (omega arith) (omega (arith, o.long)) ∙ ap (write_verdict s) (ap (test_of s) q ∙ o.part) ∙ ap Ok (sym o.long) in
    let b : file_of s t ≡ file = ap (file_of s) q ∙ sym (file_same s file o n) in
    (ap said_written a, ap (take (length file)) (w.file ∙ ap (λ (x : Result ℕ Refusal). file_written s t x f) a ∙ ap (λ (x : List ℕ). x ++ drop (length file) f) b) ∙ take_at file (drop (length file) f) (length file) refl)

-- The code's step is the machine's: what the code keeps of a state, and that a byte leads from what is kept to what is kept. Assumes nothing.
use mathlib.Core.Path.{◌≡◌, refl, sym, ap, ◌∙◌}
use mathlib.Core.Bool.{Bool, true, false, not, ◌&&◌, cond}
use mathlib.Core.List.{List, [], ◌∷◌, ◌++◌, append_assoc, map, map-append}
use Prim.Native.Nat.{ℕ, suc, ◌+◌, ◌-◌, ◌<◌}
use native.Mathlib.Omega.{arith}
use native.Mathlib.Numerals.{add-one}
use lib.Dec.{T, ltb, eqb, ltb→lt}
use lib.ListN.{length, get_or, set, replicate, length-append, length-map}
use lib.Seq.{set_at}
use borrow.Author.Tests.{lt-ltb}
use Rattle.tasks.specs.declared.sets.Set.{Set}
use Rattle.tasks.specs.Sets.{name_byte, no_task}
use Rattle.sheet_form.specs.Form.{Values, Line, Sheet, set_text, kind_text}
use Rattle.sheet_form.specs.Machine.{Word, opening, kind, Field, deadline, runs, gaps, word, name, line, field, fault, ender, spell, many, add, close, digit, step}
use Rattle.sheet_form.specs.Machine as machine
use Rattle.sheet_form.specs.Sets.{padded, list_of, kind_of, task_of, set_of}
use Rattle.arena.proofs.Tests.{and_left}
use Rattle.sheet_form.proofs.Shown.{Ok}
use Rattle.sheet_fields.specs.declared.state.State.{State}
use Rattle.sheet_fields.specs.State.{set_word, hard_word, soft_word, in_name, at_line, in_deadline, in_runs, in_gaps, at_fault, blank_of, moved}
use Rattle.sheet_fields.specs.Fields.{ended_task, closed_of, comma_of, ender_of, field_of}
use Rattle.sheet_scan.specs.Steps.{word_of, name_of, line_start, step_of, name_after, tasks_after}
use Rattle.sheet_fields.proofs.Kept.{kept, kept_snoc, kept_list}

-- the sheet so far
abbrev pub sheet_in : machine.State → Sheet
sheet_in (word opening k) = record { name = []; lines = [] }
sheet_in (word (kind s h) k) = s
sheet_in (name n) = record { name = n; lines = [] }
sheet_in (line s) = s
sheet_in (field (deadline s h) xs v) = s
sheet_in (field (runs s h d) xs v) = s
sheet_in (field (gaps s h d c) xs v) = s
sheet_in fault = record { name = []; lines = [] }

-- nothing kept but the count, at a mode and a place
abbrev kept_count : ℕ → ℕ → Sheet → State
kept_count m k s = record { mode = m; at = k; last = 0; bits = 0; kind = 0; deadline = 0; runs = 0; count = length s.lines }

-- what the code keeps of a state, beside the name and the tasks
abbrev pub pack : machine.State → State
pack (word opening k) = kept_count set_word k (record { name = []; lines = [] })
pack (word (kind s h) k) = kept_count (cond h hard_word soft_word) k s
pack (name n) = kept_count in_name (length n) (record { name = n; lines = [] })
pack (line s) = kept_count at_line 0 s
pack (field (deadline s h) xs v) =
    record { mode = in_deadline; at = v; last = 0; bits = 0; kind = kind_of h; deadline = 0; runs = 0; count = length s.lines }
pack (field (runs s h d) xs v) =
    record { mode = in_runs; at = v; last = (kept xs).last; bits = (kept xs).bits; kind = kind_of h; deadline = d; runs = 0; count = length s.lines }
pack (field (gaps s h d c) xs v) =
    record { mode = in_gaps; at = v; last = (kept xs).last; bits = (kept xs).bits; kind = kind_of h; deadline = d; runs = list_of c; count = length s.lines }
pack fault = blank_of at_fault

-- the set so far, after a byte that leads from s to n
abbrev pub set_after : Set → State → State → ℕ → Set
set_after k s n b = record { name = name_after k.name s n b; count = n.count; tasks = tasks_after k.tasks s n }

-- the next of a padded list is put at its end
padded_set : {A : Type 0} (n : ℕ) (d : A) (xs : List A) (x : A) → length xs < n → set (padded n d xs) (length xs) x ≡ padded n d (xs ++ (x ∷ []))
unfolding padded
padded_set n d xs x h =
    let e : n - length xs ≡ suc (n - length (xs ++ (x ∷ []))) = omega (arith, length-append xs (x ∷ [])) in
    ap (λ k. set (xs ++ replicate k d) (length xs) x) e ∙ set_at xs d (replicate (n - length (xs ++ (x ∷ []))) d) x (length xs) refl
    ∙ sym (append_assoc xs (x ∷ []) (replicate (n - length (xs ++ (x ∷ []))) d))

add_count : (s : Sheet) (l : Line) → length s.lines + 1 ≡ length (add s l).lines
add_count s l = omega (arith, length-append s.lines (l ∷ []))

add_task : (s : Sheet) (l : Line) → length s.lines < 7 → set (set_of s).tasks (length s.lines) (task_of l) ≡ (set_of (add s l)).tasks
add_task s l h =
    let e : length (map task_of s.lines) ≡ length s.lines = length-map s.lines task_of in
    ap (λ k. set (set_of s).tasks k (task_of l)) (sym e) ∙ padded_set 7 no_task (map task_of s.lines) (task_of l) (omega arith)
    ∙ ap (padded 7 no_task) (sym (map-append task_of s.lines (l ∷ [])))

-- the byte b leads from what is kept of q to what is kept of p
pub record Packs (q : machine.State) (b : ℕ) (n : State) (p : machine.State) : Type 0 where
  pub is : n ≡ pack p
  pub says : (n.mode ≡ at_fault → ⊥) → set_after (set_of (sheet_in q)) (pack q) n b ≡ set_of (sheet_in p)

-- both sides go by one test
both : (t : Bool) {q : machine.State} {b : ℕ} {x y : State} {p r : machine.State} → (T t → Packs q b x p) → (T (not t) → Packs q b y r) → Packs q b (cond t x y) (cond t p r)
both true f g = f tt
both false f g = g tt

-- nothing is added to the set
still : {q p : machine.State} {b : ℕ} → set_after (set_of (sheet_in q)) (pack q) (pack p) b ≡ set_of (sheet_in p) → Packs q b (pack p) p
still e = record { is = refl; says = λ m. e }

bad : {q : machine.State} {b : ℕ} → Packs q b (blank_of at_fault) fault
bad = record { is = refl; says = λ m. absurd (m refl) }

word_same : (w : Word) (k b : ℕ) → k < length (spell w) → Packs (word w k) b (step_of (pack (word w k)) b) (step (word w k) b)
unfolding step_of step word_of
word_same opening k b h = rw (lt-ltb k 4 h, add-one) (both (eqb b (get_or set_text k 0)) (λ e. both (ltb (suc k) 4) (λ l. still refl) (λ l. still refl)) (λ e. bad))
word_same (kind s true) k b h = rw (lt-ltb k 5 h, add-one) (both (eqb b (get_or (kind_text true) k 0)) (λ e. both (ltb (suc k) 5) (λ l. still refl) (λ l. still refl)) (λ e. bad))
word_same (kind s false) k b h = rw (lt-ltb k 5 h, add-one) (both (eqb b (get_or (kind_text false) k 0)) (λ e. both (ltb (suc k) 5) (λ l. still refl) (λ l. still refl)) (λ e. bad))

name_same : (n : List ℕ) (b : ℕ) → Packs (name n) b (step_of (pack (name n)) b) (step (name n) b)
unfolding step_of step name_of
name_same n b =
    both (name_byte b) (λ c. both (ltb (length n) 16) (λ l. more (ltb→lt (length n) 16 l)) (λ l. bad))
    (λ c. both (ltb 0 (length n) && eqb b 10) (λ l. still refl) (λ l. bad))
  where
    more : length n < 16 → Packs (name n) b (moved (pack (name n)) in_name (length n + 1)) (name (n ++ (b ∷ [])))
    more h =
        let e : length n + 1 ≡ length (n ++ (b ∷ [])) = omega (arith, length-append n (b ∷ [])) in
        record {
          is = ap (λ k. record { mode = in_name; at = k; last = 0; bits = 0; kind = 0; deadline = 0; runs = 0; count = 0 }) e;
          says = λ m. rw (lt-ltb (length n) 16 h) (ap (λ l. record { name = l; count = 0; tasks = padded 7 no_task [] }) (padded_set 16 0 n b h));
        }

line_same : (s : Sheet) (b : ℕ) → Packs (line s) b (step_of (pack (line s)) b) (step (line s) b)
unfolding step_of step line_start
line_same s b =
    both (ltb (length s.lines) 7) (λ r. both (eqb b 104) (λ e. still refl) (λ n. both (eqb b 115) (λ e. still refl) (λ m. bad))) (λ r. bad)

close_same : (f : Field) (xs : List ℕ) (v b : ℕ) → Ok (field f xs v) → 0 < v → Packs (field f xs v) b (closed_of (pack (field f xs v))) (close f xs v)
unfolding closed_of
close_same (deadline s h) xs v b o p = still refl
close_same (runs s h d) xs v b o p =
    let l : Values = record { firsts = xs; final = v } in
    let e = kept_list l (record { firsts = o.2; final = record { low = p; high = o.3 } }) in
    record { is = ap (λ n. record { mode = in_gaps; at = 0; last = 0; bits = 0; kind = kind_of h; deadline = d; runs = n; count = length s.lines }) e; says = λ m. refl }
close_same (gaps s h d c) xs v b o p =
    let k : Values = record { firsts = xs; final = v } in
    let l : Line = record { hard = h; deadline = d; runs = c; gaps = k } in
    let e = kept_list k (record { firsts = o.2; final = record { low = p; high = o.3 } }) in
    let room = o.0.0.high in
    let t : set (set_of s).tasks (length s.lines) (ended_task (pack (field (gaps s h d c) xs v))) ≡ (set_of (add s l)).tasks
    = ap (λ n. set (set_of s).tasks (length s.lines) (record { kind = kind_of h; deadline = d; runs = list_of c; gaps = n })) e ∙ add_task s l room in
    rw (lt-ltb (length s.lines) 7 room) (record {
      is = ap (λ n. record { mode = at_line; at = 0; last = 0; bits = 0; kind = 0; deadline = 0; runs = 0; count = n }) (add_count s l);
      says = λ m. rw (lt-ltb (length s.lines) 7 room) (λ i. record { name = padded 16 0 s.name; count = add_count s l i; tasks = t i });
    })

comma_same : (f : Field) (xs : List ℕ) (v b : ℕ) → T (many f) → Packs (field f xs v) b (comma_of (pack (field f xs v))) (field f (xs ++ (v ∷ [])) 0)
comma_same (deadline s h) xs v b t = absurd t
comma_same (runs s h d) xs v b t = record { is = rw kept_snoc refl; says = λ m. refl }
comma_same (gaps s h d c) xs v b t = record { is = rw kept_snoc refl; says = λ m. refl }

field_by : (f : Field) (xs : List ℕ) (v b : ℕ) {x y z : State} → let q = field f xs v in Packs q b x (field f xs (digit v b)) → (0 < v → Packs q b y (close f xs v)) → (T (many f) → Packs q b z (field f (xs ++ (v ∷ [])) 0))
    → Packs q b (cond (ltb 0 (digit v b)) x (cond (ltb 0 v) (cond (eqb b (ender f)) y (cond (many f && eqb b 44) z (blank_of at_fault))) (blank_of at_fault))) (step q b)
unfolding step
field_by f xs v b p q r =
    both (ltb 0 (digit v b)) (λ d. p) (λ d. both (ltb 0 v)
    (λ g. both (eqb b (ender f)) (λ e. q (ltb→lt 0 v g)) (λ n. both (many f && eqb b 44) (λ e. r (and_left (many f) _ e)) (λ e. bad))) (λ g. bad))

field_same : (f : Field) (xs : List ℕ) (v b : ℕ) → Ok (field f xs v) → Packs (field f xs v) b (step_of (pack (field f xs v)) b) (step (field f xs v) b)
unfolding step_of field_of ender_of
field_same (deadline s h) xs v b o = field_by (deadline s h) xs v b (still refl) (close_same (deadline s h) xs v b o) (comma_same (deadline s h) xs v b)
field_same (runs s h d) xs v b o = field_by (runs s h d) xs v b (still refl) (close_same (runs s h d) xs v b o) (comma_same (runs s h d) xs v b)
field_same (gaps s h d c) xs v b o = field_by (gaps s h d c) xs v b (still refl) (close_same (gaps s h d c) xs v b o) (comma_same (gaps s h d c) xs v b)

-- the code's step on what it keeps of a state gives what it keeps of the next, and adds to the set what the byte says
pub same : (q : machine.State) (b : ℕ) → Ok q → Packs q b (step_of (pack q) b) (step q b)
same (word w k) b o = word_same w k b o.1
same (name n) b o = name_same n b
same (line s) b o = line_same s b
same (field f xs v) b o = field_same f xs v b o
same fault b o = absurd o

-- the modes tell a fault, and a line's start
pub fault_mode : (q : machine.State) → Ok q → (pack q).mode < 8
fault_mode (word opening k) o = omega arith
fault_mode (word (kind s true) k) o = omega arith
fault_mode (word (kind s false) k) o = omega arith
fault_mode (name n) o = omega arith
fault_mode (line s) o = omega arith
fault_mode (field (deadline s h) xs v) o = omega arith
fault_mode (field (runs s h d) xs v) o = omega arith
fault_mode (field (gaps s h d c) xs v) o = omega arith
fault_mode fault o = absurd o

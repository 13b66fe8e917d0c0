-- The machine that reads a sheet byte by byte. Its state is what has been read.
use Rattle.std.specs.Prelude.{Bool, true, false, ◌&&◌, cond, List, [], ◌∷◌, ◌++◌, ℕ, suc, ◌+◌, ◌-◌, ◌*◌, leb, ltb, eqb, length, get_or}
use Rattle.sheet_form.specs.Form.{Values, Line, Sheet, kind_text, set_text}
use Rattle.tasks.specs.Sets.{name_byte}

-- a fixed word, with what stands before it
pub data Word : Type 0 where
  opening : Word
  kind : Sheet → Bool → Word

-- a number or a list, with what stands before it
pub data Field : Type 0 where
  deadline : Sheet → Bool → Field
  runs : Sheet → Bool → ℕ → Field
  gaps : Sheet → Bool → ℕ → Values → Field

-- what has been read of a sheet
pub data State : Type 0 where
  -- k bytes of a word
  word : Word → ℕ → State
  name : List ℕ → State
  -- whole lines
  line : Sheet → State
  -- numbers with their commas, and the number begun, 0 where none is
  field : Field → List ℕ → ℕ → State
  fault : State

-- its bytes
abbrev pub spell : Word → List ℕ
spell opening = set_text
spell (kind s h) = kind_text h

-- the state after its last byte
abbrev pub after : Word → State
after opening = name []
after (kind s h) = field (deadline s h) [] 0

-- the byte that ends a field
abbrev pub ender : Field → ℕ
ender (deadline s h) = 32
ender (runs s h d) = 32
ender (gaps s h d c) = 10

-- a field may hold several numbers
abbrev pub many : Field → Bool
many (deadline s h) = false
many (runs s h d) = true
many (gaps s h d c) = true

-- a sheet with one line more
abbrev pub add : Sheet → Line → Sheet
add s l = record { name = s.name; lines = s.lines ++ (l ∷ []) }

-- the field is closed: the next one, or the line's end
abbrev pub close : Field → List ℕ → ℕ → State
close (deadline s h) xs v = field (runs s h v) [] 0
close (runs s h d) xs v = field (gaps s h d (record { firsts = xs; final = v })) [] 0
close (gaps s h d c) xs v = line (add s (record { hard = h; deadline = d; runs = c; gaps = record { firsts = xs; final = v } }))

-- the number v with one digit more, 0 where the byte is none or the number leaves 1 to 16
unfoldable pub digit : ℕ → ℕ → ℕ
digit v b = cond (leb 48 b && leb b 57 && leb (10 * v + (b - 48)) 16) (10 * v + (b - 48)) 0

-- one byte
unfoldable pub step : State → ℕ → State
step (word w k) b = cond (eqb b (get_or (spell w) k 0)) (cond (ltb (suc k) (length (spell w))) (word w (suc k)) (after w)) fault
step (name n) b =
    cond (name_byte b) (cond (ltb (length n) 16) (name (n ++ (b ∷ []))) fault)
    (cond (ltb 0 (length n) && eqb b 10) (line (record { name = n; lines = [] })) fault)
step (line s) b =
    cond (ltb (length s.lines) 7) (cond (eqb b 104) (word (kind s true) 1) (cond (eqb b 115) (word (kind s false) 1) fault)) fault
step (field f xs v) b =
    cond (ltb 0 (digit v b)) (field f xs (digit v b))
    (cond (ltb 0 v) (cond (eqb b (ender f)) (close f xs v) (cond (many f && eqb b 44) (field f (xs ++ (v ∷ [])) 0) fault)) fault)
step fault b = fault

-- byte by byte
abbrev pub run : State → List ℕ → State
run s [] = s
run s (b ∷ t) = run (step s b) t

-- nothing read
abbrev pub start : State
start = word opening 0

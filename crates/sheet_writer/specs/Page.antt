-- A part of a list's text.
use Rattle.std.specs.Prelude.{cond, List, [], ℕ}
use Rattle.tasks.specs.Lists.{listed}
use Rattle.sheet_form.specs.Form.{with_comma}

-- a value with its comma, where the list has it
unfoldable pub value_text : ℕ → ℕ → List ℕ
value_text m v = cond (listed m v) (with_comma v) []

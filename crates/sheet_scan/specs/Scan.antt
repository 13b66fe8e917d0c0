-- What one pass over a text finds, by the text's form.
use Rattle.std.specs.Prelude.{None, Some, List, ℕ, length}
use Rattle.sheet_form.specs.Form.{Form, fits, stops}
use Rattle.sheet_form.specs.Sets.{set_of}
use Rattle.sheet_form.proofs.Places.{form}
use Rattle.sheet_scan.specs.declared.Scanned.{Scanned}

abbrev pub stopped_at : ℕ → Scanned
stopped_at p = record { reach = p; set = None }

-- the whole of a sheet and its set; or the place where the form stops, and no set
abbrev pub scan_of : (t : List ℕ) → Form t → Scanned
scan_of t (fits m) = record { reach = length t; set = Some (set_of m.sheet) }
scan_of t (stops p f) = stopped_at p

-- every text has a form, and only one
unfoldable pub scan_text : List ℕ → Scanned
scan_text t = scan_of t (form t)

-- A kind is the number of its row on the page.
use mathlib.Core.Path.{◌≡◌, refl}
use mathlib.Core.List.{List, [], ◌∷◌, map}
use Prim.Native.Nat.{ℕ}
use lib.ListN.{get_or}
use Rattle.commands.specs.Texts.{bytes, parts}
use Rattle.commands.specs.Kinds as Kinds
use Rattle.commands.specs.Lines.{page, rows}

abbrev kinds : List ℕ
kinds =
    Kinds.reset ∷ Kinds.fill ∷ Kinds.cut ∷ Kinds.poke ∷ Kinds.show ∷ Kinds.sum ∷ Kinds.text ∷ Kinds.read ∷ Kinds.next ∷ Kinds.past ∷ Kinds.sheet ∷ Kinds.name ∷ Kinds.count
    ∷ Kinds.kind ∷ Kinds.deadline ∷ Kinds.runs ∷ Kinds.gaps ∷ Kinds.show_set ∷ Kinds.test_set ∷ Kinds.build ∷ Kinds.test_table ∷ Kinds.write
    ∷ Kinds.open_file ∷ Kinds.print ∷ Kinds.start ∷ Kinds.ask ∷ Kinds.report ∷ Kinds.show_run ∷ Kinds.age ∷ Kinds.job ∷ Kinds.no_job ∷ Kinds.arrived
    ∷ Kinds.finished ∷ Kinds.replaced ∷ Kinds.ticks ∷ Kinds.substitutions ∷ Kinds.reading ∷ Kinds.awaited ∷ Kinds.nothing_awaited ∷ []

pub kinds_rows : map (λ k. get_or rows k []) kinds
    ≡ bytes "reset" ∷ bytes "fill U L B" ∷ bytes "cut U L" ∷ bytes "poke U O B" ∷ bytes "show U O C" ∷ bytes "sum U" ∷ bytes "text T" ∷ bytes "read"
    ∷ bytes "next H" ∷ bytes "past H" ∷ bytes "sheet" ∷ bytes "name N" ∷ bytes "count B" ∷ bytes "kind I B" ∷ bytes "deadline I B" ∷ bytes "runs I H" ∷ bytes "gaps I H"
    ∷ bytes "show set" ∷ bytes "test set" ∷ bytes "build" ∷ bytes "test table" ∷ bytes "write" ∷ bytes "open" ∷ bytes "print" ∷ bytes "start W" ∷ bytes "ask B"
    ∷ bytes "report W F B" ∷ bytes "show run" ∷ bytes "age I B" ∷ bytes "job I B" ∷ bytes "job I none" ∷ bytes "arrived I W"
    ∷ bytes "finished I W" ∷ bytes "replaced I W" ∷ bytes "ticks W" ∷ bytes "substitutions W" ∷ bytes "reading W" ∷ bytes "awaited B"
    ∷ bytes "awaited none" ∷ []
unfolding page parts
kinds_rows = refl

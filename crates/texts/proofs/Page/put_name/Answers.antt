-- The name's characters are within it.
use native.Mathlib.Omega.{arith}
use lib.ListN.{length-take}
use Rattle.tasks.proofs.SetLaws.{characters_le}
use Rattle.texts.proofs.Page.put_name.Goals as goal

pub slice_bounds-name-end : goal.slice_bounds-name-end
slice_bounds-name-end c = omega (arith, characters_le c.args.name)

pub slice_bounds-put_word-end : goal.slice_bounds-put_word-end
slice_bounds-put_word-end c =
    omega (arith, characters_le c.args.name, length-take c.name_length-n.result c.args.name)

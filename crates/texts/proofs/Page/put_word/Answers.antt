-- The bytes before the index are put.
use Rattle.texts.proofs.PutLaws.{adds_more}
use Rattle.texts.proofs.Page.put_word.Goals as goal

pub loop-b-preserved : goal.loop-b-preserved
loop-b-preserved c = adds_more _ c.loop-b.b-index c.loop-b-test.true c.loop-b.invariant c.put.ensures

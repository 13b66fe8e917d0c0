-- What `position` finds, and the length where it finds none.
use Rattle.std.proofs.Common.{◌∙◌}
use Rattle.commands.proofs.TextLaws.{index_found}
use Rattle.commands.proofs.texts.find.Goals as goal

pub returns-clause-value : goal.returns-clause-value
returns-clause-value c = c.unwrap_or.ensures ∙ rw c.first.ensures (index_found c.args.mark c.args.text.now)

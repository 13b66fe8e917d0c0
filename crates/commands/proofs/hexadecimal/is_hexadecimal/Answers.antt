-- What `all` answers.
use Rattle.std.proofs.Common.{rules}
use Rattle.commands.specs.Words.{is_hex}
use Rattle.commands.proofs.WordLaws.{each_is}
use Rattle.commands.proofs.hexadecimal.is_hexadecimal.Goals as goal

pub returns : goal.returns
returns c = each_is is_hex c.args.word.now c.all.result (search rules) (search rules)

use Rattle.std.proofs.Common.{length}
use Rattle.paper.proofs.commands.setting.Given as goal

abbrev pub decreases-loop-text : goal.decreases-loop-text
decreases-loop-text l = length l.words.rest.now

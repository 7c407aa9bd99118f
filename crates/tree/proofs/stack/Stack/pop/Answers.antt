use Rattle.std.proofs.Common.{arith}
use Rattle.tree.proofs.Stacks.{entries_less, beyond_less}
use Rattle.tree.proofs.stack.Stack.pop.Goals as goal

pub returns : goal.returns
returns g c =
    let xs = c.args.self.now.memory.now in
    let n = c.args.self.now.len in
    record { entries = entries_less xs n _ (omega arith) (omega arith); untouched = beyond_less xs n _ (omega arith) (omega arith) }

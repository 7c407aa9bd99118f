use Rattle.std.proofs.Common.{length, refl, ap, arith, length-drop}
use Rattle.std.proofs.lemmas.List.{drop_all}
use Rattle.tree.specs.Stacks.{Pushed}
use Rattle.tree.proofs.Stacks.{entries_more, beyond_more}
use Rattle.tree.proofs.stack.Stack.push.Goals as goal

pub returns-then-self : goal.returns-then-self
returns-then-self g c =
    let full = drop_all c.args.self.now.len c.args.self.now.memory.now (omega arith) in
    record { fits = λ room. absurd (omega (arith, room, ap length full)); answer = (refl, full, refl) }

pub returns : goal.returns
returns g c =
    let xs = c.args.self.now.memory.now in
    let n = c.args.self.now.len in
    let pushed : Pushed c.args.self.now c.args.entry _ = record { had_room = simp length-drop (omega arith); entries = entries_more xs n _ (omega arith); untouched = beyond_more xs n _ } in
    record { fits = λ _. pushed; answer = pushed }

use Rattle.std.proofs.Common.{◌+◌, ◌-◌, ◌++◌, reverse, length, take, sym, ap, ◌∙◌, arith}
use Rattle.std.proofs.lemmas.List.{reverse-append, drop-drop}
use Rattle.std.proofs.lemmas.Slice.{take-put_mid, drop-put_mid}
use Rattle.tree.proofs.stack.Stack.push_all.Goals as goal

pub returns : goal.returns
returns g c =
    let s = c.args.self.now in
    let n = s.len in
    let xs = c.args.entries.now in
    let ys = c.copy_from_slice.new.self in
    let copied = c.copy_from_slice.ensures.after in
    record {
      had_room = omega arith;
      entries = ap reverse (take-put_mid n (n + length xs - n) s.memory.now ys (n + length xs) (omega (arith, ap length copied)) (omega arith))
          ∙ ap (λ zs. reverse (take n s.memory.now ++ zs)) copied ∙ reverse-append (take n s.memory.now) xs;
      untouched = drop-put_mid n (n + length xs - n) s.memory.now ys (n + length xs) (omega arith) (omega arith) (omega (arith, ap length copied))
          ∙ sym (drop-drop (length xs) n s.memory.now);
    }

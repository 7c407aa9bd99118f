use Rattle.std.proofs.Common.{[], ◌∷◌, sym, refl, ap, ◌∙◌}
use Rattle.operators.specs.declared.Binary.TheVariants.{Add, Mul}
use Rattle.pattern.specs.declared.items.Item.TheVariants.{Operand, Binary, Constant}
use Rattle.pattern.specs.Shapes.{reading}
use Rattle.pattern.proofs.Same.{same_interval}
use Rattle.processor.proofs.Tables.{some_of, pattern_made}
use Rattle.stk.specs.Table.{every_word, one_alone, stack_place, meaning_of}
use Rattle.stk.proofs.opcodes.Opcode.meaning.Goals as goal

pub returns-in_ok-ok_or-in-Push : goal.returns-in_ok-ok_or-in-Push
returns-in_ok-ok_or-in-Push c =
    let range = some_of _ _ c.new.result _ c.new.ensures c.in_ok-ok_or-in-Push.ensures.ok_part in
    pattern_made c.try_from.result _ _ c.try_from.ensures refl
    (ap (λ i. Constant i ∷ []) (same_interval c.in_ok-ok_or-in-Push.field-0 every_word range.0 range.1)
    ∙ sym (ap (λ o. reading (meaning_of o)) c.in-Push.is))

pub returns-in_ok-ok_or-in-Inc : goal.returns-in_ok-ok_or-in-Inc
returns-in_ok-ok_or-in-Inc c =
    let range = some_of _ _ c.new-in-Inc.result _ c.new-in-Inc.ensures c.in_ok-ok_or-in-Inc.ensures.ok_part in
    pattern_made c.try_from-in-Inc.result _ _ c.try_from-in-Inc.ensures refl
    (ap (λ i. Binary Add ∷ Operand stack_place ∷ Constant i ∷ []) (same_interval c.in_ok-ok_or-in-Inc.field-0 one_alone range.0 range.1)
    ∙ sym (ap (λ o. reading (meaning_of o)) c.in-Inc.is))

pub returns-in_ok-ok_or-in-Madd : goal.returns-in_ok-ok_or-in-Madd
returns-in_ok-ok_or-in-Madd c =
    let range = some_of _ _ c.new-in-Madd.result _ c.new-in-Madd.ensures c.in_ok-ok_or-in-Madd.ensures.ok_part in
    pattern_made c.try_from-in-Madd.result _ _ c.try_from-in-Madd.ensures refl
    (ap (λ i. Binary Add ∷ Operand stack_place ∷ Binary Mul ∷ Operand stack_place ∷ Constant i ∷ []) (same_interval c.in_ok-ok_or-in-Madd.field-0 every_word range.0 range.1)
    ∙ sym (ap (λ o. reading (meaning_of o)) c.in-Madd.is))

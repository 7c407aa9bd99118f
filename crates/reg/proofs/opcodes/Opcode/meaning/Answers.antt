use Rattle.std.proofs.Common.{[], ◌∷◌, sym, refl, ap, ◌∙◌}
use Rattle.operators.specs.declared.Binary.TheVariants.{Add, Shl}
use Rattle.pattern.specs.declared.items.Item.TheVariants.{Operand, Binary, Constant}
use Rattle.pattern.specs.Shapes.{reading}
use Rattle.pattern.proofs.Same.{same_interval}
use Rattle.processor.proofs.Tables.{some_of, pattern_made}
use Rattle.reg.specs.Table.{data_place, address_place, meaning_of}
use Rattle.reg.proofs.opcodes.Opcode.meaning.Goals as goal

pub returns-in_ok-ok_or-in-Ldi : goal.returns-in_ok-ok_or-in-Ldi
returns-in_ok-ok_or-in-Ldi c =
    let range = some_of _ _ c.new.result _ c.new.ensures c.in_ok-ok_or-in-Ldi.ensures.ok_part in
    pattern_made c.try_from.result _ _ c.try_from.ensures refl
    (ap (λ i. Constant i ∷ []) (same_interval c.in_ok-ok_or-in-Ldi.field-0 _ range.0 range.1) ∙ sym (ap (λ o. reading (meaning_of o)) c.in-Ldi.is))

pub returns-in_ok-ok_or-in-Ldq : goal.returns-in_ok-ok_or-in-Ldq
returns-in_ok-ok_or-in-Ldq c =
    let range = some_of _ _ c.new-in-Ldq.result _ c.new-in-Ldq.ensures c.in_ok-ok_or-in-Ldq.ensures.ok_part in
    pattern_made c.try_from-in-Ldq.result _ _ c.try_from-in-Ldq.ensures refl
    (ap (λ i. Constant i ∷ []) (same_interval c.in_ok-ok_or-in-Ldq.field-0 _ range.0 range.1) ∙ sym (ap (λ o. reading (meaning_of o)) c.in-Ldq.is))

pub returns-in_ok-ok_or-in-Addi : goal.returns-in_ok-ok_or-in-Addi
returns-in_ok-ok_or-in-Addi c =
    let range = some_of _ _ c.new-in-Addi.result _ c.new-in-Addi.ensures c.in_ok-ok_or-in-Addi.ensures.ok_part in
    pattern_made c.try_from-in-Addi.result _ _ c.try_from-in-Addi.ensures refl
    (ap (λ i. Binary Add ∷ Operand data_place ∷ Constant i ∷ []) (same_interval c.in_ok-ok_or-in-Addi.field-0 _ range.0 range.1) ∙ sym (ap (λ o. reading (meaning_of o)) c.in-Addi.is))

pub returns-in_ok-ok_or-in-Shli : goal.returns-in_ok-ok_or-in-Shli
returns-in_ok-ok_or-in-Shli c =
    let range = some_of _ _ c.new-in-Shli.result _ c.new-in-Shli.ensures c.in_ok-ok_or-in-Shli.ensures.ok_part in
    pattern_made c.try_from-in-Shli.result _ _ c.try_from-in-Shli.ensures refl
    (ap (λ i. Binary Shl ∷ Operand data_place ∷ Constant i ∷ []) (same_interval c.in_ok-ok_or-in-Shli.field-0 _ range.0 range.1) ∙ sym (ap (λ o. reading (meaning_of o)) c.in-Shli.is))

pub returns-in_ok-ok_or-in-Lea : goal.returns-in_ok-ok_or-in-Lea
returns-in_ok-ok_or-in-Lea c =
    let range = some_of _ _ c.new-in-Lea.result _ c.new-in-Lea.ensures c.in_ok-ok_or-in-Lea.ensures.ok_part in
    pattern_made c.try_from-in-Lea.result _ _ c.try_from-in-Lea.ensures refl
    (ap (λ i. Binary Add ∷ Operand address_place ∷ Binary Shl ∷ Operand data_place ∷ Constant i ∷ []) (same_interval c.in_ok-ok_or-in-Lea.field-0 _ range.0 range.1) ∙ sym (ap (λ o. reading (meaning_of o)) c.in-Lea.is))

pub returns-in_ok-ok_or-in-Adda : goal.returns-in_ok-ok_or-in-Adda
returns-in_ok-ok_or-in-Adda c =
    let range = some_of _ _ c.new-in-Adda.result _ c.new-in-Adda.ensures c.in_ok-ok_or-in-Adda.ensures.ok_part in
    pattern_made c.try_from-in-Adda.result _ _ c.try_from-in-Adda.ensures refl
    (ap (λ i. Binary Add ∷ Operand address_place ∷ Constant i ∷ []) (same_interval c.in_ok-ok_or-in-Adda.field-0 _ range.0 range.1) ∙ sym (ap (λ o. reading (meaning_of o)) c.in-Adda.is))

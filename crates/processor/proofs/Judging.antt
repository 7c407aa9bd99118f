-- When an issue and a store are allowed, by the checks in their order.
use Rattle.std.proofs.Common.{◌≡◌, ℕ, zero, suc, ◌+◌, ◌-◌, ◌<◌, ◌≤◌, Bool, true, false, List, [], ◌∷◌, length, take, Some, None, Option, sym, refl, ap, ◌∙◌, subst, arith, length-drop}
use Rattle.std.specs.Str.{bytes_eq}
use Rattle.std.proofs.lemmas.Slice.Eq.{bytes_eq-Decides}
use Rattle.std.proofs.lemmas.Bool.{both_ways}
use Rattle.tree.specs.Refusals.{turn_of, RefusedBy, GrantedBy}
use Rattle.pattern.specs.Patterns.{items_of}
use Rattle.board.specs.declared.instructions.Instruction.{Instruction}
use Rattle.board.specs.Machines.{Machine, Operation, operation_of, operand_letters, operation_leaves, arity, leaf_total}
use Rattle.board.specs.Payloads.{admits_all}
use Rattle.board.specs.Instructions.{operand_list, leaf_list, instruction_operands, instruction_leaves, Denotes}
use Rattle.board.specs.Acts.{last_of, board_order, IssueFails, unknown_opcode, operands_lacking, payload_barred, too_deep, no_room, StoreFails, operand_lacking, variable_over, no_room_to_store}
use Rattle.board.proofs.Lists.{operands_counted, leaves_counted, operands_read, leaves_read}
use Rattle.processor.specs.Boards.{IssueAllowed, StoreAllowed}

pub some_same : {X : Type 0} {x y : X} {o : Option X} → o ≡ Some x → o ≡ Some y → x ≡ y
some_same {X} {x} {y} p q = let e : Some x ≡ Some y = sym p ∙ q in cc

pub none_some : {X : Type 0} {x : X} {o : Option X} → o ≡ None → o ≡ Some x → ⊥
none_some {X} {x} p q = let e : None ≡ Some x = sym p ∙ q in let z : ◌≡◌ {A = ℕ} 0 1 = cc in omega arith

-- an instruction's operands and leaves are its operation's
module _ (i : Instruction) (o : Operation) (is : Denotes i o) where
  pub operands_are : instruction_operands i ≡ operand_letters o
  operands_are = ap operand_list is.meaning_is ∙ operands_read o.shape

  pub leaves_are : instruction_leaves i ≡ operation_leaves o
  leaves_are = ap leaf_list is.meaning_is ∙ leaves_read o.shape

  pub arity_is : i.meaning.operands ≡ arity o
  arity_is = i.meaning.counted ∙ sym (operands_counted (items_of i.meaning)) ∙ ap length operands_are

  pub leaf_total_is : i.meaning.leaves ≡ leaf_total o
  leaf_total_is = i.meaning.tallied ∙ sym (leaves_counted (items_of i.meaning)) ∙ ap length leaves_are

  -- what the test of the operands that wait says
  pub waits_from : (w : List ℕ) → bytes_eq (last_of (length (instruction_operands i)) w) (instruction_operands i) ≡ true → last_of (arity o) w ≡ operand_letters o
  waits_from w e =
      (bytes_eq-Decides _ _).0 (subst (λ ls. bytes_eq (last_of (length ls) w) ls ≡ true) operands_are e)

  pub lacks_from : (w : List ℕ) → bytes_eq (last_of (length (instruction_operands i)) w) (instruction_operands i) ≡ false → last_of (arity o) w ≡ operand_letters o → ⊥
  lacks_from w e h =
      both_ways _ (subst (λ ls. bytes_eq (last_of (length ls) w) ls ≡ false) operands_are e) ((bytes_eq-Decides _ _).1 h)

  -- the leaves admit these payloads, or not
  pub admits_at : (ws : List ℕ) {r b : Bool} → r ≡ admits_all (instruction_leaves i) ws → r ≡ b → admits_all (operation_leaves o) ws ≡ b
  admits_at ws e h = ap (λ ls. admits_all ls ws) (sym leaves_are) ∙ sym e ∙ h

-- the last operands that wait are as many as that
pub enough_wait : (w ls : List ℕ) → last_of (length ls) w ≡ ls → length ls ≤ length w
enough_wait w ls e = omega (arith, ap length e, length-drop (length w - length ls) w)

module _ (m : Machine) (w : List ℕ) (free op a b : ℕ) where
  -- where nothing speaks against an issue, no condition holds
  pub issue_granted : (o : Operation) → IssueAllowed m w free op a b o → GrantedBy (IssueFails m w free op a b)
  issue_granted o h k p (unknown_opcode _ _ e) = none_some e h.is
  issue_granted o h k p (operands_lacking q _ _ e f) =
      f (subst (λ x. last_of (arity x) w ≡ operand_letters x) (some_same h.is e) h.operands_wait)
  issue_granted o h k p (payload_barred q _ _ e f) =
      both_ways (admits_all (operation_leaves q) (a ∷ b ∷ [])) f (subst (λ x. admits_all (operation_leaves x) (a ∷ b ∷ []) ≡ true) (some_same h.is e) h.admitted_both)
  issue_granted o h k p (too_deep q _ _ e f) =
      let g = subst (λ x. length w - arity x + 1 ≤ m.deepest) (some_same h.is e) h.shallow in omega arith
  issue_granted o h k p (no_room q _ _ e f) =
      let g = subst (λ x. 1 + leaf_total x ≤ free) (some_same h.is e) h.room in omega arith

  turned : {j n t : ℕ} → j ≡ n → turn_of board_order j < t → turn_of board_order n < t
  turned {j} {n} {t} e l = subst (λ x. turn_of board_order x < t) e l

  -- no condition of a turn below t holds where what is checked before is in order
  pub issue_none_before : (o : Operation) → operation_of m op ≡ Some o → (t : ℕ) → (1 < t → last_of (arity o) w ≡ operand_letters o) → (2 < t → admits_all (operation_leaves o) (a ∷ b ∷ []) ≡ true) → (3 < t → length w - arity o + 1 ≤ m.deepest) → t ≤ 4 → (j q : ℕ) → turn_of board_order j < t → IssueFails m w free op a b j q → ⊥
  issue_none_before o is t h2 h3 h4 few j q l (unknown_opcode _ _ e) = none_some e is
  issue_none_before o is t h2 h3 h4 few j q l (operands_lacking x n _ e f) =
      f (subst (λ y. last_of (arity y) w ≡ operand_letters y) (some_same is e) (h2 (turned n l)))
  issue_none_before o is t h2 h3 h4 few j q l (payload_barred x n _ e f) =
      both_ways (admits_all (operation_leaves x) (a ∷ b ∷ [])) f (subst (λ y. admits_all (operation_leaves y) (a ∷ b ∷ []) ≡ true) (some_same is e) (h3 (turned n l)))
  issue_none_before o is t h2 h3 h4 few j q l (too_deep x n _ e f) =
      let g = subst (λ y. length w - arity y + 1 ≤ m.deepest) (some_same is e) (h4 (turned n l)) in omega arith
  issue_none_before o is t h2 h3 h4 few j q l (no_room x n _ e f) = let late : 4 < t = turned n l in omega arith

  module _ (o : Operation) (is : operation_of m op ≡ Some o) where
    pub refused_operands : (last_of (arity o) w ≡ operand_letters o → ⊥) → RefusedBy board_order (IssueFails m w free op a b) 22 (length w)
    refused_operands f = record {
      applies = operands_lacking o refl refl is f;
      none_before = issue_none_before o is 1 (λ l. absurd (omega arith)) (λ l. absurd (omega arith)) (λ l. absurd (omega arith)) (omega arith);
    }

    module _ (wait : last_of (arity o) w ≡ operand_letters o) where
      pub refused_payload : admits_all (operation_leaves o) (a ∷ b ∷ []) ≡ false → RefusedBy board_order (IssueFails m w free op a b) 23 (length w)
      refused_payload f = record {
        applies = payload_barred o refl refl is f;
        none_before = issue_none_before o is 2 (λ l. wait) (λ l. absurd (omega arith)) (λ l. absurd (omega arith)) (omega arith);
      }

      module _ (admitted_both : admits_all (operation_leaves o) (a ∷ b ∷ []) ≡ true) where
        pub refused_depth : m.deepest < length w - arity o + 1 → RefusedBy board_order (IssueFails m w free op a b) 24 (length w)
        refused_depth f = record {
          applies = too_deep o refl refl is f;
          none_before = issue_none_before o is 3 (λ l. wait) (λ l. admitted_both) (λ l. absurd (omega arith)) (omega arith);
        }

        pub refused_room : length w - arity o + 1 ≤ m.deepest → free < 1 + leaf_total o → RefusedBy board_order (IssueFails m w free op a b) 25 (length w)
        refused_room h f = record {
          applies = no_room o refl refl is f;
          none_before = issue_none_before o is 4 (λ l. wait) (λ l. admitted_both) (λ l. h) (omega arith);
        }

module _ (m : Machine) (w : List ℕ) (free v : ℕ) where
  pub store_granted : StoreAllowed m w free v → GrantedBy (StoreFails m w free v)
  store_granted h k p (operand_lacking _ _ f) = f h.operand_waits
  store_granted h k p (variable_over _ _ f) = omega (arith, h.within)
  store_granted h k p (no_room_to_store _ _ f) = omega (arith, h.room)

-- a first word and at most one payload, at the front of two places
pub front_words : (n f a b : ℕ) → n ≤ 1 → take (1 + n) (f ∷ a ∷ []) ≡ f ∷ take n (a ∷ b ∷ [])
front_words zero f a b h = refl
front_words (suc zero) f a b h = refl
front_words (suc (suc n)) f a b h = absurd (omega arith)

use Rattle.std.proofs.Common.{◌≡◌, ℕ, List, [], ◌∷◌, length, replicate, refl}
use Rattle.std.specs.List.{AllByRecursion}
use Rattle.processor.specs.Codes.{decoded}
use Rattle.processor.specs.CodedBoards.{code_words, waiting_places}
use Rattle.processor.proofs.Letters.{letters_all}
use Rattle.stk.specs.Table.{stack_place}
use Rattle.stk.specs.Designs.{stk_design}
use Rattle.stk.specs.Soundness.{result_in_stack}
use Rattle.stk.proofs.laws.waits_in_s.Goals as goal

all_same : (w : List ℕ) → AllByRecursion (λ a. a ≡ stack_place) w → w ≡ replicate (length w) stack_place
all_same [] h = refl
all_same (a ∷ w) h = λ i. h.0 i ∷ all_same w h.1 i

pub returns : goal.returns
returns c b =
    all_same (waiting_places b)
    (letters_all stk_design (λ a. a ≡ stack_place) result_in_stack (waiting_places b) (decoded stk_design (code_words b)) b.belongs.2)

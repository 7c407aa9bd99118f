-- What an evaluation of statements leaves in the variables, and when it is refused.
use Rattle.std.specs.Prelude.{◌≡◌, ℕ, List, [], ◌∷◌, ◌++◌, length, Some, None, Option, ◌≢◌}
use Rattle.std.specs.List.{AllByRecursion}
use Rattle.tree.specs.declared.nodes.Statement.{Statement}
use Rattle.tree.specs.Trees.{Assignment, evaluated}
use Rattle.tree.specs.Statements.{StatementDenied, StatementGranted, Stands}

-- the statement is granted
abbrev pub Granted : Statement → Type 0
Granted s = StatementGranted s.target s.nodes.now

-- the statement is refused with number k at place p
abbrev pub Denied : Statement → ℕ → ℕ → Type 0
Denied s = StatementDenied s.target s.nodes.now

-- the statement is this assignment: its nodes are the postfix of that tree, within the limits
pub record Says (s : Statement) (a : Assignment) : Type 0 where
  pub target_is : s.target ≡ a.assigned
  pub stands : Stands s.target s.nodes.now a.expression

-- each statement is the assignment at its place
abbrev pub SayAll : List Statement → List Assignment → Type 0
SayAll [] [] = Unit {0}
SayAll [] (a ∷ rest) = ⊥
SayAll (s ∷ ss) [] = ⊥
SayAll (s ∷ ss) (a ∷ rest) = Says s a × SayAll ss rest

-- statement i is the first that is refused, and by number k at place p
pub record FirstDenied (ss : List Statement) (i k p : ℕ) : Type 0 where
  pub before : List Statement
  pub refused : Statement
  pub after : List Statement
  pub split : ss ≡ before ++ refused ∷ after
  pub counted : length before ≡ i
  pub granted_before : AllByRecursion Granted before
  pub denied : Denied refused k p

-- an evaluation over the variables σ is refused with number k at place p, in which statement if in any:
-- 34 for a wrong count of variables comes first, then the first statement that is refused
pub data EvaluationDenied (ss : List Statement) (σ : List ℕ) (k p : ℕ) (which : Option ℕ) : Type 0 where
  wrong_count : k ≡ 34 → p ≡ length σ → which ≡ None → (length σ ≢ 64) → EvaluationDenied ss σ k p which
  in_statement : (i : ℕ) → length σ ≡ 64 → which ≡ Some i → FirstDenied ss i k p → EvaluationDenied ss σ k p which

-- the statements are assignments, and these in order take the variables from σ to σ'
pub record Evaluated (ss : List Statement) (σ σ' : List ℕ) : Type 0 where
  pub counted : length σ ≡ 64
  pub assignments : List Assignment
  pub says : SayAll ss assignments
  pub leaves : σ' ≡ evaluated assignments σ

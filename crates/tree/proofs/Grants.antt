-- A statement is granted exactly if its nodes are the postfix of a tree within the limits.
use Rattle.std.proofs.Common.{◌≡◌, ℕ, zero, suc, ◌<◌, ◌≤◌, List, [], ◌∷◌, ◌++◌, length, Some, sym, refl, ap, ◌∙◌, subst, arith}
use native.Mathlib.Decide.{dec_lt}
use Rattle.std.specs.List.{AllByRecursion}
use Rattle.std.proofs.ByRecursion.{All-get_or, All-from_get_or, All-append}
use Rattle.operators.specs.declared.Operator.{Operator}
use Rattle.operators.specs.declared.Operator.TheVariants.{Var, One, Two}
use Rattle.tree.specs.declared.nodes.Node.{Node}
use Rattle.operators.specs.Operators.{operator_number, operator_of}
use Rattle.tree.specs.Trees.{Tree, cnst, var, one, two, node_count, postfix, VariablesWithin}
use Rattle.tree.specs.Refusals.{FirstBelow, NoneBelow}
use Rattle.tree.specs.Statements.{StatementGranted, Stands, GrantedIsTree, FaultyAt, VariableOver, standing, parts_of, too_many, faulty, no_tree, variable_over, target_over}
use Rattle.operators.proofs.Numbers.{operator_of_number}
use Rattle.tree.proofs.Conditions.{none_11, none_13, granted}
use Rattle.tree.proofs.Forests.{newest, forest, flat, clean_below, below_clean, stood, postfix_clean, standing-postfix, length-postfix, at_least, equal_from}

-- where there is no first, there is none
none_below : (n : ℕ) (P : ℕ → Type 0) → ((i : ℕ) → FirstBelow n P i → ⊥) → (k : ℕ) → k ≤ n → NoneBelow k P
none_below n P f zero h j lt p = omega arith
none_below n P f (suc k) h j lt p = go (none_below n P f k (omega arith)) (dec_lt j k)
  where
    go : NoneBelow k P → Dec (j < k) → ⊥
    go below (yes l) = below j l p
    go below (no m) = f j (record { within = omega arith; holds = p; none_before = λ i l q. below i (omega arith) q })

-- a node that names a variable names one up to 63
abbrev Within : Node → Type 0
Within x = x.operator ≡ operator_number Var → x.payload ≤ 63

no_variable : (o : Operator) → 0 < parts_of (Some o) → operator_number o ≡ operator_number Var → ⊥
no_variable o h e =
    let same : parts_of (Some o) ≡ 0 = ap parts_of (sym (operator_of_number o) ∙ ap operator_of e) in
    omega arith

all_left : (xs ys : List Node) → AllByRecursion Within (xs ++ ys) → AllByRecursion Within xs
all_left [] ys a = tt
all_left (x ∷ xs) ys a = (a.0, all_left xs ys a.1)

all_right : (xs ys : List Node) → AllByRecursion Within (xs ++ ys) → AllByRecursion Within ys
all_right [] ys a = a
all_right (x ∷ xs) ys a = all_right xs ys a.1

variables_from : (t : Tree) → AllByRecursion Within (postfix t) → VariablesWithin t
variables_from (cnst w) a = tt
variables_from (var v) a = a.0 refl
variables_from (one o t) a = variables_from t (all_left (postfix t) _ a)
variables_from (two o t u) a =
    (variables_from t (all_left (postfix t) _ a), variables_from u (all_left (postfix u) _ (all_right (postfix t) _ a)))

all_from : (t : Tree) → VariablesWithin t → AllByRecursion Within (postfix t)
all_from (cnst w) h = (λ e. omega arith, tt)
all_from (var v) h = (λ e. h, tt)
all_from (one o t) h = All-append Within (postfix t) _ (all_from t h) (λ e. absurd (no_variable (One o) (omega arith) e), tt)
all_from (two o t u) h =
    All-append Within (postfix t) _ (all_from t h.0)
    (All-append Within (postfix u) _ (all_from u h.1) (λ e. absurd (no_variable (Two o) (omega arith) e), tt))

-- a list of one tree
only : (ts : List Tree) → length ts ≡ 1 → flat ts ≡ postfix (newest ts)
only [] e = absurd (omega arith)
only (t ∷ []) e = refl
only (t ∷ u ∷ ts) e = absurd (omega arith)

none_of : (n : ℕ) (P : ℕ → Type 0) → ((i : ℕ) → FirstBelow n P i → ⊥) → NoneBelow n P
none_of n P f = none_below n P f n (omega arith)

pub tree_of : (v : ℕ) (xs : List Node) → StatementGranted v xs → (t : Tree) × Stands v xs t
tree_of v xs g =
    let clean = none_of (length xs) (FaultyAt xs) (λ i f. g 11 i (faulty refl f)) in
    let within = none_of (length xs) (VariableOver xs) (λ i f. g 13 i (variable_over refl f)) in
    let single = equal_from (standing 0 xs) 1 (λ n. g 11 (length xs) (no_tree refl refl clean n)) in
    let trees = stood [] xs (below_clean 0 xs clean) in
    let t = newest (forest [] xs) in
    let nodes : postfix t ≡ xs = sym (only (forest [] xs) (trees.count ∙ single)) ∙ trees.nodes in
    let short : length xs ≤ 256 = at_least (λ long. g 12 256 (too_many refl refl long)) in
    let each : AllByRecursion Within xs = All-from_get_or Within xs _ (λ i h e. at_least (λ over. within i h (e, over))) in (
      t,
      record {
        nodes_are = nodes;
        short = omega (arith, length-postfix t, ap length nodes);
        variables_within = variables_from t (subst (AllByRecursion Within) (sym nodes) each);
        target_within = at_least (λ over. g 13 (length xs) (target_over refl refl within over));
      },
    )

granted_tree : (v : ℕ) (t : Tree) → node_count t ≤ 256 → VariablesWithin t → v ≤ 63 → StatementGranted v (postfix t)
granted_tree v t short within target =
    granted v (postfix t) (omega (arith, length-postfix t))
    (none_11 v (postfix t) (clean_below 0 (postfix t) (postfix_clean t)) (standing-postfix t))
    (none_13 v (postfix t) (λ j h over. let w = All-get_or Within (postfix t) j _ h (all_from t within) over.0 in omega (arith, over.1)) target)

pub granted_is_tree_lem : GrantedIsTree
granted_is_tree_lem v xs =
    (tree_of v xs, λ t s. subst (StatementGranted v) s.nodes_are (granted_tree v t s.short s.variables_within s.target_within))

-- Values on a stack, beside the trees that they are the values of.
use Rattle.std.proofs.Common.{◌≡◌, ℕ, ◌+◌, ◌<◌, ◌≤◌, List, [], ◌∷◌, map, length, take, Some, None, Option, sym, refl, ap, ◌∙◌, arith}
use Rattle.std.proofs.lemmas.List.{take_more, length-map}
use Rattle.operators.specs.declared.Operator.{Operator}
use Rattle.operators.specs.declared.Operator.TheVariants.{Cnst, Var, One, Two}
use Rattle.tree.specs.declared.nodes.Node.{Node}
use Rattle.operators.specs.Operators.{operator_of, unary, binary}
use Rattle.tree.specs.Trees.{Tree, postfix, value_of}
use Rattle.tree.specs.Statements.{node_at}
use Rattle.tree.specs.Values.{top, under, values_by, values_after}
use Rattle.tree.proofs.Forests.{newest, older, joined_by, grown, forest, forest-append, forest-postfix}

top-map : (σ : List ℕ) (ts : List Tree) → top (map (value_of σ) ts) ≡ value_of σ (newest ts)
top-map σ [] = refl
top-map σ (t ∷ ts) = refl

under-map : (σ : List ℕ) (ts : List Tree) → under (map (value_of σ) ts) ≡ map (value_of σ) (older ts)
under-map σ [] = refl
under-map σ (t ∷ ts) = refl

-- the values of the trees that a node makes are what it makes of the values
pub values_grown : (σ : List ℕ) (ts : List Tree) (x : Node) → values_after σ x (map (value_of σ) ts) ≡ map (value_of σ) (grown ts x)
values_grown σ ts x = go (operator_of x.operator)
  where
    go : (op : Option Operator) → values_by op x.payload σ (map (value_of σ) ts) ≡ map (value_of σ) (joined_by op x.payload ts)
    go None = refl
    go (Some Cnst) = refl
    go (Some Var) = refl
    go (Some (One o)) = λ i. unary o (top-map σ ts i) ∷ under-map σ ts i
    go (Some (Two o)) =
        let second = ap top (under-map σ ts) ∙ top-map σ (older ts) in
        let rest = ap under (under-map σ ts) ∙ under-map σ (older ts) in
        λ i. binary o (second i) (top-map σ ts i) ∷ rest i

-- one node more, and no more trees than nodes
pub values_more : (σ : List ℕ) (xs : List Node) (i : ℕ) → i < length xs → values_after σ (node_at xs i) (map (value_of σ) (forest [] (take i xs))) ≡ map (value_of σ) (forest [] (take (i + 1) xs))
values_more σ xs i h =
    values_grown σ (forest [] (take i xs)) (node_at xs i)
    ∙ ap (map (value_of σ)) (sym (ap (forest []) (take_more xs i _ h) ∙ forest-append [] (take i xs) (node_at xs i ∷ [])))

grown-length : (ts : List Tree) (x : Node) → length (grown ts x) ≤ length ts + 1
grown-length ts x = go (operator_of x.operator)
  where
    less : (us : List Tree) → length (older us) ≤ length us
    less [] = omega arith
    less (t ∷ us) = omega arith

    go : (op : Option Operator) → length (joined_by op x.payload ts) ≤ length ts + 1
    go None = omega arith
    go (Some Cnst) = omega arith
    go (Some Var) = omega arith
    go (Some (One o)) = omega (arith, less ts)
    go (Some (Two o)) = omega (arith, less ts, less (older ts))

forest-length : (ts : List Tree) (xs : List Node) → length (forest ts xs) ≤ length ts + length xs
forest-length ts [] = omega arith
forest-length ts (x ∷ xs) = omega (arith, forest-length (grown ts x) xs, grown-length ts x)

pub values_few : (σ : List ℕ) (xs : List Node) → length (map (value_of σ) (forest [] xs)) ≤ length xs
values_few σ xs = omega (arith, length-map (forest [] xs) (value_of σ), forest-length [] xs)

-- the value of a whole tree
pub value_whole : (σ : List ℕ) (t : Tree) (xs : List Node) → postfix t ≡ xs → top (map (value_of σ) (forest [] xs)) ≡ value_of σ t
value_whole σ t xs e = ap (λ l. top (map (value_of σ) (forest [] l))) (sym e) ∙ ap (λ ts. top (map (value_of σ) ts)) (forest-postfix t [])

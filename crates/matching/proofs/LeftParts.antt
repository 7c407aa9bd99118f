-- Left parts: a front of the nodes and one node more, and what stands at the root of a subtree.
use Rattle.std.proofs.Common.{◌≡◌, ℕ, suc, ◌+◌, ◌-◌, ◌<◌, ◌≤◌, cond, eqb, List, [], ◌∷◌, ◌++◌, length, get_or, take, drop, Some, sym, refl, ap, ◌∙◌, append_assoc, arith, length-append, length-drop, take-append-drop}
use Rattle.std.proofs.lemmas.List.{get_or_at, take_more}
use Rattle.operators.specs.declared.Binary.{Binary}
use Rattle.operators.specs.declared.Operator.{Operator}
use Rattle.operators.specs.declared.Operator.TheVariants.{One, Two}
use Rattle.operators.proofs.Numbers.{operator_of_number}
use Rattle.tree.specs.declared.nodes.Node.{Node}
use Rattle.tree.specs.Trees.{Tree, cnst, var, one, two, node_of, postfix}
use Rattle.tree.specs.Statements.{parts_of, parts_taken, node_at}
use Rattle.tree.proofs.Forests.{length-postfix}
use Rattle.matching.specs.Subtrees.{root_of, SubtreeAt}
use Rattle.matching.specs.Parts.{left_part, roots_after, left_parts_from, left_parts, PartsAreRoots}
use Rattle.matching.proofs.Subtrees.{root_is}

-- the roots that stand after the nodes, the newest first
abbrev pub roots_from : ℕ → List ℕ → List Node → List ℕ
roots_from n rs [] = rs
roots_from n rs (x ∷ xs) = roots_from (suc n) (roots_after n rs x) xs

pub roots_append : (n : ℕ) (rs : List ℕ) (xs ys : List Node) → roots_from n rs (xs ++ ys) ≡ roots_from (n + length xs) (roots_from n rs xs) ys
roots_append n rs [] ys = let same : n ≡ n + 0 = omega arith in ap (λ k. roots_from k rs ys) same
roots_append n rs (x ∷ xs) ys =
    let same : suc n + length xs ≡ n + suc (length xs) = omega arith in
    roots_append (suc n) (roots_after n rs x) xs ys ∙ ap (λ k. roots_from k (roots_from (suc n) (roots_after n rs x) xs) ys) same

pub left_append : (n : ℕ) (rs : List ℕ) (xs ys : List Node) → left_parts_from n rs (xs ++ ys) ≡ left_parts_from n rs xs ++ left_parts_from (n + length xs) (roots_from n rs xs) ys
left_append n rs [] ys = let same : n ≡ n + 0 = omega arith in ap (λ k. left_parts_from k rs ys) same
left_append n rs (x ∷ xs) ys =
    let same : suc n + length xs ≡ n + suc (length xs) = omega arith in
    ap (λ l. left_part rs x ∷ l)
    (left_append (suc n) (roots_after n rs x) xs ys
    ∙ ap (λ k. left_parts_from (suc n) (roots_after n rs x) xs ++ left_parts_from k (roots_from (suc n) (roots_after n rs x) xs) ys) same)

pub length_left : (n : ℕ) (rs : List ℕ) (xs : List Node) → length (left_parts_from n rs xs) ≡ length xs
length_left n rs [] = refl
length_left n rs (x ∷ xs) = ap suc (length_left (suc n) (roots_after n rs x) xs)

-- one node more
module _ (xs : List Node) (i : ℕ) (h : i < length xs) where
  pub left_more : left_parts (take (i + 1) xs) ≡ left_parts (take i xs) ++ left_part (roots_from 0 [] (take i xs)) (node_at xs i) ∷ []
  left_more = ap left_parts (take_more xs i _ h) ∙ left_append 0 [] (take i xs) (node_at xs i ∷ [])

  pub roots_more : length (take i xs) ≡ i → roots_from 0 [] (take (i + 1) xs) ≡ roots_after i (roots_from 0 [] (take i xs)) (node_at xs i)
  roots_more e =
      let same : 0 + length (take i xs) ≡ i = omega arith in
      ap (roots_from 0 []) (take_more xs i _ h) ∙ roots_append 0 [] (take i xs) (node_at xs i ∷ [])
      ∙ ap (λ k. roots_after k (roots_from 0 [] (take i xs)) (node_at xs i)) same

few_roots : (n : ℕ) (rs : List ℕ) (xs : List Node) → length (roots_from n rs xs) ≤ length rs + length xs
few_roots n rs [] = omega arith
few_roots n rs (x ∷ xs) = omega (arith, few_roots (suc n) (roots_after n rs x) xs, length-drop (parts_taken x) rs)

pub roots_few : (xs : List Node) → length (roots_from 0 [] xs) ≤ length xs
roots_few xs = omega (arith, few_roots 0 [] xs)

-- the nodes of a tree leave its root
taken : (n : ℕ) (rs : List ℕ) (op : Operator) (w : ℕ) → roots_after n rs (node_of op w) ≡ n ∷ drop (parts_of (Some op)) rs
taken n rs op w = ap (λ o. n ∷ drop (parts_of o) rs) (operator_of_number op)

pub roots_postfix : (t : Tree) (n : ℕ) (rs : List ℕ) → roots_from n rs (postfix t) ≡ root_of n t ∷ rs
roots_postfix (cnst w) n rs = let same : n ≡ n + 1 - 1 = omega arith in ap (λ k. k ∷ rs) same
roots_postfix (var v) n rs = let same : n ≡ n + 1 - 1 = omega arith in ap (λ k. k ∷ rs) same
roots_postfix (one o t) n rs =
    let same : n + length (postfix t) ≡ root_of n (one o t) = omega (arith, length-postfix t) in
    roots_append n rs (postfix t) _ ∙ ap (λ qs. roots_after (n + length (postfix t)) qs (node_of (One o) 0)) (roots_postfix t n rs)
    ∙ taken _ _ (One o) 0 ∙ ap (λ k. k ∷ rs) same
roots_postfix (two o t u) n rs =
    let m = n + length (postfix t) in
    let same : m + length (postfix u) ≡ root_of n (two o t u) = omega (arith, length-postfix t, length-postfix u) in
    roots_append n rs (postfix t) _ ∙ ap (λ qs. roots_from m qs (postfix u ++ node_of (Two o) 0 ∷ [])) (roots_postfix t n rs)
    ∙ roots_append m (root_of n t ∷ rs) (postfix u) _
    ∙ ap (λ qs. roots_after (m + length (postfix u)) qs (node_of (Two o) 0)) (roots_postfix u m (root_of n t ∷ rs))
    ∙ taken _ _ (Two o) 0 ∙ ap (λ k. k ∷ rs) same

-- what stands at a node
left_at : (ys : List Node) (x : Node) (zs : List Node) (i : ℕ) → length ys ≡ i → get_or (left_parts (ys ++ x ∷ zs)) i 0 ≡ left_part (roots_from 0 [] ys) x
left_at ys x zs i e =
    ap (λ l. get_or l i 0) (left_append 0 [] ys (x ∷ zs))
    ∙ get_or_at (left_parts ys) _ _ 0 i (length_left 0 [] ys ∙ e)

two_left : (xs : List Node) (i n : ℕ) (o : Binary) (t u : Tree) → SubtreeAt xs i (two o t u) n → get_or (left_parts xs) i 0 ≡ root_of n t
two_left xs i n o t u s =
    let b = s.before in
    let x = node_of (Two o) 0 in
    let ys = (b ++ postfix t) ++ postfix u in
    let rest = drop (i + 1) xs in
    let front : take (i + 1) xs ≡ ys ++ x ∷ [] =
    s.split ∙ sym (append_assoc b (postfix t) _) ∙ sym (append_assoc (b ++ postfix t) (postfix u) _) in
    let whole : xs ≡ ys ++ x ∷ rest =
    sym (take-append-drop (i + 1) xs) ∙ ap (λ l. l ++ rest) front ∙ append_assoc ys (x ∷ []) rest in
    let long : length ys ≡ i =
    omega (arith, root_is xs i (two o t u) n s, s.counted, length-append (b ++ postfix t) (postfix u), length-append b (postfix t), length-postfix t, length-postfix u) in
    let m = 0 + length b in
    let same : m ≡ n = omega (arith, s.counted) in
    let roots : roots_from 0 [] ys ≡ root_of (0 + length (b ++ postfix t)) u ∷ root_of m t ∷ roots_from 0 [] b =
    roots_append 0 [] (b ++ postfix t) (postfix u)
    ∙ ap (λ qs. roots_from (0 + length (b ++ postfix t)) qs (postfix u)) (roots_append 0 [] b (postfix t) ∙ roots_postfix t m (roots_from 0 [] b))
    ∙ roots_postfix u _ _ in
    ap (λ l. get_or (left_parts l) i 0) whole ∙ left_at ys x rest i long ∙ ap (λ qs. left_part qs x) roots
    ∙ ap (λ op. cond (eqb (parts_of op) 2) (root_of m t) 0) (operator_of_number (Two o)) ∙ ap (λ k. root_of k t) same

pub parts_are_roots_lem : PartsAreRoots
parts_are_roots_lem xs i n = (
  λ o t u s. (
    two_left xs i n o t u s,
    let is = root_is xs i (two o t u) n s in
        omega arith,
  ),
  λ o t s. let is = root_is xs i (one o t) n s in omega arith,
)

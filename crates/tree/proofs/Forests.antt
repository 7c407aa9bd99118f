-- A list of nodes read from the left: the trees that stand side by side after it, the newest first.
-- From this: a list is the postfix of at most one tree, and exactly the lists without a fault are.
use Rattle.std.proofs.Common.{◌≡◌, ℕ, zero, suc, ◌+◌, ◌-◌, ◌<◌, ◌≤◌, List, [], ◌∷◌, ◌++◌, length, take, Some, None, Option, sym, refl, ap, ◌∙◌, subst, append_assoc, append-nil, arith, length-append}
use native.Mathlib.Decide.{ℕ_discrete}
use Rattle.operators.specs.declared.Operator.{Operator}
use Rattle.operators.specs.declared.Operator.TheVariants.{Cnst, Var, One, Two}
use Rattle.tree.specs.declared.nodes.Node.{Node}
use Rattle.operators.specs.Operators.{operator_of}
use Rattle.operators.proofs.Numbers.{operator_of_number, number_of_operator}
use Rattle.tree.specs.Trees.{Tree, cnst, var, one, two, node_count, node_of, postfix}
use Rattle.tree.specs.Statements.{Faulty, unknown, lacks_part, has_payload, parts_of, parts_taken, standing, node_at, OneTreeAtMost}

-- the newest tree, and the others
abbrev pub newest : List Tree → Tree
newest [] = cnst 0
newest (t ∷ ts) = t

abbrev pub older : List Tree → List Tree
older [] = []
older (t ∷ ts) = ts

-- what a node makes of the trees before it
abbrev pub joined_by : Option Operator → ℕ → List Tree → List Tree
joined_by None w ts = ts
joined_by (Some Cnst) w ts = cnst w ∷ ts
joined_by (Some Var) w ts = var w ∷ ts
joined_by (Some (One o)) w ts = one o (newest ts) ∷ older ts
joined_by (Some (Two o)) w ts = two o (newest (older ts)) (newest ts) ∷ older (older ts)

abbrev pub grown : List Tree → Node → List Tree
grown ts x = joined_by (operator_of x.operator) x.payload ts

abbrev pub forest : List Tree → List Node → List Tree
forest ts [] = ts
forest ts (x ∷ xs) = forest (grown ts x) xs

pub forest-append : (ts : List Tree) (xs ys : List Node) → forest ts (xs ++ ys) ≡ forest (forest ts xs) ys
forest-append ts [] ys = refl
forest-append ts (x ∷ xs) ys = forest-append (grown ts x) xs ys

-- reading the postfix of a tree adds that tree
pub forest-postfix : (t : Tree) (ts : List Tree) → forest ts (postfix t) ≡ t ∷ ts
forest-postfix (cnst w) ts = refl
forest-postfix (var v) ts = refl
forest-postfix (one o t) ts =
    forest-append ts (postfix t) _ ∙ ap (λ us. forest us (node_of (One o) 0 ∷ [])) (forest-postfix t ts)
    ∙ ap (λ op. joined_by op 0 (t ∷ ts)) (operator_of_number (One o))
forest-postfix (two o t u) ts =
    forest-append ts (postfix t) _ ∙ ap (λ us. forest us (postfix u ++ node_of (Two o) 0 ∷ [])) (forest-postfix t ts)
    ∙ forest-append (t ∷ ts) (postfix u) _
    ∙ ap (λ us. forest us (node_of (Two o) 0 ∷ [])) (forest-postfix u (t ∷ ts))
    ∙ ap (λ op. joined_by op 0 (u ∷ t ∷ ts)) (operator_of_number (Two o))

pub one_tree_at_most_lem : OneTreeAtMost
one_tree_at_most_lem t u e = ap newest (sym (forest-postfix t []) ∙ ap (forest []) e ∙ forest-postfix u [])

-- no node is at fault, where n trees stand before the first
abbrev pub Clean : ℕ → List Node → Type 0
Clean n [] = Unit {0}
Clean n (x ∷ xs) = (Faulty n x → ⊥) × Clean (n - parts_taken x + 1) xs

pub clean_below : (n : ℕ) (xs : List Node) → Clean n xs → (i : ℕ) → i < length xs → Faulty (standing n (take i xs)) (node_at xs i) → ⊥
clean_below n [] c i h f = omega arith
clean_below n (x ∷ xs) c zero h f = c.0 f
clean_below n (x ∷ xs) c (suc i) h f = clean_below (n - parts_taken x + 1) xs c.1 i (omega arith) f

pub below_clean : (n : ℕ) (xs : List Node) → ((i : ℕ) → i < length xs → Faulty (standing n (take i xs)) (node_at xs i) → ⊥) → Clean n xs
below_clean n [] b = tt
below_clean n (x ∷ xs) b = (b 0 (omega arith), below_clean (n - parts_taken x + 1) xs (λ i h f. b (suc i) (omega arith) f))

pub clean_take : (n i : ℕ) (xs : List Node) → Clean n xs → Clean n (take i xs)
clean_take n zero xs c = tt
clean_take n (suc i) [] c = tt
clean_take n (suc i) (x ∷ xs) c = (c.0, clean_take (n - parts_taken x + 1) i xs c.1)

-- the nodes of the trees that stand
abbrev pub flat : List Tree → List Node
flat [] = []
flat (t ∷ ts) = flat ts ++ postfix t

record Joins (ts : List Tree) (x : Node) : Type 0 where
  nodes : flat (grown ts x) ≡ flat ts ++ x ∷ []
  count : length (grown ts x) ≡ length ts - parts_taken x + 1

pub at_least : {n k : ℕ} → (n < k → ⊥) → k ≤ n
at_least f = omega arith

-- numbers that cannot but be equal
pub equal_from : (m n : ℕ) → ((m ≡ n → ⊥) → ⊥) → m ≡ n
equal_from m n f = go (ℕ_discrete m n)
  where
    go : Dec (m ≡ n) → m ≡ n
    go (yes e) = e
    go (no d) = absurd (f d)

flat-older : (ts : List Tree) → 0 < length ts → flat ts ≡ flat (older ts) ++ postfix (newest ts)
flat-older [] h = absurd (omega arith)
flat-older (t ∷ ts) h = refl

length-older : (ts : List Tree) → length (older ts) ≡ length ts - 1
length-older [] = omega arith
length-older (t ∷ ts) = omega arith

joins : (ts : List Tree) (x : Node) → (Faulty (length ts) x → ⊥) → Joins ts x
joins ts x sound = go (operator_of x.operator) refl
  where
    node_is : (o : Operator) (w : ℕ) → operator_of x.operator ≡ Some o → x.payload ≡ w → node_of o w ≡ x
    node_is o w e p = λ i. record { operator = number_of_operator x.operator o e i; payload = sym p i }

    no_payload : (o : Operator) → operator_of x.operator ≡ Some o → 0 < parts_of (Some o) → x.payload ≡ 0
    no_payload o e h = equal_from x.payload 0 (λ n. sound (has_payload (subst (λ op. 0 < parts_of op) (sym e) h) n))

    enough : (o : Operator) → operator_of x.operator ≡ Some o → (length ts < parts_of (Some o)) → ⊥
    enough o e h = sound (lacks_part (subst (λ op. length ts < parts_of op) (sym e) h))

    at : (op : Option Operator) → operator_of x.operator ≡ op → flat (joined_by op x.payload ts) ≡ flat ts ++ x ∷ [] → length (joined_by op x.payload ts) ≡ length ts - parts_of op + 1 → Joins ts x
    at op e n c = record {
      nodes = ap (λ q. flat (joined_by q x.payload ts)) e ∙ n;
      count = ap (λ q. length (joined_by q x.payload ts)) e ∙ c ∙ ap (λ q. length ts - parts_of q + 1) (sym e);
    }

    go : (op : Option Operator) → operator_of x.operator ≡ op → Joins ts x
    go None e = absurd (sound (unknown e))
    go (Some Cnst) e = at (Some Cnst) e (ap (λ y. flat ts ++ y ∷ []) (node_is Cnst _ e refl)) (omega arith)
    go (Some Var) e = at (Some Var) e (ap (λ y. flat ts ++ y ∷ []) (node_is Var _ e refl)) (omega arith)
    go (Some (One o)) e =
        let some : 0 < length ts = at_least (enough (One o) e) in
        at (Some (One o)) e
        (ap (λ y. flat (older ts) ++ (postfix (newest ts) ++ y ∷ [])) (node_is (One o) 0 e (no_payload (One o) e (omega arith)))
        ∙ sym (append_assoc (flat (older ts)) (postfix (newest ts)) _) ∙ ap (λ l. l ++ x ∷ []) (sym (flat-older ts some)))
        (omega (arith, length-older ts))
    go (Some (Two o)) e =
        let some : 1 < length ts = at_least (enough (Two o) e) in
        let more : 0 < length (older ts) = omega (arith, length-older ts) in
        at (Some (Two o)) e
        (ap (λ y. flat (older (older ts)) ++ (postfix (newest (older ts)) ++ (postfix (newest ts) ++ y ∷ []))) (node_is (Two o) 0 e (no_payload (Two o) e (omega arith)))
        ∙ sym (append_assoc (flat (older (older ts))) (postfix (newest (older ts))) _)
        ∙ ap (λ l. l ++ (postfix (newest ts) ++ x ∷ [])) (sym (flat-older (older ts) more))
        ∙ sym (append_assoc (flat (older ts)) (postfix (newest ts)) _) ∙ ap (λ l. l ++ x ∷ []) (sym (flat-older ts (omega arith))))
        (omega (arith, length-older ts, length-older (older ts)))

pub record Stood (ts : List Tree) (xs : List Node) : Type 0 where
  pub nodes : flat (forest ts xs) ≡ flat ts ++ xs
  pub count : length (forest ts xs) ≡ standing (length ts) xs

-- a list without a fault is the nodes of the trees that it leaves
pub stood : (ts : List Tree) (xs : List Node) → Clean (length ts) xs → Stood ts xs
stood ts [] c = record { nodes = sym (append-nil (flat ts)); count = refl }
stood ts (x ∷ xs) c =
    let here = joins ts x c.0 in
    let more = stood (grown ts x) xs (subst (λ n. Clean n xs) (sym here.count) c.1) in
    record {
      nodes = more.nodes ∙ ap (λ l. l ++ xs) here.nodes ∙ append_assoc (flat ts) (x ∷ []) xs;
      count = more.count ∙ ap (λ n. standing n xs) here.count;
    }

-- the other way: the postfix of a tree has no fault
not_faulty : (n : ℕ) (o : Operator) (w : ℕ) → parts_of (Some o) ≤ n → (0 < parts_of (Some o) → w ≡ 0) → Faulty n (node_of o w) → ⊥
not_faulty n o w enough blank (unknown e) = let z : None ≡ Some o = sym e ∙ operator_of_number o in let y : ◌≡◌ {A = ℕ} 0 1 = cc in omega arith
not_faulty n o w enough blank (lacks_part h) = let p = ap parts_of (operator_of_number o) in omega arith
not_faulty n o w enough blank (has_payload h f) = f (blank (subst (λ op. 0 < parts_of op) (operator_of_number o) h))

pub clean_postfix : (t : Tree) (n : ℕ) (xs : List Node) → Clean (n + 1) xs → Clean n (postfix t ++ xs)
clean_postfix (cnst w) n xs c = (not_faulty n Cnst w (omega arith) (λ h. omega arith), subst (λ k. Clean k xs) (omega arith) c)
clean_postfix (var v) n xs c = (not_faulty n Var v (omega arith) (λ h. omega arith), subst (λ k. Clean k xs) (omega arith) c)
clean_postfix (one o t) n xs c =
    let taken = ap parts_of (operator_of_number (One o)) in
    subst (Clean n) (sym (append_assoc (postfix t) (node_of (One o) 0 ∷ []) xs))
    (clean_postfix t n (node_of (One o) 0 ∷ xs) (
      not_faulty (n + 1) (One o) 0 (omega arith) (λ h. refl),
      subst (λ k. Clean k xs) (omega arith) c,
    ))
clean_postfix (two o t u) n xs c =
    let taken = ap parts_of (operator_of_number (Two o)) in
    subst (Clean n) (sym (append_assoc (postfix t) (postfix u ++ node_of (Two o) 0 ∷ []) xs))
    (clean_postfix t n _
    (subst (Clean (n + 1)) (sym (append_assoc (postfix u) (node_of (Two o) 0 ∷ []) xs))
    (clean_postfix u (n + 1) (node_of (Two o) 0 ∷ xs) (
      not_faulty (n + 1 + 1) (Two o) 0 (omega arith) (λ h. refl),
      subst (λ k. Clean k xs) (omega arith) c,
    ))))

pub postfix_clean : (t : Tree) → Clean 0 (postfix t)
postfix_clean t = subst (Clean 0) (append-nil (postfix t)) (clean_postfix t 0 [] tt)

pub standing-postfix : (t : Tree) → standing 0 (postfix t) ≡ 1
standing-postfix t = sym (stood [] (postfix t) (postfix_clean t)).count ∙ ap length (forest-postfix t [])

pub length-postfix : (t : Tree) → length (postfix t) ≡ node_count t
length-postfix (cnst w) = refl
length-postfix (var v) = refl
length-postfix (one o t) = length-append (postfix t) _ ∙ ap (λ n. n + 1) (length-postfix t)
length-postfix (two o t u) =
    simp length-append (omega (arith, length-postfix t, length-postfix u))

-- The subtrees of a list of nodes: each node is the root of exactly one, and where its parts stand.
use Rattle.std.proofs.Common.{◌≡◌, ℕ, ◌+◌, ◌<◌, ◌≤◌, List, [], ◌∷◌, ◌++◌, length, take, sym, refl, ap, ◌∙◌, subst, append_assoc, arith, length-append, length-take}
use Rattle.std.proofs.lemmas.List.{take-take, take_at, get_or-take, get_or_push, length-take-le}
use Rattle.operators.specs.declared.Unary.{Unary}
use Rattle.operators.specs.declared.Binary.{Binary}
use Rattle.tree.specs.declared.nodes.Node.{Node}
use Rattle.tree.specs.Trees.{Tree, cnst, var, one, two, node_count, node_of, postfix}
use Rattle.tree.specs.Statements.{StatementGranted, node_at}
use Rattle.tree.proofs.Conditions.{standing_more}
use Rattle.tree.proofs.Forests.{newest, forest, forest-append, forest-postfix, flat, Clean, clean_take, Stood, stood, postfix_clean, length-postfix}
use Rattle.tree.proofs.Grants.{tree_of}
use Rattle.matching.specs.Subtrees.{root_of, SubtreeAt, OneSubtreeEach}
use Rattle.matching.proofs.Matched.{top_operator, top_payload}

pub some_node : (t : Tree) → 0 < node_count t
some_node (cnst w) = omega arith
some_node (var v) = omega arith
some_node (one o t) = omega arith
some_node (two o t u) = omega arith

module _ (xs : List Node) where
  -- node numbers of a subtree
  pub root_is : (i : ℕ) (t : Tree) (n : ℕ) → SubtreeAt xs i t n → n + node_count t ≡ i + 1
  root_is i t n s =
      omega (arith, s.counted, length-postfix t, length-append s.before (postfix t), ap length s.split, length-take-le (i + 1) xs (omega (arith, s.inside)))

  -- a front of the nodes that ends with a subtree
  pub front_subtree : (m : ℕ) (before zs : List Node) (t : Tree) (n : ℕ) → take m xs ≡ (before ++ postfix t) ++ zs → length before ≡ n → SubtreeAt xs (root_of n t) t n
  front_subtree m before zs t n e c =
      let ys = before ++ postfix t in
      let long : length ys ≡ n + node_count t = omega (arith, c, length-postfix t, length-append before (postfix t)) in
      let all : length ys + length zs ≡ length (take m xs) = sym (length-append ys zs) ∙ sym (ap length e) in
      let cut : length (take m xs) ≤ m = simp length-take (omega arith) in
      let cut' : length (take m xs) ≤ length xs = simp length-take (omega arith) in
      let some = some_node t in
      let last : root_of n t + 1 ≡ length ys = omega arith in
      record {
        inside = omega arith;
        before = before;
        split = ap (λ k. take k xs) last ∙ sym (take-take (length ys) m xs (omega arith)) ∙ ap (take (length ys)) e ∙ take_at ys zs (length ys) refl;
        counted = c;
      }

  pub part_of_one : (i : ℕ) (o : Unary) (t : Tree) (n : ℕ) → SubtreeAt xs i (one o t) n → SubtreeAt xs (root_of n t) t n
  part_of_one i o t n s = front_subtree (i + 1) s.before _ t n (s.split ∙ sym (append_assoc s.before (postfix t) _)) s.counted

  pub left_of_two : (i : ℕ) (o : Binary) (t u : Tree) (n : ℕ) → SubtreeAt xs i (two o t u) n → SubtreeAt xs (root_of n t) t n
  left_of_two i o t u n s = front_subtree (i + 1) s.before _ t n (s.split ∙ sym (append_assoc s.before (postfix t) _)) s.counted

  pub right_of_two : (i : ℕ) (o : Binary) (t u : Tree) (n : ℕ) → SubtreeAt xs i (two o t u) n → SubtreeAt xs (root_of (n + node_count t) u) u (n + node_count t)
  right_of_two i o t u n s =
      front_subtree (i + 1) (s.before ++ postfix t) _ u (n + node_count t)
      (s.split ∙ sym (append_assoc s.before (postfix t) _) ∙ sym (append_assoc (s.before ++ postfix t) (postfix u) _))
      (omega (arith, s.counted, length-postfix t, length-append s.before (postfix t)))

  -- the node at the root
  pub node_there : (i : ℕ) (t : Tree) (n : ℕ) → SubtreeAt xs i t n → node_at xs i ≡ node_of (top_operator t) (top_payload t)
  node_there i t n s = go t s.split
    where
      at : (ys : List Node) (x : Node) → take (i + 1) xs ≡ ys ++ x ∷ [] → node_at xs i ≡ x
      at ys x e =
          let long : length ys ≡ i = omega (arith, length-append ys (x ∷ []), ap length e, length-take-le (i + 1) xs (omega (arith, s.inside))) in
          sym (get_or-take (i + 1) xs i _ (omega arith)) ∙ ap (λ l. node_at l i) e ∙ get_or_push ys x _ i long

      go : (u : Tree) → take (i + 1) xs ≡ s.before ++ postfix u → node_at xs i ≡ node_of (top_operator u) (top_payload u)
      go (cnst w) e = at _ _ e
      go (var v) e = at _ _ e
      go (one o u) e = at _ _ (e ∙ sym (append_assoc s.before (postfix u) _))
      go (two o u v) e = at _ _ (e ∙ sym (append_assoc s.before (postfix u) _) ∙ sym (append_assoc (s.before ++ postfix u) (postfix v) _))

  -- a node is the root of at most one subtree
  newest_there : (i : ℕ) (t : Tree) (n : ℕ) → SubtreeAt xs i t n → newest (forest [] (take (i + 1) xs)) ≡ t
  newest_there i t n s =
      ap (λ l. newest (forest [] l)) s.split
      ∙ ap newest (forest-append [] s.before (postfix t) ∙ forest-postfix t (forest [] s.before))

  pub one_subtree : (i : ℕ) (t : Tree) (n : ℕ) (u : Tree) (m : ℕ) → SubtreeAt xs i t n → SubtreeAt xs i u m → (u ≡ t) × (m ≡ n)
  one_subtree i t n u m s r =
      let same : u ≡ t = sym (newest_there i u m r) ∙ newest_there i t n s in
      (same, omega (arith, root_is i t n s, root_is i u m r, ap node_count same))

  -- and of one at least
  from_clean : Clean 0 xs → (i : ℕ) → i < length xs → (t : Tree) × ((n : ℕ) × SubtreeAt xs i t n)
  from_clean clean i h = go (forest [] (take (i + 1) xs)) refl
    where
      there : Stood [] (take (i + 1) xs)
      there = stood [] (take (i + 1) xs) (clean_take 0 (i + 1) xs clean)

      go : (ts : List Tree) → forest [] (take (i + 1) xs) ≡ ts → (t : Tree) × ((n : ℕ) × SubtreeAt xs i t n)
      go [] e = absurd (omega (arith, there.count, ap length e, standing_more xs i h))
      go (t ∷ ts) e =
          (t, (length (flat ts), record { inside = h; before = flat ts; split = sym there.nodes ∙ ap flat e; counted = refl }))

pub subtree_of : (v : ℕ) (xs : List Node) → StatementGranted v xs → (i : ℕ) → i < length xs → (t : Tree) × ((n : ℕ) × SubtreeAt xs i t n)
subtree_of v xs g =
    let found = tree_of v xs g in
    from_clean xs (subst (Clean 0) found.1.nodes_are (postfix_clean found.0))

pub one_subtree_each_lem : OneSubtreeEach
one_subtree_each_lem v xs g i h =
    let found = subtree_of v xs g i h in
    (found.0, found.1.0, found.1.1, λ u m s. one_subtree xs i found.0 found.1.0 u m found.1.1 s)

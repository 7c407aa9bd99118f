-- Matching item by item finds exactly what the pattern's shape matches.
use Rattle.std.proofs.Common.{◌≡◌, ℕ, ◌+◌, ◌-◌, ◌<◌, ◌≤◌, Bool, true, false, cond, ◌&&◌, List, [], ◌∷◌, ◌++◌, map, length, get_or, drop, Some, None, Option, sym, refl, ap, ◌∙◌, subst, append_assoc, append-nil, arith, MatchOption}
use Rattle.std.specs.List.{AllByRecursion}
use Rattle.std.proofs.lemmas.List.{map-append}
use Rattle.std.proofs.lemmas.Option.{none-some}
use Rattle.std.proofs.lemmas.Bool.{cond-true}
use Rattle.operators.specs.declared.Unary.{Unary as UnaryOperator}
use Rattle.operators.specs.declared.Binary.{Binary as BinaryOperator}
use Rattle.operators.specs.declared.Operator.TheVariants.{Cnst, Var, One, Two}
use Rattle.tree.specs.declared.nodes.Node.{Node}
use Rattle.tree.specs.Trees.{Tree, one, two, node_count, node_of}
use Rattle.tree.specs.Statements.{node_at}
use Rattle.pattern.specs.declared.items.Item.{Item}
use Rattle.pattern.specs.declared.items.Item.TheVariants.{Operand, Unary, Binary, Constant, Variable}
use Rattle.matching.specs.declared.matches.Match.{Match}
use Rattle.matching.specs.declared.matches.OperandAt.{OperandAt}
use Rattle.matching.specs.declared.trees.CheckedTree.{CheckedTree}
use Rattle.matching.specs.Checked.{tree_nodes}
use Rattle.matching.specs.Found.{operands_found, payloads_found}
use Rattle.pattern.specs.Items.{item_parts, operands_in, leaves_in}
use Rattle.matching.specs.Matching.{fallen, NoMatch, Reports}
use Rattle.pattern.specs.Ranges.{admitted}
use Rattle.pattern.specs.Shapes.{Shape, operand_shape, constant_shape, variable_shape, unary_shape, binary_shape, reading}
use Rattle.matching.specs.Steps.{fits_node, part_nodes, operand_there, payload_there, found_from}
use Rattle.matching.specs.Subtrees.{root_of, SubtreeAt}
use Rattle.matching.proofs.LeftParts.{length_left, parts_are_roots_lem}
use Rattle.matching.proofs.Matched.{Found, after, both, matched, sound, finds, top_operator, top_payload, left_tree, right_tree, tops, tops_is, is_one, is_two}
use Rattle.matching.proofs.Subtrees.{subtree_of, some_node, root_is, node_there, part_of_one, left_of_two, right_of_two}

cond_same : {A : Type 0} (b : Bool) (x y z : A) → (b ≡ true → x ≡ y) → cond b x z ≡ cond b y z
cond_same true x y z f = f refl
cond_same false x y z f = refl

module _ (t : CheckedTree) where
  pub left_each : length t.left ≡ length (tree_nodes t)
  left_each = ap length t.parted ∙ length_left 0 [] (tree_nodes t)

  -- node k is the root of the subtree u, whose first node is node n
  abbrev pub There : ℕ → Tree → ℕ → Type 0
  There k u n = SubtreeAt (tree_nodes t) k u n

  -- each node of a checked tree is the root of a subtree
  pub subtree_there : (k : ℕ) → k < length (tree_nodes t) → (u : Tree) × ((n : ℕ) × There k u n)
  subtree_there k h = subtree_of t.statement.target (tree_nodes t) t.statement.granted k h

  pub node_is : {k : ℕ} {u : Tree} {n : ℕ} → There k u n → node_at (tree_nodes t) k ≡ node_of (top_operator u) (top_payload u)
  node_is {k} {u} {n} s = node_there (tree_nodes t) k u n s

  -- the parts of a subtree stand where the code looks for them
  pub only_part : {k : ℕ} {u : Tree} {n : ℕ} (o : UnaryOperator) → There k u n → top_operator u ≡ One o → There (k - 1) (right_tree u) n
  only_part {k} {u} {n} o s e =
      let r : There k (one o (right_tree u)) n = subst (λ v. There k v n) (sym (is_one o u e)) s in
      subst (λ j. There j (right_tree u) n) (sym ((parts_are_roots_lem (tree_nodes t) k n).1 o (right_tree u) r))
      (part_of_one (tree_nodes t) k o (right_tree u) n r)

  pub right_part_there : {k : ℕ} {u : Tree} {n : ℕ} (o : BinaryOperator) → There k u n → top_operator u ≡ Two o → There (k - 1) (right_tree u) (n + node_count (left_tree u))
  right_part_there {k} {u} {n} o s e =
      let r : There k (two o (left_tree u) (right_tree u)) n = subst (λ v. There k v n) (sym (is_two o u e)) s in
      subst (λ j. There j (right_tree u) (n + node_count (left_tree u))) (sym ((parts_are_roots_lem (tree_nodes t) k n).0 o (left_tree u) (right_tree u) r).1)
      (right_of_two (tree_nodes t) k o (left_tree u) (right_tree u) n r)

  pub left_part_there : {k : ℕ} {u : Tree} {n : ℕ} (o : BinaryOperator) → There k u n → top_operator u ≡ Two o → There (get_or t.left k 0) (left_tree u) n
  left_part_there {k} {u} {n} o s e =
      let r : There k (two o (left_tree u) (right_tree u)) n = subst (λ v. There k v n) (sym (is_two o u e)) s in
      subst (λ j. There j (left_tree u) n) (sym ((parts_are_roots_lem (tree_nodes t) k n).0 o (left_tree u) (right_tree u) r).0 ∙ sym (ap (λ l. get_or l k 0) t.parted))
      (left_of_two (tree_nodes t) k o (left_tree u) (right_tree u) n r)

  -- what is found in all, where a shape was matched first
  abbrev continued : List Item → List ℕ → List OperandAt → List ℕ → Option Found → Option (List OperandAt × List ℕ)
  continued xs ks os ws None = None
  continued xs ks os ws (Some f) = found_from t xs ks (os ++ map fallen f.goals) (ws ++ f.payloads)

  continued_cond : (xs : List Item) (ks : List ℕ) (os : List OperandAt) (ws : List ℕ) (b : Bool) (x : Option Found) → continued xs ks os ws (cond b x None) ≡ cond b (continued xs ks os ws x) None
  continued_cond xs ks os ws true x = refl
  continued_cond xs ks os ws false x = refl

  continued_after : (xs : List Item) (ks : List ℕ) (os : List OperandAt) (ws : List ℕ) (f : Found) (x : Option Found) → continued xs ks (os ++ map fallen f.goals) (ws ++ f.payloads) x ≡ continued xs ks os ws (after f x)
  continued_after xs ks os ws f None = refl
  continued_after xs ks os ws f (Some g) =
      let goals = append_assoc os (map fallen f.goals) (map fallen g.goals) ∙ ap (λ l. os ++ l) (sym (map-append fallen f.goals g.goals)) in
      let pays = append_assoc ws f.payloads g.payloads in
      λ i. found_from t xs ks (goals i) (pays i)

  -- one item, by the node it stands at
  abbrev stepped : Item → List Item → ℕ → List ℕ → List OperandAt → List ℕ → Node → Option (List OperandAt × List ℕ)
  stepped x xs k ks os ws y =
      cond (fits_node x y) (found_from t xs (part_nodes x k (get_or t.left k 0) ++ ks) (os ++ operand_there x k) (ws ++ payload_there x y.payload)) None

  bare : (xs : List Item) (ks : List ℕ) (os : List OperandAt) (ws : List ℕ) → found_from t xs ks (os ++ []) (ws ++ []) ≡ found_from t xs ks os ws
  bare xs ks os ws = λ i. found_from t xs ks (append-nil os i) (append-nil ws i)

  along : (p : Shape) {k : ℕ} {u : Tree} {n : ℕ} → There k u n → (xs : List Item) (ks : List ℕ) (os : List OperandAt) (ws : List ℕ) → found_from t (reading p ++ xs) (k ∷ ks) os ws ≡ continued xs ks os ws (matched p u n)
  along (operand_shape a) {k} {u} {n} s xs ks os ws =
      let root : k ≡ root_of n u = omega (arith, root_is (tree_nodes t) k u n s) in
      ap (λ j. found_from t xs ks (os ++ record { operand = a; node = j } ∷ []) (ws ++ [])) root
  along (constant_shape i) {k} {u} {n} s xs ks os ws =
      ap (stepped (Constant i) xs k ks os ws) (node_is s) ∙ sym (continued_cond xs ks os ws (tops Cnst u && admitted i (top_payload u)) _)
  along variable_shape {k} {u} {n} s xs ks os ws =
      ap (stepped Variable xs k ks os ws) (node_is s) ∙ sym (continued_cond xs ks os ws (tops Var u) _)
  along (unary_shape o p) {k} {u} {n} s xs ks os ws =
      ap (stepped (Unary o) (reading p ++ xs) k ks os ws) (node_is s)
      ∙ cond_same (tops (One o) u) _ _ None
      (λ e. bare (reading p ++ xs) ((k - 1) ∷ ks) os ws ∙ along p (only_part o s (tops_is (One o) u e)) xs ks os ws)
      ∙ sym (continued_cond xs ks os ws (tops (One o) u) (matched p (right_tree u) n))
  along (binary_shape o p q) {k} {u} {n} s xs ks os ws =
      let l = get_or t.left k 0 in
      let m = n + node_count (left_tree u) in
      ap (stepped (Binary o) ((reading p ++ reading q) ++ xs) k ks os ws) (node_is s)
      ∙ cond_same (tops (Two o) u) _ _ None
      (λ e.
      bare ((reading p ++ reading q) ++ xs) (l ∷ (k - 1) ∷ ks) os ws
      ∙ ap (λ ys. found_from t ys (l ∷ (k - 1) ∷ ks) os ws) (append_assoc (reading p) (reading q) xs)
      ∙ along p (left_part_there o s (tops_is (Two o) u e)) (reading q ++ xs) ((k - 1) ∷ ks) os ws
      ∙ then (matched p (left_tree u) n) (matched q (right_tree u) m)
      (λ os' ws'. along q (right_part_there o s (tops_is (Two o) u e)) xs ks os' ws'))
      ∙ sym (continued_cond xs ks os ws (tops (Two o) u) (both (matched p (left_tree u) n) (matched q (right_tree u) m)))
    where
      then : (x y : Option Found) → ((os' : List OperandAt) (ws' : List ℕ) → found_from t (reading q ++ xs) ((k - 1) ∷ ks) os' ws' ≡ continued xs ks os' ws' y) → continued (reading q ++ xs) ((k - 1) ∷ ks) os ws x ≡ continued xs ks os ws (both x y)
      then None y f = refl
      then (Some g) y f = f _ _ ∙ continued_after xs ks os ws g y

  -- what is found from the root of a subtree is a match there, or there is none
  report : (p : Shape) {k : ℕ} {u : Tree} {n : ℕ} (xs : List Item) → reading p ≡ xs → There k u n → found_from t xs (k ∷ []) [] [] ≡ continued [] [] [] [] (matched p u n)
  report p {k} xs e s = ap (λ ys. found_from t ys (k ∷ []) [] []) (sym e ∙ sym (append-nil (reading p))) ∙ along p s [] [] [] []

  no_match : (p : Shape) {k : ℕ} {u : Tree} {n : ℕ} (xs : List Item) → reading p ≡ xs → There k u n → found_from t xs (k ∷ []) [] [] ≡ None → NoMatch p u n
  no_match p {k} {u} {n} xs e s none gs ws m =
      let z : ◌≡◌ {A = Option (List OperandAt × List ℕ)} None (Some (map fallen gs, ws)) = sym none ∙ report p xs e s ∙ ap (continued [] [] [] []) (finds m) in
      none-some _ z

  a_match : (p : Shape) {k : ℕ} {u : Tree} {n : ℕ} (xs : List Item) → reading p ≡ xs → There k u n → (m : Match) → found_from t xs (k ∷ []) [] [] ≡ Some (operands_found m, payloads_found m) → Reports p u n m
  a_match p {k} {u} {n} xs e s m some = go (matched p u n) refl (sym (report p xs e s) ∙ some)
    where
      go : (x : Option Found) → matched p u n ≡ x → continued [] [] [] [] x ≡ Some (operands_found m, payloads_found m) → Reports p u n m
      go None is h = absurd (none-some _ h)
      go (Some f) is h =
          let same : ◌≡◌ {A = List OperandAt × List ℕ} (map fallen f.goals, f.payloads) (operands_found m, payloads_found m) = cc in
          record { goals = f.goals; words = f.payloads; holds = sound p u n f is; operands_are = sym (ap (λ x. x.0) same); payloads_are = sym (ap (λ x. x.1) same) }

  pub answered : (p : Shape) {k : ℕ} {u : Tree} {n : ℕ} (xs : List Item) → reading p ≡ xs → There k u n → (r : Option Match) → MatchOption r (found_from t xs (k ∷ []) [] [] ≡ None) (λ m. found_from t xs (k ∷ []) [] [] ≡ Some (operands_found m, payloads_found m)) → MatchOption r (NoMatch p u n) (λ m. Reports p u n m)
  answered p xs e s None none = no_match p xs e s none
  answered p xs e s (Some m) some = a_match p xs e s m some

  -- one item in the code's words: it stands at node k, and after it ks' wait and os' and ws' are found
  module _ (x : Item) (xs : List Item) (ks : List ℕ) (os : List OperandAt) (ws : List ℕ) (k : ℕ) (next : k ≡ get_or ks 0 0) where
    at_next : found_from t (x ∷ xs) ks os ws ≡ stepped x xs k (drop 1 ks) os ws (node_at (tree_nodes t) k)
    at_next = ap (λ j. stepped x xs j (drop 1 ks) os ws (node_at (tree_nodes t) j)) (sym next)

    pub step_on : (ks' : List ℕ) (os' : List OperandAt) (ws' : List ℕ) → true ≡ fits_node x (node_at (tree_nodes t) k) → ks' ≡ part_nodes x k (get_or t.left k 0) ++ drop 1 ks → os' ≡ os ++ operand_there x k → ws' ≡ ws ++ payload_there x (node_at (tree_nodes t) k).payload → found_from t (x ∷ xs) ks os ws ≡ found_from t xs ks' os' ws'
    step_on ks' os' ws' fit e f g =
        at_next ∙ cond-true (fits_node x (node_at (tree_nodes t) k)) _ _ (sym fit) ∙ sym (λ i. found_from t xs (e i) (f i) (g i))

  -- the nodes that wait are nodes of the tree
  abbrev pub Nodes : List ℕ → Type 0
  Nodes ks = AllByRecursion (λ k. k < length (tree_nodes t)) ks

  pub next_inside : (ks : List ℕ) → 0 < length (tree_nodes t) → Nodes ks → get_or ks 0 0 < length (tree_nodes t)
  next_inside [] h a = h
  next_inside (k ∷ ks) h a = a.0

  pub rest_inside : (ks : List ℕ) → Nodes ks → Nodes (drop 1 ks)
  rest_inside [] a = tt
  rest_inside (k ∷ ks) a = a.1

  -- an operator of an item that fits is that of the subtree
  tops_one : {k : ℕ} {u : Tree} {n : ℕ} (o : UnaryOperator) → There k u n → fits_node (Unary o) (node_at (tree_nodes t) k) ≡ true → top_operator u ≡ One o
  tops_one {k} {u} o s fit = tops_is (One o) u (sym (ap (fits_node (Unary o)) (node_is s)) ∙ fit)

  tops_two : {k : ℕ} {u : Tree} {n : ℕ} (o : BinaryOperator) → There k u n → fits_node (Binary o) (node_at (tree_nodes t) k) ≡ true → top_operator u ≡ Two o
  tops_two {k} {u} o s fit = tops_is (Two o) u (sym (ap (fits_node (Binary o)) (node_is s)) ∙ fit)

  -- the parts of a node stand before it
  pub before_parts : (x : Item) (k : ℕ) → k < length (tree_nodes t) → fits_node x (node_at (tree_nodes t) k) ≡ true → 1 ≤ item_parts x → 1 ≤ k
  before_parts (Operand a) k h fit some = absurd (omega arith)
  before_parts (Unary o) k h fit some =
      let there = subtree_there k h in
      let u : Tree = there.0 in
      let n : ℕ = there.1.0 in
      let same = ap node_count (is_one o u (tops_one o there.1.1 fit)) in
      omega (arith, root_is (tree_nodes t) k u n there.1.1, some_node (right_tree u), same)
  before_parts (Binary o) k h fit some =
      let there = subtree_there k h in
      let u : Tree = there.0 in
      let n : ℕ = there.1.0 in
      let same = ap node_count (is_two o u (tops_two o there.1.1 fit)) in
      omega (arith, root_is (tree_nodes t) k u n there.1.1, some_node (right_tree u), same)
  before_parts (Constant i) k h fit some = absurd (omega arith)
  before_parts Variable k h fit some = absurd (omega arith)

  pub parts_inside : (x : Item) (k : ℕ) → k < length (tree_nodes t) → fits_node x (node_at (tree_nodes t) k) ≡ true → Nodes (part_nodes x k (get_or t.left k 0))
  parts_inside (Operand a) k h fit = tt
  parts_inside (Unary o) k h fit = (omega arith, tt)
  parts_inside (Binary o) k h fit =
      let there = subtree_there k h in
      ((left_part_there o there.1.1 (tops_two o there.1.1 fit)).inside, (omega arith, tt))
  parts_inside (Constant i) k h fit = tt
  parts_inside Variable k h fit = tt

  pub part_count : (x : Item) (k l : ℕ) → length (part_nodes x k l) ≡ item_parts x
  part_count (Operand a) k l = refl
  part_count (Unary o) k l = refl
  part_count (Binary o) k l = refl
  part_count (Constant i) k l = refl
  part_count Variable k l = refl

pub operand_found : (x : Item) (k : ℕ) → length (operand_there x k) ≡ operands_in x
operand_found (Operand a) k = refl
operand_found (Unary o) k = refl
operand_found (Binary o) k = refl
operand_found (Constant i) k = refl
operand_found Variable k = refl

pub payload_found : (x : Item) (w : ℕ) → length (payload_there x w) ≡ leaves_in x
payload_found (Operand a) w = refl
payload_found (Unary o) w = refl
payload_found (Binary o) w = refl
payload_found (Constant i) w = refl
payload_found Variable w = refl

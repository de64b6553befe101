-- The built nodes in node order: the core's by their keys, then the invented ones by their masks. Assumes nothing.
use Rattle.std.proofs.Common.{◌≡◌, ℕ, zero, suc, ◌+◌, ◌%◌, ◌<◌, ◌≤◌, Bool, true, false, T, eqb, ◌⊎◌, List, [], ◌∷◌, ◌++◌, map, length, get_or, take, sym, refl, ap, ◌∙◌, subst, subst₂, inl, inr, arith, eq-eqb, ne_eqb}
use borrow.Author.Tests.{lt-leb}
use lib.ListN.{get_elem?, length-map}
use mathlib.Core.List.Memᴰ
use mathlib.Core.List.Memᴰ.{map as ∈-map}
use mathlib.Core.List.{Forall₂}
use mathlib.Core.Option.{Option, some, none-ne-some, some-injective}
use Rattle.core_graph.specs.CoreHeld.{NodeKey}
use Rattle.spread.specs.Keys.{key_of}
use Rattle.core_lists.specs.Input.{Input}
use Rattle.invent.specs.Invent.{InventedSets, set_at}
use Rattle.node_list.specs.NodeList.{InventedNodes}
use Rattle.node_list.specs.Records.{Arities, NodeSets, core_records, node_set, set_numbers, slot_of}
use Rattle.invent.proofs.Invented.{small_set}
use Rattle.core_lists.proofs.Keys.{key_one, less_key}
use Rattle.core_lists.proofs.Places.{Masked, masked, well}
use Rattle.core_lists.proofs.ResolvedNodes.{proper}
use Rattle.node_list.proofs.Records.{core_record}
use Rattle.node_list.proofs.SetList.{slot_lt}
use Rattle.meaning.proofs.Lists.Members.{element, ∈_append, ∈_map⁻¹}
use Rattle.meaning.proofs.Lists.Places.{at_later, entry_at, entry_map}
use Rattle.meaning.proofs.Lists.SetLists.{joined_order, list_as}
use Rattle.meaning.proofs.Theory.Invented.{literal_alone, types_some}
use Rattle.meaning.specs.Built.{BuiltNode, IsBuilt, core, in_core, invented}
use Rattle.meaning.specs.Core.{CoreNode, Node, iri_node, literal_node}
use Rattle.meaning.specs.Limits.{type_sets}
use Rattle.meaning.specs.Listing.{NodeRecord, NodesInOrder, ◌◃◌, arguments, invented_kind, kind, node_key, number}
use Rattle.meaning.specs.Member.{◌∈◌, here, there}
use Rattle.meaning.specs.NoGraph.{MixedKinds}
use Rattle.meaning.specs.Ordered.{InOrder, ◌≺◌, before, empty, equal, less}
use Rattle.meaning.specs.Pack.{Pack}
use Rattle.meaning.specs.TypeSet.{TypeSet}
use Rattle.worklist.specs.Table.{Marked}

-- ---- the invented nodes

abbrev pub set_node : ℕ → BuiltNode
set_node k = invented (node_set k)

some_type : (k : ℕ) → eqb (suc k) 0 ≡ false
some_type k = ne_eqb (suc k) 0 (λ z. omega arith)

set_key : (k : ℕ) → node_key (set_node (suc k)) ≡ 3 ∷ suc k ∷ []
unfolding node_key node_set
set_key k = rw (some_type k) refl

-- in node order they are as their masks are
sets_less : (k l : ℕ) → k < l → set_node k ◃ set_node l
unfolding node_key node_set
sets_less k zero h = absurd (omega arith)
sets_less zero (suc l) h = subst (λ x. (2 ∷ 0 ∷ []) ≺ x) (sym (set_key l)) (less {x = 2} {y = 3} (omega arith))
sets_less (suc k) (suc l) h = subst₂ ◌≺◌ (sym (set_key k)) (sym (set_key l)) (equal refl (less h))

sets_ascend : (sets : List ℕ) → InOrder ◌<◌ sets → InOrder ◌◃◌ (map set_node sets)
sets_ascend [] a = empty
sets_ascend (k ∷ sets) (before f a) = before above (sets_ascend sets a)
  where
    above : (b : BuiltNode) → b ∈ map set_node sets → set_node k ◃ b
    above b m = let r = ∈_map⁻¹ set_node sets m in subst (λ x. set_node k ◃ x) (sym r.2) (sets_less k r.0 (f r.0 r.1))

-- a set's record
set_record : (P : Pack) (k : ℕ) → NodeRecord P (set_node k) (set_numbers k)
unfolding kind number arguments set_numbers node_set
set_record P zero = record { types = 0; weigh = λ t. (λ e. e, λ e. e); are = refl }
set_record P (suc k) = record { types = suc k; weigh = λ t. (λ e. e, λ e. e); are = rw (some_type k) refl }

-- its set, by the number
slot_set : (k : ℕ) → k < type_sets → set_at (slot_of k) ≡ node_set k
unfolding set_at slot_of node_set
slot_set zero h = refl
slot_set (suc k) h = rw (some_type k) (let e = lt-leb type_sets (suc k) h in let m : suc k % type_sets ≡ suc k = omega arith in λ i. record { literal = e i; mask = m i })

-- a set of types, or {Literal}, by its mask
node_set_lem : (X : TypeSet) → (T X.literal → X.mask ≡ 0) → (¬ T X.literal → 0 < X.mask) → node_set X.mask ≡ X
unfolding node_set
node_set_lem X a b = go X.literal X.mask a b
  where
    go : (f : Bool) (m : ℕ) → (T f → m ≡ 0) → (¬ T f → 0 < m) → ◌≡◌ {A = TypeSet} (record { literal = eqb m 0; mask = m }) (record { literal = f; mask = m })
    go true m a b = let e = eq-eqb m 0 (a tt) in λ i. record { literal = e i; mask = m }
    go false m a b = let h = b (λ z. z) in let e = ne_eqb m 0 (λ z. omega arith) in λ i. record { literal = e i; mask = m }

-- ---- the core's nodes

module _ {P : Pack} {table : List (List ℕ)} {nodes triples masks : List ℕ} (I : Input P table nodes triples masks) where
  -- the nodes of some keys
  pub record NodesOf (ks : List ℕ) : Type 0 where
    pub list : List Node
    pub keys : map key_of list ≡ ks
    pub in_core : (n : Node) → n ∈ list → CoreNode P n

  nodes_of : (ks : List ℕ) → ((k : ℕ) → k ∈ ks → NodeKey P k) → NodesOf ks
  nodes_of [] f = record { list = []; keys = refl; in_core = λ n m. elim m [ ] }
  nodes_of (k ∷ ks) f =
      let a = f k (here refl) in
      let r = nodes_of ks (λ j m. f j (there m)) in
      record { list = a.node ∷ r.list; keys = λ i. sym a.is i ∷ r.keys i; in_core = λ n m. by a r n m }
    where
      by : (a : NodeKey P k) (r : NodesOf ks) (n : Node) → n ∈ (a.node ∷ r.list) → CoreNode P n
      by a r n (here e) = subst (CoreNode P) (sym e) a.in_core
      by a r n (there m) = r.in_core n m

  pub all_nodes : NodesOf nodes
  all_nodes = nodes_of nodes (λ k m. (I.held.node_keys_are.members k).0 m)

  core_ascend : (ns : List Node) → InOrder ◌<◌ (map key_of ns) → ((n : Node) → n ∈ ns → CoreNode P n) → InOrder ◌◃◌ (map core ns)
  core_ascend [] a c = empty
  core_ascend (n ∷ ns) (before f a) c = before above (core_ascend ns a (λ m i. c m (there i)))
    where
      above : (b : BuiltNode) → b ∈ map core ns → core n ◃ b
      above b m =
          let r = ∈_map⁻¹ core ns m in
          subst (λ x. core n ◃ x) (sym r.2)
          (less_key P I.bounded n r.0 (proper P (well I) (c n (here refl))) (proper P (well I) (c r.0 (there r.1))) (f (key_of r.0) (∈-map key_of r.1)))

  core_first : (n : Node) (X : TypeSet) → core n ◃ invented X
  unfolding node_key
  core_first (iri_node c vs) X = go X.literal
    where
      go : (l : Bool) → (0 ∷ c ∷ vs) ≺ (invented_kind l ∷ X.mask ∷ [])
      go true = less {x = 0} {y = 2} (omega arith)
      go false = less {x = 0} {y = 3} (omega arith)
  core_first (literal_node v) X = go X.literal
    where
      go : (l : Bool) → (1 ∷ v ∷ []) ≺ (invented_kind l ∷ X.mask ∷ [])
      go true = less {x = 1} {y = 2} (omega arith)
      go false = less {x = 1} {y = 3} (omega arith)

  core_records_lem : (arities : List ℕ) → Arities P arities → (ns : List Node) (ms : List ℕ) → ((n : Node) → n ∈ ns → CoreNode P n)
      → ((i : ℕ) (n : Node) → get_elem? ns i ≡ some n → Masked P (core n) (get_or ms i 0)) → length ns ≤ length ms
      → Forall₂ (NodeRecord P) (map core ns) (core_records arities (map key_of ns) ms)
  unfolding core_records
  core_records_lem arities ar [] ms c h l = Forall₂.nil
  core_records_lem arities ar (n ∷ ns) [] c h l = absurd (let z : ⊥ = omega arith in z)
  core_records_lem arities ar (n ∷ ns) (m ∷ ms) c h l =
      Forall₂.cons (core_record P I.bounded arities ar m n (proper P (well I) (c n (here refl))) (h 0 n refl))
      (core_records_lem arities ar ns ms (λ k i. c k (there i)) (λ i k e. h (suc i) k e) (omega arith))

  key_at : (ns : List Node) (ks : List ℕ) → map key_of ns ≡ ks → (i : ℕ) (n : Node) → get_elem? ns i ≡ some n → get_elem? ks i ≡ some (key_of n)
  key_at ns ks e i n q = subst (λ l. get_elem? l i ≡ some (key_of n)) e (go ns i q)
    where
      go : (ns : List Node) (i : ℕ) → get_elem? ns i ≡ some n → get_elem? (map key_of ns) i ≡ some (key_of n)
      go [] i q = absurd (none-ne-some n q)
      go (m ∷ ns) zero q = ap {B = Option ℕ} (λ x. some (key_of x)) (some-injective m n q)
      go (m ∷ ns) (suc i) q = go ns i q

  -- ---- all nodes

  pub set_of : {X : TypeSet} → ¬ MixedKinds P → IsBuilt P (invented X) → node_set X.mask ≡ X
  set_of {X} clean i = node_set_lem X (literal_alone P clean i) (types_some P clean i)

  -- the marked sets are those of the invented nodes
  pub marked_nodes : {flags sets : List ℕ} {r : ℕ} → InventedSets P flags → NodeSets flags sets r → InventedNodes P (take r sets)
  unfolding node_set
  marked_nodes {flags} f l = list_as (λ k. (λ (m, h). subst (λ X. IsBuilt P (invented X)) (slot_set k h) ((f.sets (slot_of k)).0 m).1, back k)) l.list
    where
      back : (k : ℕ) → IsBuilt P (set_node k) → Marked flags (slot_of k) × (k < type_sets)
      back k i = let h = small_set I i in ((f.sets (slot_of k)).1 (slot_lt k h, subst (λ X. IsBuilt P (invented X)) (sym (slot_set k h)) i), h)

  module _ {sets : List ℕ} (listed : InventedNodes P sets) (clean : ¬ MixedKinds P) where
    unfoldable pub in_order : List BuiltNode
    in_order = map core all_nodes.list ++ map set_node sets

    node_built : (b : BuiltNode) → (b ∈ map core all_nodes.list) ⊎ (b ∈ map set_node sets) → IsBuilt P b
    node_built b (inl m) = let r = ∈_map⁻¹ core all_nodes.list m in subst (IsBuilt P) (sym r.2) (in_core (all_nodes.in_core r.0 r.1))
    node_built b (inr m) = let r = ∈_map⁻¹ set_node sets m in subst (IsBuilt P) (sym r.2) ((listed.members r.0).0 r.1)

    built_node : (b : BuiltNode) → IsBuilt P b → b ∈ in_order
    unfolding in_order
    built_node (core n) (in_core c) =
        let k = (I.held.node_keys_are.members (key_of n)).1 (record { node = n; in_core = c; is = refl }) in
        let r = ∈_map⁻¹ key_of all_nodes.list (subst (λ l. key_of n ∈ l) (sym all_nodes.keys) k) in
        let e = key_one P I.bounded n r.0 (proper P (well I) c) (proper P (well I) (all_nodes.in_core r.0 r.1)) r.2 in
        ∈_append (map core all_nodes.list) (map set_node sets) (inl (subst (λ m. core m ∈ map core all_nodes.list) (sym e) (∈-map core r.1)))
    built_node (invented X) i =
        let e = set_of clean i in
        let m = (listed.members X.mask).1 (subst (λ Y. IsBuilt P (invented Y)) (sym e) i) in
        ∈_append (map core all_nodes.list) (map set_node sets) (inr (subst (λ Y. invented Y ∈ map set_node sets) e (∈-map set_node m)))

    pub nodes_in_order : NodesInOrder P in_order
    unfolding in_order
    nodes_in_order = record {
      ascending = joined_order (map core all_nodes.list) (map set_node sets)
          (core_ascend all_nodes.list (subst (InOrder ◌<◌) (sym all_nodes.keys) I.held.node_keys_are.ascending) all_nodes.in_core)
          (sets_ascend sets listed.ascending) across;
      members = λ b. (λ m. node_built b (Memᴰ.append_cases (map core all_nodes.list) m), built_node b);
    }
      where
        across : (x y : BuiltNode) → x ∈ map core all_nodes.list → y ∈ map set_node sets → x ◃ y
        across x y m n =
            let r = ∈_map⁻¹ core all_nodes.list m in
            let s = ∈_map⁻¹ set_node sets n in
            subst (λ z. x ◃ z) (sym s.2) (subst (λ z. z ◃ set_node s.0) (sym r.2) (core_first r.0 (node_set s.0)))

    pub nodes_recorded : (arities : List ℕ) → Arities P arities → Forall₂ (NodeRecord P) in_order (core_records arities nodes masks ++ map set_numbers sets)
    unfolding in_order
    nodes_recorded arities ar =
        join (map core all_nodes.list) (core_records arities nodes masks)
        (subst (λ ks. Forall₂ (NodeRecord P) (map core all_nodes.list) (core_records arities ks masks)) all_nodes.keys
        (core_records_lem arities ar all_nodes.list masks all_nodes.in_core
        (λ i n e. masked I n i (all_nodes.in_core n (element all_nodes.list i n e)) (key_at all_nodes.list nodes all_nodes.keys i n e))
        (let h = I.held.long in let q = length-map all_nodes.list key_of in let k = ap length all_nodes.keys in omega arith)))
        (each sets)
      where
        join : (bs : List BuiltNode) (rs : List (List ℕ)) {cs : List BuiltNode} {ss : List (List ℕ)} → Forall₂ (NodeRecord P) bs rs
            → Forall₂ (NodeRecord P) cs ss → Forall₂ (NodeRecord P) (bs ++ cs) (rs ++ ss)
        join [] (r ∷ rs) {cs = cs} {ss = ss} x4 y = elim x4 [ ]
        join (b ∷ bs) [] {cs = cs} {ss = ss} x4 y = elim x4 [ ]
        join [] [] Forall₂.nil y = y
        join (b ∷ bs) (r ∷ rs) (Forall₂.cons x xs) y = Forall₂.cons x (join bs rs xs y)

        each : (js : List ℕ) → Forall₂ (NodeRecord P) (map set_node js) (map set_numbers js)
        each [] = Forall₂.nil
        each (j ∷ js) = Forall₂.cons (set_record P j) (each js)

    -- ---- the places of invented nodes

    pub core_count : length (map core all_nodes.list) ≡ length nodes
    core_count = length-map all_nodes.list core ∙ sym (length-map all_nodes.list key_of) ∙ ap length all_nodes.keys

    pub set_at_lem : (i : ℕ) → i < length sets → get_elem? in_order (length nodes + i) ≡ some (set_node (get_or sets i 0))
    unfolding in_order
    set_at_lem i h =
        subst (λ n. get_elem? (map core all_nodes.list ++ map set_node sets) (n + i) ≡ some (set_node (get_or sets i 0))) core_count
        (at_later (map core all_nodes.list) (map set_node sets) i ∙ entry_map set_node sets i (get_or sets i 0) (entry_at sets i h))

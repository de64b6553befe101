-- The records of the core nodes and then those of the sets are the node list. Assumes nothing.
use Rattle.std.proofs.Common.{◌≡◌, ℕ, suc, ◌+◌, ◌*◌, ◌≤◌, List, [], ◌∷◌, ◌++◌, map, length, take, drop, sym, refl, ap, ◌∙◌, arith, length-append, drop-drop, take_at, drop_at}
use lib.ListN.{length-map}
use mathlib.Core.List.{flatten}
use Rattle.core_lists.specs.Input.{Input}
use Rattle.node_list.specs.NodeList.{InventedNodes, NodesListed}
use Rattle.node_list.specs.Records.{Arities, SetsFit, core_numbers, core_records, overwritten, set_numbers}
use Rattle.node_list.proofs.CoreList.{numbers_long}
use Rattle.node_list.proofs.Order.{in_order, nodes_in_order, nodes_recorded}
use Rattle.node_list.proofs.SetList.{few_sets, set_long}
use Rattle.meaning.specs.Limits.{max_core_nodes, node_list_length, node_width, type_sets}
use Rattle.meaning.specs.NoGraph.{MixedKinds}
use Rattle.meaning.specs.Pack.{Pack}
use Rattle.meaning.proofs.Lists.Blocks.{flat_join}

-- ---- lengths

core_long : (arities ks ms : List ℕ) → length (core_records arities ks ms) ≡ length ks
unfolding core_records
core_long arities [] ms = refl
core_long arities (k ∷ ks) [] = ap suc (core_long arities ks [])
core_long arities (k ∷ ks) (m ∷ ms) = ap suc (core_long arities ks ms)

core_flat : (arities ks ms : List ℕ) → length (flatten (core_records arities ks ms)) ≡ length ks * node_width
unfolding core_records flatten
core_flat arities [] ms = refl
core_flat arities (k ∷ ks) [] = length-append (core_numbers arities k 0) (flatten (core_records arities ks [])) ∙ (let a = numbers_long arities k 0 in let b = core_flat arities ks [] in omega arith)
core_flat arities (k ∷ ks) (m ∷ ms) = length-append (core_numbers arities k m) (flatten (core_records arities ks ms))
    ∙ (let a = numbers_long arities k m in let b = core_flat arities ks ms in omega arith)

sets_flat : (js : List ℕ) → length (flatten (map set_numbers js)) ≡ length js * node_width
unfolding flatten
sets_flat [] = refl
sets_flat (j ∷ js) = length-append (set_numbers j) (flatten (map set_numbers js)) ∙ (let a = set_long j in let b = sets_flat js in omega arith)

fits_in : (n m f l : ℕ) → n ≤ max_core_nodes → m ≤ type_sets → f ≡ m * node_width → node_list_length ≤ l → n * node_width + f ≤ l
fits_in n m f l a b e h = omega arith

same_count : (n m f r : ℕ) → r ≡ n + m → f ≡ m * node_width → n * node_width + f ≡ r * node_width
same_count n m f r a b = omega arith

both_counts : (a b n m : ℕ) → a ≡ n → b ≡ m → a + b ≡ n + m
both_counts a b n m p q = omega arith

-- two parts written one after the other
two_parts : (n : ℕ) (a b out : List ℕ) → length a ≡ n → n + length b ≤ length out → overwritten n b (overwritten 0 a out) ≡ (a ++ b) ++ drop (n + length b) out
two_parts n a b out l h =
    let z : 0 + length a ≡ n = omega arith in
    let t : take n (overwritten 0 a out) ≡ a = take_at a (drop (0 + length a) out) n l in
    let d : drop n (overwritten 0 a out) ≡ drop n out = drop_at a (drop (0 + length a) out) n l ∙ ap (λ (x : ℕ). drop x out) z in
    let e : drop (n + length b) (overwritten 0 a out) ≡ drop (n + length b) out = sym (drop-drop (length b) n (overwritten 0 a out)) ∙ ap (drop (length b)) d ∙ drop-drop (length b) n out in
    rw (t, e) refl

-- ---- all nodes

module _ {P : Pack} {table : List (List ℕ)} {nodes triples masks sets : List ℕ} (I : Input P table nodes triples masks) (listed : InventedNodes P sets) (clean : ¬ MixedKinds P)
    (arities : List ℕ) (ar : Arities P arities) where
  pub nodes_listed : SetsFit sets → (out : List ℕ) {out₁ out₂ : List ℕ} → length nodes ≤ max_core_nodes → node_list_length ≤ length out
      → out₁ ≡ overwritten 0 (flatten (core_records arities nodes masks)) out
      → out₂ ≡ overwritten (length nodes * node_width) (flatten (map set_numbers sets)) out₁ → NodesListed P out out₂ (length nodes + length sets)
  nodes_listed fit out few room e l = record {
    in_order = in_order I listed clean;
    ordered = nodes_in_order I listed clean;
    records = core_records arities nodes masks ++ map set_numbers sets;
    recorded = nodes_recorded I listed clean arities ar;
    counted = sym (length-append (core_records arities nodes masks) (map set_numbers sets)
        ∙ both_counts (length (core_records arities nodes masks)) (length (map set_numbers sets)) (length nodes) (length sets)
        (core_long arities nodes masks) (length-map sets set_numbers));
    few = omega (arith, few_sets fit);
    written = l ∙ ap (λ x. overwritten (length nodes * node_width) sn x) e ∙ two_parts (length nodes * node_width) cn sn out (core_flat arities nodes masks) fits
        ∙ ap (λ x. (cn ++ sn) ++ drop x out) (same_count (length nodes) (length sets) (length sn) (length nodes + length sets) refl (sets_flat sets))
        ∙ ap (λ x. x ++ drop ((length nodes + length sets) * node_width) out) (sym (flat_join (core_records arities nodes masks) (map set_numbers sets)));
  }
    where
      cn : List ℕ
      cn = flatten (core_records arities nodes masks)

      sn : List ℕ
      sn = flatten (map set_numbers sets)

      fits : length nodes * node_width + length sn ≤ length out
      fits = fits_in (length nodes) (length sets) (length sn) (length out) few (few_sets fit) (sets_flat sets) room

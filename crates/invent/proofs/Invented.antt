-- The sets that are marked from the core's nodes, and what follows from them, are those of the invented nodes. Assumes
-- nothing.
use lib.ListN.{get_or, get_elem?, length}
use mathlib.Core.Bool.{Bool, true, false}
use mathlib.Core.List.{List}
use mathlib.Core.Logic.{◌↔◌}
use mathlib.Core.Option.{some}
use mathlib.Core.Path.{◌≡◌, sym, subst}
use borrow.Author.Tests.{le-leb, lt-leb}
use lib.Pow.{pow_mono}
use native.Mathlib.Nat.{lt_of_lt_of_le}
use native.Mathlib.Omega.{arith}
use Prim.Native.Nat.{ℕ, ◌+◌, ◌%◌, ◌<◌}
use Rattle.spread.specs.Keys.{key_of, origin_at, predicate_of, subject_of, triple_key}
use Rattle.core_lists.specs.Input.{Input}
use Rattle.invent.specs.Invent.{CoreLacks, Follows, InventedSets, Lacks, Leads, follows, marked, set_at}
use Rattle.core_lists.proofs.Places.{edge_at, edge_key, masked, node_at, place_of, place_small, requires_masked, same_node_at, targets_masked, masked_targets, well}
use Rattle.core_lists.specs.Origin.{HasOrigin}
use Rattle.invent.proofs.SetNumbers.{number_one}
use Rattle.meaning.proofs.Lists.Places.{inside}
use Rattle.meaning.proofs.Theory.Invented.{mask_small}
use Rattle.meaning.specs.Built.{BuiltNode, Gets, HasCoreEdge, IsBuilt, PTargets, arises, core, in_core, invented}
use Rattle.meaning.specs.Core.{CoreEdge, CoreNode, Node, as_object, as_subject}
use Rattle.meaning.specs.Limits.{max_predicates, member_sets, type_sets}
use Rattle.meaning.specs.Pack.{Pack}
use Rattle.meaning.specs.TypeSet.{TypeSet}
use Rattle.worklist.specs.Table.{Marked}

-- ---- the number of a set

unfoldable pub lifted : Bool → ℕ → ℕ
lifted true k = type_sets + k
lifted false k = k

unfoldable pub set_number : TypeSet → ℕ
unfolding lifted
set_number X = lifted X.literal X.mask

pub number_back : (X : TypeSet) → X.mask < type_sets → (set_number X < member_sets) × (set_at (set_number X) ≡ X)
unfolding set_number set_at lifted
number_back X h = go X.literal X.mask h
  where
    go : (l : Bool) (k : ℕ) → k < type_sets → (lifted l k < member_sets) × (set_at (lifted l k) ≡ record { literal = l; mask = k })
    go true k h =
        let q : (type_sets + k) % type_sets ≡ k = omega arith in
        let e = le-leb type_sets (type_sets + k) (omega arith) in
        (omega arith, λ i. record { literal = e i; mask = q i })
    go false k h =
        let q : k % type_sets ≡ k = omega arith in
        let e = lt-leb type_sets k h in
        (omega arith, λ i. record { literal = e i; mask = q i })

-- a set's number, back
pub number_of_at : (j : ℕ) → j < member_sets → set_number (set_at j) ≡ j
unfolding set_at
number_of_at j h = number_one (set_number (set_at j)) j r.0 h r.1
  where
    r : (set_number (set_at j) < member_sets) × (set_at (set_number (set_at j)) ≡ set_at j)
    r = number_back (set_at j) (omega arith)

module _ {P : Pack} {table : List (List ℕ)} {nodes triples masks : List ℕ} (I : Input P table nodes triples masks) where
  pub small_set : {X : TypeSet} → IsBuilt P (invented X) → X.mask < type_sets
  small_set {X} i = lt_of_lt_of_le (mask_small P (well I) i) (pow_mono I.bounded.types)

  -- ---- what a node gets

  pub leads_to : {b : BuiltNode} {p : ℕ} {X : TypeSet} → Gets P b p X → IsBuilt P (invented X) → Leads P b p (set_number X)
  leads_to {b} {p} {X} g i =
      let n = number_back X (small_set i) in
      record { small = n.0; needs = g.needs; targets = subst (λ Y. PTargets P b p Y) (sym n.1) g.targets }

  pub known_predicate : {b : BuiltNode} {p : ℕ} {X : TypeSet} → Gets P b p X → p < max_predicates
  known_predicate g = let h = (well I).predicate g.needs.declared in let k = I.bounded.predicates in omega arith

  -- ---- the core's edges by their origin

  pub no_core_edge : (n : Node) (s p : ℕ) → get_elem? nodes s ≡ some (key_of n) → ¬ HasOrigin triples (origin_at s p) → ¬ HasCoreEdge P (core n) p
  unfolding triple_key
  no_core_edge n s p e none h =
      let o = place_of I (as_object h.1) in
      let small = place_small I h.0 o.0 o.1 in
      none (record { key = triple_key s p o.0; listed = edge_key I s o.0 h.1 e o.1; is = omega arith })

  pub no_origin : (n : Node) (s p : ℕ) → CoreNode P n → p < max_predicates → get_elem? nodes s ≡ some (key_of n) → ¬ HasCoreEdge P (core n) p → ¬ HasOrigin triples (origin_at s p)
  no_origin n s p c hp e none o =
      let a = edge_at I o.key o.listed in
      let q = o.is in
      let es : subject_of o.key ≡ s = omega arith in
      let ep : predicate_of o.key ≡ p = omega arith in
      let same = same_node_at I s (as_subject a.edge) c (subst (λ x. get_elem? nodes x ≡ some (key_of a.from)) es a.from_at) e in
      none (a.to, subst (λ m. CoreEdge P m p a.to) same (subst (λ x. CoreEdge P a.from x a.to) ep a.edge))

  -- ---- what is marked is built

  lacks_built : (j s : ℕ) → s < length nodes → (p : ℕ) → Lacks P triples s (get_or masks s 0) p j → IsBuilt P (invented (set_at j))
  lacks_built j s h p l =
      let n = node_at I s h in
      let m = masked I n.node s n.in_core n.is in
      arises (in_core n.in_core) (record {
        needs = (requires_masked P m p).0 l.leads.needs;
        missing = no_core_edge n.node s p n.is l.none;
        targets = targets_masked P m p l.leads.targets;
      })

  seeded_built : (j : ℕ) → CoreLacks nodes triples masks P j → (j < member_sets) × IsBuilt P (invented (set_at j))
  seeded_built j u = let v = u.holds in (v.holds.leads.small, lacks_built j u.at u.below v.at v.holds)

  module _ {flags : List ℕ} (seeds : (j : ℕ) → Marked flags j ↔ CoreLacks nodes triples masks P j) where
    follows_built : {j : ℕ} → Follows P flags j → (j < member_sets) × IsBuilt P (invented (set_at j))
    follows_built {j} (marked e) = seeded_built j ((seeds j).0 e)
    follows_built {j} (follows f h hp l) = (l.small, arises (follows_built f).1 (record { needs = l.needs; missing = λ z. z; targets = l.targets }))

    -- ---- what is built is marked

    built_follows : {X : TypeSet} → IsBuilt P (invented X) → Follows P flags (set_number X)
    built_follows {X} (arises {b = core n} {p} (in_core c) g) =
        let s = place_of I c in
        let h = inside nodes s.0 (key_of n) s.1 in
        let k = masked I n s.0 c s.1 in
        let l = leads_to g (arises (in_core c) g) in
        let hp = known_predicate g in
        marked ((seeds (set_number X)).1 (record {
          at = s.0;
          below = h;
          holds = record {
            at = p;
            below = hp;
            holds = record {
              none = no_origin n s.0 p c hp s.1 g.missing;
              leads = record { small = l.small; needs = (requires_masked P k p).1 l.needs; targets = masked_targets P k p l.targets };
            };
          };
        }))
    built_follows {X} (arises {b = invented Y} {p} i g) =
        let n = number_back Y (small_set i) in
        let l = leads_to g (arises i g) in
        follows (built_follows i) n.0 (known_predicate g) (subst (λ Z. Leads P (invented Z) p (set_number X)) (sym n.1) l)

    pub invented_sets : (after : List ℕ) → ((j : ℕ) → Marked after j ↔ Follows P flags j) → InventedSets P after
    invented_sets after c = record { sets = λ j. (λ e. follows_built ((c j).0 e), λ h. (c j).1 (back j h)) }
      where
        back : (j : ℕ) → (j < member_sets) × IsBuilt P (invented (set_at j)) → Follows P flags j
        back j h = subst (Follows P flags) (number_of_at j h.0) (built_follows h.1)

-- The passes put together: the nodes that are listed have places, the triples that are listed name them, and the masks hold
-- their types. Assumes nothing.
use Rattle.std.specs.Prelude.{◌≡◌, ℕ, ◌<◌, ◌≤◌, ◌⊎◌, List, length, get_or, take}
use lib.ListN.{length-take}
use mathlib.Core.List.Memᴰ
use mathlib.Core.Logic.{inl, inr}
use mathlib.Core.Path.{refl, sym, ◌∙◌, ap, subst}
use native.Mathlib.Decide.{ℕ_discrete}
use native.Mathlib.Omega.{arith}
use Rattle.core_graph.proofs.NodeKeys.{link_keys, subject_in}
use Rattle.core_graph.proofs.TripleKeys.{link_triple, no_triple}
use Rattle.spread.proofs.Rounds.{rounds_over, rounds_some}
use Rattle.core_graph.proofs.TypeSources.{decoded, spread_over, start_at, types_at}
use Rattle.core_graph.specs.Bounds.{HeadFits, HeadsFit}
use Rattle.core_graph.specs.Collected.{FromRules, SetGrown, KnownMatch, KnownRules, TypesMarked, HeadType, node_keys, object_key, subject_key, triple_keys}
use Rattle.core_graph.specs.Heads.{kind_number, named_number}
use Rattle.core_graph.specs.Outcomes.{CoreListed, NodeKeysListed, TripleKeysListed, TypesAnswer}
use Rattle.spread.specs.Rounds.{RoundsMadeOn}
use Rattle.spread.specs.Spread.{AllTriplesFit, TripleFits, SpreadFrom}
use Rattle.meaning.specs.Limits.{max_core_nodes, max_core_triples, max_iris}
use Rattle.meaning.specs.Member.{◌∈◌}
use Rattle.meaning.specs.NoGraph.{CoreIri, CoreTriple}
use Rattle.meaning.specs.Ordered.{InOrder, Over}
use Rattle.meaning.specs.Pack.{Pack}
use Rattle.sets.proofs.Rank.{rank_member}
use Rattle.sets.specs.Buffers.{zeros}
use Rattle.sets.specs.Ordered.{rank_of}
use Rattle.meaning.proofs.Lists.Members.{only_new}
use Rattle.meaning.proofs.Lists.Places.{zeros_at}
use Rattle.meaning.proofs.Model.Core.{spread_number}
use Rattle.meaning.proofs.Model.Resolved.{resolved}
use Rattle.meaning.proofs.Theory.Rounds.{few_rounds}

-- ---- types, from cleared masks on

module _ {rules : List (List ℕ)} {count : ℕ} {heads counts : List ℕ} (fit : HeadsFit rules count heads counts) where
  pub types_answer : (nodes : List ℕ) → length nodes ≤ max_core_nodes → (triples before : List ℕ) → before ≡ zeros (length before) → (start : List ℕ)
      → TypesMarked (FromRules (HeadType nodes) rules count heads counts) before start → (table : List (List ℕ)) (after : List ℕ)
      → SpreadFrom table triples start after → {rounds : ℕ} → RoundsMadeOn table triples rounds start after
      → TypesAnswer rounds table rules count heads counts nodes triples after
  types_answer nodes few triples before e start marked table after spread settled P h b tab l ts =
      let none : (i : ℕ) → get_or before i 0 ≡ 0 = λ i. ap (λ (x : List ℕ). get_or x i 0) e ∙ zeros_at (length before) i in
      let made = (settled P.setting tab).made in (
        types_at fit nodes few P h b l triples ts before start none marked table tab after spread,
        record {
          start = start;
          given = start_at fit nodes few P h b l triples ts before start none marked;
          made = made;
          few = few_rounds (rounds_some made) (λ k m. spread_over fit nodes few P h b l triples ts before start none marked tab spread (rounds_over made k m))
              (spread_number P (resolved P b.resolved)).1;
        },
      )

  -- ---- what the passes suppose of each other

  -- the nodes of all heads are listed
  pub known_rules : {m : ℕ} {d d' : List ℕ} → SetGrown (FromRules (λ head k y. y ∈ node_keys head k) rules count heads counts) 0 m d d'
      → KnownRules (take m d') rules count heads counts
  known_rules g r l k i y m = (g.list.members y).1 (inr (record { rule = r; below = l; gives = record { key = k; listed = i; gives = m } }))

  module _ (nodes : List ℕ) (a : InOrder ◌<◌ nodes) (few : length nodes ≤ max_core_nodes) where
    placed_triple : (head : List ℕ) (k : ℕ) → HeadFits head → KnownMatch nodes head k → (y : ℕ) → y ∈ triple_keys nodes head k → TripleFits y
    placed_triple head k f known y m = go (ℕ_discrete (kind_number head) 0)
      where
        go : Dec (kind_number head ≡ 0) → TripleFits y
        go (yes e) = elim (rw (no_triple nodes head k e) at m) [ ]
        go (no n) =
            let s = (rank_member (subject_key head k) nodes a (known (subject_key head k) (subject_in head k refl))).inside in
            let o = (rank_member (object_key head k) nodes a (known (object_key head k) ((link_keys head k n (object_key head k)).0 (inr refl)))).inside in
            let d = decoded (rank_of (subject_key head k) nodes) (named_number head) (rank_of (object_key head k) nodes) (omega (arith, f.named))
            (omega (arith, o, few)) in
            let e = Memᴰ.eq_of_singleton (rw (link_triple nodes head k n) at m) in
            subst TripleFits (sym e)
            (record { from = omega (arith, d.0, s, few); named = omega (arith, d.1, f.named); to = omega (arith, d.2, o, few) })

    -- the triples of all heads have their nodes' places
    pub all_placed : KnownRules nodes rules count heads counts → {m : ℕ} {d d' : List ℕ}
        → SetGrown (FromRules (λ head k y. y ∈ triple_keys nodes head k) rules count heads counts) 0 m d d' → AllTriplesFit (take m d')
    all_placed known g y i =
        let f = only_new ((g.list.members y).0 i) in
        placed_triple _ f.gives.key (fit.fits f.rule f.below) (known f.rule f.below f.gives.key f.gives.listed) y f.gives.gives

-- ---- the whole

pub core_listed : {n t rounds : ℕ} {table rules : List (List ℕ)} {count : ℕ} {heads counts nodes₀ nodes triples₀ triples masks : List ℕ}
    → NodeKeysListed n rules count heads counts nodes₀ nodes → TripleKeysListed t (take n nodes) rules count heads counts triples₀ triples
    → TypesAnswer rounds table rules count heads counts (take n nodes) (take t triples) masks
    → length nodes ≡ max_core_nodes → length triples ≡ max_core_triples → max_core_nodes ≤ length masks
    → CoreListed n t rounds table rules count heads counts nodes triples masks
core_listed {n} {t} {nodes = nodes} {triples = triples} a b c l k m = record {
  few_nodes = omega (arith, a.grown.fits, l);
  few_triples = omega (arith, b.grown.fits, k);
  held = λ P h bd tab.
      let ns = a.list P h bd in
      let ts = b.list P h bd ns in
      record { node_keys_are = ns; triple_keys_are = ts; long = omega (arith, length-take n nodes, a.grown.fits, l, m); types = (c P h bd tab ns ts).0 };
  settled = λ P h bd tab. let ns = a.list P h bd in (c P h bd tab ns (b.list P h bd ns)).1;
  within = λ P h bd. neither P (a.within P h bd) (b.within P h bd (a.list P h bd));
}
  where
    neither : (P : Pack) → ¬ Over max_iris (CoreIri P) → ¬ Over max_core_triples (CoreTriple P) → ¬ (Over max_iris (CoreIri P) ⊎ Over max_core_triples (CoreTriple P))
    neither P x y (inl o) = x o
    neither P x y (inr o) = y o

-- From the heads of a pack to its core, and on to what it comes to. Assumes nothing.
use Rattle.std.proofs.Common.{◌≡◌, ℕ, ◌≤◌, true, ltb, List, Result, Ok, Err, length, take, sym, subst, inl, arith, length-take-le, ltb-false, ltb-true}
use Rattle.calls.specs.Call.{Contents, Kept}
use Rattle.construct.specs.Outcome.{refused_as}
use Rattle.construct.specs.Steps.{FromCore, FromHeads, HeadsGiven, HeadsOf, OfHeads, large, small}
use Rattle.core_graph.proofs.Fits.{heads_fit}
use Rattle.core_graph.proofs.Iris.{iris_over}
use Rattle.core_graph.proofs.Shapes.{codes_fit, tabled}
use Rattle.core_graph.specs.Bounds.{Bounded, HeadsFit}
use Rattle.core_graph.specs.Heads.{HeadsHeld}
use Rattle.core_graph.specs.CoreHeld.{CoreHeld}
use Rattle.core_graph.specs.Outcomes.{CoreAnswer, CoreListed}
use Rattle.core_graph.specs.declared.CoreSize.{CoreSize}
use Rattle.core_lists.specs.Input.{Input}
use Rattle.graph.specs.Fronts.{graph_lists}
use Rattle.graph.specs.declared.Size.{Size}
use Rattle.node_list.specs.Records.{Arities}
use Rattle.meaning.specs.Limits.{first_literal, heads_length, max_core_nodes, max_core_triples, max_iris}
use Rattle.meaning.specs.NoGraph.{CoreIri}
use Rattle.meaning.specs.Ordered.{Over}
use Rattle.meaning.specs.Pack.{Pack}
use Rattle.meaning.specs.Tables.{ShapeTable}
use Rattle.meaning.specs.declared.refusal.Refusal.{Refusal}
use Rattle.names.specs.PackGiven.{ForSetting, IsSetting}
use Rattle.rule_heads.proofs.HeldRule.{bounded}
use Rattle.rule_heads.specs.declared.AllHeads.{AllHeads}
use Rattle.meaning.proofs.Cases.{case_on}
use Rattle.sets.specs.Ordered.{rank_of}
use Rattle.sets.specs.declared.ordered.Full.{Full}
use Rattle.shapes.specs.Shapes.{CodesFit}
use Rattle.tables.specs.Tables.{HeadTable, IsResolvedSetting}

-- the setting's part of what is given
pub setting_given : {counts numbers : List ℕ} {found : AllHeads} {heads : List ℕ} → HeadsGiven counts numbers found heads → IsSetting counts numbers
setting_given g = record { pack = g.pack; given = g.is.given }

pub setting_resolved : {counts numbers : List ℕ} {found : AllHeads} {heads : List ℕ} → HeadsGiven counts numbers found heads → IsResolvedSetting counts numbers
setting_resolved g = record { pack = g.pack; given = g.is.given; resolved = g.is.resolved }

-- the tables that were made of the setting's numbers
pub record Tables (counts numbers : List ℕ) (table rules : List (List ℕ)) : Type 0 where
  pub shapes : ForSetting counts numbers (λ P. ShapeTable P.setting table)
  pub heads : ForSetting counts numbers (λ P. HeadTable P rules)

-- and what the core answered
pub record Cored (counts numbers : List ℕ) (found : AllHeads) (heads : List ℕ) (table rules : List (List ℕ)) (nodes triples masks : List ℕ) (r : Result CoreSize Full) : Type 0 where
  pub tables : Tables counts numbers table rules
  pub answer : CoreAnswer r table rules found.count heads found.counts nodes triples masks
  pub room : length nodes ≡ max_core_nodes
  pub space : length triples ≡ max_core_triples

module _ {counts numbers : List ℕ} {found : AllHeads} {heads : List ℕ} where
  within : {P : Pack} → HeadsOf P counts numbers found heads → Bounded P
  within g = bounded g.given.bounds g.resolved

  module _ {table rules : List (List ℕ)} (t : Tables counts numbers table rules) where
    heads_held : {P : Pack} → HeadsOf P counts numbers found heads → HeadsHeld P rules found.count heads found.counts
    heads_held {P} g = g.found.held rules (t.heads P g.given)

    -- what the core asks
    pub core_ready : HeadsGiven counts numbers found heads → heads_length ≤ length heads → CodesFit table × HeadsFit rules found.count heads found.counts
    core_ready g l =
        let b = within g.is in
        let f = g.is.found in
        (codes_fit (t.shapes g.pack g.is.given) b, heads_fit (heads_held g.is) b f.few l f.short)

module _ {counts numbers : List ℕ} {found : AllHeads} {heads : List ℕ} {table rules : List (List ℕ)} {nodes triples masks : List ℕ} {r : Result CoreSize Full}
    (k : Cored counts numbers found heads table rules nodes triples masks r) where
  -- 9
  pub large_answer : {a : Result Size Refusal} {out edges index : Contents} {x : Full} → r ≡ Err x → a ≡ refused_as 9 → Kept (graph_lists out edges index)
      → OfHeads counts numbers found heads (λ P. FromHeads P a out edges index)
  large_answer e q x P g =
      large (subst (λ (o : Result CoreSize Full). CoreAnswer o table rules found.count heads found.counts nodes triples masks) e k.answer P (heads_held k.tables g) (within g)) q x

  module _ {size : CoreSize} (e : r ≡ Ok size) where
    listed : CoreListed size.nodes size.triples size.rounds table rules found.count heads found.counts nodes triples masks
    listed = subst (λ (o : Result CoreSize Full). CoreAnswer o table rules found.count heads found.counts nodes triples masks) e k.answer

    -- as many as are taken of the two lists
    pub node_room : size.nodes ≤ length nodes
    node_room = omega (arith, listed.few_nodes, k.room)

    pub triple_room : size.triples ≤ length triples
    triple_room = omega (arith, listed.few_triples, k.space)

    pub nodes_taken : size.nodes ≡ length (take size.nodes nodes)
    nodes_taken = sym (length-take-le size.nodes nodes node_room)

    pub triples_taken : size.triples ≡ length (take size.triples triples)
    triples_taken = sym (length-take-le size.triples triples triple_room)

    -- the core of the pack
    pub input : {P : Pack} → HeadsOf P counts numbers found heads → Input P table (take size.nodes nodes) (take size.triples triples) masks
    input {P} g = record {
      bounded = within g;
      shapes = k.tables.shapes P g.given;
      held = held;
      few = omega (arith, listed.few_nodes, nodes_taken);
      iris = case_on (ltb max_iris (rank_of first_literal (take size.nodes nodes)))
          (λ h. absurd (listed.within P (heads_held k.tables g) (within g) (inl (over h))))
          (λ h. ltb-false max_iris (rank_of first_literal (take size.nodes nodes)) h);
      short = omega (arith, listed.few_triples, triples_taken);
    }
      where
        held : CoreHeld P (take size.nodes nodes) (take size.triples triples) masks
        held = listed.held P (heads_held k.tables g) (within g) (tabled (k.tables.shapes P g.given) (within g))

        over : ltb max_iris (rank_of first_literal (take size.nodes nodes)) ≡ true → Over max_iris (CoreIri P)
        over h =
            iris_over (within g) (take size.nodes nodes) held.node_keys_are.ascending (λ i m. (held.node_keys_are.members i).0 m)
            (ltb-true max_iris (rank_of first_literal (take size.nodes nodes)) h)

    module _ {arities : List ℕ} (are : ForSetting counts numbers (λ P. Arities P arities)) where
      pub small_answer : {a : Result Size Refusal} {out edges index : Contents}
          → ((P : Pack) → Input P table (take size.nodes nodes) (take size.triples triples) masks → Arities P arities → FromCore P a out edges index)
          → OfHeads counts numbers found heads (λ P. FromHeads P a out edges index)
      small_answer o P g = small (listed.within P (heads_held k.tables g) (within g)) (o P (input g) (are P g.given))

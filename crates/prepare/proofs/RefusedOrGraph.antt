-- A query that is read or not, a pack that has a graph or not; and which of them is answered. Assumes nothing.
use lib.ListN.{length}
use mathlib.Core.List.{List}
use native.Mathlib.Omega.{arith}
use Prim.Native.Nat.{ℕ, ◌≤◌}
use Rattle.std.specs.Prelude.{Ok, Err}
use Rattle.calls.specs.Call.{Contents, Kept, Written, gives, refuses}
use Rattle.construct.proofs.Refused.{carried, no_error, no_value, same_refusal as same_of_pack}
use Rattle.construct.specs.Outcome.{Constructs}
use Rattle.graph.specs.Fronts.{graph_lists}
use Rattle.graph.specs.declared.Size.{Size}
use Rattle.meaning.specs.Limits.{max_query_bytes, node_list_length}
use Rattle.meaning.specs.Pack.{Text}
use Rattle.meaning.specs.declared.refusal.Refusal.{Refusal}
use Rattle.prepare.specs.Prepared.{Gives, Prepares, Readied, Refuses, no_graph, no_query}
use Rattle.prepare.specs.declared.Prepared.{Prepared}
use Rattle.query.specs.Answer.{HoldsQuery}
use Rattle.resolve.specs.Listed.{Roomy}

-- ---- a refusal is no value, and the same whatever it stands in the place of

module _ {A : Type 0} {pack query : Text} where
  pub not_ok : {x : A} → Refuses {A = A} pack query (Ok x) → ⊥
  not_ok (no_query x q) = no_error q
  not_ok (no_graph e i x) = no_value x

  pub same_refusal : {B : Type 0} {e : Refusal} → Refuses {A = A} pack query (Err e) → Refuses {A = B} pack query (Err e)
  same_refusal (no_query x q) = no_query x (carried q)
  same_refusal (no_graph f i x) = no_graph f i (same_of_pack x)

-- ---- what the code finds

module _ {pack query : Text} (tree : List ℕ) (nodes triples index : Contents) {parts : ℕ} (h : HoldsQuery query tree parts) where
  -- 3 to 11
  pub refused_pack : {e : Refusal} → Constructs pack (Err e) nodes triples index → Prepares pack query tree (Err e) nodes triples index
  refused_pack (refuses x k) = refuses (no_graph h.expression h.query (same_of_pack x)) k
  refused_pack (gives fs G w) = absurd G

  module _ {size : Size} (c : Constructs pack (Ok size) nodes triples index) where
    -- or the graph
    pub built : max_query_bytes ≤ length tree → Prepares pack query tree (Ok (record { size = size; parts = parts })) nodes triples index
    built l = go c
      where
        go : Constructs pack (Ok size) nodes triples index → Prepares pack query tree (Ok (record { size = size; parts = parts })) nodes triples index
        go (refuses x k) = absurd (no_value x)
        go (gives fs G w) = gives fs (record { graph = G; held = h; room = let a = h.few in let b = h.query.fits in omega arith }) w

    -- the node list has room for its nodes
    pub roomy : node_list_length ≤ length nodes.after → Roomy nodes.after size.nodes
    roomy l = go c
      where
        go : Constructs pack (Ok size) nodes triples index → Roomy nodes.after size.nodes
        go (refuses x k) = absurd (no_value x)
        go (gives fs G w) = record { room = l; few = let h = G.has.graph.listed.few_nodes in omega arith }

-- ---- what is answered

module _ {pack query : Text} (tree : List ℕ) (nodes triples index : Contents) where
  pub as_readied : {p : Prepared} → Prepares pack query tree (Ok p) nodes triples index → (fronts : List (List ℕ)) × Readied pack query tree p fronts
      × Written fronts (graph_lists nodes triples index)
  as_readied (refuses x k) = absurd (not_ok x)
  as_readied (gives fs G w) = (fs, G, w)

  pub as_refused : {e : Refusal} → Prepares pack query tree (Err e) nodes triples index → Refuses {A = Prepared} pack query (Err e) × Kept (graph_lists nodes triples index)
  as_refused (refuses x k) = (x, k)
  as_refused (gives fs G w) = absurd G

-- what is readied is given
abbrev pub given : {pack query : Text} {tree : List ℕ} {p : Prepared} {fronts : List (List ℕ)} → Readied pack query tree p fronts → Gives pack query p.size fronts
given R = record { expression = R.held.expression; is = R.held.query; graph = R.graph }

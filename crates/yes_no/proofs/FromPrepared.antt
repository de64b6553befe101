-- Yes/no's answer, from what is prepared and what is found in it. Assumes nothing.
use lib.ListN.{length}
use mathlib.Core.Bool.{Bool}
use mathlib.Core.List.{List}
use Prim.Native.Nat.{ℕ, ◌≤◌}
use Rattle.std.specs.Prelude.{Ok, Err}
use Rattle.calls.specs.Call.{Contents, gives, refuses}
use Rattle.evaluate.proofs.InLists.{graph_in, ready_in}
use Rattle.evaluate.specs.Answered.{Ready, YesIn}
use Rattle.meaning.specs.Limits.{max_parts, node_list_length, triple_list_length}
use Rattle.meaning.specs.Pack.{Text}
use Rattle.meaning.specs.declared.refusal.Refusal.{Refusal}
use Rattle.prepare.proofs.RefusedOrGraph.{as_readied, as_refused, given, same_refusal}
use Rattle.prepare.specs.Prepared.{Prepares, ResolvedIf}
use Rattle.prepare.specs.declared.Prepared.{Prepared}
use Rattle.yes_no.specs.Inner.{Comes}

module _ {pack query : Text} (tree : List ℕ) (nodes triples index : Contents) where
  pub refused : {e : Refusal} → Prepares pack query tree (Err e) nodes triples index → Comes pack query (Err e) nodes triples index
  refused c = let (x, k) = as_refused tree nodes triples index c in refuses (same_refusal x) k

  module _ {p : Prepared} (c : Prepares pack query tree (Ok p) nodes triples index) (a : node_list_length ≤ length nodes.after) (b : triple_list_length ≤ length triples.after) where
    pub ready : {wanted : List ℕ} → ResolvedIf pack query tree (Ok p) nodes.after wanted → max_parts ≤ length wanted
        → Ready pack query tree p.parts wanted nodes.after p.size.nodes triples.after p.size.triples
    ready r l = let (fs, R, w) = as_readied tree nodes triples index c in ready_in R.graph nodes triples index w a b R.held R.room r l

    pub answered : (said : Bool) → YesIn pack query nodes.after p.size.nodes triples.after p.size.triples said
        → Comes pack query (Ok (record { size = p.size; yes = said })) nodes triples index
    answered said y =
        let (fs, R, w) = as_readied tree nodes triples index c in
        gives fs (record { asked = given R; answer = y R.graph.of (graph_in R.graph nodes triples index w a b) R.held.expression R.held.query }) w

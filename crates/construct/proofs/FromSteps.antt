-- From what the steps say to what a pack comes to. Assumes nothing.
use Rattle.std.proofs.Common.{◌≡◌, ℕ, false, List, Result, Err, sym, ap, subst, inl, inr, ⊎_elim}
use Rattle.checks.specs.Checked.{Accepted, CheckedAs, SettingLoaded}
use Rattle.pack.proofs.Accepted.{WellFormed, keeps_dependencies, refused_8, refused_first, well_formed_lem}
use Rattle.construct.proofs.Accepted.{Accepts, none_obey, some_obeys}
use Rattle.calls.specs.Call.{Contents, Kept, gives, refuses}
use Rattle.construct.specs.Outcome.{Constructs, Gives, HasGraph, counted, mixed_kinds, not_accepted, refused_as, too_large, two_objects}
use Rattle.construct.specs.Steps.{FromCore, FromHeads, FromRows, clash, dependency, graph, kept, large, mixed, small}
use Rattle.graph.specs.Fronts.{graph_lists}
use Rattle.graph.specs.declared.Size.{Size}
use Rattle.meaning.specs.NoGraph.{TooLarge}
use Rattle.meaning.specs.Pack.{Pack, Text}
use Rattle.meaning.specs.WellFormed.{broken}
use Rattle.meaning.specs.declared.refusal.Refusal.{Refusal}
use Rattle.names.specs.PackGiven.{ForResolved, IsResolved, Resolved}

-- ---- the pack is well formed, and the numbers hold it

module _ {s counts numbers rows : List ℕ} (a : Accepted s counts numbers rows) where
  pack_formed : WellFormed s a.pack
  pack_formed = well_formed_lem s a.pack a.is

  resolved_of : Resolved a.pack counts numbers rows
  resolved_of = record { given = a.given; resolved = pack_formed.named }

  pub is_resolved : IsResolved counts numbers rows
  is_resolved = record { pack = a.pack; is = resolved_of }

  pub setting_loaded : SettingLoaded s counts numbers
  setting_loaded = record { pack = a.pack; is = a.is; held = a.held.setting; given = a.given.setting }

  -- and it keeps its dependencies
  abbrev keeps : broken a.pack ≡ false → Accepts s
  keeps e = record { pack = a.pack; all = keeps_dependencies s a.pack pack_formed e; formed = a.is }

-- ---- the answers

formed : {s : Text} (a : Accepts s) → WellFormed s a.pack
formed {s} a = well_formed_lem s a.pack a.formed

module _ {pack : Text} {r : Result Size Refusal} where
  -- a graph of so many nodes and triples, counted so
  counted_graph : {fronts : List (List ℕ)} (P : Pack) (n t : ℕ) → r ≡ counted n t → HasGraph pack P n t fronts → Gives pack r fronts
  counted_graph {fronts} P n t q h = subst (λ s. Gives pack s fronts) (sym q) (record { of = P; has = h })

module _ {pack : Text} {r : Result Size Refusal} {nodes triples index : Contents} where
  module _ (a : Accepts pack) where
    -- 9
    large_heads : TooLarge a.pack → r ≡ refused_as 9 → Kept (graph_lists nodes triples index) → Constructs pack r nodes triples index
    large_heads h q x = refuses (too_large a.pack a.all h q) x

    -- 10, 11, or the graph
    core_answer : ¬ TooLarge a.pack → FromCore a.pack r nodes triples index → Constructs pack r nodes triples index
    core_answer n (clash s p f g c q x) = refuses (two_objects a.pack a.all n (none_obey (formed a) (inl c.clash)) s p f g c q) x
    core_answer n (mixed m k q x) = refuses (mixed_kinds a.pack a.all n (none_obey (formed a) (inr k)) m k q) x
    core_answer n (graph k t w q) =
        let o = some_obeys (formed a) (λ h. ⊎_elim w.not_10 w.not_11 h) in
        gives w.fronts (counted_graph a.pack k t q (record { is = a.all; small = n; obeyed = o; graph = w.graph })) w.written

    heads_answer : FromHeads a.pack r nodes triples index → Constructs pack r nodes triples index
    heads_answer (large h q x) = large_heads h q x
    heads_answer (small n c) = core_answer n c

  -- 8 to 11, or the graph
  pub rows_answer : {counts numbers rows : List ℕ} → Accepted pack counts numbers rows → ForResolved counts numbers rows (λ P. FromRows P r nodes triples index)
      → Constructs pack r nodes triples index
  rows_answer a f = go (f a.pack (resolved_of a))
    where
      go : FromRows a.pack r nodes triples index → Constructs pack r nodes triples index
      go (dependency b q x) = refuses (not_accepted 8 (refused_8 pack a.pack (pack_formed a) b) q) x
      go (kept b h) = heads_answer (keeps a b) h

-- 3 to 7
pub checked_answer : {pack : Text} {e : Refusal} (numbers rows : List ℕ) {nodes triples index : Contents} → CheckedAs pack (Err e) numbers rows
    → Kept (graph_lists nodes triples index) → Constructs pack (Err e) nodes triples index
checked_answer {pack} numbers rows (k, w, q) x = refuses (not_accepted k (refused_first pack k w) (ap Err q)) x

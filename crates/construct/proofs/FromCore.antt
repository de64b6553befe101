-- From what the graph builder says to what a core comes to. Assumes nothing.
use Rattle.std.proofs.Common.{◌≡◌, ℕ, ◌+◌, ◌*◌, ◌<◌, ◌≤◌, List, [], ◌∷◌, ◌++◌, length, take, drop, sym, refl, ap, ◌∙◌, subst, Result, Ok, Err, arith, take-append-drop}
use mathlib.Core.List.{flatten}
use Rattle.calls.specs.Call.{Contents, ◌becomes◌}
use Rattle.construct.specs.Outcome.{refused_as}
use Rattle.construct.specs.Steps.{CoreGiven, FromCore, GraphLeft, OfCore, clash, graph, mixed}
use Rattle.clash.proofs.ClashRecords.{clash_place}
use Rattle.graph.proofs.Fronts.{at_front, index_length, listed_there, node_length, triple_length}
use Rattle.graph.proofs.SubjectEntries.{entries_flat, entries_say, entries_of}
use Rattle.graph.proofs.TripleNumbers.{graph_fits, subjects_rise}
use Rattle.graph.specs.Build.{BuildShown, GraphWritten}
use Rattle.graph.specs.Fronts.{GraphListed}
use Rattle.index.specs.Subjects.{Indexed}
use Rattle.index.specs.Triples.{GraphFits, SubjectsRise}
use Rattle.clash.specs.Clash.{ClashAt, ClashRecorded}
use Rattle.core_lists.specs.Held.{InputOf}
use Rattle.core_lists.specs.declared.Core.{Core}
use Rattle.node_list.specs.Records.{Arities}
use Rattle.graph.specs.declared.NoGraph.{NoGraph}
use Rattle.graph.specs.declared.NoGraph.TheVariants.{Clash, Mixed}
use Rattle.graph.specs.declared.Size.{Size}
use Rattle.meaning.specs.Limits.{index_width, node_width, triple_list_length}
use Rattle.meaning.specs.Listing.{SubjectIndex}
use Rattle.meaning.specs.Pack.{Pack}
use Rattle.meaning.specs.declared.refusal.Refusal.{Refusal}
use Rattle.meaning.specs.declared.refusal.Refusal.TheVariants.{Clash as Clashing}

-- the answer with a clash's numbers
abbrev pub with_clash : List ℕ → Result Size Refusal
with_clash numbers = Err (Clashing numbers)

-- the numbers at the front of the lists, and their index
graph_left : {P : Pack} {n t : ℕ} (nodes triples index : Contents) → GraphWritten P n t nodes triples → Indexed triples.after n t index.before index.after
    → GraphLeft P n t nodes triples index
graph_left {P} {n} {t} nodes triples index w x = record {
  fronts = take (n * node_width) nodes.after ∷ take (t * 3) triples.after ∷ flatten (entries_of n index.after) ∷ [];
  graph = record { nodes = _; triples = _; listed = G; entries = entries_of n index.after; indexed = I; fronts_are = refl };
  written = (
    written nodes.before w.node_front w.nodes_written (node_length w.graph) (node_length G),
    (written triples.before w.triple_front w.triples_written (triple_length w.graph) (triple_length G), (marked, tt)),
  );
  not_10 = w.not_10;
  not_11 = w.not_11;
}
  where
    G : GraphListed P n t (take (n * node_width) nodes.after) (take (t * 3) triples.after)
    G = listed_there w

    I : SubjectIndex G.triple_records_are n (entries_of n index.after)
    I = entries_say triples.after G x.says

    written : (before front : List ℕ) {k : ℕ} {after : List ℕ} → after ≡ front ++ drop (length front) before → length front ≡ k → length (take k after) ≡ k
        → after ≡ take k after ++ drop (length (take k after)) before
    written before front {k} {after} e l m =
        e ∙ (λ i. at_front front (drop (length front) before) l e i ++ drop ((l ∙ sym m) i) before)

    marked : index.after ≡ flatten (entries_of n index.after) ++ drop (length (flatten (entries_of n index.after))) index.before
    marked =
        sym (take-append-drop (n * index_width) index.after) ∙ (λ i. entries_flat n index.after x.says.long i ++ x.kept i)
        ∙ ap (λ k. flatten (entries_of n index.after) ++ drop k index.before) (sym (index_length I))

module _ (table : List (List ℕ)) (arities : List ℕ) (core : Core) (out out' edges edges' : List ℕ) (r : Result Size NoGraph)
    (shown : BuildShown table arities core out out' edges edges' r) where
  -- ---- the graph

  module _ (size : Size) (e : r ≡ Ok size) where
    written_for : (P : Pack) → InputOf P table core → Arities P arities → GraphWritten P size.nodes size.triples (out becomes out') (edges becomes edges')
    written_for = subst (BuildShown table arities core out out' edges edges') e shown

    -- what the index asks
    pub index_ready : CoreGiven table arities core → triple_list_length ≤ length edges' → GraphFits size.nodes size.triples edges' × SubjectsRise edges' size.triples
    index_ready g room =
        let w = listed_there (written_for g.pack g.input g.arity) in
        (graph_fits edges' w (omega (arith, w.few_triples)), subjects_rise edges' w)

    pub graph_answer : (a : Result Size Refusal) → a ≡ Ok size → (index index' : List ℕ) → Indexed edges' size.nodes size.triples index index'
        → OfCore table arities core (λ P. FromCore P a (out becomes out') (edges becomes edges') (index becomes index'))
    graph_answer a q index index' x P I A = graph size.nodes size.triples (graph_left (out becomes out') (edges becomes edges') (index becomes index') (written_for P I A) x) q

  -- ---- 11

  pub mixed_answer : r ≡ Err Mixed → (a : Result Size Refusal) → a ≡ refused_as 11 → (index : List ℕ)
      → OfCore table arities core (λ P. FromCore P a (out becomes out') (edges becomes edges') (index becomes index))
  mixed_answer e a q index P I A =
      let s = subst (BuildShown table arities core out out' edges edges') e shown in
      mixed (s.2 P I).0 (s.2 P I).1 q (s.0, (s.1, (refl, tt)))

  -- ---- 10

  module _ (i : ℕ) (e : r ≡ Err (Clash i)) where
    clash_at : (P : Pack) → InputOf P table core → ClashAt P core.nodes.now core.triples.now i
    clash_at = (subst (BuildShown table arities core out out' edges edges') e shown).2

    pub clash_inside : CoreGiven table arities core → i + 1 < length core.triples.now
    clash_inside g = let h = clash_place (clash_at g.pack g.input) in omega arith

    pub clash_answer : (numbers : List ℕ) → ClashRecorded arities core i numbers → (index : List ℕ)
        → OfCore table arities core (λ P. FromCore P (with_clash numbers) (out becomes out') (edges becomes edges') (index becomes index))
    clash_answer numbers w index P I A =
        let s = subst (BuildShown table arities core out out' edges edges') e shown in
        let c = w P table I A (clash_at P I) in
        clash c.subject c.predicate c.first c.second c.given (ap with_clash c.written) (s.0, (s.1, (refl, tt)))

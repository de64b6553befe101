-- Each call, computed: the model behind the table. Where the pack's core, its lists or its pairs are many, nothing is computed: so
-- 9 and 12 are never the outcome. Assumes nothing.
use lib.Dec.{eqb, leb, ltb}
use lib.ListN.{get_elem?, length}
use mathlib.Core.Bool.{Bool, true, false, ◌&&◌}
use mathlib.Core.List.{List, [], ◌∷◌, ◌++◌}
use mathlib.Core.Option.{Option, none, some}
use Prim.Native.Nat.{ℕ}
use Rattle.cases.proofs.SubjectIndex.{index_of}
use Rattle.cases.specs.Says.{Call, Outcome, answer, ask, build, check, fine, graph, iri, read, refused, refuses, spell, term}
use Rattle.grammar.specs.Parse.{expression_of}
use Rattle.meaning.proofs.Computed.Certain.{pair_records, walk_built}
use Rattle.meaning.proofs.Computed.Evaluate.{answers_yes}
use Rattle.meaning.proofs.Model.Clash.{Clash, first_clash}
use Rattle.meaning.proofs.Model.Core.{core_nodes}
use Rattle.meaning.proofs.Model.Facts.{facts}
use Rattle.meaning.proofs.Model.Listing.{node_numbers, node_records, triple_records}
use Rattle.meaning.proofs.Model.Refusals.{mixed_kinds?}
use Rattle.meaning.specs.Built.{core}
use Rattle.meaning.specs.Limits.{max_core_triples, max_iris, max_nodes, max_pairs, max_triples}
use Rattle.meaning.specs.Pack.{Constructor, Pack, Text}
use Rattle.meaning.specs.Query.{Expr}
use Rattle.meaning.specs.Refusals.{number_of, refusal_of}
use Rattle.meaning.specs.declared.refusal.Refusal.TheVariants.{Clash as ClashOf, NoIri}
use Rattle.meaning.specs.declared.refusal.Refusal.{Refusal}
use Rattle.meaning.specs.Tests.{every, there_and}
use Rattle.pack.specs.Checked.{Checked, accepted, first_refusal, well_formed, refused as stopped}
use Rattle.spelling.proofs.CoreTerms.{plain?}
use Rattle.spelling.specs.Iri.{iri_of, plain}
use Rattle.spelling.specs.ReadBack.{numbers, read_back}

-- ---- bounds that compute, repeats counted

unfoldable pub small_core : Pack → Bool
unfolding core_nodes facts
small_core P = leb (length (core_nodes P)) max_iris && leb (length (facts P)) max_core_triples

abbrev pub short_lists : List (List ℕ) → List (List ℕ) → Bool
short_lists nodes triples = leb (length nodes) max_nodes && leb (length triples) max_triples

-- a constructor of the pack over as many values of the pack as its arity
unfoldable pub is_term : Pack → ℕ → List ℕ → Bool
is_term P c values = there_and (λ (k : Constructor). eqb (length values) k.arity) (get_elem? P.setting.constructors c) && every (λ v. ltb v (length P.setting.values)) values

-- ---- one test after another

abbrev pub on_pack : (ℕ → Outcome) → Checked → (Pack → Option Outcome) → Option Outcome
on_pack refusal (stopped k) f = some (refusal k)
on_pack refusal (accepted P) f = f P

abbrev pub of_pack : Checked → (Pack → Option Outcome) → Option Outcome
of_pack (stopped k) f = none
of_pack (accepted P) f = f P

abbrev pub only_if : Bool → Option Outcome → Option Outcome
only_if true o = o
only_if false o = none

-- "A refusal gives its number"
abbrev pub refused_by : Refusal → Outcome
refused_by e = refuses (number_of e) e

abbrev pub refuses_as : ℕ → Outcome
refuses_as k = refused_by (refusal_of k)

-- 10 with a clash
abbrev pub with_clash : List ℕ → ℕ → List ℕ → List ℕ → Refusal
with_clash subject predicate first second = ClashOf (subject ++ (predicate ∷ []) ++ first ++ second)

-- with the clash by the core's own records
abbrev pub shown_clash : Pack → Clash → Refusal
shown_clash P c = with_clash (node_numbers P (core c.subject)) c.predicate (node_numbers P (core c.first)) (node_numbers P (core c.second))

abbrev pub unless_clash : Pack → Option Clash → Option Outcome → Option Outcome
unless_clash P none o = o
unless_clash P (some c) o = some (refused_by (shown_clash P c))

abbrev pub unless : Bool → ℕ → Option Outcome → Option Outcome
unless true k o = some (refuses_as k)
unless false k o = o

-- 10 and 11, then what the call gives
abbrev pub with_graph : (Pack → Option Outcome) → Pack → Option Outcome
with_graph f P =
    only_if (small_core P)
    (unless_clash P (first_clash P)
    (unless (mixed_kinds? P) 11
    (only_if (short_lists (node_records P) (triple_records P)) (f P))))

-- 3 to 8 before it
abbrev pub graph_of : Text → (Pack → Option Outcome) → Option Outcome
graph_of s f = on_pack refuses_as (first_refusal s) (with_graph f)

abbrev pub listed : Pack → Option Outcome
listed P = some (graph (node_records P) (triple_records P) (index_of (length (node_records P)) (triple_records P)))

abbrev pub asked : Expr → Pack → Option Outcome
asked e P =
    only_if (leb (length (pair_records (plain P) (plain? P) P e)) max_pairs)
    (some (answer (answers_yes (walk_built (plain P) (plain? P) P) e) (pair_records (plain P) (plain? P) P e)))

abbrev pub on_query : Option Expr → (Expr → Option Outcome) → Option Outcome
on_query none f = some (refuses_as 2)
on_query (some e) f = f e

abbrev pub on_term : Option (ℕ × List ℕ) → Option Outcome
on_term none = some (refused_by NoIri)
on_term (some t) = some (term (numbers t.0 t.1))

-- ---- the calls

abbrev pub run : Call → Text → Option Outcome
run check s = on_pack refused (first_refusal s) (λ P. some fine)
run build s = graph_of s listed
run (ask q) s = on_query (expression_of q) (λ e. graph_of s (asked e))
run (read t) s = on_pack refuses_as (well_formed s) (λ P. on_term (read_back P t))
run (spell c values) s = of_pack (well_formed s) (λ P. only_if (is_term P c values) (some (iri (iri_of P c values))))

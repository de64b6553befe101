-- What is computed is so: whatever outcome `run` gives of a call on a pack, `Says` holds of it. Assumes nothing.
use lib.Dec.{T, leb, leb→le}
use lib.ListN.{length}
use mathlib.Core.Bool.{Bool, true, false}
use mathlib.Core.List.{List, [], ◌∷◌, flatten}
use mathlib.Core.Logic.{inl, inr}
use mathlib.Core.Option.{Option, none, some}
use mathlib.Core.Path.{◌≡◌, refl, sym, ap, subst}
use native.Mathlib.Omega.{arith}
use Prim.Native.Nat.{ℕ, ◌≤◌}
use Rattle.pack.proofs.Accepted.{WellFormed, well_formed_lem}
use Rattle.cases.proofs.Bounds.{is_term_lem, not_large, not_many}
use Rattle.cases.proofs.Run.{
  asked,
  graph_of,
  is_term,
  listed,
  of_pack,
  on_pack,
  on_query,
  on_term,
  only_if,
  refused_by,
  refuses_as,
  run,
  short_lists,
  shown_clash,
  small_core,
  unless,
  unless_clash,
  with_graph,
}
use Rattle.cases.specs.Says.{
  Call,
  Outcome,
  Says,
  answer,
  ask,
  ask_gives,
  ask_refused,
  build,
  build_gives,
  build_refused,
  check,
  is_fine,
  is_refused,
  read,
  read_gives,
  read_refused,
  refused,
  spell,
  spelled,
}
use Rattle.cases.proofs.SubjectIndex.{index_computed, index_of}
use Rattle.construct.proofs.Accepted.{accepted_formed, none_obey, some_obeys}
use Rattle.construct.proofs.Refused.{same_refusal}
use Rattle.construct.specs.Outcome.{GivesGraph, Refuses, mixed_kinds, not_accepted, two_objects}
use Rattle.grammar.proofs.Agree.{reading}
use Rattle.grammar.specs.Grammar.{IsQuery}
use Rattle.grammar.specs.Parse.{expression_of}
use Rattle.graph.specs.Fronts.{GraphListed}
use Rattle.graph.specs.declared.Size.{Size}
use Rattle.iris.specs.Read.{iri_read, term}
use Rattle.meaning.proofs.Computed.Certain.{graph_there, pair_records, pairs_listed, walk_built, yes_computed_certain}
use Rattle.meaning.proofs.Computed.Evaluate.{answers_yes}
use Rattle.meaning.proofs.Lists.Members.{both}
use Rattle.meaning.proofs.Lists.Ordered.{by_key, list_unique}
use Rattle.meaning.proofs.Model.Clash.{Clash, Shown, Shows, first_shown, first_clash}
use Rattle.meaning.proofs.Model.Listing.{graph_listed, node_record, node_list, node_list_ordered, node_numbers, node_records, triple_records}
use Rattle.meaning.proofs.Model.Refusals.{mixed_iff, mixed_kinds?}
use Rattle.meaning.proofs.Model.Resolved.{Resolved, resolved}
use Rattle.meaning.specs.Built.{core}
use Rattle.meaning.specs.Certain.{Distinct, PairList}
use Rattle.meaning.specs.Clash.{ClashGiven}
use Rattle.meaning.specs.Core.{Node}
use Rattle.meaning.specs.Limits.{max_nodes, max_pairs, max_triples}
use Rattle.meaning.specs.Listing.{NodeRecord, node_key}
use Rattle.meaning.specs.Pack.{Pack, Text}
use Rattle.meaning.specs.Query.{Expr}
use Rattle.pack.specs.Checked.{Checked, accepted, first_refusal, well_formed, refused as stopped}
use Rattle.pairs.specs.Answer as Pairs
use Rattle.std.specs.Prelude.{None, Some, Err}
use Rattle.meaning.specs.Refusals.{refusal_of}
use Rattle.meaning.specs.declared.refusal.Refusal.TheVariants.{MixedKinds, NoExpression}
use Rattle.meaning.specs.declared.refusal.Refusal.{Refusal}
use Rattle.prepare.specs.Prepared as Prepared
use Rattle.query.specs.Answer.{Refusal2}
use Rattle.readback.proofs.FromRead.{found_answer}
use Rattle.readback.specs.Answer.{not_well_formed}
use Rattle.spelling.proofs.CoreTerms.{plain_distinct, plain?}
use Rattle.spelling.specs.Iri.{plain}
use Rattle.spelling.specs.ReadBack.{read_back}

-- ---- one test after another

-- an outcome that is computed is so
abbrev pub Right : Text → Call → Option Outcome → Type 0
Right s c none = Unit
Right s c (some o) = Says s c o

module _ (s : Text) (c : Call) where
  on_pack_lem : (refusal : ℕ → Outcome) (x : Checked) (f : Pack → Option Outcome) → ((k : ℕ) → x ≡ stopped k → Says s c (refusal k))
      → ((P : Pack) → x ≡ accepted P → Right s c (f P))
      → Right s c (on_pack refusal x f)
  on_pack_lem refusal (stopped k) f a b = a k refl
  on_pack_lem refusal (accepted P) f a b = b P refl

  of_pack_lem : (x : Checked) (f : Pack → Option Outcome) → ((P : Pack) → x ≡ accepted P → Right s c (f P)) → Right s c (of_pack x f)
  of_pack_lem (stopped k) f b = tt
  of_pack_lem (accepted P) f b = b P refl

  only_if_lem : (t : Bool) (o : Option Outcome) → (T t → Right s c o) → Right s c (only_if t o)
  only_if_lem true o f = f tt
  only_if_lem false o f = tt

  on_clash : (P : Pack) (x : Option Clash) (o : Option Outcome) → ((d : Clash) → x ≡ some d → Says s c (refused_by (shown_clash P d)))
      → (x ≡ none → Right s c o) → Right s c (unless_clash P x o)
  on_clash P none o a b = b refl
  on_clash P (some d) o a b = a d refl

  on_test : (t : Bool) (k : ℕ) (o : Option Outcome) → (T t → Says s c (refuses_as k)) → (t ≡ false → Right s c o) → Right s c (unless t k o)
  on_test true k o a b = a tt
  on_test false k o a b = b refl

-- ---- an accepted pack whose core is small

module _ (s : Text) (P : Pack) (is : first_refusal s ≡ accepted P) where
  formed : WellFormed s P
  formed = well_formed_lem s P (accepted_formed s P is)

  wf : Resolved P
  wf = resolved P formed.named

  distinct : Distinct (plain P) P
  distinct = plain_distinct P formed.distinct formed.prefix_free formed.named

  module _ (small : T (small_core P)) where
    ten : (d : Clash) → first_clash P ≡ some d → Refuses {A = Size} s (Err (shown_clash P d))
    ten d e = two_objects P is (not_large P wf small) (none_obey formed (inl x.clash)) _ _ _ _ given refl
      where
        x : Shown P d
        x = subst (Shows P) e (first_shown P wf)

        recorded : {n m : Node} → n ≡ m → NodeRecord P (core n) (node_numbers P (core m))
        recorded {n} {m} q = subst (λ k. NodeRecord P (core k) (node_numbers P (core m))) (sym q) (node_record P wf (core m))

        given : ClashGiven P (node_numbers P (core d.subject)) d.predicate (node_numbers P (core d.first)) (node_numbers P (core d.second))
        given = record {
          clash = x.clash;
          is_first = x.is_first;
          subject_is = recorded x.subject_is;
          predicate_is = sym x.predicate_is;
          first_is = recorded x.first_is;
          second_is = recorded x.second_is;
        }

    eleven : first_clash P ≡ none → T (mixed_kinds? P) → Refuses {A = Size} s (Err MixedKinds)
    eleven not_10 t =
        let m = (mixed_iff P wf).0 t in
        mixed_kinds P is (not_large P wf small) (none_obey formed (inr m)) (subst (Shows P) not_10 (first_shown P wf)) m refl

-- ---- a pack that passes every test before its graph is given

record Passes (s : Text) (P : Pack) : Type 0 where
  is : first_refusal s ≡ accepted P
  small : T (small_core P)
  not_10 : first_clash P ≡ none
  not_11 : mixed_kinds? P ≡ false
  few_nodes : length (node_records P) ≤ max_nodes
  few_triples : length (triple_records P) ≤ max_triples

module _ (s : Text) (P : Pack) (x : Passes s P) where
  abbrev size : Size
  size = record { nodes = length (node_records P); triples = length (triple_records P) }

  abbrev entries : List (List ℕ)
  entries = index_of (length (node_records P)) (triple_records P)

  abbrev fronts : List (List ℕ)
  fronts = flatten (node_records P) ∷ flatten (triple_records P) ∷ flatten entries ∷ []

  abbrev in_lists : GraphListed P (length (node_records P)) (length (triple_records P)) (flatten (node_records P)) (flatten (triple_records P))
  in_lists = record {
    node_records_are = node_records P;
    triple_records_are = triple_records P;
    lists = graph_listed P (wf s P x.is);
    node_count = refl;
    triple_count = refl;
    few_nodes = x.few_nodes;
    few_triples = x.few_triples;
    nodes_are = refl;
    triples_are = refl;
  }

  abbrev the_graph : GivesGraph s size fronts
  the_graph = record {
    of = P;
    has = record {
      is = x.is;
      small = not_large P (wf s P x.is) x.small;
      obeyed = some_obeys (formed s P x.is) (graph_there (plain P) (plain? P) P (formed s P x.is).named (distinct s P x.is) x.not_10 x.not_11);
      graph = record { nodes = _; triples = _; listed = in_lists; entries = entries; indexed = index_computed in_lists; fronts_are = refl };
    };
  }

  module _ (q : Text) (e : Expr) (reads : IsQuery q e) where
    abbrev prepared : Prepared.Gives s q size fronts
    prepared = record { expression = e; is = reads; graph = the_graph }

    abbrev is_yes : Bool
    is_yes = answers_yes (walk_built (plain P) (plain? P) P) e

    abbrev pairs : List (List ℕ)
    pairs = pair_records (plain P) (plain? P) P e

    all_pairs : PairList (plain P) P e (node_list P) pairs
    all_pairs = pairs_listed (plain P) (plain? P) P (formed s P x.is).named (distinct s P x.is) x.not_10 x.not_11 e

    same_nodes : node_list P ≡ (graph_listed P (wf s P x.is)).in_order
    same_nodes = list_unique (by_key node_key) (node_list_ordered P (wf s P x.is)) (graph_listed P (wf s P x.is)).ordered

    says_answer : length pairs ≤ max_pairs → Says s (ask q) (answer is_yes pairs)
    says_answer few =
        ask_gives {y = record { size = size; yes = is_yes }} {p = record { size = size; pairs = length pairs }}
        (record { asked = prepared; answer = yes_computed_certain (plain P) (plain? P) P (formed s P x.is).named (distinct s P x.is) x.not_10 x.not_11 e }) refl
        (record {
          graph_fronts = fronts;
          asked = prepared;
          few = not_many (plain P) P e (node_list P) (node_list_ordered P (wf s P x.is)) all_pairs few;
          records = pairs;
          certain = subst (λ l. PairList (plain P) P e l pairs) same_nodes all_pairs;
          count = refl;
          fronts_are = refl;
        }) refl

-- ---- the tests before a graph is given, for any call that gives one

abbrev Refused : Text → Call → Type 0
Refused s c = (e : Refusal) → Refuses {A = Size} s (Err e) → Says s c (refused_by e)

module _ (s : Text) (c : Call) (says : Refused s c) where
  with_graph_lem : (f : Pack → Option Outcome) → ((P : Pack) → Passes s P → Right s c (f P)) → Right s c (graph_of s f)
  with_graph_lem f gives =
      on_pack_lem s c refuses_as (first_refusal s) (with_graph f) (λ k e. says (refusal_of k) (not_accepted k e refl)) λ P is.
      only_if_lem s c (small_core P) _ λ small.
      on_clash s c P (first_clash P) _ (λ d e. says (shown_clash P d) (ten s P is small d e)) λ not_10.
      on_test s c (mixed_kinds? P) 11 _ (λ t. says MixedKinds (eleven s P is small not_10 t)) λ not_11.
      only_if_lem s c (short_lists (node_records P) (triple_records P)) _ λ short.
      let b = (both (leb (length (node_records P)) max_nodes) (leb (length (triple_records P)) max_triples)).0 short in
      gives P (record { is = is; small = small; not_10 = not_10; not_11 = not_11; few_nodes = leb→le _ _ b.0; few_triples = leb→le _ _ b.1 })

-- ---- the calls

build_right : (s : Text) → Right s build (run build s)
build_right s = with_graph_lem s build (λ e x. build_refused x) listed λ P x. build_gives (the_graph s P x) refl refl refl

ask_right : (q s : Text) → Right s (ask q) (run (ask q) s)
ask_right q s = go (expression_of q) refl
  where
    no_query : Refusal2 q → Says s (ask q) (refused_by NoExpression)
    no_query n = ask_refused (Prepared.no_query n refl) (Pairs.before_12 (Prepared.no_query n refl))

    no_expression : expression_of q ≡ none → Refusal2 q
    no_expression n e x = let p = (reading q e).0 x in let z : ◌≡◌ {A = ℕ} 0 1 = cc in omega arith

    go : (o : Option Expr) → expression_of q ≡ o → Right s (ask q) (on_query o (λ e. graph_of s (asked e)))
    go none n = no_query (no_expression n)
    go (some e) h =
        with_graph_lem s (ask q) pack_refused (asked e) λ P x.
        only_if_lem s (ask q) (leb (length (pair_records (plain P) (plain? P) P e)) max_pairs) _ λ t. says_answer s P x q e reads (leb→le _ _ t)
      where
        reads : IsQuery q e
        reads = (reading q e).1 h

        pack_refused : Refused s (ask q)
        pack_refused r x = ask_refused (Prepared.no_graph e reads (same_refusal x)) (Pairs.before_12 (Prepared.no_graph e reads (same_refusal x)))

read_right : (t s : Text) → Right s (read t) (run (read t) s)
unfolding iri_read
read_right t s = on_pack_lem s (read t) refuses_as (well_formed s) _ (λ k e. read_refused (not_well_formed k e refl)) λ P w. go P w (read_back P t) refl
  where
    go : (P : Pack) → well_formed s ≡ accepted P → (o : Option (ℕ × List ℕ)) → read_back P t ≡ o → Right s (read t) (on_term o)
    go P w none e = read_refused (found_answer s t P w None (ap iri_read (sym e)) refl)
    go P w (some v) e = read_gives (found_answer s t P w (Some (term v.0 v.1)) (ap iri_read (sym e)) refl)

-- Every outcome that is computed is so.
run_right : (c : Call) (s : Text) → Right s c (run c s)
run_right check s = on_pack_lem s check refused (first_refusal s) _ (λ k e. is_refused e) λ P e. is_fine e
run_right build s = build_right s
run_right (ask q) s = ask_right q s
run_right (read t) s = read_right t s
run_right (spell c values) s = of_pack_lem s (spell c values) (well_formed s) _ λ P w. only_if_lem s (spell c values) (is_term P c values) _ λ t. spelled w (is_term_lem P c values t) refl

pub run_says : (c : Call) (s : Text) (o : Outcome) → run c s ≡ some o → Says s c o
run_says c s o e = subst (Right s c) e (run_right c s)

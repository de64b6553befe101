-- A list of certain pairs is no longer than refusal 12 allows. Assumes nothing.
use lib.ListN.{get_elem?, length}
use mathlib.Core.List.{List, [], ◌∷◌}
use mathlib.Core.Option.{some}
use mathlib.Core.Path.{◌≡◌, sym, ◌∙◌}
use Prim.Native.Nat.{ℕ, ◌≤◌}
use Rattle.evaluate.proofs.Built.{built_listed}
use Rattle.meaning.proofs.Lists.Members.{element}
use Rattle.meaning.proofs.Lists.Ordered.{by_key}
use Rattle.meaning.proofs.Theory.Simulated.{is_core}
use Rattle.meaning.specs.Built.{BuiltNode, core}
use Rattle.meaning.specs.Certain.{NamedPair, PairList, PairRecord, TooManyPairs}
use Rattle.meaning.specs.Core.{CoreNode, Node}
use Rattle.meaning.specs.Graph.{Spelling}
use Rattle.meaning.specs.Limits.{max_pairs}
use Rattle.meaning.specs.Listing.{NodesInOrder}
use Rattle.meaning.specs.Pack.{Pack}
use Rattle.meaning.specs.Query.{Expr}
use Rattle.meaning.proofs.Lists.Counting.{listed_over, over_carried}
use Rattle.meaning.proofs.Cases.{case_lt}

module _ (σ : Spelling) (P : Pack) (e : Expr) (nodes : List BuiltNode) (ordered : NodesInOrder P nodes) where
  -- the numbers are the places of these two nodes
  record Ends (numbers : List ℕ) (q : Node × Node) : Type 0 where
    start : ℕ
    end : ℕ
    from_at : get_elem? nodes start ≡ some (core q.0)
    to_at : get_elem? nodes end ≡ some (core q.1)
    are : numbers ≡ start ∷ end ∷ []

  core_at : (n : ℕ) (k : Node) → get_elem? nodes n ≡ some (core k) → CoreNode P k
  core_at n k h = is_core σ P ((ordered.members (core k)).0 (element nodes n (core k) h))

  image : (numbers : List ℕ) → PairRecord σ P e nodes numbers → (q : Node × Node) × NamedPair σ P e q × Ends numbers q
  image numbers r = (
    (r.from, r.to),
    (core_at r.start r.from r.from_at, core_at r.end r.to r.to_at, r.certain),
    record { start = r.start; end = r.end; from_at = r.from_at; to_at = r.to_at; are = r.are },
  )

  one : (xs ys : List ℕ) (q : Node × Node) → Ends xs q → Ends ys q → xs ≡ ys
  one xs ys q r s =
      let a = (built_listed σ P nodes ordered).once (core q.0) r.start s.start r.from_at s.from_at in
      let b = (built_listed σ P nodes ordered).once (core q.1) r.end s.end r.to_at s.to_at in
      r.are ∙ (λ i. a i ∷ b i ∷ []) ∙ sym s.are

  pub few_pairs : (records : List (List ℕ)) → PairList σ P e nodes records → ¬ TooManyPairs σ P e → length records ≤ max_pairs
  few_pairs records l few =
      case_lt max_pairs (length records)
      (λ h. absurd (few (over_carried (PairRecord σ P e nodes) (NamedPair σ P e) Ends image one (listed_over (by_key (λ x. x)) l.ascending (λ x m. (l.members x).0 m) h))))
      (λ h. h)

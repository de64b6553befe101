-- A pack has one graph: its node list, its node records, its triple list and its index of subjects are fixed by their definitions.
-- Assumes nothing.
use mathlib.Core.List.{List, [], ◌∷◌, Forall₂}
use mathlib.Core.Logic.Iff
use mathlib.Core.Path.{◌≡◌, refl, sym, ap, ◌∙◌, subst}
use native.Mathlib.Decide.{dec_lt}
use native.Mathlib.Omega.{arith}
use Prim.Native.Nat.{ℕ, ◌+◌, ◌-◌, ◌<◌, ◌≤◌}
use Rattle.meaning.proofs.Lists.Bits.{bit_same, bits_equal}
use Rattle.meaning.proofs.Lists.Ordered.{by_key, list_unique}
use Rattle.meaning.proofs.Lists.Places.{same_places}
use Rattle.meaning.specs.Built.{BuiltNode}
use Rattle.meaning.specs.Listing.{GraphLists, IndexEntry, NodeRecord, SubjectIndex, TripleRecord, arguments, kind, node_key, number}
use Rattle.meaning.specs.Ordered.{ListOf, ◌≺◌}
use Rattle.meaning.specs.Pack.{Pack}

module _ (P : Pack) where
  -- a node has one record
  pub record_unique : (b : BuiltNode) (r s : List ℕ) → NodeRecord P b r → NodeRecord P b s → r ≡ s
  record_unique b r s x y =
      let m = bits_equal x.types y.types (λ t. bit_same t x.types y.types (Iff.trans (x.weigh t) (Iff.symm (y.weigh t)))) in
      x.are ∙ ap (λ k. kind b ∷ number b ∷ k ∷ arguments b) m ∙ sym y.are

  records_unique : (nodes : List BuiltNode) (rs ss : List (List ℕ)) → Forall₂ (NodeRecord P) nodes rs → Forall₂ (NodeRecord P) nodes ss → rs ≡ ss
  records_unique [] [] (s ∷ ss) _ x7 = elim x7 [ ]
  records_unique [] (r ∷ rs) ss x5 _ = elim x5 [ ]
  records_unique (b ∷ bs) [] ss x5 _ = elim x5 [ ]
  records_unique (b ∷ bs) (r ∷ rs) [] _ x9 = elim x9 [ ]
  records_unique [] [] [] Forall₂.nil Forall₂.nil = refl
  records_unique (b ∷ bs) (r ∷ rs) (s ∷ ss) (Forall₂.cons x xs) (Forall₂.cons y ys) =
      λ i. record_unique b r s x y i ∷ records_unique bs rs ss xs ys i

  pub graph_unique : (ns ns' ts ts' : List (List ℕ)) → GraphLists P ns ts → GraphLists P ns' ts' → (ns ≡ ns') × (ts ≡ ts')
  graph_unique ns ns' ts ts' G H = (
    records_unique H.in_order ns ns' (subst (λ l. Forall₂ (NodeRecord P) l ns) same G.records) H.records,
    list_unique (by_key (λ t. t)) (subst (λ l. ListOf ◌≺◌ (TripleRecord P l) ts) same G.edges) H.edges,
  )
    where
      same : G.in_order ≡ H.in_order
      same = list_unique (by_key node_key) G.ordered H.ordered

-- ---- one index of given triples

module _ {triples : List (List ℕ)} {node : ℕ} where
  within : {r s : List ℕ} (x : IndexEntry triples node r) (y : IndexEntry triples node s) (k : ℕ) → x.first ≤ k → k < x.first + x.count
      → (y.first ≤ k) × (k < y.first + y.count)
  within x y k a b = (y.its k).0 ((x.its k).1 (a, b))

  pub entry_unique : (r s : List ℕ) → IndexEntry triples node r → IndexEntry triples node s → r ≡ s
  entry_unique r s x y = let (a, b) = same (dec_lt 0 x.count) (dec_lt 0 y.count) in x.are ∙ (λ i. a i ∷ b i ∷ []) ∙ sym y.are
    where
      some : {p q : List ℕ} (v : IndexEntry triples node p) (w : IndexEntry triples node q) → 0 < v.count → 0 < w.count
      some v w h = let a = within v w v.first (omega arith) (omega arith) in omega arith

      same : Dec (0 < x.count) → Dec (0 < y.count) → (x.first ≡ y.first) × (x.count ≡ y.count)
      same (yes h) d =
          let g = some x y h in
          let a = within x y x.first (omega arith) (omega arith) in
          let b = within y x y.first (omega arith) (omega arith) in
          let e = within x y (x.first + (x.count - 1)) (omega arith) (omega arith) in
          let f = within y x (y.first + (y.count - 1)) (omega arith) (omega arith) in
          (omega arith, omega arith)
      same (no h) (yes g) = absurd (h (some y x g))
      same (no h) (no g) = let a = x.none (omega arith) in let b = y.none (omega arith) in (omega arith, omega arith)

pub index_unique : {triples : List (List ℕ)} {nodes : ℕ} {es fs : List (List ℕ)} → SubjectIndex triples nodes es → SubjectIndex triples nodes fs → es ≡ fs
index_unique {es = es} {fs = fs} x y =
    same_places es fs (x.each ∙ sym y.each) (λ k e f a b. entry_unique e f (x.entry k e a) (y.entry k f b))

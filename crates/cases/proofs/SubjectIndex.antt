-- The index of subjects, computed, and that it is one. Assumes nothing.
use borrow.Author.Tests.{eqb-false, eqb-true, ltb-false, ltb-true}
use lib.Dec.{eqb, ltb}
use lib.ListN.{get_elem?, length, take}
use lib.Seq.{take-length}
use mathlib.Core.Bool.{Bool, true, false}
use mathlib.Core.List.{List, [], ◌∷◌, flatten}
use mathlib.Core.Option.{some, none-ne-some, some-injective}
use mathlib.Core.Path.{◌≡◌, refl, sym, ap, subst, ◌∙◌}
use native.Mathlib.Omega.{arith}
use Prim.Native.Nat.{ℕ, zero, suc, ◌+◌, ◌-◌, ◌*◌, ◌≤◌}
use Rattle.graph.proofs.Fronts.{triple_length}
use Rattle.graph.proofs.SubjectEntries.{entry_says}
use Rattle.graph.proofs.TripleNumbers.{subjects_rise}
use Rattle.graph.specs.Fronts.{GraphListed}
use Rattle.index.proofs.BySubject.{Ending, end_again, end_last, end_start, end_stop, range_is}
use Rattle.index.specs.Subjects.{SubjectRange, SubjectsSplit}
use Rattle.index.specs.Triples.{SubjectsRise, subject_at}
use Rattle.meaning.specs.Listing.{SubjectIndex}
use Rattle.meaning.specs.Pack.{Pack}

-- ---- where the triples of a subject end, which begin at k if there are any

abbrev onward : Bool → Bool → ℕ → ℕ → ℕ
onward true true next here = next
onward true false next here = here
onward false b next here = here

abbrev end_from : ℕ → List ℕ → ℕ → ℕ → ℕ → ℕ
end_from zero triples edges m k = k
end_from (suc fuel) triples edges m k = onward (ltb k edges) (eqb (subject_at triples k) m) (end_from fuel triples edges m (k + 1)) k

module _ {triples : List ℕ} {edges m k : ℕ} (up : SubjectsRise triples edges) (s : SubjectsSplit triples edges m k) where
  at_end : {end : ℕ} → Ending triples edges m k end → edges ≤ end → (k ≤ end) × SubjectsSplit triples edges (m + 1) end
  at_end {end} x l = let e : end ≡ edges = omega (arith, x.inside) in rw e (end_last x s l)

  ends : (fuel end : ℕ) → Ending triples edges m k end → edges ≤ end + fuel
      → (k ≤ end_from fuel triples edges m end) × SubjectsSplit triples edges (m + 1) (end_from fuel triples edges m end)
  ends zero end x l = at_end x (omega arith)
  ends (suc fuel) end x l = go (λ y. ends fuel (end + 1) y (omega arith)) (ltb end edges) (eqb (subject_at triples end) m) refl refl
    where
      go : (Ending triples edges m k (end + 1) → (k ≤ end_from fuel triples edges m (end + 1)) × SubjectsSplit triples edges (m + 1) (end_from fuel triples edges m (end + 1)))
          → (a b : Bool) → ltb end edges ≡ a → eqb (subject_at triples end) m ≡ b
          → (k ≤ onward a b (end_from fuel triples edges m (end + 1)) end) × SubjectsSplit triples edges (m + 1) (onward a b (end_from fuel triples edges m (end + 1)) end)
      go rest true true p q = rest (end_again x (ltb-true end edges p) (eqb-true (subject_at triples end) m q))
      go rest true false p q = end_stop x s up (ltb-true end edges p) (eqb-false (subject_at triples end) m q)
      go rest false b p q = at_end x (ltb-false end edges p)

-- ---- the entries of so many nodes, from the node m on

abbrev first_if : Bool → ℕ → ℕ
first_if true k = 0
first_if false k = k

abbrev entry : ℕ → ℕ → List ℕ
entry k end = first_if (eqb end k) k ∷ (end - k) ∷ []

abbrev index_from : ℕ → List ℕ → ℕ → ℕ → ℕ → List (List ℕ)
index_from zero triples edges m k = []
index_from (suc n) triples edges m k = let end = end_from edges triples edges m k in entry k end ∷ index_from n triples edges (m + 1) end

-- of a list of triple records
abbrev pub index_of : ℕ → List (List ℕ) → List (List ℕ)
index_of nodes records = index_from nodes (flatten records) (length records) 0 0

many : (n : ℕ) (triples : List ℕ) (edges m k : ℕ) → length (index_from n triples edges m k) ≡ n
many zero triples edges m k = refl
many (suc n) triples edges m k = ap suc (many n triples edges (m + 1) (end_from edges triples edges m k))

record Entry (triples : List ℕ) (edges node : ℕ) (numbers : List ℕ) : Type 0 where
  first : ℕ
  count : ℕ
  range : SubjectRange triples edges node first count
  are : numbers ≡ first ∷ count ∷ []

entries : {triples : List ℕ} {edges : ℕ} → SubjectsRise triples edges → (n m k : ℕ) → SubjectsSplit triples edges m k → (j : ℕ) (r : List ℕ)
    → get_elem? (index_from n triples edges m k) j ≡ some r → Entry triples edges (m + j) r
entries up zero m k s j r e = absurd (none-ne-some r e)
entries {triples} {edges} up (suc n) m k s zero r e =
    let (l, t) = ends up s edges k (end_start s.inside) (omega arith) in
    let q : m ≡ m + 0 = omega arith in
    subst (λ x. Entry triples edges x r) q (record {
      first = _;
      count = _;
      range = range_is s t _ l (λ h. first_none _ _ h) (λ d. first_some _ _ d);
      are = sym (some-injective _ r e);
    })
  where
    first_none : (end k : ℕ) → end ≡ k → first_if (eqb end k) k ≡ 0
    first_none end k h = go (eqb end k) refl
      where
        go : (b : Bool) → eqb end k ≡ b → first_if b k ≡ 0
        go true q = refl
        go false q = absurd (eqb-false end k q h)

    first_some : (end k : ℕ) → (end ≡ k → ⊥) → first_if (eqb end k) k ≡ k
    first_some end k d = go (eqb end k) refl
      where
        go : (b : Bool) → eqb end k ≡ b → first_if b k ≡ k
        go true q = absurd (d (eqb-true end k q))
        go false q = refl
entries {triples} {edges} up (suc n) m k s (suc j) r e =
    let (l, t) = ends up s edges k (end_start s.inside) (omega arith) in
    let q : m + 1 + j ≡ m + suc j = omega arith in
    subst (λ x. Entry triples edges x r) q (entries up n (m + 1) _ t j r e)

module _ {P : Pack} {n t : ℕ} {nodes triples : List ℕ} (G : GraphListed P n t nodes triples) where
  abbrev T : List ℕ
  T = flatten G.triple_records_are

  long : length T ≡ t * 3
  long = sym (ap length G.triples_are) ∙ triple_length G

  -- the same, with all triples taken
  abbrev L : GraphListed P n t nodes (take (t * 3) T)
  L = record {
    node_records_are = G.node_records_are;
    triple_records_are = G.triple_records_are;
    lists = G.lists;
    node_count = G.node_count;
    triple_count = G.triple_count;
    few_nodes = G.few_nodes;
    few_triples = G.few_triples;
    nodes_are = G.nodes_are;
    triples_are = ap (λ k. take k T) (sym long) ∙ take-length T;
  }

  rise : SubjectsRise T (length G.triple_records_are)
  rise = subst (SubjectsRise T) G.triple_count (subjects_rise T L)

  pub index_computed : SubjectIndex G.triple_records_are n (index_of n G.triple_records_are)
  index_computed = record {
    each = many n T (length G.triple_records_are) 0 0;
    entry = λ node r e.
        let x = entries rise n 0 0 (record { inside = omega arith; below = λ k h. absurd (omega arith); above = λ k h g. omega arith }) node r e in
        let z : 0 + node ≡ node = omega arith in
        entry_says T L (subst (λ (y : ℕ × ℕ). SubjectRange T y.0 y.1 x.first x.count) (λ i. (sym G.triple_count i, z i)) x.range) x.are;
  }

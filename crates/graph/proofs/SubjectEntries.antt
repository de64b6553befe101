-- The index of subjects, as numbers and as records. Assumes nothing.
use lib.ListN.{get_or, get_elem?, length, take}
use lib.Seq.{get_or-take}
use mathlib.Core.List.{List, [], ◌∷◌, flatten}
use mathlib.Core.Option.{some, none-ne-some, some-injective}
use mathlib.Core.Path.{◌≡◌, refl, sym, ap, ◌∙◌}
use native.Mathlib.Omega.{arith}
use Prim.Native.Nat.{ℕ, zero, suc, ◌+◌, ◌*◌, ◌≤◌, ◌<◌}
use Rattle.graph.proofs.TripleNumbers.{record_of, subject_is_at}
use Rattle.graph.specs.Fronts.{GraphListed}
use Rattle.index.specs.Subjects.{BySubject, SubjectRange, count_at, first_at}
use Rattle.index.specs.Triples.{subject_at}
use Rattle.meaning.proofs.Lists.Blocks.{flatten_at}
use Rattle.meaning.proofs.Lists.Members.{element}
use Rattle.meaning.proofs.Lists.Places.{inside, placed, there_is}
use Rattle.meaning.specs.Limits.{index_width}
use Rattle.meaning.specs.Listing.{IndexEntry, SubjectIndex, SubjectIs}
use Rattle.meaning.specs.Member.{◌∈◌}
use Rattle.meaning.specs.Pack.{Pack}

-- ---- the first n entries of a list of numbers

abbrev pub entries_of : ℕ → List ℕ → List (List ℕ)
entries_of zero numbers = []
entries_of (suc n) [] = []
entries_of (suc n) (a ∷ []) = []
entries_of (suc n) (a ∷ b ∷ numbers) = (a ∷ b ∷ []) ∷ entries_of n numbers

entries_many : (n : ℕ) (numbers : List ℕ) → n * index_width ≤ length numbers → length (entries_of n numbers) ≡ n
entries_many zero numbers h = refl
entries_many (suc n) [] h = absurd (omega arith)
entries_many (suc n) (a ∷ []) h = absurd (omega arith)
entries_many (suc n) (a ∷ b ∷ numbers) h = ap suc (entries_many n numbers (omega arith))

pub entries_flat : (n : ℕ) (numbers : List ℕ) → n * index_width ≤ length numbers → take (n * index_width) numbers ≡ flatten (entries_of n numbers)
unfolding flatten
entries_flat zero numbers h = refl
entries_flat (suc n) [] h = absurd (omega arith)
entries_flat (suc n) (a ∷ []) h = absurd (omega arith)
entries_flat (suc n) (a ∷ b ∷ numbers) h =
    let e : suc n * 2 ≡ suc (suc (n * 2)) = omega arith in
    rw e (λ i. a ∷ b ∷ entries_flat n numbers (omega arith) i)

entry_is : (n : ℕ) (numbers : List ℕ) (k : ℕ) (r : List ℕ) → get_elem? (entries_of n numbers) k ≡ some r → r ≡ first_at numbers k ∷ count_at numbers k ∷ []
entry_is zero numbers k r e = absurd (none-ne-some r e)
entry_is (suc n) [] k r e = absurd (none-ne-some r e)
entry_is (suc n) (a ∷ []) k r e = absurd (none-ne-some r e)
entry_is (suc n) (a ∷ b ∷ numbers) zero r e = sym (some-injective (a ∷ b ∷ []) r e)
entry_is (suc n) (a ∷ b ∷ numbers) (suc k) r e =
    let p : suc k * 2 ≡ suc (suc (k * 2)) = omega arith in
    let q : suc k * 2 + 1 ≡ suc (suc (k * 2 + 1)) = omega arith in
    entry_is n numbers k r e ∙ (λ i. get_or (a ∷ b ∷ numbers) (sym p i) 0 ∷ get_or (a ∷ b ∷ numbers) (sym q i) 0 ∷ [])

-- ---- the subject of a triple, by its record and by its number

module _ {P : Pack} {count edges : ℕ} {front : List ℕ} (triples : List ℕ) (G : GraphListed P count edges front (take (edges * 3) triples)) where
  by_number : (k node : ℕ) → SubjectIs G.triple_records_are k node → (k < edges) × (subject_at triples k ≡ node)
  by_number k node (rest, e) = (omega (arith, inside G.triple_records_are k _ e, G.triple_count), subject_is_at triples G k _ e)

  by_record : (k node : ℕ) → (k < edges) × (subject_at triples k ≡ node) → SubjectIs G.triple_records_are k node
  by_record k node (l, q) =
      let (r, e) = record_of triples G k l in
      let t = (G.lists.edges.members r).0 (element G.triple_records_are k r e) in
      let s : t.subject ≡ node = sym (ap (λ z. get_or z 0 0) t.are) ∙ sym (subject_is_at triples G k r e) ∙ q in
      (t.predicate ∷ t.object ∷ [], e ∙ ap some (t.are ∙ ap (λ z. z ∷ t.predicate ∷ t.object ∷ []) s))

  pub entry_says : {node first count : ℕ} {numbers : List ℕ} → SubjectRange triples edges node first count → numbers ≡ first ∷ count ∷ []
      → IndexEntry G.triple_records_are node numbers
  entry_says {node} x e = record {
    first = _;
    count = _;
    its = λ k. ((λ s. (x.its k).0 (by_number k node s)), (λ h. by_record k node ((x.its k).1 h)));
    none = x.none;
    are = e;
  }

  -- what the numbers say, the records say
  pub entries_say : {index : List ℕ} → BySubject triples count edges index → SubjectIndex G.triple_records_are count (entries_of count index)
  entries_say {index} b = record {
    each = entries_many count index b.long;
    entry = λ node r e. let l = inside (entries_of count index) node r e in
        entry_says (b.ranges node (omega (arith, entries_many count index b.long))) (entry_is count index node r e);
  }

  -- and back
  pub numbers_say : {entries : List (List ℕ)} {index : List ℕ} → SubjectIndex G.triple_records_are count entries → take (count * index_width) index ≡ flatten entries
      → count * index_width ≤ length index → BySubject triples count edges index
  numbers_say {entries} {index} x are room = record { long = room; ranges = λ n l. range n l (there_is entries n (omega (arith, x.each))) }
    where
      wide : (r : List ℕ) → r ∈ entries → length r ≡ 2
      wide r m = let (k, e) = placed m in ap length (x.entry k r e).are

      number : (n : ℕ) (r : List ℕ) → get_elem? entries n ≡ some r → (j : ℕ) → j < 2 → get_or index (n * 2 + j) 0 ≡ get_or r j 0
      number n r e j h =
          let l = inside entries n r e in
          sym (get_or-take (count * 2) index (n * 2 + j) 0 (omega (arith, x.each))) ∙ ap (λ z. get_or z (n * 2 + j) 0) are ∙ flatten_at 2 entries wide n j r e h

      range : (n : ℕ) → n < count → (r : List ℕ) × (get_elem? entries n ≡ some r) → SubjectRange triples edges n (first_at index n) (count_at index n)
      range n l (r, e) =
          let y = x.entry n r e in
          let a : first_at index n ≡ y.first = ap (λ z. get_or index z 0) (let z : n * 2 ≡ n * 2 + 0 = omega arith in z) ∙ number n r e 0 (omega arith) ∙ ap (λ z. get_or z 0 0) y.are in
          let b : count_at index n ≡ y.count = number n r e 1 (omega arith) ∙ ap (λ z. get_or z 1 0) y.are in
          rw (a, b) (record {
            its = λ k. ((λ h. (y.its k).0 (by_record k n h)), (λ h. by_number k n ((y.its k).1 h)));
            none = y.none;
          })

-- The list of each node's triples, made subject by subject. Assumes nothing.
use lib.ListN.{drop, get_or, length, length-set, set}
use lib.Seq.{drop-drop, drop-set-lt, get_or-set_other, get_or-set_same}
use mathlib.Core.List.{List}
use mathlib.Core.Path.{refl, sym, subst, ap, ◌∙◌, ◌≡◌}
use native.Mathlib.Decide.{dec_lt, ℕ_discrete}
use native.Mathlib.Omega.{arith}
use Prim.Native.Nat.{suc, zero, ℕ, ◌*◌, ◌+◌, ◌-◌, ◌<◌, ◌≤◌}
use Rattle.index.specs.Subjects.{Indexed, SubjectRange, SubjectsSplit, count_at, first_at}
use Rattle.index.specs.Triples.{SubjectsRise, subject_at}
use Rattle.meaning.specs.Limits.{index_width}

risen : (triples : List ℕ) (edges : ℕ) → SubjectsRise triples edges → (r d : ℕ) → r + d < edges → subject_at triples r ≤ subject_at triples (r + d)
risen triples edges up r zero l = let e : r ≡ r + 0 = omega arith in subst (λ x. subject_at triples r ≤ subject_at triples x) e (omega arith)
risen triples edges up r (suc d) l =
    let h = risen triples edges up r d (omega arith) in
    let g = up (r + d) (omega arith) in
    let e : r + d + 1 ≡ r + suc d = omega arith in
    subst (λ x. subject_at triples r ≤ subject_at triples x) e (omega arith)

-- ---- one subject

-- The triples from k up to `end` are those of n.
pub record Ending (triples : List ℕ) (edges n k end : ℕ) : Type 0 where
  pub from : k ≤ end
  pub inside : end ≤ edges
  pub subjects : (j : ℕ) → k ≤ j → j < end → subject_at triples j ≡ n

module _ {triples : List ℕ} {edges n k : ℕ} where
  pub end_start : k ≤ edges → Ending triples edges n k k
  end_start l = record { from = omega arith; inside = l; subjects = λ j a b. absurd (omega arith) }

  module _ {end : ℕ} (x : Ending triples edges n k end) where
    pub end_again : end < edges → subject_at triples end ≡ n → Ending triples edges n k (end + 1)
    end_again l e = record { from = let a = x.from in omega arith; inside = omega arith; subjects = λ j a b. go j a b (dec_lt j end) }
      where
        go : (j : ℕ) → k ≤ j → j < end + 1 → Dec (j < end) → subject_at triples j ≡ n
        go j a b (yes h) = x.subjects j a h
        go j a b (no h) = let p : end ≡ j = omega arith in subst (λ y. subject_at triples y ≡ n) p e

    module _ (s : SubjectsSplit triples edges n k) where
      -- what follows is of later subjects
      ended : ((j : ℕ) → end ≤ j → j < edges → n + 1 ≤ subject_at triples j) → (k ≤ end) × SubjectsSplit triples edges (n + 1) end
      ended above = (x.from, record { inside = x.inside; below = λ j a. below j a (dec_lt j k); above = above })
        where
          below : (j : ℕ) → j < end → Dec (j < k) → subject_at triples j < n + 1
          below j a (yes h) = let z = s.below j h in omega arith
          below j a (no h) = let z = x.subjects j (omega arith) a in omega arith

      pub end_last : edges ≤ end → (k ≤ edges) × SubjectsSplit triples edges (n + 1) edges
      end_last l = let e : end ≡ edges = omega (arith, x.inside, l) in rw e at (ended (λ j a b. absurd (omega arith)))

      pub end_stop : SubjectsRise triples edges → end < edges → (subject_at triples end ≡ n → ⊥) → (k ≤ end) × SubjectsSplit triples edges (n + 1) end
      end_stop up l d = ended above
        where
          above : (j : ℕ) → end ≤ j → j < edges → n + 1 ≤ subject_at triples j
          above j a b =
              let u = s.above end x.from l in
              let v = risen triples edges up end (j - end) (omega arith) in
              let e : end + (j - end) ≡ j = omega arith in
              let h : subject_at triples end ≤ subject_at triples j = subst (λ y. subject_at triples end ≤ subject_at triples y) e v in
              omega arith

-- the triples of n stand between those of the subjects below it and those of the subjects above
module _ {triples : List ℕ} {edges n k end : ℕ} (s : SubjectsSplit triples edges n k) (t : SubjectsSplit triples edges (n + 1) end) where
  its : (j : ℕ) → ((j < edges) × (subject_at triples j ≡ n)) → (k ≤ j) × (j < end)
  its j (l, e) = go (dec_lt j k) (dec_lt j end)
    where
      go : Dec (j < k) → Dec (j < end) → (k ≤ j) × (j < end)
      go (yes h) d = absurd (let z = s.below j h in omega arith)
      go (no h) (yes d) = (omega arith, d)
      go (no h) (no d) = absurd (let z = t.above j (omega arith) l in omega arith)

  pub range_is : (first : ℕ) → k ≤ end → (end ≡ k → first ≡ 0) → ((end ≡ k → ⊥) → first ≡ k) → SubjectRange triples edges n first (end - k)
  range_is first l none some = record { its = λ j. ((λ h. forth j h (ℕ_discrete end k)), (λ h. back j h (ℕ_discrete end k))); none = λ h. none (omega arith) }
    where
      forth : (j : ℕ) → ((j < edges) × (subject_at triples j ≡ n)) → Dec (end ≡ k) → (first ≤ j) × (j < first + (end - k))
      forth j h (yes e) = absurd (let z = its j h in omega arith)
      forth j h (no d) = let z = its j h in let f = some d in (omega arith, omega arith)

      back : (j : ℕ) → (first ≤ j) × (j < first + (end - k)) → Dec (end ≡ k) → (j < edges) × (subject_at triples j ≡ n)
      back j h (yes e) = absurd (let f = none e in omega arith)
      back j h (no d) =
          let f = some d in
          let i = t.inside in
          let u = t.below j (omega arith) in
          let v = s.above j (omega arith) (omega arith) in
          (omega arith, omega arith)

-- ---- all subjects

-- The subjects below n are in the list; k triples are passed.
pub record Indexing (triples : List ℕ) (edges : ℕ) (index₀ index : List ℕ) (k n : ℕ) : Type 0 where
  pub passed : SubjectsSplit triples edges n k
  pub long : length index ≡ length index₀
  pub ranges : (m : ℕ) → m < n → SubjectRange triples edges m (first_at index m) (count_at index m)
  pub kept : drop (n * index_width) index ≡ drop (n * index_width) index₀

module _ {triples : List ℕ} {edges : ℕ} {index₀ : List ℕ} where
  pub index_start : Indexing triples edges index₀ index₀ 0 0
  index_start = record {
    passed = record { inside = omega arith; below = λ k h. absurd (omega arith); above = λ k h g. omega arith };
    long = refl;
    ranges = λ m h. absurd (omega arith);
    kept = refl;
  }

  module _ {index : List ℕ} {k n : ℕ} (x : Indexing triples edges index₀ index k n) (room : (n + 1) * index_width ≤ length index₀) where
    pub index_again : (first count end : ℕ) → SubjectsSplit triples edges (n + 1) end → SubjectRange triples edges n first count
        → Indexing triples edges index₀ (set (set index (n * 2) first) (n * 2 + 1) count) end (n + 1)
    index_again first count end s r = record {
      passed = s;
      long = length-set (set index (n * 2) first) (n * 2 + 1) count ∙ length-set index (n * 2) first ∙ x.long;
      ranges = λ m h. go m h (ℕ_discrete m n);
      kept = drop-set-lt ((n + 1) * 2) (set index (n * 2) first) (n * 2 + 1) count (omega arith) ∙ drop-set-lt ((n + 1) * 2) index (n * 2) first (omega arith) ∙ later;
    }
      where
        now : List ℕ
        now = set (set index (n * 2) first) (n * 2 + 1) count

        later : drop ((n + 1) * 2) index ≡ drop ((n + 1) * 2) index₀
        later = let e : (n + 1) * 2 ≡ n * 2 + 2 = omega arith in
            rw e (sym (drop-drop 2 (n * 2) index) ∙ ap (λ (l : List ℕ). drop 2 l) x.kept ∙ drop-drop 2 (n * 2) index₀)

        old : (j : ℕ) → j < n * 2 → get_or now j 0 ≡ get_or index j 0
        old j h = get_or-set_other (set index (n * 2) first) (n * 2 + 1) j count 0 (λ q. omega arith) ∙ get_or-set_other index (n * 2) j first 0 (λ q. omega arith)

        one : get_or now (n * 2) 0 ≡ first
        one = get_or-set_other (set index (n * 2) first) (n * 2 + 1) (n * 2) count 0 (λ q. omega arith) ∙ get_or-set_same index (n * 2) first 0 (let l = x.long in omega arith)

        two : get_or now (n * 2 + 1) 0 ≡ count
        two = get_or-set_same (set index (n * 2) first) (n * 2 + 1) count 0 (let l = x.long in let z = length-set index (n * 2) first in omega arith)

        go : (m : ℕ) → m < n + 1 → Dec (m ≡ n) → SubjectRange triples edges m (first_at now m) (count_at now m)
        go m h (yes p) = subst (λ y. SubjectRange triples edges y (first_at now y) (count_at now y)) (sym p)
            (subst (λ y. SubjectRange triples edges n y (count_at now n)) (sym one) (subst (λ y. SubjectRange triples edges n first y) (sym two) r))
        go m h (no p) = subst (λ y. SubjectRange triples edges m y (count_at now m)) (sym (old (m * 2) (omega arith)))
            (subst (λ y. SubjectRange triples edges m (first_at index m) y) (sym (old (m * 2 + 1) (omega arith))) (x.ranges m (omega arith)))

  pub index_done : {index : List ℕ} {k n nodes : ℕ} → Indexing triples edges index₀ index k n → n ≡ nodes → nodes * index_width ≤ length index₀
      → Indexed triples nodes edges index₀ index
  index_done {index} x e l = record {
    says = record { long = let z = x.long in omega arith; ranges = λ m h. x.ranges m (omega arith) };
    kept = subst (λ y. drop (y * index_width) index ≡ drop (y * index_width) index₀) e x.kept;
  }

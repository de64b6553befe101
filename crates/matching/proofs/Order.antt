-- Laws of the order of an atom's variables. Assumes nothing.
use borrow.Author.Tests.{eq-eqb, ne_eqb}
use lib.Dec.{eqb}
use lib.ListN.{length, get_or, set, take, drop, length-take, length-drop, length-set}
use lib.Seq.{get_or-take, get_or-drop, get_or-set_same, get_or-set_other}
use mathlib.Core.List.{List}
use mathlib.Core.Logic.{◌⊎◌, ◌↔◌, inl, inr}
use mathlib.Core.Path.{◌≡◌, refl, sym, ap, ◌∙◌, subst}
use native.Mathlib.Decide.{ℕ_discrete}
use native.Mathlib.Omega.{arith}
use Prim.Native.Nat.{ℕ, ◌+◌, ◌*◌, ◌-◌, ◌%◌, ◌≤◌, ◌<◌, zero-le}
use Rattle.meaning.specs.Member.{◌∈◌}
use Rattle.meaning.specs.Ordered.{ListOf, empty}
use Rattle.meaning.proofs.Cases.{case_on}
use Rattle.matching.specs.Plan.{rank_by, Ranked, OrderWritten, KeyVariables, AtomsBelow, SameVariables, variables_at}
use Rattle.meaning.specs.Limits.{atoms_length, atom_width, max_atoms, max_columns, max_variables}
use Rattle.meaning.proofs.Lists.SetLists.{list_as}
use Rattle.meaning.proofs.Lists.Places.{∈_at, ∈_index}
use Rattle.meaning.proofs.Lists.Parts.{part_same}

-- ---- ranks

pub rank_new : (mark v : ℕ) → mark ≡ 0 → v ≡ rank_by mark v
unfolding rank_by
rank_new mark v e = rw (eq-eqb _ _ e)

pub rank_seen : (mark v : ℕ) → (mark ≡ 0 → ⊥) → v + max_variables ≡ rank_by mark v
unfolding rank_by
rank_seen mark v n = rw (ne_eqb _ _ n)

rank_variable : (mark v : ℕ) → v < max_variables → rank_by mark v % max_variables ≡ v
unfolding rank_by
rank_variable mark v h = case_on (eqb mark 0) (λ e. rw e (omega (arith, h))) (λ e. rw e (omega (arith, h)))

-- the ranks of the first c variables are listed
module _ (own seen : List ℕ) where
  pub record Early (c k : ℕ) : Type 0 where
    pub index : ℕ
    pub before : index < c
    pub is : k ≡ rank_by (get_or seen (get_or own index 0) 0) (get_or own index 0)

  pub record Ranking (out₀ : List ℕ) (c n : ℕ) (out : List ℕ) : Type 0 where
    pub within : c ≤ length own
    pub few : n ≤ c
    pub long : length out ≡ length out₀
    pub list : ListOf ◌<◌ (Early c) (take n out)

  pub ranking_start : (out : List ℕ) → Ranking out 0 0 out
  ranking_start out = record {
    within = zero-le;
    few = zero-le;
    long = refl;
    list = record { ascending = empty; members = λ k. (λ m. elim m [ ], λ e. absurd (omega (arith, e.before))) };
  }

  module _ {out₀ : List ℕ} {c n : ℕ} {out : List ℕ} (i : Ranking out₀ c n out) (h : c < length own) where
    pub ranking_again : (key : ℕ) → key ≡ rank_by (get_or seen (get_or own c 0) 0) (get_or own c 0)
        → (m : ℕ) (out' : List ℕ) → (m ≤ n + 1) × ListOf ◌<◌ (λ k. (k ≡ key) ⊎ (k ∈ take n out)) (take m out') → length out' ≡ length out
        → Ranking out₀ (c + 1) m out'
    ranking_again key e m out' w l = record {
      within = omega arith;
      few = omega (arith, i.few, w.0);
      long = l ∙ i.long;
      list = list_as (λ k. (forth k, back k)) w.1;
    }
      where
        forth : (k : ℕ) → (k ≡ key) ⊎ (k ∈ take n out) → Early (c + 1) k
        forth k (inl x) = record { index = c; before = omega arith; is = x ∙ e }
        forth k (inr x) = let f = (i.list.members k).0 x in record { index = f.index; before = omega (arith, f.before); is = f.is }

        back : (k : ℕ) → Early (c + 1) k → (k ≡ key) ⊎ (k ∈ take n out)
        back k x = go (ℕ_discrete x.index c)
          where
            go : Dec (x.index ≡ c) → (k ≡ key) ⊎ (k ∈ take n out)
            go (yes y) = inl (x.is ∙ ap (λ d. rank_by (get_or seen (get_or own d 0) 0) (get_or own d 0)) y ∙ sym e)
            go (no d) = inr ((i.list.members k).1 (record { index = x.index; before = omega (arith, x.before, d); is = x.is }))

  pub ranking_done : {out₀ : List ℕ} {c n : ℕ} {out : List ℕ} → Ranking out₀ c n out → length own ≤ c
      → (n ≤ length own) × ListOf ◌<◌ (Ranked own seen) (take n out)
  ranking_done {out₀} {c} i h = (omega (arith, i.few, i.within), list_as (λ k. (forth k, back k)) i.list)
    where
      forth : (k : ℕ) → Early c k → Ranked own seen k
      forth k x = record { variable = get_or own x.index 0; member = ∈_at own x.index (omega (arith, x.before, i.within)); is = x.is }

      back : (k : ℕ) → Ranked own seen k → Early c k
      back k x =
          let q = ∈_index x.member in
          record { index = q.0; before = omega (arith, q.1, h); is = x.is ∙ ap (λ v. rank_by (get_or seen v 0) v) (sym q.2) }

-- ---- writing them

-- the first i are written
pub record Writing (j : ℕ) (ranks next₀ : List ℕ) (i : ℕ) (next : List ℕ) : Type 0 where
  pub within : i ≤ length ranks
  pub long : length next ≡ length next₀
  pub variables : (k : ℕ) → k < i → get_or next (j * atom_width + 2 + k) 0 ≡ get_or ranks k 0 % max_variables
  pub earlier : (k : ℕ) → k < j * atom_width + 2 → get_or next k 0 ≡ get_or next₀ k 0

pub writing_start : (j : ℕ) (ranks next : List ℕ) → Writing j ranks next 0 next
writing_start j ranks next = record { within = zero-le; long = refl; variables = λ k m. absurd (omega (arith, m)); earlier = λ k m. refl }

pub writing_again : {j : ℕ} {ranks next₀ : List ℕ} {i : ℕ} {next : List ℕ} → Writing j ranks next₀ i next → i < length ranks → j < max_atoms
    → length ranks ≤ max_columns → length next₀ ≡ atoms_length
    → Writing j ranks next₀ (i + 1) (set next (j * atom_width + 2 + i) (get_or ranks i 0 % max_variables))
writing_again {j} {ranks} {next₀} {i} {next} w h t s l = record {
  within = omega arith;
  long = length-set next (j * atom_width + 2 + i) x ∙ w.long;
  variables = λ k m. go k m (ℕ_discrete k i);
  earlier = λ k m. get_or-set_other next (j * atom_width + 2 + i) k x 0 (λ q. omega (arith, q, m)) ∙ w.earlier k m;
}
  where
    x : ℕ
    x = get_or ranks i 0 % max_variables

    go : (k : ℕ) → k < i + 1 → Dec (k ≡ i) → get_or (set next (j * atom_width + 2 + i) x) (j * atom_width + 2 + k) 0 ≡ get_or ranks k 0 % max_variables
    go k m (yes q) = rw q (get_or-set_same next (j * atom_width + 2 + i) x 0 (omega (arith, h, t, s, l, w.long)))
    go k m (no n) = get_or-set_other next (j * atom_width + 2 + i) (j * atom_width + 2 + k) x 0 (λ q. n (omega (arith, q))) ∙ w.variables k (omega (arith, m, n))

pub writing_done : {orders : List ℕ} {j : ℕ} {ranks : List ℕ} {i : ℕ} {next : List ℕ} → Writing j ranks (set orders (j * atom_width + 1) (length ranks)) i next → length ranks ≤ i
    → j < max_atoms → length orders ≡ atoms_length → OrderWritten orders j ranks next
writing_done {orders} {j} {ranks} w h t l = record {
  count = w.earlier (j * atom_width + 1) (omega arith) ∙ get_or-set_same orders (j * atom_width + 1) (length ranks) 0 (omega (arith, t, l));
  variables = λ k m. w.variables k (omega (arith, m, h));
  earlier = λ k m. w.earlier k (omega (arith, m)) ∙ get_or-set_other orders (j * atom_width + 1) k (length ranks) 0 (λ q. omega (arith, q, m));
}

-- the first of a list

pub first_length : (n : ℕ) (xs : List ℕ) → n ≤ length xs → n ≡ length (take n xs)
first_length n xs h = omega (arith, h, length-take n xs)

pub first_few : (n : ℕ) (xs : List ℕ) → n ≤ max_columns → length (take n xs) ≤ max_columns
first_few n xs h = omega (arith, h, length-take n xs)

-- ---- all atoms

-- the orders of the first j atoms are written
pub record Ordering (atoms : List ℕ) (count j : ℕ) (orders : List ℕ) : Type 0 where
  pub within : j ≤ count
  pub long : length orders ≡ atoms_length
  pub arity : (i : ℕ) → i < j → get_or orders (i * atom_width + 1) 0 ≤ max_columns
  pub same : (i : ℕ) → i < j → (v : ℕ) → (v ∈ variables_at orders i) ↔ (v ∈ variables_at atoms i)

pub ordering_start : (atoms : List ℕ) (count : ℕ) (orders : List ℕ) → length orders ≡ atoms_length → Ordering atoms count 0 orders
ordering_start atoms count orders e = record {
  within = zero-le;
  long = e;
  arity = λ i h. absurd (omega (arith, h));
  same = λ i h. absurd (omega (arith, h));
}

module _ {atoms : List ℕ} {count j : ℕ} {orders : List ℕ} (o : Ordering atoms count j orders) (h : j < count) (below : AtomsBelow atoms count)
    {own seen ranks next : List ℕ} (q : own ≡ variables_at atoms j) (few : length ranks ≤ length own) (g : ListOf ◌<◌ (Ranked own seen) ranks)
    (w : OrderWritten orders j ranks next) (l : length next ≡ atoms_length) where
  few_ranks : length ranks ≤ max_columns
  few_ranks = omega (arith, few, ap length q, below.arity j h, length-take (get_or atoms (j * atom_width + 1) 0) (drop (j * atom_width + 2) atoms))

  earlier_same : (i : ℕ) → i < j → variables_at next i ≡ variables_at orders i
  earlier_same i m =
      ap (λ k. take k (drop (i * atom_width + 2) next)) (w.earlier (i * atom_width + 1) (omega (arith, m)))
      ∙ part_same (i * atom_width + 2) (get_or orders (i * atom_width + 1) 0) next orders (omega (arith, l, o.long)) (λ p u. w.earlier p (omega (arith, u, m, o.arity i m)))

  long_is : length (variables_at next j) ≡ length ranks
  long_is = omega (
    arith,
    l,
    h,
    below.few,
    few_ranks,
    w.count,
    length-take (get_or next (j * atom_width + 1) 0) (drop (j * atom_width + 2) next),
    length-drop (j * atom_width + 2) next,
  )

  at_is : (i : ℕ) → i < length ranks → get_or (variables_at next j) i 0 ≡ get_or ranks i 0 % max_variables
  at_is i u =
      get_or-take (get_or next (j * atom_width + 1) 0) (drop (j * atom_width + 2) next) i 0 (omega (arith, u, w.count)) ∙ get_or-drop (j * atom_width + 2) next i 0 ∙ w.variables i u

  small : (v : ℕ) → v ∈ own → v < max_variables
  small v m = (below.variables j h).below v (subst (λ (xs : List ℕ). v ∈ xs) q m)

  forth : (v : ℕ) → v ∈ variables_at next j → v ∈ own
  forth v m =
      let i = ∈_index m in
      let u : i.0 < length ranks = omega (arith, i.1, long_is) in
      let r = (g.members (get_or ranks i.0 0)).0 (∈_at ranks i.0 u) in
      let e : r.variable ≡ v = sym (rank_variable (get_or seen r.variable 0) r.variable (small r.variable r.member))
      ∙ ap (λ x. x % max_variables) (sym r.is) ∙ sym (at_is i.0 u) ∙ i.2 in
      subst (λ x. x ∈ own) e r.member

  back : (v : ℕ) → v ∈ own → v ∈ variables_at next j
  back v m =
      let i = ∈_index ((g.members _).1 (record { variable = v; member = m; is = refl })) in
      let e : get_or (variables_at next j) i.0 0 ≡ v = at_is i.0 i.1 ∙ ap (λ x. x % max_variables) i.2 ∙ rank_variable (get_or seen v 0) v (small v m) in
      subst (λ x. x ∈ variables_at next j) e (∈_at (variables_at next j) i.0 (omega (arith, i.1, long_is)))

  ordered : Ordering atoms count (j + 1) next
  ordered = record {
    within = omega arith;
    long = l;
    arity = λ i m. arity_at i m (ℕ_discrete i j);
    same = λ i m. same_at i m (ℕ_discrete i j);
  }
    where
      arity_at : (i : ℕ) → i < j + 1 → Dec (i ≡ j) → get_or next (i * atom_width + 1) 0 ≤ max_columns
      arity_at i m (yes e) = rw (e, w.count) few_ranks
      arity_at i m (no n) = rw (w.earlier (i * atom_width + 1) (omega (arith, m, n))) (o.arity i (omega (arith, m, n)))

      same_at : (i : ℕ) → i < j + 1 → Dec (i ≡ j) → (v : ℕ) → (v ∈ variables_at next i) ↔ (v ∈ variables_at atoms i)
      same_at i m (yes e) v = rw (e, ← q) (forth v, back v)
      same_at i m (no n) v = let k : i < j = omega (arith, m, n) in rw (earlier_same i k) (o.same i k v)

pub ordering_again : {atoms : List ℕ} {count j : ℕ} {orders : List ℕ} → Ordering atoms count j orders → j < count → AtomsBelow atoms count
    → (a k : ℕ) → a ≡ j * atom_width + 2 → k ≡ get_or atoms (j * atom_width + 1) 0 → {seen : List ℕ} (n : ℕ) (out : List ℕ) {next : List ℕ}
    → (n ≤ length (take (a + k - a) (drop a atoms))) × ListOf ◌<◌ (Ranked (take (a + k - a) (drop a atoms)) seen) (take n out)
    → OrderWritten orders j (take n out) next → length next ≡ atoms_length → Ordering atoms count (j + 1) next
ordering_again {atoms} {count} {j} o h below a k e f {seen} n out g w l =
    let c : a + k - a ≡ k = omega arith in
    ordered o h below {seen = seen} (rw (c, e, f)) (omega (arith, g.0, length-take n out)) g.1 w l

module _ {atoms : List ℕ} {count j : ℕ} {orders : List ℕ} (o : Ordering atoms count j orders) (z : count ≤ j) (below : AtomsBelow atoms count) where
  own : (i : ℕ) → i < count → KeyVariables (variables_at orders i)
  own i h = record {
    short = omega (arith, o.arity i (omega (arith, h, z)), length-take (get_or orders (i * atom_width + 1) 0) (drop (i * atom_width + 2) orders));
    below = λ v m. (below.variables i h).below v ((o.same i (omega (arith, h, z)) v).0 m);
  }

  pub ordering_done : AtomsBelow orders count × SameVariables atoms orders count
  ordering_done = (
    record { few = below.few; long = omega (arith, o.long); arity = λ i h. o.arity i (omega (arith, h, z)); variables = own },
    record { same = λ i h. o.same i (omega (arith, h, z)) },
  )

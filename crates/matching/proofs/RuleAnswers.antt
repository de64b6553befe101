-- What a rule's numbers give the search, and what its answer says. Assumes nothing.
use borrow.Author.Tests.{eqb-false}
use lib.Dec.{eqb}
use lib.ListN.{length, get_or, take, length-take}
use mathlib.Core.List.{List, [], ◌∷◌, map}
use mathlib.Core.Logic.{◌↔◌, inr, ⊎_elim}
use mathlib.Core.Path.{◌≡◌, refl, sym, ap, ◌∙◌, subst}
use native.Mathlib.Omega.{arith}
use Prim.Native.Nat.{ℕ, suc, ◌+◌, ◌*◌, ◌^◌, ◌≤◌, ◌<◌, zero-le}
use Rattle.meaning.specs.Core.{Assignment}
use Rattle.meaning.specs.Limits.{atoms_length, atom_width, candidates_length, max_atoms, max_columns, max_values, max_variables, rows_length, row_width, unused}
use Rattle.meaning.specs.Member.{◌∈◌, here, there}
use Rattle.meaning.specs.Ordered.{empty}
use Rattle.meaning.specs.Pack.{Row, Atom}
use Rattle.meaning.proofs.Cases.{case_on}
use Rattle.sets.specs.declared.ordered.Full.{Full}
use Rattle.std.specs.Prelude.{Ok, Err}
use Rattle.matching.specs.Plan.{masked, variables_at, candidates_at, KeyVariables, AtomsBelow, AtomsBytes, SameVariables, Bindings, Candidate, Prepared, Plan, Solution, Reaches, GrownOver, GrownTo}
use Rattle.matching.specs.Rule.{RuleHeld, ListedOrOver}
use Rattle.matching.proofs.Bytes.{stacked_small}
use Rattle.matching.proofs.HeldNumbers.{atom_relation, atom_count, atom_variables, row_relation, row_cell, map_long}
use Rattle.matching.proofs.Matched.{atom_at, atom_of, row_at, rows_long}
use Rattle.meaning.proofs.Lists.SetLists.{list_as}
use Rattle.meaning.proofs.Lists.Places.{∈_at, ∈_index}
use Rattle.meaning.proofs.Lists.Counting.{over_sub}

-- the keys of a set that was empty
pub grown_answers : {m : ℕ} {keys keys' : List ℕ} {P Q : ℕ → Type 0} → ((k : ℕ) → P k ↔ Q k) → length keys' ≡ length keys
    → GrownTo m keys 0 P keys' → ListedOrOver (Ok m) keys' Q
grown_answers f e g = (omega (arith, g.room, e), list_as (λ k. (⊎_elim (λ m. elim m [ ]) (f k).0, λ q. inr ((f k).1 q))) g.list)

pub over_answers : {keys : List ℕ} (keys' : List ℕ) {e : Full} {P Q : ℕ → Type 0} → ((k : ℕ) → P k ↔ Q k) → length keys' ≡ length keys
    → GrownOver keys 0 P → ListedOrOver (Err e) keys' Q
over_answers keys' f e g = rw e (over_sub (λ k. ⊎_elim (λ m. elim m [ ]) (f k).0) g.over)

-- an atom that has no candidate leaves no head
pub unmatched_answers : {orders : List ℕ} {count : ℕ} {vars cands counts start : List ℕ} {Q : ℕ → Type 0} → ((k : ℕ) → Solution orders count vars cands counts 0 start k ↔ Q k)
    → (j : ℕ) × (j < count) × (get_or counts j 0 ≡ 0) → (keys : List ℕ) → ListedOrOver (Ok 0) keys Q
unmatched_answers {orders} {count} {vars} {cands} {counts} {start} f u keys = (zero-le, record { ascending = empty; members = λ k. (λ m. elim m [ ], λ q. absurd (none k ((f k).1 q))) })
  where
    none : (k : ℕ) → Solution orders count vars cands counts 0 start k → ⊥
    none k s = elim (rw u.2 at (s.fits u.0 zero-le u.1)) [ ]

-- ---- keys of value numbers

map_bytes : (σ : Assignment) (vs : List ℕ) → ((v : ℕ) → v ∈ vs → σ v < max_values) → (x : ℕ) → x ∈ map σ vs → x < max_values
map_bytes σ [] s x x4 = elim x4 [ ]
map_bytes σ (v ∷ vs) s x (here e) = rw e (s v (here refl))
map_bytes σ (v ∷ vs) s x (there m) = map_bytes σ vs (λ w n. s w (there n)) x m

module _ {rows : List Row} {atoms : List Atom} {vars rowN atomN : List ℕ} {count : ℕ} {varN : List ℕ} {varCount : ℕ}
    (h : RuleHeld rows atoms vars rowN atomN count varN varCount) (long : atoms_length ≤ length atomN) where
  few : count ≤ max_atoms
  few = omega (arith, h.few_atoms, h.atoms_counted)

  arity : (j : ℕ) → j < count → get_or atomN (j * atom_width + 1) 0 ≤ max_columns
  arity j l = let a = atom_at h j l in let s = h.short a.0 a.1 in omega (arith, atom_count a.2 s, s)

  own : (j : ℕ) → j < count → KeyVariables (variables_at atomN j)
  own j l =
      let a = atom_at h j l in
      let s = h.short a.0 a.1 in
      rw (atom_variables a.2 s) (record { short = s; below = h.variables a.0 a.1 })

  pub atoms_below : AtomsBelow atomN count
  atoms_below = record { few = few; long = long; arity = arity; variables = own }

  pub head_variables : KeyVariables (take varCount varN)
  head_variables = record { short = omega (arith, length-take varCount varN, h.vars_counted); below = below }
    where
      below : (v : ℕ) → v ∈ take varCount varN → v < max_variables
      below v m = let b = h.bound v (subst (λ (l : List ℕ). v ∈ l) h.vars_held m) in h.variables b.0 b.1 v b.2

  pub few_rows_lem : length rowN ≤ rows_length
  few_rows_lem = omega (arith, rows_long h, h.few_rows)

  cells : (j : ℕ) → j < count → (r : ℕ) → suc r * row_width ≤ length rowN → get_or rowN (r * row_width) 0 ≡ get_or atomN (j * atom_width) 0 → (c : ℕ)
      → c < length (variables_at atomN j) → get_or rowN (r * row_width + 1 + c) 0 < max_values
  cells j l r w e c u =
      let a = atom_at h j l in
      let s = h.short a.0 a.1 in
      let x = row_at h r w in
      let n = h.arities x.0 x.1 a.0 a.1 (sym (row_relation x.2) ∙ e ∙ atom_relation a.2 s) in
      let k : c < length x.0.cells = omega (arith, u, ap length (atom_variables a.2 s), n) in
      rw (row_cell x.2 (omega (arith, n, s)) c k) (h.values x.0 x.1 _ (∈_at x.0.cells c k))

  pub atoms_bytes : AtomsBytes rowN atomN count
  atoms_bytes j l = record { small = cells j l }

  module _ {orders start cands counts : List ℕ} (below : AtomsBelow orders count) (t : SameVariables atomN orders count) (g : Bindings start)
      (p : Prepared rowN atomN orders start count cands counts) (room : candidates_length ≤ length cands) where
    small : (j : ℕ) → j < count → (key : ℕ) → key ∈ candidates_at cands counts j → key < max_values ^ length (variables_at orders j)
    small j l key m =
        let d = ((p.list j l).members key).0 m in
        rw (d.is, ← (map_long (masked start d.values) (variables_at orders j)))
        (stacked_small (map (masked start d.values) (variables_at orders j))
        (map_bytes (masked start d.values) (variables_at orders j) (λ v n. byte d.values v (value d v ((t.same j l v).0 n)))))
      where
        byte : (σ : Assignment) (v : ℕ) → σ v < max_values → masked start σ v < max_values
        byte σ v b = case_on (eqb (get_or start v 0) unused) (λ e. rw e b) (λ e. rw e (g.small v (eqb-false (get_or start v 0) unused e)))

        value : (d : Candidate rowN (get_or atomN (j * atom_width) 0) (variables_at atomN j) (variables_at orders j) start key) (v : ℕ) → v ∈ variables_at atomN j → d.values v < max_values
        value d v n =
            let q = ∈_index n in
            subst (λ w. d.values w < max_values) q.2 (subst (λ y. y < max_values) (d.cells q.0 q.1) (cells j l d.index d.within d.relation_is q.0 q.1))

    pub plan : Plan orders count (take varCount varN) cands counts
    plan = record {
      few = few;
      long = below.long;
      arity = below.arity;
      variables = below.variables;
      room = room;
      counted = p.counted;
      small = small;
      ascending = λ j l. (p.list j l).ascending;
      heads = head_variables;
    }

    pub reaches : Reaches orders count (take varCount varN) cands counts 0 start
    reaches = record { bound = λ v m. inr (at v m) }
      where
        at : (v : ℕ) → v ∈ take varCount varN → (j : ℕ) × (0 ≤ j) × (j < count) × (v ∈ variables_at orders j)
        at v m =
            let b = h.bound v (subst (λ (l : List ℕ). v ∈ l) h.vars_held m) in
            let j = atom_of h b.0 b.1 in
            (j.0, zero-le, j.1, (t.same j.0 j.1 v).1 (subst (λ (l : List ℕ). v ∈ l) (sym (atom_variables j.2 (h.short b.0 b.1))) b.2))

-- What a pack that is not refused by 7 gives: every number names a record, every count is the arity, every head variable
-- stands in an atom. Assumes nothing.
use lib.Dec.{T, ltb, ltb→lt, eqb, eqb→eq}
use lib.ListN.{length, get_elem?}
use mathlib.Core.Bool.{Bool, true, false, not, ◌&&◌}
use mathlib.Core.List.Memᴰ
use mathlib.Core.List.{List, [], ◌∷◌, ◌++◌, map}
use mathlib.Core.Logic.Dec
use mathlib.Core.Logic.{⊎_elim}
use mathlib.Core.Option.{some, none-ne-some, some-injective}
use mathlib.Core.Path.{◌≡◌, refl, sym, subst}
use native.Mathlib.Decide.{ℕ_discrete}
use Prim.Native.Nat.{ℕ, zero, suc, ◌<◌}
use Rattle.meaning.proofs.Lists.Members.{any_only, both, every_at}
use Rattle.meaning.proofs.Theory.Simulation.{last}
use Rattle.meaning.specs.Member.{◌∈◌, here, there}
use Rattle.meaning.specs.Pack.{Atom, Constructor, HasShape, Head, Pack, Row, Rule, Shape, ShapeRecord, Term, first_shape, has_type, links_to, links_to_value, shape_in, shape_of, type}
use Rattle.meaning.specs.Tests.{any, elem, every}
use Rattle.meaning.specs.WellFormed.{
  constructor_arities,
  dangling,
  good_atom,
  good_dependency,
  good_head,
  good_predicate,
  good_row,
  good_rule,
  good_shape,
  good_target,
  good_term,
  good_type,
  has_arity,
  in_atoms,
}

-- the variables of a head, and its terms
unfoldable pub head_variables : Head → List ℕ
head_variables (has_type s t) = s.variables
head_variables (links_to s p o) = s.variables ++ o.variables
head_variables (links_to_value s p v) = v ∷ s.variables

unfoldable pub head_terms : Head → List Term
head_terms (has_type s t) = s ∷ []
head_terms (links_to s p o) = s ∷ o ∷ []
head_terms (links_to_value s p v) = s ∷ []

-- each head variable stands in some atom
unfoldable pub Bound : Rule → Type 0
Bound r = (v : ℕ) → v ∈ head_variables r.head → (a : Atom) × (a ∈ r.atoms) × (v ∈ a.variables)

-- a constructor of the pack, over as many variables as its arity
abbrev pub Declared : Pack → Term → Type 0
Declared P t = (k : Constructor) × (get_elem? P.setting.constructors t.constructor ≡ some k) × (length t.variables ≡ k.arity)

pub record Resolved (P : Pack) : Type 0 where
  pub bound : (r : Rule) → r ∈ P.setting.rules → Bound r
  pub terms : (r : Rule) → r ∈ P.setting.rules → (t : Term) → t ∈ head_terms r.head → Declared P t
  pub head_type : {r : Rule} {s : Term} {t : ℕ} → r ∈ P.setting.rules → r.head ≡ has_type s t → t < length P.setting.types
  pub target_type : {t p u : ℕ} {s : Shape} → HasShape P.setting t p s → s.target ≡ type u → u < length P.setting.types
  pub predicate : {t p : ℕ} {s : Shape} → HasShape P.setting t p s → p < length P.setting.predicates
  pub cells : (r : Row) → r ∈ P.rows → (v : ℕ) → v ∈ r.cells → v < length P.setting.values

-- a shape comes from a record
pub shape_in_only : (ss : List ShapeRecord) (t p : ℕ) (s : Shape) → shape_in ss t p ≡ some s
    → (r : ShapeRecord) × (r ∈ ss) × (t ≡ r.owner) × (p ≡ r.predicate) × (r.shape ≡ s)
unfolding shape_in first_shape
shape_in_only [] t p s e = absurd (none-ne-some s e)
shape_in_only (r ∷ rs) t p s e = go (Dec.and (ℕ_discrete t r.owner) (ℕ_discrete p r.predicate)) e (shape_in_only rs t p s)
  where
    go : (d : Dec ((t ≡ r.owner) × (p ≡ r.predicate))) → first_shape d r.shape (shape_in rs t p) ≡ some s
        → (shape_in rs t p ≡ some s → (q : ShapeRecord) × (q ∈ rs) × (t ≡ q.owner) × (p ≡ q.predicate) × (q.shape ≡ s))
        → (q : ShapeRecord) × (q ∈ (r ∷ rs)) × (t ≡ q.owner) × (p ≡ q.predicate) × (q.shape ≡ s)
    go (yes m) e rest = (r, here refl, m.0, m.1, some-injective r.shape s e)
    go (no n) e rest = let q = rest e in (q.0, there q.1, q.2, q.3, q.4)

-- the tests that all passed, one after the other
in_atoms_lem : (atoms : List Atom) (vs : List ℕ) → T (in_atoms atoms vs) → (v : ℕ) → v ∈ vs → (a : Atom) × (a ∈ atoms) × (v ∈ a.variables)
in_atoms_lem atoms vs h v i =
    let r = any_only (λ (a : Atom). elem v a.variables) atoms (every_at (λ v. any (λ (a : Atom). elem v a.variables) atoms) vs h i) in
    let q = any_only (eqb v) r.0.variables r.2 in
    (r.0, r.1, subst (λ x. x ∈ r.0.variables) (sym (eqb→eq v q.0 q.2)) q.1)

has_constructor : (P : Pack) (t : Term) → T (has_arity (constructor_arities P) t.constructor (length t.variables)) → Declared P t
has_constructor P t h = go P.setting.constructors t.constructor h
  where
    go : (ks : List Constructor) (c : ℕ) → T (has_arity (map (λ (k : Constructor). k.arity) ks) c (length t.variables))
        → (k : Constructor) × (get_elem? ks c ≡ some k) × (length t.variables ≡ k.arity)
    go [] c h = absurd h
    go (k ∷ ks) zero h = (k, refl, eqb→eq (length t.variables) k.arity h)
    go (k ∷ ks) (suc c) h = go ks c h

-- what a good head gives
module _ (P : Pack) (atoms : List Atom) where
  term_bound : (s : Term) → T (good_term P atoms s) → (v : ℕ) → v ∈ s.variables → (a : Atom) × (a ∈ atoms) × (v ∈ a.variables)
  term_bound s h = in_atoms_lem atoms s.variables ((both (has_arity (constructor_arities P) s.constructor (length s.variables)) (in_atoms atoms s.variables)).0 h).1

  term_declared : (s : Term) → T (good_term P atoms s) → Declared P s
  term_declared s h = has_constructor P s ((both (has_arity (constructor_arities P) s.constructor (length s.variables)) (in_atoms atoms s.variables)).0 h).0

  -- a head with two parts before its last
  three : (s : Term) (p : ℕ) (last : Bool) → T (good_term P atoms s && good_predicate P p && last) → T (good_term P atoms s) × T last
  three s p last h =
      let q = (both (good_term P atoms s && good_predicate P p) last).0 h in (((both (good_term P atoms s) (good_predicate P p)).0 q.0).0, q.1)

  head_bound : (h : Head) → T (good_head P atoms h) → (v : ℕ) → v ∈ head_variables h → (a : Atom) × (a ∈ atoms) × (v ∈ a.variables)
  unfolding head_variables
  head_bound (has_type s t) g v i = term_bound s ((both (good_term P atoms s) (good_type P t)).0 g).0 v i
  head_bound (links_to s p o) g v i =
      let q = three s p (good_term P atoms o) g in ⊎_elim (term_bound s q.0 v) (term_bound o q.1 v) (Memᴰ.append_cases s.variables i)
  head_bound (links_to_value s p x) g v i =
      let q = three s p (in_atoms atoms (x ∷ [])) g in
      ⊎_elim (λ e. in_atoms_lem atoms (x ∷ []) q.1 v (here e)) (term_bound s q.0 v) (Memᴰ.cases_cons i)

  head_declared : (h : Head) → T (good_head P atoms h) → (t : Term) → t ∈ head_terms h → Declared P t
  unfolding head_terms
  head_declared (has_type s t) g u (here e) = subst (Declared P) (sym e) (term_declared s ((both (good_term P atoms s) (good_type P t)).0 g).0)
  head_declared (has_type s t) g u (there i) = elim i [ ]
  head_declared (links_to s p o) g u (here e) = subst (Declared P) (sym e) (term_declared s (three s p (good_term P atoms o) g).0)
  head_declared (links_to s p o) g u (there (here e)) = subst (Declared P) (sym e) (term_declared o (three s p (good_term P atoms o) g).1)
  head_declared (links_to s p o) g u (there (there i)) = elim i [ ]
  head_declared (links_to_value s p x) g u (here e) = subst (Declared P) (sym e) (term_declared s (three s p (in_atoms atoms (x ∷ [])) g).0)
  head_declared (links_to_value s p x) g u (there i) = elim i [ ]

module _ (P : Pack) (not-7 : dangling P ≡ false) where
  abbrev dependencies_good : Bool
  dependencies_good = every (good_dependency P) P.setting.dependencies

  abbrev shapes_good : Bool
  shapes_good = every (good_shape P) P.setting.shapes

  abbrev rules_good : Bool
  rules_good = every (good_rule P) P.setting.rules

  abbrev rows_good : Bool
  rows_good = every (good_row P) P.rows

  all_good : T ((dependencies_good && shapes_good) && rules_good) × T rows_good
  unfolding dangling
  all_good = (both ((dependencies_good && shapes_good) && rules_good) rows_good).0 (passed (((dependencies_good && shapes_good) && rules_good) && rows_good) not-7)
    where
      passed : (b : Bool) → not b ≡ false → T b
      passed true e = tt
      passed false e = subst T e tt

  good_rule_lem : (r : Rule) → r ∈ P.setting.rules → T (good_head P r.atoms r.head)
  good_rule_lem r i =
      ((both (every (good_atom P) r.atoms) (good_head P r.atoms r.head)).0
      (every_at (good_rule P) P.setting.rules ((both (dependencies_good && shapes_good) rules_good).0 all_good.0).1 i)).1

  good_shape_lem : {t p : ℕ} {s : Shape} → HasShape P.setting t p s → T (good_predicate P p) × T (good_target P s.target)
  unfolding shape_of
  good_shape_lem {t} {p} {s} e =
      let r = shape_in_only P.setting.shapes t p s e.is in
      let all = ((both dependencies_good shapes_good).0 ((both (dependencies_good && shapes_good) rules_good).0 all_good.0).0).1 in
      let q = (both (good_type P r.0.owner && good_predicate P r.0.predicate) (good_target P r.0.shape.target)).0 (every_at (good_shape P) P.setting.shapes all r.1) in (
        subst (λ x. T (good_predicate P x)) (sym r.3) ((both (good_type P r.0.owner) (good_predicate P r.0.predicate)).0 q.0).1,
        subst (λ (x : Shape). T (good_target P x.target)) r.4 q.1,
      )

  pub resolved : Resolved P
  unfolding Bound
  resolved = record {
    bound = λ r i. head_bound P r.atoms r.head (good_rule_lem r i);
    terms = λ r i. head_declared P r.atoms r.head (good_rule_lem r i);
    head_type = λ {r} {s} {t} i e.
        let g = subst (λ h. T (good_head P r.atoms h)) e (good_rule_lem r i) in
        ltb→lt t (length P.setting.types) ((both (good_term P r.atoms s) (good_type P t)).0 g).1;
    target_type = λ {t} {p} {u} {s} e q. ltb→lt u (length P.setting.types) (subst (λ x. T (good_target P x)) q (good_shape_lem e).1);
    predicate = λ {t} {p} e. ltb→lt p (length P.setting.predicates) (good_shape_lem e).0;
    cells = λ r i v j.
        let g = every_at (good_row P) P.rows all_good.1 i in
        let cells = ((both (has_arity P.setting.arities r.relation (length r.cells)) (every (λ v. ltb v (length P.setting.values)) r.cells)).0 g).1 in
        ltb→lt v (length P.setting.values) (every_at (λ v. ltb v (length P.setting.values)) r.cells cells j);
  }

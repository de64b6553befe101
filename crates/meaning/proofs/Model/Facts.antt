-- The facts that the rules give, listed: for each rule, every choice of a row for each atom that agrees on the variables.
-- Assumes nothing.
use mathlib.Core.List.Memᴰ
use mathlib.Core.List.Memᴰ.{map as ∈-map}
use mathlib.Core.List.{List, [], ◌∷◌, ◌++◌, map, flat_map}
use mathlib.Core.Logic.{◌⊎◌, ◌↔◌, inl, inr}
use mathlib.Core.Path.{◌≡◌, refl, sym, ap, ap₂, ◌∙◌, subst}
use native.Mathlib.Decide.{ℕ_discrete}
use Prim.Native.Nat.{ℕ}
use Rattle.meaning.proofs.Lists.Members.{joined_in, joined_only, same_list, selected, selected_in, selected_only, ∈_append, ∈_dec, ∈_map⁻¹}
use Rattle.meaning.proofs.Model.Resolved.{Bound, head_variables}
use Rattle.meaning.specs.Core.{Assignment, Fact, Given, Matches, head_fact, iri_node, literal_node, node_of, row_of, triple, typed}
use Rattle.meaning.specs.Member.{◌∈◌, here, there}
use Rattle.meaning.specs.Pack.{Atom, Head, Pack, Row, Rule, has_type, links_to, links_to_value, type}

-- ---- one rule

unfoldable pub same_row : Discrete Row
unfolding same_list ℕ_discrete
same_row r s = go (ℕ_discrete r.relation s.relation) (same_list ℕ_discrete r.cells s.cells)
  where
    go : Dec (r.relation ≡ s.relation) → Dec (r.cells ≡ s.cells) → Dec (r ≡ s)
    go (yes e) (yes f) = yes (λ i. record { relation = e i; cells = f i })
    go (yes e) (no n) = no (λ q. n (ap (λ (x : Row). x.cells) q))
    go (no n) f = no (λ q. n (ap (λ (x : Row). x.relation) q))

-- each choice of a row for each atom
unfoldable pub choices : List Row → List Atom → List (List Row)
unfolding flat_map
choices rows [] = [] ∷ []
choices rows (a ∷ more) = flat_map (λ r. map (λ l. r ∷ l) (choices rows more)) rows

unfoldable pub pairs : List ℕ → List ℕ → List (ℕ × ℕ)
pairs [] ys = []
pairs (x ∷ xs) [] = []
pairs (x ∷ xs) (y ∷ ys) = (x, y) ∷ pairs xs ys

-- variables with the cells that they stand at
unfoldable pub cells_at : List Atom → List Row → List (ℕ × ℕ)
unfolding pairs
cells_at [] rs = []
cells_at (a ∷ more) [] = []
cells_at (a ∷ more) (r ∷ rs) = pairs a.variables r.cells ++ cells_at more rs

unfoldable pub pick : {Q : Type 0} → Dec Q → ℕ → ℕ → ℕ
pick (yes q) x y = x
pick (no n) x y = y

unfoldable pub lookup : List (ℕ × ℕ) → Assignment
unfolding pick ℕ_discrete
lookup [] v = 0
lookup (q ∷ qs) v = pick (ℕ_discrete v q.0) q.1 (lookup qs v)

unfoldable pub all_in : (rows : List Row) (σ : Assignment) (atoms : List Atom) → Dec (Matches rows σ atoms)
unfolding Matches same_row ∈_dec
all_in rows σ [] = yes (λ a h. elim h [ ])
all_in rows σ (a ∷ more) = go (∈_dec same_row (row_of σ a) rows) (all_in rows σ more)
  where
    go : Dec (row_of σ a ∈ rows) → Dec ((b : Atom) → b ∈ more → row_of σ b ∈ rows) → Dec ((b : Atom) → b ∈ (a ∷ more) → row_of σ b ∈ rows)
    go (yes h) (yes k) = yes both
      where
        both : (b : Atom) → b ∈ (a ∷ more) → row_of σ b ∈ rows
        both b (here e) = subst (λ x. row_of σ x ∈ rows) (sym e) h
        both b (there i) = k b i
    go (yes h) (no n) = no (λ k. n (λ b i. k b (there i)))
    go (no n) k = no (λ k. n (k a (here refl)))

-- ---- it finds every match

module _ (σ : Assignment) where
  Agree : List (ℕ × ℕ) → Type 0
  Agree qs = (q : ℕ × ℕ) → q ∈ qs → q.1 ≡ σ q.0

  choices_in : (rows : List Row) (atoms : List Atom) → Matches rows σ atoms → map (row_of σ) atoms ∈ choices rows atoms
  unfolding Matches choices
  choices_in rows [] h = here refl
  choices_in rows (a ∷ more) h =
      joined_in (λ r. map (λ l. r ∷ l) (choices rows more)) (h a (here refl))
      (∈-map (λ l. row_of σ a ∷ l) (choices_in rows more (λ b i. h b (there i))))

  pairs_agree : (vs : List ℕ) → Agree (pairs vs (map σ vs))
  unfolding Agree pairs
  pairs_agree [] q h = elim h [ ]
  pairs_agree (v ∷ vs) q (here e) = ap (λ (x : ℕ × ℕ). x.1) e ∙ sym (ap (λ (x : ℕ × ℕ). σ x.0) e)
  pairs_agree (v ∷ vs) q (there h) = pairs_agree vs q h

  cells_agree : (atoms : List Atom) → Agree (cells_at atoms (map (row_of σ) atoms))
  unfolding Agree cells_at
  cells_agree [] q h = elim h [ ]
  cells_agree (a ∷ more) q h = go (Memᴰ.append_cases (pairs a.variables (map σ a.variables)) h) (cells_agree more q)
    where
      go : (q ∈ pairs a.variables (map σ a.variables)) ⊎ (q ∈ cells_at more (map (row_of σ) more))
          → (q ∈ cells_at more (map (row_of σ) more) → q.1 ≡ σ q.0) → q.1 ≡ σ q.0
      go (inl i) rest = pairs_agree a.variables q i
      go (inr i) rest = rest i

  pairs_have : (vs : List ℕ) (v : ℕ) → v ∈ vs → (v, σ v) ∈ pairs vs (map σ vs)
  unfolding pairs
  pairs_have [] v x' = elim x' [ ]
  pairs_have (w ∷ vs) v (here e) = here (λ i. (e i, σ (e i)))
  pairs_have (w ∷ vs) v (there h) = there (pairs_have vs v h)

  cells_have : (atoms : List Atom) (a : Atom) (v : ℕ) → a ∈ atoms → v ∈ a.variables → (v, σ v) ∈ cells_at atoms (map (row_of σ) atoms)
  unfolding cells_at
  cells_have [] a v x'' h = elim x'' [ ]
  cells_have (b ∷ more) a v (here e) h =
      ∈_append (pairs b.variables (map σ b.variables)) _ (inl (pairs_have b.variables v (subst (λ x. v ∈ x.variables) e h)))
  cells_have (b ∷ more) a v (there i) h = ∈_append (pairs b.variables (map σ b.variables)) _ (inr (cells_have more a v i h))

  lookup_agrees : (qs : List (ℕ × ℕ)) → Agree qs → (v : ℕ) → (v, σ v) ∈ qs → lookup qs v ≡ σ v
  unfolding Agree lookup pick
  lookup_agrees [] ok v h = elim h [ ]
  lookup_agrees (q ∷ qs) ok v h = go (ℕ_discrete v q.0) h (lookup_agrees qs (λ r i. ok r (there i)) v)
    where
      go : (d : Dec (v ≡ q.0)) → (v, σ v) ∈ (q ∷ qs) → ((v, σ v) ∈ qs → lookup qs v ≡ σ v) → pick d q.1 (lookup qs v) ≡ σ v
      go (yes e) i rest = ok q (here refl) ∙ ap σ (sym e)
      go (no n) (here e) rest = absurd (n (ap (λ (x : ℕ × ℕ). x.0) e))
      go (no n) (there i) rest = rest i

map_agrees : (ρ σ : Assignment) (vs : List ℕ) → ((v : ℕ) → v ∈ vs → ρ v ≡ σ v) → map ρ vs ≡ map σ vs
map_agrees ρ σ [] h = refl
map_agrees ρ σ (v ∷ vs) h = ap₂ {C = List ℕ} (λ x l. x ∷ l) (h v (here refl)) (map_agrees ρ σ vs (λ w i. h w (there i)))

head_agrees : (ρ σ : Assignment) (h : Head) → ((v : ℕ) → v ∈ head_variables h → ρ v ≡ σ v) → head_fact ρ h ≡ head_fact σ h
unfolding head_fact node_of head_variables
head_agrees ρ σ (has_type s t) h = ap (λ vs. typed (iri_node s.constructor vs) (type t)) (map_agrees ρ σ s.variables h)
head_agrees ρ σ (links_to s p o) h =
    ap₂ (λ vs ws. triple (iri_node s.constructor vs) p (iri_node o.constructor ws))
    (map_agrees ρ σ s.variables (λ v i. h v (∈_append s.variables o.variables (inl i))))
    (map_agrees ρ σ o.variables (λ v i. h v (∈_append s.variables o.variables (inr i))))
head_agrees ρ σ (links_to_value s p v) h =
    ap₂ (λ vs x. triple (iri_node s.constructor vs) p (literal_node x))
    (map_agrees ρ σ s.variables (λ w i. h w (there i))) (h v (here refl))

-- ---- every rule

module _ (P : Pack) where
  unfoldable pub assignments : Rule → List Assignment
  unfolding cells_at choices lookup
  assignments r = map (λ rs. lookup (cells_at r.atoms rs)) (choices P.rows r.atoms)

  unfoldable pub rule_facts : Rule → List Fact
  unfolding all_in assignments head_fact selected
  rule_facts r = map (λ σ. head_fact σ r.head) (selected (λ σ. all_in P.rows σ r.atoms) (assignments r))

  unfoldable pub facts : List Fact
  unfolding flat_map rule_facts
  facts = flat_map rule_facts P.setting.rules

  facts_given : {f : Fact} → f ∈ facts → Given P f
  unfolding facts rule_facts
  facts_given h =
      let r = joined_only rule_facts P.setting.rules h in
      let m = ∈_map⁻¹ (λ σ. head_fact σ r.0.head) (selected (λ σ. all_in P.rows σ r.0.atoms) (assignments r.0)) r.2 in
      let s = selected_only (λ σ. all_in P.rows σ r.0.atoms) (assignments r.0) m.1 in
      record { rule = r.0; listed = r.1; values = m.0; matches = s.1; says = sym m.2 }

  module _ (bound : (r : Rule) → r ∈ P.setting.rules → Bound r) where
    given_facts : {f : Fact} → Given P f → f ∈ facts
    unfolding facts rule_facts assignments Matches Bound
    given_facts {f} g = subst (λ x. x ∈ facts) (head_agrees ρ σ r.head on_head ∙ g.says)
        (joined_in rule_facts g.listed (∈-map (λ σ. head_fact σ r.head) (selected_in (λ σ. all_in P.rows σ r.atoms) listed matches)))
      where
        r : Rule
        r = g.rule

        σ : Assignment
        σ = g.values

        ρ : Assignment
        ρ = lookup (cells_at r.atoms (map (row_of σ) r.atoms))

        listed : ρ ∈ assignments r
        listed = ∈-map (λ rs. lookup (cells_at r.atoms rs)) (choices_in σ P.rows r.atoms g.matches)

        agrees : (a : Atom) → a ∈ r.atoms → (v : ℕ) → v ∈ a.variables → ρ v ≡ σ v
        agrees a i v h = lookup_agrees σ _ (cells_agree σ r.atoms) v (cells_have σ r.atoms a v i h)

        matches : Matches P.rows ρ r.atoms
        matches a i = subst (λ l. record { relation = a.relation; cells = l } ∈ P.rows) (sym (map_agrees ρ σ a.variables (agrees a i))) (g.matches a i)

        on_head : (v : ℕ) → v ∈ head_variables r.head → ρ v ≡ σ v
        on_head v h = let b = bound r g.listed v h in agrees b.0 b.1 v b.2

    pub facts_iff : (f : Fact) → (f ∈ facts) ↔ Given P f
    facts_iff f = (facts_given, given_facts)

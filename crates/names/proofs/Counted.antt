-- A setting's counts, and its relations and constructors by their arities. Assumes nothing.
use lib.ListN.{drop, get_or, get_elem?, length, length-map, take}
use lib.Seq.{drop-drop, get_or-take}
use mathlib.Core.List.{List, [], ◌∷◌}
use mathlib.Core.Option.{none, some}
use mathlib.Core.Path.{◌≡◌, refl, sym, ap, subst, ◌∙◌}
use native.Mathlib.Omega.{arith}
use Prim.Native.Nat.{ℕ, ◌+◌, ◌*◌, ◌≤◌, ◌<◌}
use Rattle.records.specs.PackHeld.{RecordsHeld, counts_of}
use Rattle.meaning.specs.Limits.{constructor_width, constructors_at, max_columns, max_constructors, max_relations, relation_width, relations_at}
use Rattle.meaning.specs.Pack.{Constructor, Pack}
use Rattle.meaning.specs.WellFormed.{constructor_arities}
use Rattle.meaning.proofs.Lists.Members.{element}
use Rattle.meaning.proofs.Lists.Places.{entry_map, entry_none, there_is}
use Rattle.names.specs.PackGiven.{SettingGiven}
use Rattle.meaning.proofs.Lists.Parts.{first_is_at}

-- a record's numbers by their place
pub held_at : {A : Type 0} {N : A → List ℕ → Type 0} {w : ℕ} {xs : List A} {at : ℕ} {numbers : List ℕ} → RecordsHeld N w xs at numbers
    → (i : ℕ) (x : A) → get_elem? xs i ≡ some x → N x (take w (drop (at + i * w) numbers))
held_at {A} {N} {w} {xs} {at} {numbers} h i x e = subst (λ (l : List ℕ). N x (take w l)) (drop-drop (i * w) at numbers) (h.each i x e)

module _ {P : Pack} {counts numbers : List ℕ} (g : SettingGiven P counts numbers) where
  pub count_at_lem : (k : ℕ) → k < 8 → get_or counts k 0 ≡ get_or (counts_of P.setting) k 0
  count_at_lem k h = sym (get_or-take 8 counts k 0 h) ∙ ap (λ (t : List ℕ). get_or t k 0) g.bare.counted

  pub arity_none : {r : ℕ} → get_or counts 1 0 ≤ r → get_elem? P.setting.arities r ≡ none
  arity_none {r} h = entry_none P.setting.arities r (omega (arith, count_at_lem 1 (omega arith)))

  arity_is : (r k : ℕ) → get_elem? P.setting.arities r ≡ some k → get_or numbers (relations_at + r) 0 ≡ k
  arity_is r k e =
      let p : relations_at + r * relation_width ≡ relations_at + r = omega arith in
      ap (λ (i : ℕ). get_or numbers i 0) (sym p) ∙ first_is_at numbers (k ∷ []) (relations_at + r * relation_width) relation_width (held_at g.bare.relations r k e) (omega arith)

  pub arity_there : {r : ℕ} → r < get_or counts 1 0 → get_elem? P.setting.arities r ≡ some (get_or numbers (relations_at + r) 0)
  arity_there {r} h =
      let q = there_is P.setting.arities r (omega (arith, count_at_lem 1 (omega arith))) in
      q.1 ∙ ap some (sym (arity_is r q.0 q.1))

  pub arity_small : {r : ℕ} → r < get_or counts 1 0 → get_or numbers (relations_at + r) 0 ≤ max_columns
  arity_small {r} h = g.bounds.arity _ (element P.setting.arities r _ (arity_there h))

  pub relations_few : get_or counts 1 0 ≤ max_relations
  relations_few = omega (arith, count_at_lem 1 (omega arith), g.bounds.relations)

  -- ---- constructors

  constructors_many : get_or counts 6 0 ≡ length P.setting.constructors
  constructors_many = count_at_lem 6 (omega arith)

  pub constructors_few : get_or counts 6 0 ≤ max_constructors
  constructors_few = omega (arith, constructors_many, g.bounds.constructors)

  pub arguments_none : {i : ℕ} → get_or counts 6 0 ≤ i → get_elem? (constructor_arities P) i ≡ none
  arguments_none {i} h = entry_none (constructor_arities P) i (omega (arith, constructors_many, length-map P.setting.constructors (λ (k : Constructor). k.arity)))

  pub arguments_there : {i : ℕ} → i < get_or counts 6 0 → get_elem? (constructor_arities P) i ≡ some (get_or numbers (constructors_at + i * constructor_width) 0)
  arguments_there {i} h =
      let q = there_is P.setting.constructors i (omega (arith, constructors_many)) in
      let a = first_is_at numbers _ (constructors_at + i * constructor_width) constructor_width refl (omega arith) ∙ held_at g.bare.arities i q.0 q.1 in
      entry_map (λ (k : Constructor). k.arity) P.setting.constructors i q.0 q.1 ∙ ap some (sym a)

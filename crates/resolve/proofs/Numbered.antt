-- The kind, the number and the arguments of a record are those of one node. Assumes nothing.
use mathlib.Core.Bool.{Bool, true, false}
use mathlib.Core.List.{List, []}
use mathlib.Core.Logic.{◌↔◌}
use mathlib.Core.Option.{some-injective}
use mathlib.Core.Path.{◌≡◌, refl, sym, ap, subst, ◌∙◌}
use native.Mathlib.Omega.{arith}
use Prim.Native.Nat.{ℕ, ◌≤◌}
use Rattle.pack.proofs.Accepted.{WellFormed}
use Rattle.meaning.proofs.Lists.Members.{element}
use Rattle.meaning.specs.Built.{BuiltNode, core, invented, IsBuilt, in_core}
use Rattle.meaning.specs.Core.{Node, iri_node, literal_node, CoreNode}
use Rattle.meaning.specs.Listing.{invented_kind, kind, number, padded, arguments}
use Rattle.meaning.specs.Member.{◌∈◌}
use Rattle.meaning.specs.Pack.{Pack, Text, Constructor}
use Rattle.pack.proofs.Unpacking.{unpacked}
use Rattle.pack.proofs.Bounds.{Bounded, constructor_bounded}
use Rattle.resolve.proofs.Records.{padded_inj}
use Rattle.spelling.proofs.CoreTerms.{core_in_pack}
use Rattle.spelling.proofs.Reading.{SomeArguments}
use Rattle.spelling.specs.Iri.{IsTerm}

-- the kind, the number and the arguments of a node
abbrev pub Numbered : ℕ → ℕ → List ℕ → BuiltNode → Type 0
Numbered k v vs b = (kind b ≡ k) × (number b ≡ v) × (arguments b ≡ vs)

invented_kind_lem : (l : Bool) → 2 ≤ invented_kind l
invented_kind_lem true = omega arith
invented_kind_lem false = omega arith

module _ (s : Text) (P : Pack) (f : WellFormed s P) where
  bounded : (k : Constructor) → k ∈ P.setting.constructors → Bounded k
  bounded k i = constructor_bounded _ _ (unpacked s P f.read).constructors.0 k i

  pub some_arguments : SomeArguments P
  some_arguments k i = (bounded k i).some_arguments

  pub built_core : {n : Node} → IsBuilt P (core n) → CoreNode P n
  built_core (in_core c) = c

  -- one constructor over as many values, padded alike
  same_term : {c : ℕ} {vs ws : List ℕ} → IsTerm P c vs → IsTerm P c ws → padded vs ≡ padded ws → vs ≡ ws
  same_term {c} {vs} {ws} a b p =
      let e : a.constructor ≡ b.constructor = some-injective _ _ (sym a.listed ∙ b.listed) in
      let few = (bounded b.constructor (element P.setting.constructors c _ b.listed)).few_arguments in
      padded_inj vs ws (a.count ∙ ap (λ (k : Constructor). k.arity) e ∙ sym b.count) (omega (arith, b.count)) p

  pub iri_numbers_lem : (c : ℕ) (vs : List ℕ) → IsTerm P c vs → (b : BuiltNode) → IsBuilt P b → Numbered 0 c (padded vs) b ↔ (b ≡ core (iri_node c vs))
  unfolding kind number arguments
  iri_numbers_lem c vs t b i = (forth b i, λ e. subst (Numbered 0 c (padded vs)) (sym e) (refl, refl, refl))
    where
      forth : (n : BuiltNode) → IsBuilt P n → Numbered 0 c (padded vs) n → n ≡ core (iri_node c vs)
      forth (core (iri_node d ws)) j h =
          let u = subst (λ x. IsTerm P x ws) h.1 (core_in_pack P f.named (built_core j)) in
          let e = same_term u t h.2 in
          λ k. core (iri_node (h.1 k) (e k))
      forth (core (literal_node v)) j h = absurd (let z : ⊥ = omega (arith, h.0) in z)
      forth (invented X) j h = absurd (let z : ⊥ = omega (arith, h.0, invented_kind_lem X.literal) in z)

  pub literal_numbers_lem : (v : ℕ) (b : BuiltNode) → Numbered 1 v (padded []) b ↔ (b ≡ core (literal_node v))
  unfolding kind number arguments
  literal_numbers_lem v b = (forth b, λ e. subst (Numbered 1 v (padded [])) (sym e) (refl, refl, refl))
    where
      forth : (n : BuiltNode) → Numbered 1 v (padded []) n → n ≡ core (literal_node v)
      forth (core (iri_node d ws)) h = absurd (let z : ⊥ = omega (arith, h.0) in z)
      forth (core (literal_node w)) h = λ k. core (literal_node (h.1 k))
      forth (invented X) h = absurd (let z : ⊥ = omega (arith, h.0, invented_kind_lem X.literal) in z)

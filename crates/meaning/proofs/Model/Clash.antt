-- Refusal 10 computed: the first clash, if there is one, for a pack that 7 does not refuse. Assumes nothing.
use lib.Dec.{T}
use mathlib.Core.Bool.{Bool, true, false}
use mathlib.Core.List.{List, [], ◌∷◌, filter_map}
use mathlib.Core.Logic.Dec
use mathlib.Core.Logic.{◌⊎◌, ◌↔◌, inl, inr}
use mathlib.Core.Option.{Option, none, some, none-ne-some, some-injective}
use mathlib.Core.Path.{◌≡◌, refl, sym, ap, subst, subst₂, ◌∙◌}
use native.Mathlib.Decide.{ℕ_discrete}
use native.Mathlib.Omega.{arith}
use Prim.Native.Nat.{ℕ, ◌≤◌}
use Rattle.meaning.proofs.Lists.Bits.{members, members_in, members_only}
use Rattle.meaning.proofs.Lists.First.{Found, IsFirst, first_found, first_of}
use Rattle.meaning.proofs.Lists.Members.{any_in, any_only, collect_in, collect_only, only_if, only_if_some, some_only_if}
use Rattle.meaning.proofs.Lists.Ordered.{≺_irrefl, ≺_trans}
use Rattle.meaning.proofs.Lists.Sorted.{sorted, sorted_ascending, sorted_iff}
use Rattle.meaning.proofs.Model.Core.{core_nodes, given_iff, node_in, types_of, types_of_iff}
use Rattle.meaning.proofs.Model.Facts.{facts}
use Rattle.meaning.proofs.Model.Listing.{core_key_one}
use Rattle.meaning.proofs.Model.Resolved.{Resolved}
use Rattle.meaning.proofs.Model.Same.{same_node}
use Rattle.meaning.specs.Built.{BuiltNode, HasType, core}
use Rattle.meaning.specs.Clash.{FirstClash}
use Rattle.meaning.specs.Core.{CoreEdge, CoreType, Fact, Node, as_subject, triple, typed}
use Rattle.meaning.specs.Listing.{◌◃◌, node_key}
use Rattle.meaning.specs.Member.{◌∈◌, here, there}
use Rattle.meaning.specs.NoGraph.{TwoObjects}
use Rattle.meaning.specs.Ordered.{InOrder, ◌≺◌, before, equal, less}
use Rattle.meaning.specs.Pack.{HasShape, Literal, Pack, Shape, Target, limits, shape_of, type}
use Rattle.meaning.specs.Tests.{any}

-- a subject, a predicate and two of its objects
pub record Clash : Type 0 where
  pub subject : Node
  pub predicate : ℕ
  pub first : Node
  pub second : Node

abbrev Before : Node → Node → Type 0
Before n m = core n ◃ core m

abbrev Below : ℕ → ℕ → Type 0
Below p q = (p ∷ []) ≺ (q ∷ [])

module _ (P : Pack) where
  -- ---- a type that limits a node's objects of a predicate

  -- "a type with multiplicity 1 or 2 for p"
  pub record Limits (b : BuiltNode) (p : ℕ) : Type 0 where
    pub member : ℕ
    pub shape : Shape
    pub has : HasType P b (type member)
    pub declared : HasShape P.setting member p shape
    pub limited : T (limits shape.multiplicity)

  unfoldable pub bounds : Option Shape → Bool
  bounds none = false
  bounds (some s) = limits s.multiplicity

  unfoldable pub limited_by : ℕ → Target → Bool
  unfolding bounds
  limited_by p Literal = false
  limited_by p (type t) = bounds (shape_of P.setting t p)

  unfoldable pub limited_at : Node → ℕ → Bool
  unfolding limited_by members types_of
  limited_at n p = any (limited_by p) (members (types_of P n))

  -- ---- the search: subjects in node order, predicates ascending, the two lowest objects

  unfoldable pub core_key : Node → List ℕ
  unfolding node_key
  core_key n = node_key (core n)

  unfoldable pub object_in : Node → ℕ → Fact → Option Node
  unfolding only_if Dec.and same_node ℕ_discrete
  object_in n p (typed k S) = none
  object_in n p (triple k q m) = only_if (Dec.and (same_node n k) (ℕ_discrete p q)) m

  unfoldable pub objects : Node → ℕ → List Node
  unfolding sorted core_key filter_map object_in facts
  objects n p = sorted core_key (filter_map (object_in n p) (facts P))

  unfoldable pub lowest_two : Node → ℕ → Bool → List Node → Option Clash
  lowest_two n p false os = none
  lowest_two n p true [] = none
  lowest_two n p true (a ∷ []) = none
  lowest_two n p true (a ∷ b ∷ os) = some (record { subject = n; predicate = p; first = a; second = b })

  unfoldable pub clash_at : Node → ℕ → Option Clash
  unfolding lowest_two limited_at objects
  clash_at n p = lowest_two n p (limited_at n p) (objects n p)

  unfoldable pub predicate_in : Fact → Option ℕ
  predicate_in (typed n S) = none
  predicate_in (triple n p m) = some p

  unfoldable pub predicates : List ℕ
  unfolding sorted filter_map predicate_in facts
  predicates = sorted (λ p. p ∷ []) (filter_map predicate_in (facts P))

  unfoldable pub subjects : List Node
  unfolding sorted core_key core_nodes
  subjects = sorted core_key (core_nodes P)

  unfoldable pub clash_from : Node → Option Clash
  unfolding first_of clash_at predicates
  clash_from n = first_of (clash_at n) predicates

  unfoldable pub first_clash : Option Clash
  unfolding first_of clash_from subjects
  first_clash = first_of clash_from subjects

  -- ---- what is computed is so

  -- a clash found: one of the pack, and the first
  pub record Shown (c : Clash) : Type 0 where
    pub clash : TwoObjects P
    pub is_first : FirstClash P clash
    pub subject_is : clash.subject ≡ c.subject
    pub predicate_is : clash.predicate ≡ c.predicate
    pub first_is : clash.first ≡ c.first
    pub second_is : clash.second ≡ c.second

  abbrev pub Shows : Option Clash → Type 0
  Shows none = ¬ TwoObjects P
  Shows (some c) = Shown c

  module _ (wf : Resolved P) where
    limited_only : (n : Node) (p : ℕ) → T (limited_at n p) → Limits (core n) p
    unfolding limited_at limited_by bounds
    limited_only n p h =
        let r = any_only (limited_by p) (members (types_of P n)) h in
        by_type r.0 ((types_of_iff P wf n r.0).0 (members_only (types_of P n) r.0 r.1)) r.2
      where
        by_shape : (t : ℕ) → CoreType P n (type t) → (s : Option Shape) → shape_of P.setting t p ≡ s → T (bounds s) → Limits (core n) p
        by_shape t c none d l = absurd l
        by_shape t c (some s) d l = record { member = t; shape = s; has = c; declared = record { is = d }; limited = l }

        by_type : (S : Target) → CoreType P n S → T (limited_by p S) → Limits (core n) p
        by_type Literal c l = absurd l
        by_type (type t) c l = by_shape t c (shape_of P.setting t p) refl l

    limited_in : (d : TwoObjects P) → T (limited_at d.subject d.predicate)
    unfolding limited_at limited_by bounds
    limited_in d =
        any_in (limited_by d.predicate) (members_in (types_of P d.subject) (type d.member) ((types_of_iff P wf d.subject (type d.member)).1 d.has))
        (subst (λ s. T (bounds s)) (sym d.declared.is) d.limited)

    -- the elements are the objects
    abbrev Edges : Node → ℕ → List Node → Type 0
    Edges n p os = (o : Node) → (o ∈ os) ↔ CoreEdge P n p o

    object_iff : (n : Node) (p : ℕ) → Edges n p (objects n p)
    unfolding objects core_key object_in
    object_iff n p o = (
      λ i. let r = collect_only (object_in n p) (facts P) ((sorted_iff core_key core_key_one (filter_map (object_in n p) (facts P)) o).0 i) in only r.0 r.1 r.2,
      λ e. (sorted_iff core_key core_key_one (filter_map (object_in n p) (facts P)) o).1 (collect_in (object_in n p) ((given_iff P wf (triple n p o)).1 e) is_in),
    )
      where
        only : (f : Fact) → f ∈ facts P → object_in n p f ≡ some o → CoreEdge P n p o
        only (typed k S) i e = absurd (none-ne-some o e)
        only (triple k q m) i e =
            let (s, t) = only_if_some (Dec.and (same_node n k) (ℕ_discrete p q)) m o e in
            subst (CoreEdge P n p) t (subst₂ (λ x y. CoreEdge P x y m) (sym s.0) (sym s.1) ((given_iff P wf (triple k q m)).0 i))

        is_in : object_in n p (triple n p o) ≡ some o
        is_in = some_only_if (Dec.and (same_node n n) (ℕ_discrete p p)) o (refl, refl)

    objects_ascend : (n : Node) (p : ℕ) → InOrder Before (objects n p)
    unfolding objects core_key
    objects_ascend n p = sorted_ascending core_key core_key_one (filter_map (object_in n p) (facts P))

    -- what is found at a node and a predicate
    record At (n : Node) (p : ℕ) (c : Clash) : Type 0 where
      limits : Limits (core n) p
      edge₁ : CoreEdge P n p c.first
      edge₂ : CoreEdge P n p c.second
      lower : core c.first ◃ core c.second
      lowest : (o : Node) → CoreEdge P n p o → core o ◃ core c.second → o ≡ c.first
      is : c ≡ record { subject = n; predicate = p; first = c.first; second = c.second }

    found_at : (n : Node) (p : ℕ) (c : Clash) → clash_at n p ≡ some c → At n p c
    unfolding clash_at lowest_two
    found_at n p c = go (limited_at n p) refl (objects n p) (objects_ascend n p) (object_iff n p)
      where
        two : T (limited_at n p) → (a b : Node) (os : List Node) → InOrder Before (a ∷ b ∷ os) → Edges n p (a ∷ b ∷ os)
            → At n p (record { subject = n; predicate = p; first = a; second = b })
        two l a b os (before f (before g h)) m = record {
          limits = limited_only n p l;
          edge₁ = (m a).0 (here refl);
          edge₂ = (m b).0 (there (here refl));
          lower = f b (here refl);
          lowest = λ o e k. least o ((m o).1 e) k;
          is = refl;
        }
          where
            least : (o : Node) → o ∈ (a ∷ b ∷ os) → core o ◃ core b → o ≡ a
            least o (here e) k = e
            least o (there (here e)) k = absurd (≺_irrefl (node_key (core b)) (subst (λ x. core x ◃ core b) e k))
            least o (there (there i)) k = absurd (≺_irrefl (node_key (core b)) (≺_trans (g o i) k))

        go : (l : Bool) → limited_at n p ≡ l → (os : List Node) → InOrder Before os → Edges n p os → lowest_two n p l os ≡ some c → At n p c
        go false q os a m e = absurd (none-ne-some c e)
        go true q [] a m e = absurd (none-ne-some c e)
        go true q (x ∷ []) a m e = absurd (none-ne-some c e)
        go true q (x ∷ y ∷ os) a m e = subst (At n p) (some-injective _ c e) (two (subst T (sym q) tt) x y os a m)

    not_none : (d : TwoObjects P) → clash_at d.subject d.predicate ≡ none → ⊥
    unfolding clash_at lowest_two
    not_none d =
        go (limited_at d.subject d.predicate) (limited_in d) (objects d.subject d.predicate) ((object_iff _ _ d.first).1 d.edge₁)
        ((object_iff _ _ d.second).1 d.edge₂)
      where
        alone : (x : Node) → d.first ∈ (x ∷ []) → d.second ∈ (x ∷ []) → d.first ≡ d.second
        alone x (here e) (here f) = e ∙ sym f
        alone x (here e) (there j) = elim j [ ]
        alone x (there i) j = elim i [ ]

        go : (l : Bool) → T l → (os : List Node) → d.first ∈ os → d.second ∈ os → lowest_two d.subject d.predicate l os ≡ none → ⊥
        go false t os i j e = t
        go true t [] i j e = elim i [ ]
        go true t (x ∷ []) i j e = d.differ (alone x i j)
        go true t (x ∷ y ∷ os) i j e = none-ne-some _ (sym e)

    -- ---- the first

    predicate_in_lem : {n m : Node} {p : ℕ} → CoreEdge P n p m → p ∈ predicates
    unfolding predicates predicate_in
    predicate_in_lem {n} {m} {p} e = (sorted_iff (λ q. q ∷ []) one (filter_map predicate_in (facts P)) p).1 (collect_in predicate_in ((given_iff P wf (triple n p m)).1 e) refl)
      where
        one : (x y : ℕ) → x ∷ [] ≡ y ∷ [] → x ≡ y
        one x y e = cc

    predicates_ascend : InOrder Below predicates
    unfolding predicates
    predicates_ascend = sorted_ascending (λ q. q ∷ []) (λ x y e. cc) (filter_map predicate_in (facts P))

    subject_in : {n m : Node} {p : ℕ} → CoreEdge P n p m → n ∈ subjects
    unfolding subjects core_key
    subject_in {n} e = (sorted_iff core_key core_key_one (core_nodes P) n).1 (node_in P wf (as_subject e))

    subjects_ascend : InOrder Before subjects
    unfolding subjects core_key
    subjects_ascend = sorted_ascending core_key core_key_one (core_nodes P)

    from_found : (n : Node) → Found (clash_at n) Below predicates (clash_from n)
    unfolding clash_from
    from_found n = first_found (clash_at n) Below predicates predicates_ascend

    none_from : (d : TwoObjects P) → clash_from d.subject ≡ none → ⊥
    none_from d e = not_none d (subst (Found (clash_at d.subject) Below predicates) e (from_found d.subject) d.predicate (predicate_in_lem d.edge₁))

    shown : (c : Clash) (s : IsFirst clash_from Before subjects c) → IsFirst (clash_at s.at) Below predicates c → Shown c
    shown c s q = record {
      clash = clash;
      is_first = record {
        lowest_subject = λ d. subject_least d (s.lowest d.subject (subject_in d.edge₁));
        lowest_predicate = λ d e. predicate_least d e (q.lowest d.predicate (predicate_in_lem d.edge₁));
        lowest_objects = here_found.lowest;
        lower_first = here_found.lower;
      };
      subject_is = ap (λ (x : Clash). x.subject) (sym here_found.is);
      predicate_is = ap (λ (x : Clash). x.predicate) (sym here_found.is);
      first_is = refl;
      second_is = refl;
    }
      where
        n : Node
        n = s.at

        p : ℕ
        p = q.at

        here_found : At n p c
        here_found = found_at n p c q.gives

        clash : TwoObjects P
        clash = record {
          subject = n;
          predicate = p;
          first = c.first;
          second = c.second;
          member = here_found.limits.member;
          shape = here_found.limits.shape;
          edge₁ = here_found.edge₁;
          edge₂ = here_found.edge₂;
          differ = λ e. ≺_irrefl (node_key (core c.second)) (subst (λ x. core x ◃ core c.second) e here_found.lower);
          has = here_found.limits.has;
          declared = here_found.limits.declared;
          limited = here_found.limits.limited;
        }

        subject_least : (d : TwoObjects P) → (clash_from d.subject ≡ none) ⊎ ((d.subject ≡ n) ⊎ (core n ◃ core d.subject)) → core d.subject ◃ core n → ⊥
        subject_least d (inl e) l = none_from d e
        subject_least d (inr (inl e)) l = ≺_irrefl (node_key (core n)) (subst (λ x. core x ◃ core n) e l)
        subject_least d (inr (inr m)) l = ≺_irrefl (node_key (core n)) (≺_trans m l)

        predicate_least : (d : TwoObjects P) → d.subject ≡ n → (clash_at n d.predicate ≡ none) ⊎ ((d.predicate ≡ p) ⊎ ((p ∷ []) ≺ (d.predicate ∷ []))) → p ≤ d.predicate
        predicate_least d e (inl f) = absurd (not_none d (subst (λ x. clash_at x d.predicate ≡ none) (sym e) f))
        predicate_least d e (inr (inl f)) = omega arith
        predicate_least d e (inr (inr (less h))) = omega arith
        predicate_least d e (inr (inr (equal f h))) = omega arith

    pub first_shown : Shows first_clash
    unfolding first_clash
    first_shown = go first_clash (first_found clash_from Before subjects subjects_ascend)
      where
        go : (o : Option Clash) → Found clash_from Before subjects o → Shows o
        go none h = λ d. none_from d (h d.subject (subject_in d.edge₁))
        go (some c) s = shown c s (subst (Found (clash_at s.at) Below predicates) s.gives (from_found s.at))

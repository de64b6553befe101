-- The core, listed: its facts, its nodes, and the types of each, spread along the edges. Assumes nothing.
use lib.ListN.{length}
use mathlib.Core.List.Memᴰ.{map as ∈-map}
use mathlib.Core.List.{List, [], ◌∷◌, map, flat_map, filter_map}
use mathlib.Core.Logic.{◌↔◌}
use mathlib.Core.Option
use mathlib.Core.Option.{Option, none, some, map-eq-some_iff, none-ne-some, some-injective}
use mathlib.Core.Path.{◌≡◌, refl, sym, ap, subst, subst₂}
use native.Mathlib.Nat.{le_refl}
use native.Mathlib.Omega.{arith}
use Prim.Native.Nat.{ℕ, ◌<◌}
use Rattle.meaning.proofs.Lists.Bits.{set_of, set_of_in, set_of_only}
use Rattle.meaning.proofs.Lists.Counting.{number_of}
use Rattle.meaning.proofs.Lists.Members.{below, below_in, collect_in, collect_only, joined_in, joined_only, only_if, only_if_some, some_only_if, ∈_dec}
use Rattle.meaning.proofs.Lists.Reach.{Reached, grow, reach_iff, seed, step}
use Rattle.meaning.proofs.Model.Facts.{facts, facts_iff}
use Rattle.meaning.proofs.Model.Resolved.{Resolved}
use Rattle.meaning.proofs.Model.Same.{same_node, same_target}
use Rattle.meaning.specs.Core.{CoreNode, CoreType, Fact, Given, Node, as_object, as_subject, as_typed, given, head_fact, node_of, passed, triple, typed}
use Rattle.meaning.specs.Member.{◌∈◌, here, there}
use Rattle.meaning.specs.Ordered.{Number}
use Rattle.meaning.specs.Pack.{Head, Literal, Pack, Shape, Target, has_type, links_to, links_to_value, shape_of, type}
use Rattle.meaning.specs.Spreading.{SpreadFact}
use Rattle.meaning.specs.TypeSet.{TypeSet, ◌∈ₜ◌}

module _ (P : Pack) where
  -- ---- the core's nodes

  unfoldable pub nodes_in : Fact → List Node
  nodes_in (typed n S) = n ∷ []
  nodes_in (triple n p m) = n ∷ m ∷ []

  unfoldable pub core_nodes : List Node
  unfolding facts flat_map nodes_in
  core_nodes = flat_map nodes_in (facts P)

  -- ---- the core's types, spread along the edges

  unfoldable pub typed_in : Fact → Option (Node × Target)
  typed_in (typed n S) = some (n, S)
  typed_in (triple n p m) = none

  unfoldable pub onward : {Q : Type 0} → Dec Q → Node → Option Shape → Option (Node × Target)
  onward (yes q) m o = Option.map (λ (s : Shape). (m, s.target)) o
  onward (no q) m o = none

  -- the type that a fact passes on from n of type S
  unfoldable pub passed_on : Node → Target → Fact → Option (Node × Target)
  unfolding onward same_node
  passed_on n Literal f = none
  passed_on n (type t) (typed k R) = none
  passed_on n (type t) (triple k p m) = onward (same_node n k) m (shape_of P.setting t p)

  unfoldable pub spread : Node × Target → List (Node × Target)
  unfolding filter_map facts passed_on
  spread q = filter_map (passed_on q.0 q.1) (facts P)

  unfoldable pub first_types : List (Node × Target)
  unfolding filter_map facts typed_in
  first_types = filter_map typed_in (facts P)

  unfoldable pub same_pair : Discrete (Node × Target)
  unfolding same_node same_target
  same_pair q r = go (same_node q.0 r.0) (same_target q.1 r.1)
    where
      go : Dec (q.0 ≡ r.0) → Dec (q.1 ≡ r.1) → Dec (q ≡ r)
      go (yes e) (yes f) = yes (λ i. (e i, f i))
      go (yes e) (no n) = no (λ p. n (ap (λ (x : Node × Target). x.1) p))
      go (no n) f = no (λ p. n (ap (λ (x : Node × Target). x.0) p))

  -- each core node with each type there is: more cannot come
  unfoldable pub known : List Target
  unfolding below
  known = Literal ∷ map type (below (length P.setting.types))

  unfoldable pub every_type : List (Node × Target)
  unfolding core_nodes flat_map known
  every_type = flat_map (λ n. map (λ S. (n, S)) known) core_nodes

  -- every type of every core node
  unfoldable pub core_types : List (Node × Target)
  unfolding every_type first_types grow same_pair spread
  core_types = grow same_pair first_types spread (length every_type) first_types

  unfoldable pub at : Node → Node × Target → Option Target
  unfolding only_if same_node
  at n q = only_if (same_node n q.0) q.1

  unfoldable pub types_of : Node → TypeSet
  unfolding at filter_map core_types set_of
  types_of n = set_of (filter_map (at n) core_types)

  -- ---- that these are the core's

  pub onward_some : {Q : Type 0} (d : Dec Q) (m : Node) (o : Option Shape) (q : Node × Target) → onward d m o ≡ some q
      → (s : Shape) × Q × (o ≡ some s) × ((m, s.target) ≡ q)
  unfolding onward
  onward_some (yes h) m o q e = let r = (map-eq-some_iff {B = Node × Target} (λ (s : Shape). (m, s.target)) o).0 e in (r.0, h, r.1, r.2)
  onward_some (no h) m o q e = absurd (none-ne-some q e)

  module _ (wf : Resolved P) where
    pub given_iff : (f : Fact) → (f ∈ facts P) ↔ Given P f
    given_iff = facts_iff P wf.bound

    pub node_in : {n : Node} → CoreNode P n → n ∈ core_nodes
    unfolding core_nodes nodes_in
    node_in {n} (as_typed {S} g) = joined_in nodes_in ((given_iff _).1 g) (here refl)
    node_in (as_subject g) = joined_in nodes_in ((given_iff _).1 g) (here refl)
    node_in (as_object g) = joined_in nodes_in ((given_iff _).1 g) (there (here refl))

    pub in_node : {n : Node} → n ∈ core_nodes → CoreNode P n
    unfolding core_nodes nodes_in
    in_node {n} h = let r = joined_only nodes_in (facts P) h in go r.0 ((given_iff r.0).0 r.1) r.2
      where
        go : (f : Fact) → Given P f → n ∈ nodes_in f → CoreNode P n
        go (typed m S) g (here e) = subst (CoreNode P) (sym e) (as_typed g)
        go (typed m S) g (there i) = elim i [ ]
        go (triple k p m) g (here e) = subst (CoreNode P) (sym e) (as_subject g)
        go (triple k p m) g (there (here e)) = subst (CoreNode P) (sym e) (as_object g)
        go (triple k p m) g (there (there i)) = elim i [ ]

    -- a type that spreads
    abbrev pub CoreTyped : Node × Target → Type 0
    CoreTyped q = CoreType P q.0 q.1

    first_types_iff : (q : Node × Target) → (q ∈ first_types) ↔ Given P (typed q.0 q.1)
    unfolding first_types typed_in
    first_types_iff q = (forth, λ g. collect_in typed_in ((given_iff _).1 g) refl)
      where
        forth : q ∈ filter_map typed_in (facts P) → Given P (typed q.0 q.1)
        forth h = let r = collect_only typed_in (facts P) h in go r.0 ((given_iff r.0).0 r.1) r.2
          where
            go : (f : Fact) → Given P f → typed_in f ≡ some q → Given P (typed q.0 q.1)
            go (typed n S) g e = subst (λ (x : Node × Target). Given P (typed x.0 x.1)) (some-injective (n, S) q e) g
            go (triple n p m) g e = absurd (none-ne-some q e)

    reached_type : {q : Node × Target} → Reached same_pair first_types spread q → CoreTyped q
    unfolding spread passed_on
    reached_type {q} (seed h) = given ((first_types_iff q).0 h)
    reached_type {q} (step {x} r h) =
        let c = collect_only (passed_on x.0 x.1) (facts P) h in go x.0 x.1 c.0 (reached_type r) ((given_iff c.0).0 c.1) c.2
      where
        go : (n : Node) (S : Target) (f : Fact) → CoreType P n S → Given P f → passed_on n S f ≡ some q → CoreTyped q
        go n Literal f t g e = absurd (none-ne-some q e)
        go n (type t) (typed k R) c g e = absurd (none-ne-some q e)
        go n (type t) (triple k p m) c g e =
            let r = onward_some (same_node n k) m (shape_of P.setting t p) q e in
            subst CoreTyped r.3 (passed c (record { is = r.2 }) (subst (λ x. Given P (triple x p m)) (sym r.1) g))

    type_reached : {n : Node} {S : Target} → CoreType P n S → Reached same_pair first_types spread (n, S)
    unfolding spread passed_on onward
    type_reached (given {n} {S} g) = seed ((first_types_iff (n, S)).1 g)
    type_reached (passed {n} {m} {p} {T = t} {s} c d e) = step (type_reached c) (collect_in (passed_on n (type t)) ((given_iff _).1 e) (go (same_node n n)))
      where
        go : (q : Dec (n ≡ n)) → onward q m (shape_of P.setting t p) ≡ some (m, s.target)
        go (yes q) = (map-eq-some_iff {B = Node × Target} (λ (s : Shape). (m, s.target)) (shape_of P.setting t p)).1 (s, d.is, refl)
        go (no q) = absurd (q refl)

    pub known_in : (S : Target) → ((t : ℕ) → S ≡ type t → t < length P.setting.types) → S ∈ known
    unfolding known
    known_in Literal h = here refl
    known_in (type t) h = there (∈-map type (below_in t (length P.setting.types) (h t refl)))

    in_every : (n : Node) (S : Target) → CoreNode P n → S ∈ known → (n, S) ∈ every_type
    unfolding every_type
    in_every n S i k = joined_in (λ n. map (λ S. (n, S)) known) (node_in i) (∈-map {B = Node × Target} (λ S. (n, S)) k)

    pub given_known : (n : Node) (S : Target) → Given P (typed n S) → S ∈ known
    unfolding head_fact node_of
    given_known n S g = known_in S (λ t e. go g.rule.head refl t e g.says)
      where
        go : (h : Head) → g.rule.head ≡ h → (t : ℕ) → S ≡ type t → head_fact g.values h ≡ typed n S → t < length P.setting.types
        go (has_type s u) d t e q = let z : u ≡ t = cc in subst (λ x. x < length P.setting.types) z (wf.head_type g.listed d)
        go (links_to s p o) d t e q = let z : ◌≡◌ {A = ℕ} 0 1 = cc in omega arith
        go (links_to_value s p v) d t e q = let z : ◌≡◌ {A = ℕ} 0 1 = cc in omega arith

    type_known : {n : Node} {S : Target} → CoreType P n S → CoreNode P n × (S ∈ known)
    type_known (given {n} {S} g) = (as_typed g, given_known n S g)
    type_known (passed {s} c d e) = (as_object e, known_in s.target (λ t q. wf.target_type d q))

    typed_in_every : (q : Node × Target) → CoreTyped q → q ∈ every_type
    typed_in_every q c = let k = type_known c in in_every q.0 q.1 k.0 k.1

    pub core_types_iff : (q : Node × Target) → (q ∈ core_types) ↔ CoreTyped q
    unfolding core_types
    core_types_iff q =
        let r = reach_iff same_pair first_types spread every_type (λ x h. typed_in_every x (reached_type h)) (length every_type) (le_refl (length every_type)) q in
        (λ h. reached_type (r.0 h), λ c. r.1 (type_reached c))

    -- the type facts that spreading adds have a number
    pub spread_number : (n : ℕ) × Number (SpreadFact P) n
    spread_number = number_of same_pair spread? core_types (λ q f. (core_types_iff q).1 f.has)
      where
        spread? : (q : Node × Target) → Dec (SpreadFact P q)
        spread? q = go (∈_dec same_pair q core_types) (∈_dec same_pair q first_types)
          where
            go : Dec (q ∈ core_types) → Dec (q ∈ first_types) → Dec (SpreadFact P q)
            go (yes m) (no n) = yes (record { has = (core_types_iff q).0 m; not_given = λ g. n ((first_types_iff q).1 g) })
            go (yes m) (yes k) = no (λ f. f.not_given ((first_types_iff q).0 k))
            go (no n) k = no (λ f. n ((core_types_iff q).1 f.has))

    pub types_of_iff : (n : Node) (S : Target) → (S ∈ₜ types_of n) ↔ CoreType P n S
    unfolding types_of at
    types_of_iff n S = (forth, λ c. set_of_in _ S (collect_in (at n) ((core_types_iff (n, S)).1 c) (some_only_if (same_node n n) S refl)))
      where
        forth : S ∈ₜ set_of (filter_map (at n) core_types) → CoreType P n S
        forth h =
            let r = collect_only (at n) core_types (set_of_only _ S h) in
            let e = only_if_some (same_node n r.0.0) r.0.1 S r.2 in
            subst₂ (CoreType P) (sym e.0) e.1 ((core_types_iff r.0).0 r.1)

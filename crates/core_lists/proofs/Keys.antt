-- The number of a core node keeps node order, so it names one node. Assumes nothing.
use Rattle.std.proofs.Common.{◌≡◌, ℕ, ◌+◌, ◌*◌, ◌<◌, ◌≤◌, List, [], ◌∷◌, ◌++◌, length, take, replicate, sym, refl, ap, ◌∙◌, subst, arith, lit<, length-append, length-take}
use lib.ListN.{get_elem?}
use mathlib.Core.List.{foldl}
use mathlib.Core.Option.{some, some-injective}
use Rattle.core_graph.specs.Bounds.{Bounded}
use Rattle.spread.specs.Keys.{key_of}
use Rattle.core_lists.proofs.ResolvedNodes.{Proper}
use Rattle.meaning.proofs.Lists.Members.{element}
use Rattle.meaning.proofs.Lists.Ordered.{take_less}
use Rattle.meaning.proofs.Lists.Places.{inside}
use Rattle.meaning.proofs.Lists.Sorted.{Compared, alike, compare, higher, lower}
use Rattle.meaning.proofs.Model.Listing.{core_key_one}
use Rattle.meaning.specs.Built.{core}
use Rattle.meaning.specs.Core.{Node, iri_node, literal_node}
use Rattle.meaning.specs.Limits.{first_literal, max_values, term_room}
use Rattle.meaning.specs.Listing.{◌◃◌, node_key}
use Rattle.meaning.specs.Member.{◌∈◌, here, there}
use Rattle.meaning.specs.Ordered.{◌≺◌, equal, less}
use Rattle.meaning.specs.Pack.{Constructor, Pack}
use Rattle.meaning.specs.Tables.{packed}

-- ---- byte numbers as digits

abbrev pub Small : List ℕ → Type 0
Small [] = Unit {0}
Small (x ∷ xs) = (x < max_values) × Small xs

abbrev digit : ℕ → ℕ → ℕ
digit k v = k * max_values + v

head_less : (k j : ℕ) (xs ys : List ℕ) → k < j → length xs ≡ length ys → Small xs → Small ys → foldl digit k xs < foldl digit j ys
head_less k j [] [] h e s t = h
head_less k j [] (y ∷ ys) h e s t = absurd (let z : ⊥ = omega arith in z)
head_less k j (x ∷ xs) [] h e s t = absurd (let z : ⊥ = omega arith in z)
head_less k j (x ∷ xs) (y ∷ ys) h e s t =
    head_less (digit k x) (digit j y) xs ys (let a = s.0 in omega arith) (omega arith) s.1 t.1

digits_less : (k : ℕ) (xs ys : List ℕ) → xs ≺ ys → length xs ≡ length ys → Small xs → Small ys → foldl digit k xs < foldl digit k ys
digits_less k [] [] h e s t = elim h [ ]
digits_less k (x ∷ xs) [] h e s t = elim h [ ]
digits_less k [] (y ∷ ys) h e s t = absurd (let z : ⊥ = omega arith in z)
digits_less k (x ∷ xs) (y ∷ ys) (less h) e s t = head_less (digit k x) (digit k y) xs ys (omega arith) (omega arith) s.1 t.1
digits_less k (x ∷ xs) (y ∷ ys) (equal q h) e s t =
    subst (λ z. foldl digit (digit k x) xs < foldl digit (digit k z) ys) q (digits_less (digit k x) xs ys h (omega arith) s.1 t.1)

-- ---- four places, the unused ones 0

abbrev pub four : List ℕ → List ℕ
four vs = take 4 (vs ++ replicate 4 0)

four_small : (vs : List ℕ) → Small vs → Small (four vs)
four_small [] s = (lit< tt, (lit< tt, (lit< tt, (lit< tt, tt))))
four_small (a ∷ []) s = (s.0, (lit< tt, (lit< tt, (lit< tt, tt))))
four_small (a ∷ b ∷ []) s = (s.0, (s.1.0, (lit< tt, (lit< tt, tt))))
four_small (a ∷ b ∷ c ∷ []) s = (s.0, (s.1.0, (s.1.1.0, (lit< tt, tt))))
four_small (a ∷ b ∷ c ∷ d ∷ vs) s = (s.0, (s.1.0, (s.1.1.0, (s.1.1.1.0, tt))))

four_long : (vs : List ℕ) → length (four vs) ≡ 4
four_long vs = length-take 4 (vs ++ replicate 4 0) ∙ (let e = length-append vs (replicate 4 0) in omega arith)

pub all_small : (n : ℕ) → n ≤ max_values → (vs : List ℕ) → ((v : ℕ) → v ∈ vs → v < n) → Small vs
all_small n b [] h = tt
all_small n b (v ∷ vs) h = (let k = h v (here refl) in omega arith, all_small n b vs (λ w i. h w (there i)))

pub packed_lt : (vs : List ℕ) → Small vs → packed (four vs) < term_room
unfolding packed
packed_lt vs s = head_less 0 1 (four vs) (replicate 4 0) (lit< tt) (four_long vs) (four_small vs s) (lit< tt, (lit< tt, (lit< tt, (lit< tt, tt))))

-- ---- the keys

module _ (P : Pack) (b : Bounded P) where
  -- a constructor's place and a node's arguments within their bounds
  pub key_less : (n m : Node) → Proper P n → Proper P m → core n ◃ core m → key_of n < key_of m
  unfolding key_of node_key packed
  key_less (iri_node c vs) (iri_node d ws) x y (less h) = absurd (let z : ⊥ = omega arith in z)
  key_less (iri_node c vs) (iri_node d ws) x y (equal q (less h)) =
      let s = packed_lt vs (all_small (length P.setting.values) b.values vs x.3) in omega arith
  key_less (iri_node c vs) (iri_node d ws) x y (equal q (equal e h)) =
      let kx = x.0 in
      let same : kx ≡ y.0 = some-injective kx y.0 (sym x.1 ∙ subst (λ i. get_elem? P.setting.constructors i ≡ some y.0) (sym e) y.1) in
      let long : length vs ≡ length ws = x.2 ∙ ap (λ (k : Constructor). k.arity) same ∙ sym y.2 in
      let few = (b.arities kx (element P.setting.constructors c kx x.1)).1 in
      let sv = all_small (length P.setting.values) b.values vs x.3 in
      let sw = all_small (length P.setting.values) b.values ws y.3 in
      let l = digits_less 0 (four vs) (four ws) (take_less 4 vs ws (replicate 4 0) h long (let a = x.2 in omega arith))
      (four_long vs ∙ sym (four_long ws)) (four_small vs sv) (four_small ws sw) in
      omega arith
  key_less (iri_node c vs) (literal_node w) x y h =
      let s = packed_lt vs (all_small (length P.setting.values) b.values vs x.3) in
      let l = inside P.setting.constructors c x.0 x.1 in
      let k = b.constructors in
      omega arith
  key_less (literal_node v) (iri_node d ws) x y (less h) = absurd (let z : ⊥ = omega arith in z)
  key_less (literal_node v) (iri_node d ws) x y (equal q h) = absurd (let z : ⊥ = omega arith in z)
  key_less (literal_node v) (literal_node w) x y (less h) = absurd (let z : ⊥ = omega arith in z)
  key_less (literal_node v) (literal_node w) x y (equal q (less h)) = omega arith
  key_less (literal_node v) (literal_node w) x y (equal q (equal e h)) = elim h [ ]

  -- so a lower key is an earlier node
  pub less_key : (n m : Node) → Proper P n → Proper P m → key_of n < key_of m → core n ◃ core m
  less_key n m x y h = go (compare (node_key (core n)) (node_key (core m)))
    where
      go : Compared (node_key (core n)) (node_key (core m)) → core n ◃ core m
      go (lower l) = l
      go (alike e) = let q : n ≡ m = core_key_one n m e in absurd (let z = subst (λ k. key_of n < key_of k) (sym q) h in let y : ⊥ = omega arith in y)
      go (higher l) = absurd (let k = key_less m n y x l in let z : ⊥ = omega arith in z)

  pub key_one : (n m : Node) → Proper P n → Proper P m → key_of n ≡ key_of m → n ≡ m
  key_one n m x y e = go (compare (node_key (core n)) (node_key (core m)))
    where
      go : Compared (node_key (core n)) (node_key (core m)) → n ≡ m
      go (lower l) = absurd (let k = key_less n m x y l in let z : ⊥ = omega arith in z)
      go (alike q) = core_key_one n m q
      go (higher l) = absurd (let k = key_less m n y x l in let z : ⊥ = omega arith in z)

-- an IRI's key is below those of literals
pub iri_key_lt : (P : Pack) → Bounded P → (c : ℕ) (vs : List ℕ) → Proper P (iri_node c vs) → key_of (iri_node c vs) < first_literal
unfolding key_of
iri_key_lt P b c vs x =
    let s = packed_lt vs (all_small (length P.setting.values) b.values vs x.3) in
    let l = inside P.setting.constructors c x.0 x.1 in
    let k = b.constructors in
    omega arith

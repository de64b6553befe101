-- Walks over the triples: what the masks hold is kept, only what passes along triples is added, and what passes by the masks
-- at the start is held at the end. Assumes nothing.
use lib.ListN.{get_or}
use mathlib.Core.Bool.{Bool, false, true}
use mathlib.Core.List.{List, [], ◌∷◌, ◌++◌}
use mathlib.Core.Logic.{◌↔◌, ◌⊎◌, inl, inr}
use mathlib.Core.Path.{refl, subst}
use Prim.Native.Nat.{ℕ}
use Rattle.spread.specs.Keys.{subject_of}
use Rattle.spread.specs.Rounds.{Round, TriplesWalked, done, in_turn, next}
use Rattle.spread.specs.Spread.{Passed, PassedOnce, Passes, along, held}
use Rattle.meaning.proofs.Lists.Members.{reverse_in, reverse_only}
use Rattle.meaning.specs.Member.{◌∈◌, here, there}
use Rattle.meaning.specs.Pack.{Setting, Target, type}
use Rattle.meaning.specs.Tables.{set_of_mask}
use Rattle.meaning.specs.TypeSet.{◌∈ₜ◌}

-- every fact of the first is one of the second
abbrev pub FactsKept : List ℕ → List ℕ → Type 0
FactsKept a b = (i : ℕ) (R : Target) → R ∈ₜ set_of_mask (get_or a i 0) → R ∈ₜ set_of_mask (get_or b i 0)

module _ {S : Setting} where
  -- ---- what is passed

  -- by more facts more passes
  passes_more : {a b : List ℕ} → FactsKept a b → {k i : ℕ} {R : Target} → Passes S a k i R → Passes S b k i R
  passes_more keeps {k} {i} {R} q = record {
    to = q.to;
    shape = record {
      member = q.shape.member;
      shape = q.shape.shape;
      has = keeps (subject_of k) (type q.shape.member) q.shape.has;
      declared = q.shape.declared;
      holds = q.shape.holds;
    };
  }

  module _ {triples : List ℕ} where
    pub passed_more : {a b : List ℕ} → FactsKept a b → {i : ℕ} {R : Target} → Passed S triples a i R → Passed S triples b i R
    passed_more keeps (held {i} {R} h) = held (keeps i R h)
    passed_more keeps (along m q s e g) = along m (passed_more keeps q) s e g

    -- what follows from what follows
    pub passed_again : {a b : List ℕ} → ((j : ℕ) (R : Target) → R ∈ₜ set_of_mask (get_or b j 0) → Passed S triples a j R) → {i : ℕ} {R : Target}
        → Passed S triples b i R → Passed S triples a i R
    passed_again f (held {i} {R} h) = f i R h
    passed_again f (along m q s e g) = along m (passed_again f q) s e g

  -- ---- walks

  -- a triple more
  pub walk_on : {ks a b c : List ℕ} {k : ℕ} → TriplesWalked S ks a b → PassedOnce S k b c → TriplesWalked S (ks ++ (k ∷ [])) a c
  walk_on done p = next p done
  walk_on (next q w) p = next q (walk_on w p)

  pub walk_keeps : {ks a c : List ℕ} → TriplesWalked S ks a c → FactsKept a c
  walk_keeps done i R h = h
  walk_keeps (next p w) i R h = walk_keeps w i R ((p i R).1 (inl h))

  walk_closes : {ks a c : List ℕ} → TriplesWalked S ks a c → {k : ℕ} → k ∈ ks → {i : ℕ} {R : Target} → Passes S a k i R → R ∈ₜ set_of_mask (get_or c i 0)
  walk_closes done m q = elim m [ ]
  walk_closes (next {a = a} p w) (here e) {i} {R} q = walk_keeps w i R ((p i R).1 (inr (subst (λ k. Passes S a k i R) e q)))
  walk_closes (next p w) (there m) q = walk_closes w m (passes_more (λ i R h. (p i R).1 (inl h)) q)

  walk_only : {triples ks a c : List ℕ} → TriplesWalked S ks a c → ((k : ℕ) → k ∈ ks → k ∈ triples) → (i : ℕ) (R : Target) → R ∈ₜ set_of_mask (get_or c i 0)
      → Passed S triples a i R
  walk_only done f i R h = held h
  walk_only {triples} (next {k} {a = a} p w) f i R h = passed_again (λ j Q m. go j Q ((p j Q).0 m)) (walk_only w (λ k m. f k (there m)) i R h)
    where
      go : (j : ℕ) (Q : Target) → (Q ∈ₜ set_of_mask (get_or a j 0)) ⊎ Passes S a k j Q → Passed S triples a j Q
      go j Q (inl m) = held m
      go j Q (inr q) = along (f k (here refl)) (held q.shape.has) q.shape.declared q.to q.shape.holds

-- ---- rounds: walks over all triples, in one order or the other

in_turn_lem : (back : Bool) (triples : List ℕ) (k : ℕ) → (k ∈ in_turn back triples) ↔ (k ∈ triples)
in_turn_lem false triples k = (λ m. m, λ m. m)
in_turn_lem true triples k = (reverse_only triples, reverse_in)

module _ {S : Setting} {triples a b : List ℕ} (r : Round S triples a b) where
  pub round_keeps : FactsKept a b
  round_keeps = walk_keeps r.walked

  pub round_only : (i : ℕ) (R : Target) → R ∈ₜ set_of_mask (get_or b i 0) → Passed S triples a i R
  round_only = walk_only r.walked (λ k m. (in_turn_lem r.back triples k).0 m)

  pub round_closes : {k : ℕ} → k ∈ triples → {i : ℕ} {R : Target} → Passes S a k i R → R ∈ₜ set_of_mask (get_or b i 0)
  round_closes {k} m = walk_closes r.walked ((in_turn_lem r.back triples k).1 m)

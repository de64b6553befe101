-- The keys of one origin, and how many are before them in an ascending list. Assumes nothing.
use Rattle.std.proofs.Common.{◌≡◌, ℕ, ◌+◌, ◌*◌, ◌<◌, ◌≤◌, Bool, true, false, cond, eqb, ltb, List, [], ◌∷◌, length, get_or, sym, refl, ◌∙◌, subst, arith, le-ltb, lt-ltb, eq-eqb, ne_eqb, eqb-true}
use native.Mathlib.Decide.{dec_lt, ℕ_discrete}
use Rattle.spread.specs.Keys.{origin_at, origin_of, predicate_of}
use Rattle.core_lists.specs.Origin.{group, HasOrigin, keys_before}
use Rattle.meaning.specs.Limits.{max_predicates, place_room}
use Rattle.meaning.specs.Member.{◌∈◌, here, there}
use Rattle.meaning.specs.Ordered.{InOrder, before}
use Rattle.sets.proofs.Rank.{rank_above, rank_below}
use Rattle.sets.specs.Ordered.{rank_of}

-- ---- counts of keys

module _ (q : ℕ) where
  pub group_only : (ks : List ℕ) (k : ℕ) → k ∈ group q ks → (k ∈ ks) × (origin_of k ≡ q)
  unfolding group
  group_only [] k m = elim m [ ]
  group_only (x ∷ xs) k m = go (eqb (origin_of x) q) refl m (group_only xs k)
    where
      first : origin_of x ≡ q → (k ∈ group q xs → (k ∈ xs) × (origin_of k ≡ q)) → k ∈ (x ∷ group q xs) → (k ∈ (x ∷ xs)) × (origin_of k ≡ q)
      first e rest (here p) = (here p, subst (λ y. origin_of y ≡ q) (sym p) e)
      first e rest (there i) = let r = rest i in (there r.0, r.1)

      go : (b : Bool) → eqb (origin_of x) q ≡ b → k ∈ cond b (x ∷ group q xs) (group q xs) → (k ∈ group q xs → (k ∈ xs) × (origin_of k ≡ q))
          → (k ∈ (x ∷ xs)) × (origin_of k ≡ q)
      go true e i rest = first (eqb-true (origin_of x) q e) rest i
      go false e i rest = let r = rest i in (there r.0, r.1)

  pub group_in : {k : ℕ} {ks : List ℕ} → k ∈ ks → origin_of k ≡ q → k ∈ group q ks
  unfolding group
  group_in {k} {ks} (here {x = x} {xs = xs} p) e = rw (eq-eqb (origin_of x) q (subst (λ y. origin_of y ≡ q) p e)) (here p)
  group_in {k} {ks} (there {x = x} {xs = xs} m) e = keep (eqb (origin_of x) q) (group_in m e)
    where
      keep : (b : Bool) → k ∈ group q xs → k ∈ cond b (x ∷ group q xs) (group q xs)
      keep true i = there i
      keep false i = i

  pub keys_next : (ks : List ℕ) → keys_before (q + 1) ks ≡ keys_before q ks + length (group q ks)
  unfolding group keys_before
  keys_next [] = refl
  keys_next (k ∷ ks) = go (dec_lt (origin_of k) q) (ℕ_discrete (origin_of k) q) (keys_next ks)
    where
      go : Dec (origin_of k < q) → Dec (origin_of k ≡ q) → keys_before (q + 1) ks ≡ keys_before q ks + length (group q ks)
          → cond (ltb (origin_of k) (q + 1)) 1 0 + keys_before (q + 1) ks ≡ cond (ltb (origin_of k) q) 1 0 + keys_before q ks + length (cond (eqb (origin_of k) q) (k ∷ group q ks) (group q ks))
      go (yes l) d ih = rw (lt-ltb (origin_of k) (q + 1) (omega arith), lt-ltb (origin_of k) q l, ne_eqb (origin_of k) q (λ e. omega arith)) (omega arith)
      go (no l) (yes e) ih = rw (lt-ltb (origin_of k) (q + 1) (omega arith), le-ltb (origin_of k) q (omega arith), eq-eqb (origin_of k) q e) (omega arith)
      go (no l) (no e) ih = rw (le-ltb (origin_of k) (q + 1) (omega arith), le-ltb (origin_of k) q (omega arith), ne_eqb (origin_of k) q e) (omega arith)

keys_cons : (k q r : ℕ) → q ≤ r → cond (ltb (origin_of k) q) 1 0 ≤ cond (ltb (origin_of k) r) 1 0
keys_cons k q r h = go (dec_lt (origin_of k) q)
  where
    zero_or : (b : Bool) → 0 ≤ cond b 1 0
    zero_or true = omega arith
    zero_or false = omega arith

    go : Dec (origin_of k < q) → cond (ltb (origin_of k) q) 1 0 ≤ cond (ltb (origin_of k) r) 1 0
    go (yes l) = rw (lt-ltb (origin_of k) q l, lt-ltb (origin_of k) r (omega arith)) (omega arith)
    go (no l) = rw (le-ltb (origin_of k) q (omega arith)) (zero_or (ltb (origin_of k) r))

pub keys_mono : (q r : ℕ) → q ≤ r → (ks : List ℕ) → keys_before q ks ≤ keys_before r ks
unfolding keys_before
keys_mono q r h [] = omega arith
keys_mono q r h (k ∷ ks) = let a = keys_cons k q r h in let b = keys_mono q r h ks in omega arith

pub keys_le : (q : ℕ) (ks : List ℕ) → keys_before q ks ≤ length ks
unfolding keys_before
keys_le q [] = omega arith
keys_le q (k ∷ ks) = let b = keys_le q ks in go (ltb (origin_of k) q) b
  where
    go : (b : Bool) → keys_before q ks ≤ length ks → cond b 1 0 + keys_before q ks ≤ length (k ∷ ks)
    go true h = omega arith
    go false h = omega arith

-- past all subjects there are no more keys
pub keys_all : (q : ℕ) (ks : List ℕ) → ((k : ℕ) → k ∈ ks → origin_of k < q) → keys_before q ks ≡ length ks
unfolding keys_before
keys_all q [] f = refl
keys_all q (k ∷ ks) f = rw (lt-ltb (origin_of k) q (f k (here refl))) (let r = keys_all q ks (λ j m. f j (there m)) in omega arith)

-- no key is of an origin from q up to r
keys_same : (q r : ℕ) → q ≤ r → (ks : List ℕ) → ((k : ℕ) → k ∈ ks → origin_of k < r → origin_of k < q) → keys_before q ks ≡ keys_before r ks
unfolding keys_before
keys_same q r h [] f = refl
keys_same q r h (k ∷ ks) f = go (dec_lt (origin_of k) q) (dec_lt (origin_of k) r) (keys_same q r h ks (λ j m. f j (there m)))
  where
    go : Dec (origin_of k < q) → Dec (origin_of k < r) → keys_before q ks ≡ keys_before r ks → cond (ltb (origin_of k) q) 1 0 + keys_before q ks ≡ cond (ltb (origin_of k) r) 1 0 + keys_before r ks
    go (yes l) d e = rw (lt-ltb (origin_of k) q l, lt-ltb (origin_of k) r (omega arith)) (omega arith)
    go (no n) (yes l) e = absurd (n (f k (here refl) l))
    go (no n) (no m) e = rw (le-ltb (origin_of k) q (omega arith), le-ltb (origin_of k) r (omega arith)) (omega arith)

-- no key is of an earlier origin
keys_none : (q : ℕ) (ks : List ℕ) → ((k : ℕ) → k ∈ ks → q ≤ origin_of k) → keys_before q ks ≡ 0
unfolding keys_before
keys_none q [] f = refl
keys_none q (k ∷ ks) f = rw (le-ltb (origin_of k) q (f k (here refl))) (let r = keys_none q ks (λ j m. f j (there m)) in omega arith)

-- ---- from origin to origin

module _ (ks : List ℕ) where
  pub no_subject : 0 ≡ keys_before (origin_at 0 0) ks
  no_subject = sym (keys_none 0 ks (λ k m. omega arith))

  module _ (s at : ℕ) where
    pub next_predicate : (p : ℕ) → at ≡ keys_before (origin_at s p + 1) ks → at ≡ keys_before (origin_at s (p + 1)) ks
    next_predicate p e = let o : origin_at s p + 1 ≡ origin_at s (p + 1) = omega arith in rw o at e

    -- nothing lies between a subject's last predicate and the next subject's first
    pub next_subject : ((k : ℕ) → k ∈ ks → predicate_of k < max_predicates) → at ≡ keys_before (origin_at s max_predicates) ks → at ≡ keys_before (origin_at (s + 1) 0) ks
    next_subject f e = e ∙ keys_same (origin_at s max_predicates) (origin_at (s + 1) 0) (omega arith) ks (λ k m l. let h = f k m in omega arith)

-- ---- places

-- as many as the rank of the least key that the origin may have
pub keys_rank : (q : ℕ) (ks : List ℕ) → InOrder ◌<◌ ks → keys_before q ks ≡ rank_of (q * place_room) ks
unfolding keys_before
keys_rank q [] a = refl
keys_rank q (k ∷ ks) (before f a) = go (dec_lt (origin_of k) q) (keys_rank q ks a)
  where
    go : Dec (origin_of k < q) → keys_before q ks ≡ rank_of (q * place_room) ks → keys_before q (k ∷ ks) ≡ rank_of (q * place_room) (k ∷ ks)
    go (yes l) e = rw (lt-ltb (origin_of k) q l, lt-ltb k (q * place_room) (omega arith)) (omega arith)
    go (no n) e = rw (le-ltb (origin_of k) q (omega arith), le-ltb k (q * place_room) (omega arith)) (let r = keys_none q ks (λ j m. let h = f j m in omega arith) in omega arith)

module _ (ks : List ℕ) (a : InOrder ◌<◌ ks) (q i : ℕ) where
  earlier : i < length ks → origin_of (get_or ks i 0) < q → i < keys_before q ks
  earlier h l = let r = keys_rank q ks a in let k = rank_above (q * place_room) ks i (omega arith) a h in omega arith

  later : q ≤ origin_of (get_or ks i 0) → keys_before q ks ≤ i
  later l = let r = keys_rank q ks a in let k = rank_below (q * place_room) ks i (omega arith) in omega arith

module _ (ks : List ℕ) (a : InOrder ◌<◌ ks) (q i : ℕ) where
  pub not_earlier : i < length ks → keys_before q ks ≤ i → q ≤ origin_of (get_or ks i 0)
  not_earlier h l = go (dec_lt (origin_of (get_or ks i 0)) q)
    where
      go : Dec (origin_of (get_or ks i 0) < q) → q ≤ origin_of (get_or ks i 0)
      go (yes e) = absurd (let k = earlier ks a q i h e in let z : ⊥ = omega arith in z)
      go (no n) = omega arith

  -- the keys of an origin are passed one by one, up to the first of another or to the end
  pub pass : i < length ks → origin_of (get_or ks i 0) ≡ q → i + 1 ≤ keys_before (q + 1) ks
  pass h e = let k = earlier ks a (q + 1) i h (omega arith) in omega arith

  pub pass_other : i < length ks → keys_before q ks ≤ i → i ≤ keys_before (q + 1) ks → (origin_of (get_or ks i 0) ≡ q → ⊥) → i ≡ keys_before (q + 1) ks
  pass_other h l m n = let k = not_earlier h l in let b = later ks a (q + 1) i (omega arith) in omega arith

-- ---- whether there are any

module _ (ks : List ℕ) (q from at : ℕ) (f : from ≡ keys_before q ks) (t : at ≡ keys_before (q + 1) ks) where
  pub origin_some : (at ≡ from → ⊥) → HasOrigin ks q
  origin_some n = go (group q ks) refl (let k = keys_next q ks in omega arith)
    where
      go : (g : List ℕ) → group q ks ≡ g → (length g ≡ 0 → ⊥) → HasOrigin ks q
      go [] e z = absurd (z refl)
      go (x ∷ xs) e z = let r = group_only q ks x (subst (λ l. x ∈ l) (sym e) (here refl)) in record { key = x; listed = r.0; is = r.1 }

  pub origin_none : at ≡ from → ¬ HasOrigin ks q
  origin_none e o = go (group q ks) (group_in q o.listed o.is) (let k = keys_next q ks in omega arith)
    where
      go : (g : List ℕ) → o.key ∈ g → length g ≡ 0 → ⊥
      go [] m z = elim m [ ]
      go (x ∷ xs) m z = omega arith

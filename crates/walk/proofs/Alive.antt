-- The walk finds what an expression joins: forward the ends that are reached, backward the states that are alive. This
-- holds for any graph whose edges join its nodes, any threaded parts, and the expressions that these have. Assumes nothing.
use mathlib.Core.Logic.{◌↔◌, inl, inr, ⊎_elim}
use mathlib.Core.Path.{◌≡◌, refl, sym, subst}
use native.Mathlib.Omega.{arith}
use Prim.Native.Nat.{ℕ, zero, suc, ◌<◌}
use Rattle.meaning.specs.Query.{Expr, nested, sequence, union, star, View, none, Joins}
use Rattle.walk.specs.Parts.{Part, leaf, test, repeat, chain, either, Linked, Threaded}
use Rattle.walk.specs.Walk.{StepBy, Step, Reached, start, onward, Alive, ended, moves, tested, stops, repeats, begins, goes_left, goes_right, Saturated, EdgesJoinNodes}
use Rattle.walk.proofs.Meanings.{before, kept, kept_back, joins_from, joins_to}

-- The alive states are the least saturated set.
module _ (G : View) (part : ℕ → Part) (leaves : ℕ → Expr) (next : ℕ → ℕ) (done : ℕ) where
  abbrev Alive₀ : ℕ → G.Node → Type 0
  Alive₀ = Alive G part leaves next done

  pub alive_least : (B : ℕ → G.Node → Type 0) → Saturated G part leaves next done B → {i : ℕ} {n : G.Node} → Alive₀ i n → B i n
  alive_least B s (ended {n = n}) = s.ends n
  alive_least B s (moves {i = i} {n = n} {m = m} l e j a) = s.back i (next i) n m (l, subst (λ p. StepBy G part leaves next done B p i n (next i) m) (sym e) (refl, j)) (alive_least B s a)
  alive_least B s (tested {i = i} {n = n} l e b a) = s.back i (next i) n n
      (l, subst (λ p. StepBy G part leaves next done B p i n (next i) n) (sym e) (refl, refl, alive_least B s b)) (alive_least B s a)
  alive_least B s (stops {i = i} {n = n} l e h a) = s.back i (next i) n n (l, subst (λ p. StepBy G part leaves next done B p i n (next i) n) (sym e) (refl, inl (refl, h))) (alive_least B s a)
  alive_least B s (repeats {i = i} {body = b} {n = n} l e a) = s.back i b n n (l, subst (λ p. StepBy G part leaves next done B p i n b n) (sym e) (refl, inr refl)) (alive_least B s a)
  alive_least B s (begins {i = i} {left = b} {n = n} l e a) = s.back i b n n (l, subst (λ p. StepBy G part leaves next done B p i n b n) (sym e) (refl, refl)) (alive_least B s a)
  alive_least B s (goes_left {i = i} {left = b} {n = n} l e a) = s.back i b n n (l, subst (λ p. StepBy G part leaves next done B p i n b n) (sym e) (refl, inl refl)) (alive_least B s a)
  alive_least B s (goes_right {i = i} {right = b} {n = n} l e a) = s.back i b n n (l, subst (λ p. StepBy G part leaves next done B p i n b n) (sym e) (refl, inr refl)) (alive_least B s a)

  pub alive_saturated : Saturated G part leaves next done Alive₀
  alive_saturated = record { ends = λ n. ended; back = λ i j n m s a. go i j n m s.0 (part i) refl s.1 a }
    where
      go : (i j : ℕ) (n m : G.Node) → i < done → (p : Part) → part i ≡ p → StepBy G part leaves next done Alive₀ p i n j m → Alive₀ j m → Alive₀ i n
      go i j n m l leaf e (q, x) a = moves l e x (subst (λ k. Alive₀ k m) q a)
      go i j n m l (test b) e (q, r, x) a = tested l e x (subst (λ k. Alive₀ k n) q (subst (λ o. Alive₀ j o) (sym r) a))
      go i j n m l (repeat b) e (r, inl (q, h)) a = stops l e h (subst (λ k. Alive₀ k n) q (subst (λ o. Alive₀ j o) (sym r) a))
      go i j n m l (repeat b) e (r, inr q) a = repeats l e (subst (λ k. Alive₀ k n) q (subst (λ o. Alive₀ j o) (sym r) a))
      go i j n m l (chain b c) e (r, q) a = begins l e (subst (λ k. Alive₀ k n) q (subst (λ o. Alive₀ j o) (sym r) a))
      go i j n m l (either b c) e (r, inl q) a = goes_left l e (subst (λ k. Alive₀ k n) q (subst (λ o. Alive₀ j o) (sym r) a))
      go i j n m l (either b c) e (r, inr q) a = goes_right l e (subst (λ k. Alive₀ k n) q (subst (λ o. Alive₀ j o) (sym r) a))

-- `at i` is the expression of the part i, made of those of its own parts, which come before it.
abbrev pub Says : (ℕ → Expr) → (ℕ → Expr) → ℕ → Part → Type 0
Says leaves at i leaf = at i ≡ leaves i
Says leaves at i (test body) = (body < i) × (at i ≡ nested (at body))
Says leaves at i (repeat body) = (body < i) × (at i ≡ star (at body))
Says leaves at i (chain left right) = (left < i) × (right < i) × (at i ≡ sequence (at left) (at right))
Says leaves at i (either left right) = (left < i) × (right < i) × (at i ≡ union (at left) (at right))

module _ (G : View) (whole : EdgesJoinNodes G) (part : ℕ → Part) (leaves : ℕ → Expr) (next : ℕ → ℕ) (done : ℕ)
    (threaded : Threaded part next done) (at : ℕ → Expr) (says : (i : ℕ) → i < done → Says leaves at i (part i)) where
  abbrev Alive' : ℕ → G.Node → Type 0
  Alive' = Alive G part leaves next done

  abbrev Step' : (ℕ → G.Node → Type 0) → ℕ → G.Node → ℕ → G.Node → Type 0
  Step' = Step G part leaves next done

  -- What is known of the part i, where it is p.
  abbrev Known : ℕ → Part → Type 0
  Known i p = Linked next done i p × Says leaves at i p

  known : (i : ℕ) → i < done → Known i (part i)
  known i l = (threaded.linked i l, says i l)

  -- ---- SOUND: what is left to do at a state

  pub data Left : ℕ → G.Node → G.Node → Type 0 where
    nothing : {n m : G.Node} → n ≡ m → Left done n m
    then : {i : ℕ} {n k m : G.Node} → i < done → Joins G (at i) n k → Left (next i) k m → Left i n m

  -- At a part: its expression, then what is left after it.
  opened : {i : ℕ} {n m : G.Node} → i < done → Left i n m → (k : G.Node) × Joins G (at i) n k × Left (next i) k m
  opened l (nothing p) = absurd (omega arith)
  opened l (then {k = k} h j r) = (k, j, r)

  -- Where nothing is to be done after it: its expression.
  closed : {i : ℕ} {n m : G.Node} → i < done → next i ≡ done → Left i n m → Joins G (at i) n m
  closed {i} {n} {m} l e x = let (k, j, r) = opened l x in subst (λ o. Joins G (at i) n o) (go e r) j
    where
      go : {a : ℕ} {k : G.Node} → a ≡ done → Left a k m → k ≡ m
      go q (nothing p) = p
      go q (then h j r) = absurd (omega arith)

  -- A step that leads to something left leads from it.
  module _ (Test : ℕ → G.Node → Type 0)
      (right : (b : ℕ) (n : G.Node) → b < done → next b ≡ done → Test b n → (k : G.Node) × Joins G (at b) n k) where
    step_left : (i j : ℕ) (n m o : G.Node) → Step' Test i n j m → Left j m o → Left i n o
    unfolding Joins
    step_left i j n m o (l, s) r = go (part i) (known i l) s
      where
        go : (p : Part) → Known i p → StepBy G part leaves next done Test p i n j m → Left i n o
        go leaf (k, e) (q, x) = then l (subst (λ y. Joins G y n m) (sym e) x) (subst (λ y. Left y m o) q r)
        go (test b) (k, (lt, e)) (q, p, x) =
            then l (subst (λ y. Joins G y n m) (sym e) (p, (right b n (omega arith) k x).0, (right b n (omega arith) k x).1)) (subst (λ y. Left y m o) q r)
        go (repeat b) (k, (lt, e)) (p, inl (q, h)) =
            then l (subst (λ y. Joins G y n m) (sym e) (h, none p)) (subst (λ y. Left y m o) q r)
        go (repeat b) (k, (lt, e)) (p, inr q) =
            let (v, x, y) = opened {i = b} {n = m} {m = o} (omega arith) (subst (λ y. Left y m o) q r) in
            let (w, z, u) = opened {i = i} {n = v} {m = o} l (subst (λ y. Left y v o) k y) in
            let s : Joins G (star (at b)) v w = subst (λ y. Joins G y v w) e z in
            let g : Joins G (at b) n v = subst (λ y. Joins G (at b) y v) (sym p) x in
            then l (subst (λ y. Joins G y n w) (sym e) (joins_from G whole (at b) n v g, before g s.1)) u
        go (chain a b) ((k, h), (la, lb, e)) (p, q) =
            let (v, x, y) = opened {i = a} {n = m} {m = o} (omega arith) (subst (λ y. Left y m o) q r) in
            let (w, z, u) = opened {i = b} {n = v} {m = o} (omega arith) (subst (λ y. Left y v o) k y) in
            then l (subst (λ y. Joins G y n w) (sym e) (v, subst (λ y. Joins G (at a) y v) (sym p) x, z)) (subst (λ y. Left y w o) h u)
        go (either a b) ((k, h), (la, lb, e)) (p, inl q) =
            let (v, x, y) = opened {i = a} {n = m} {m = o} (omega arith) (subst (λ y. Left y m o) q r) in
            then l (subst (λ y. Joins G y n v) (sym e) (inl (subst (λ y. Joins G (at a) y v) (sym p) x))) (subst (λ y. Left y v o) k y)
        go (either a b) ((k, h), (la, lb, e)) (p, inr q) =
            let (v, x, y) = opened {i = b} {n = m} {m = o} (omega arith) (subst (λ y. Left y m o) q r) in
            then l (subst (λ y. Joins G y n v) (sym e) (inr (subst (λ y. Joins G (at b) y v) (sym p) x))) (subst (λ y. Left y v o) h y)

    reached_left : (i : ℕ) (n : G.Node) (j : ℕ) (m o : G.Node) → Reached G part leaves next done Test i n j m → Left j m o → Left i n o
    reached_left i n j m o start r = r
    reached_left i n j m o (onward {j = k} {m = v} x s) r = reached_left i n k v o x (step_left k j v m o s r)

  abbrev Leads : ℕ → G.Node → Type 0
  Leads i n = (m : G.Node) × Left i n m

  alive_leads : {i : ℕ} {n : G.Node} → Alive' i n → Leads i n
  alive_leads a = alive_least G part leaves next done Leads (record {
    ends = λ n. (n, nothing refl);
    back = λ i j n m s r. (r.0, step_left Leads (λ b n l e x. (x.0, closed l e x.1)) i j n m r.0 s r.1);
  }) a

  -- ---- COMPLETE: through a part, whatever it joins

  -- Backward: from what is alive after the part.
  joins_alive : (f i : ℕ) → i < f → i < done → (n m : G.Node) → Joins G (at i) n m → Alive' (next i) m → Alive' i n
  unfolding Joins
  joins_alive zero i h l n m j a = absurd (omega arith)
  joins_alive (suc f) i h l n m j a = go (part i) refl (known i l) (λ b lt. joins_alive f b (omega arith) (omega arith))
    where
      go : (p : Part) → part i ≡ p → Known i p → ((b : ℕ) → b < i → (n m : G.Node) → Joins G (at b) n m → Alive' (next b) m → Alive' b n) → Alive' i n
      go leaf e (k, s) rec = moves l e (subst (λ y. Joins G y n m) s j) a
      go (test b) e (k, (lt, s)) rec =
          let (p, o, x) = subst (λ y. Joins G y n m) s j in
          tested l e (rec b lt n o x (subst (λ y. Alive' y o) (sym k) ended)) (subst (λ y. Alive' (next i) y) (sym p) a)
      go (repeat b) e (k, (lt, s)) rec =
          let (v, r) = subst (λ y. Joins G y n m) s j in
          kept_back (λ o. Alive' i o) (λ o u x w. repeats l e (rec b lt o u x (subst (λ y. Alive' y u) (sym k) w))) r
          (stops l e (joins_to G whole (at i) n m j) a)
      go (chain c b) e ((k, g), (lc, lb, s)) rec =
          let (o, x, y) = subst (λ y. Joins G y n m) s j in
          begins l e (rec c lc n o x (subst (λ y. Alive' y o) (sym k) (rec b lb o m y (subst (λ y. Alive' y m) (sym g) a))))
      go (either c b) e ((k, g), (lc, lb, s)) rec =
          ⊎_elim
          (λ x. goes_left l e (rec c lc n m x (subst (λ y. Alive' y m) (sym k) a)))
          (λ x. goes_right l e (rec b lb n m x (subst (λ y. Alive' y m) (sym g) a)))
          (subst (λ y. Joins G y n m) s j)

  -- BACKWARD: a part after which nothing is to be done is alive exactly where its expression joins something.
  pub backward : (i : ℕ) → i < done → next i ≡ done → (n : G.Node) → Alive' i n ↔ ((m : G.Node) × Joins G (at i) n m)
  backward i l e n = (
    (λ a. let r = alive_leads a in (r.0, closed l e r.1)),
    (λ x. joins_alive (suc i) i (omega arith) l n x.0 x.1 (subst (λ y. Alive' y x.0) (sym e) ended)),
  )

  -- Forward: a set of states that is closed under steps, with the tests that are alive.
  module _ (Seen : ℕ → G.Node → Type 0) (steps : (i j : ℕ) (n m : G.Node) → Step' Alive' i n j m → Seen i n → Seen j m) where
    step_by : (i j : ℕ) (n m : G.Node) → i < done → (p : Part) → part i ≡ p → StepBy G part leaves next done Alive' p i n j m → Seen i n → Seen j m
    step_by i j n m l p e s = steps i j n m (l, subst (λ y. StepBy G part leaves next done Alive' y i n j m) (sym e) s)

    pub joins_seen : (f i : ℕ) → i < f → i < done → (n m : G.Node) → Joins G (at i) n m → Seen i n → Seen (next i) m
    unfolding Joins
    joins_seen zero i h l n m j v = absurd (omega arith)
    joins_seen (suc f) i h l n m j v = go (part i) refl (known i l) (λ b lt. joins_seen f b (omega arith) (omega arith))
      where
        go : (p : Part) → part i ≡ p → Known i p → ((b : ℕ) → b < i → (n m : G.Node) → Joins G (at b) n m → Seen b n → Seen (next b) m) → Seen (next i) m
        go leaf e (k, s) rec = step_by i (next i) n m l leaf e (refl, subst (λ y. Joins G y n m) s j) v
        go (test b) e (k, (lt, s)) rec =
            let (p, o, x) = subst (λ y. Joins G y n m) s j in
            step_by i (next i) n m l (test b) e (refl, p, (backward b (omega arith) k n).1 (o, x)) v
        go (repeat b) e (k, (lt, s)) rec =
            let (w, r) = subst (λ y. Joins G y n m) s j in
            step_by i (next i) m m l (repeat b) e (refl, inl (refl, joins_to G whole (at i) n m j))
            (kept (λ o. Seen i o) (λ o u x y. subst (λ z. Seen z u) k (rec b lt o u x (step_by i b o o l (repeat b) e (refl, inr refl) y))) r v)
        go (chain c b) e ((k, g), (lc, lb, s)) rec =
            let (o, x, y) = subst (λ y. Joins G y n m) s j in
            subst (λ z. Seen z m) g (rec b lb o m y (subst (λ z. Seen z o) k (rec c lc n o x (step_by i c n n l (chain c b) e (refl, refl) v))))
        go (either c b) e ((k, g), (lc, lb, s)) rec =
            ⊎_elim
            (λ x. subst (λ z. Seen z m) k (rec c lc n m x (step_by i c n n l (either c b) e (refl, inl refl) v)))
            (λ x. subst (λ z. Seen z m) g (rec b lb n m x (step_by i b n n l (either c b) e (refl, inr refl) v)))
            (subst (λ y. Joins G y n m) s j)

  -- FORWARD: from a part after which nothing is to be done, the ends that are reached are what its expression joins.
  pub forward : (i : ℕ) → i < done → next i ≡ done → (n m : G.Node) → Reached G part leaves next done Alive' i n done m ↔ Joins G (at i) n m
  forward i l e n m = (
    (λ r. closed l e (reached_left Alive' (λ b n h w a. (backward b h w n).0 a) i n done m m r (nothing refl))),
    (λ j. subst (λ y. Reached G part leaves next done Alive' i n y m) e
        (joins_seen (Reached G part leaves next done Alive' i n) (λ k o u v s r. onward r s) (suc i) i (omega arith) l n m j start)),
  )

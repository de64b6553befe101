-- What is marked from a word are the steps from its states to named nodes. Assumes nothing.
use lib.ListN.{get_or, length}
use mathlib.Core.List.{List}
use mathlib.Core.Logic.{inl, inr}
use mathlib.Core.Path.{ap, refl, subst, sym, ◌∙◌, ◌≡◌}
use native.Mathlib.Omega.{arith}
use Prim.Native.Nat.{ℕ, ◌%◌, ◌*◌, ◌+◌, ◌/◌, ◌<◌, ◌≤◌}
use Rattle.index.specs.Subjects.{first_at}
use Rattle.index.specs.Triples.{object_at}
use Rattle.meaning.specs.Limits.{index_width, max_core_nodes, named_words, seen_words}
use Rattle.meaning.specs.Query.{Joins}
use Rattle.query.specs.Tree.{kind_of}
use Rattle.forward.specs.Own.{Inward, ListedIn, OwnTriple, end_at}
use Rattle.forward.specs.Seen.{seen_node, seen_part, seen_state, seen_word}
use Rattle.forward.specs.Steps.{Ahead, AllAhead, LeafOnward, PartsOnward, StateIn, StepFrom, labels, stays, steps}
use Rattle.forward.specs.Ready.{WalkReady}
use Rattle.forward.proofs.SeenNumbers.{block_small, node_word, seen_node_lem, seen_part_lem, word_node, word_part, word_parts}
use Rattle.states.proofs.Leaves.{LeafJoins, goes, is_at, leaf_says, leaf_to, rests, says_leaf}
use Rattle.states.proofs.PartKinds.{is_leaf, leaf_kind, not_leaf}
use Rattle.states.specs.Fits.{ListsFit}
use Rattle.states.specs.Lists.{AliveIn, Lists, StepIn, leaf_at, numbered}
use Rattle.walk.specs.Parts.{Child, Part, chain, either, leaf, listed, part_of, repeat, test}
use Rattle.walk.specs.Walk.{StepBy}
use Rattle.worklist.proofs.Growth.{adds_none, adds_same}
use Rattle.worklist.specs.Table.{AddsOnly, Board, FromWord, InWord, Table}

-- the step of a part p
abbrev By : Lists → Part → ℕ → ℕ → ℕ → ℕ → Type 0
By L p i n j m = StepBy (numbered L) (part_of L.tree) (leaf_at L) (listed L.next) L.parts (AliveIn L) p i n j m

module _ {L : Lists} (f : ListsFit L) where
  own_part : (i : ℕ) → i < L.parts → (p : Part) → part_of L.tree i ≡ p → (c : ℕ) → Child p c → c ≤ L.parts
  own_part i l p e c y = let z = f.query.before i c l (subst (λ q. Child q c) (sym e) y) in omega arith

  -- A step leads to a part or the end, and to a node.
  pub step_in : {i j n m : ℕ} → n < L.nodes → StepIn L i n j m → (j ≤ L.parts) × (m < L.nodes)
  step_in {i} {j} {n} {m} h (l, s) = go (part_of L.tree i) refl s
    where
      next : j ≡ get_or L.next i 0 → j ≤ L.parts
      next q = let z = f.query.onward i l in omega arith

      go : (p : Part) → part_of L.tree i ≡ p → By L p i n j m → (j ≤ L.parts) × (m < L.nodes)
      go leaf e (q, x) = (next q, leaf_to f.graph (leaf_says L i n m (leaf_kind f i l e) x))
      go (test c) e (q, p, x) = (next q, omega arith)
      go (repeat c) e (p, inl (q, x)) = (next q, omega arith)
      go (repeat c) e (p, inr q) = let z = own_part i l (repeat c) e c refl in (omega arith, omega arith)
      go (chain c d) e (p, q) = let z = own_part i l (chain c d) e c (inl refl) in (omega arith, omega arith)
      go (either c d) e (p, inl q) = let z = own_part i l (either c d) e c (inl refl) in (omega arith, omega arith)
      go (either c d) e (p, inr q) = let z = own_part i l (either c d) e d (inr refl) in (omega arith, omega arith)

  -- A step to a named node starts at one.
  pub step_named : {named : ℕ} (i j n m : ℕ) → Inward L.triples L.edges named → StepIn L i n j m → m < named → n < named
  step_named {named} i j n m inward (l, s) h = go (part_of L.tree i) refl s
    where
      by_leaf : {kind want : ℕ} → LeafJoins L kind want n m → n < named
      by_leaf (rests e b p) = omega arith
      by_leaf (goes a b k lt s o t) = let z = inward k lt (omega arith) in omega arith
      by_leaf (is_at a b c w p) = omega arith

      go : (p : Part) → part_of L.tree i ≡ p → By L p i n j m → n < named
      go leaf e (q, x) = by_leaf (leaf_says L i n m (leaf_kind f i l e) x)
      go (test c) e (q, p, x) = omega arith
      go (repeat c) e (p, x) = omega arith
      go (chain c d) e (p, q) = omega arith
      go (either c d) e (p, q) = omega arith

-- ---- one node n of the part i

-- y is a state at a named node, to which a step leads from (i, n)
abbrev pub Ends : Lists → ℕ → ℕ → ℕ → ℕ → Type 0
Ends L named i n y = (j m : ℕ) × (m < named) × StepIn L i n j m × (y ≡ seen_state j m)

module _ {L : Lists} {named : ℕ} {own index alive : List ℕ} (r : WalkReady L named own index alive) (i n : ℕ) (l : i < L.parts) (h : n < named) where
  in_nodes : n < L.nodes
  in_nodes = let z = r.nodes in omega arith

  -- a triple that is listed
  own_triple : {k : ℕ} → ListedIn own (first_at index n) (end_at index n) k → OwnTriple L.triples L.edges named n k
  own_triple {k} t = (r.listed.exactly n k h).0 t

  pub ahead : (n * index_width + 1 < length index) × Ahead L.triples own (first_at index n) (end_at index n)
  ahead =
      let g = r.fits.graph in (
        (let a = r.listed.long in omega arith),
        record {
          ordered = omega arith;
          room = r.listed.room n h;
          few = λ k t. let x = (own_triple t).inside in let y = g.few_edges in omega arith;
          whole = λ k t. let x = (own_triple t).inside in let y = g.whole in omega arith;
          nodes = λ k t. let x = (own_triple t).object in let y = r.few in omega arith;
        },
      )

  step_by : (p : Part) → part_of L.tree i ≡ p → (j m y : ℕ) → m < named → y ≡ seen_state j m → By L p i n j m → Ends L named i n y
  step_by p e j m y g q x = (j, m, g, (l, subst (λ z. By L z i n j m) (sym e) x), q)

  pub parts_step : (y : ℕ) → PartsOnward alive (get_or L.next i 0) (part_of L.tree i) n y → Ends L named i n y
  parts_step y x = go (part_of L.tree i) refl x
    where
      go : (p : Part) → part_of L.tree i ≡ p → PartsOnward alive (get_or L.next i 0) p n y → Ends L named i n y
      go leaf e z = absurd z
      go (test c) e (a, q) = step_by (test c) e (get_or L.next i 0) n y h q (refl, refl, (r.living.alive c n (own_part r.fits i l (test c) e c refl) in_nodes).0 a)
      go (repeat c) e (inl q) = step_by (repeat c) e (get_or L.next i 0) n y h q (refl, inl (refl, in_nodes))
      go (repeat c) e (inr q) = step_by (repeat c) e c n y h q (refl, inr refl)
      go (chain c d) e q = step_by (chain c d) e c n y h q (refl, refl)
      go (either c d) e (inl q) = step_by (either c d) e c n y h q (refl, inl refl)
      go (either c d) e (inr q) = step_by (either c d) e d n y h q (refl, inr refl)

  pub step_parts : 5 ≤ kind_of L.tree i → (j m y : ℕ) → StepIn L i n j m → y ≡ seen_state j m → PartsOnward alive (get_or L.next i 0) (part_of L.tree i) n y
  step_parts k j m y s e = go (part_of L.tree i) refl s.1
    where
      same : (c : ℕ) → j ≡ c → n ≡ m → y ≡ seen_state c n
      same c p q = e ∙ ap (λ x. seen_state x m) p ∙ ap (λ x. seen_state c x) (sym q)

      into : (p : Part) → part_of L.tree i ≡ p → PartsOnward alive (get_or L.next i 0) p n y → PartsOnward alive (get_or L.next i 0) (part_of L.tree i) n y
      into p q x = subst (λ z. PartsOnward alive (get_or L.next i 0) z n y) (sym q) x

      go : (p : Part) → part_of L.tree i ≡ p → By L p i n j m → PartsOnward alive (get_or L.next i 0) (part_of L.tree i) n y
      go leaf q x = absurd (not_leaf L.tree i k (r.fits.query.kinds i l) q)
      go (test c) q (a, p, x) = into (test c) q ((r.living.alive c n (own_part r.fits i l (test c) q c refl) in_nodes).1 x, same (get_or L.next i 0) a p)
      go (repeat c) q (p, inl (a, x)) = into (repeat c) q (inl (same (get_or L.next i 0) a p))
      go (repeat c) q (p, inr a) = into (repeat c) q (inr (same c a p))
      go (chain c d) q (p, a) = into (chain c d) q (same c a p)
      go (either c d) q (p, inl a) = into (either c d) q (inl (same c a p))
      go (either c d) q (p, inr a) = into (either c d) q (inr (same d a p))

  module _ (k : kind_of L.tree i < 5) where
    pub leaf_step_from : (y : ℕ) → LeafOnward L.triples own index (kind_of L.tree i) (get_or L.wanted i 0) (get_or L.next i 0) n y
        → Ends L named i n y
    leaf_step_from y x = go x
      where
        by_leaf : (m : ℕ) → m < named → y ≡ seen_state (get_or L.next i 0) m → LeafJoins L (kind_of L.tree i) (get_or L.wanted i 0) n m
            → Ends L named i n y
        by_leaf m g q j = step_by leaf (is_leaf L.tree i k) (get_or L.next i 0) m y g q (refl, says_leaf L i n m j)

        go : LeafOnward L.triples own index (kind_of L.tree i) (get_or L.wanted i 0) (get_or L.next i 0) n y → Ends L named i n y
        go (stays e s) = by_leaf n h s (rests e in_nodes refl)
        go (steps a b s) =
            let o = own_triple s.listed in
            by_leaf (object_at L.triples s.triple) o.object s.object.state
            (goes a b s.triple o.inside o.subject refl s.object.taken)
        go (labels a b e s) = by_leaf n h s (is_at a b in_nodes e refl)

    pub step_from_leaf : (j m y : ℕ) → m < named → StepIn L i n j m → y ≡ seen_state j m
        → LeafOnward L.triples own index (kind_of L.tree i) (get_or L.wanted i 0) (get_or L.next i 0) n y
    step_from_leaf j m y g s e = go (subst (λ p. By L p i n j m) (is_leaf L.tree i k) s.1)
      where
        at : (x : ℕ) → j ≡ get_or L.next i 0 → m ≡ x → y ≡ seen_state (get_or L.next i 0) x
        at x p q = e ∙ ap (λ z. seen_state z m) p ∙ ap (λ z. seen_state (get_or L.next i 0) z) q

        by : j ≡ get_or L.next i 0 → LeafJoins L (kind_of L.tree i) (get_or L.wanted i 0) n m
            → LeafOnward L.triples own index (kind_of L.tree i) (get_or L.wanted i 0) (get_or L.next i 0) n y
        by p (rests q b u) = stays q (at n p (sym u))
        by p (goes a b x lt u o t) =
            steps a b (record {
              triple = x;
              listed = (r.listed.exactly n x h).1 (record { inside = lt; subject = u; object = omega arith });
              object = record { taken = t; state = at (object_at L.triples x) p (sym o) };
            })
        by p (is_at a b c w u) = labels a b w (at n p (sym u))

        go : (j ≡ get_or L.next i 0) × Joins (numbered L) (leaf_at L i) n m → LeafOnward L.triples own index (kind_of L.tree i) (get_or L.wanted i 0) (get_or L.next i 0) n y
        go (p, x) = by p (leaf_says L i n m k x)

-- ---- the states of a word

module _ {L : Lists} {named : ℕ} {own index alive : List ℕ} (r : WalkReady L named own index alive) (w bits : ℕ) (are : (s : ℕ) → InWord w bits s → StateIn L named s) where
  block_fits : w % named_words < named_words
  block_fits = omega arith

  -- a node of the block is a state of the word
  as_state : (n : ℕ) → InWord (w % named_words) bits n → InWord w bits (seen_state (w / named_words) n)
  as_state n h = subst (λ x. InWord x bits (seen_state (w / named_words) n)) (sym (word_parts w)) (node_word (w / named_words) (w % named_words) bits n block_fits h)

  small : (n : ℕ) → InWord (w % named_words) bits n → n < max_core_nodes
  small n h = block_small (w % named_words) bits n block_fits h

  pub node_named : (n : ℕ) → InWord (w % named_words) bits n → n < named
  node_named n h = let a = (are (seen_state (w / named_words) n) (as_state n h)).node in let b = seen_node_lem (w / named_words) n (seen_state (w / named_words) n) (small n h) refl in omega arith

  pub all_ahead : w / named_words < L.parts → AllAhead L.triples own index (w % named_words) bits
  all_ahead l n h = ahead r (w / named_words) n l (node_named n h)

  module _ (s : ℕ) (x : InWord w bits s) where
    in_word : InWord (seen_word (w / named_words) (w % named_words)) bits s
    in_word = subst (λ y. InWord y bits s) (word_parts w) x

    pub part_of_word : seen_part s ≡ w / named_words
    part_of_word = word_part (w / named_words) (w % named_words) bits s block_fits in_word

    node_of_word : InWord (w % named_words) bits (seen_node s)
    node_of_word = word_node (w / named_words) (w % named_words) bits s block_fits in_word

  -- R is what a part does at a node
  module _ {R : ℕ → ℕ → Type 0} (to : (n y : ℕ) → n < named → R n y → Ends L named (w / named_words) n y)
      (of : (n j m y : ℕ) → n < named → m < named → StepIn L (w / named_words) n j m → y ≡ seen_state j m → R n y) where
    forth : (y : ℕ) → FromWord (w % named_words) bits R y → FromWord w bits (StepFrom L named) y
    forth y x =
        let n = x.from in
        let (j, m, g, s, e) = to n y (node_named n x.is) x.leads in
        let p = seen_part_lem (w / named_words) n (seen_state (w / named_words) n) (small n x.is) refl in
        let q = seen_node_lem (w / named_words) n (seen_state (w / named_words) n) (small n x.is) refl in
        record {
          from = seen_state (w / named_words) n;
          is = as_state n x.is;
          leads = record {
            part = j;
            node = m;
            is_named = g;
            step = subst (λ z. StepIn L z (seen_node (seen_state (w / named_words) n)) j m) (sym p) (subst (λ z. StepIn L (w / named_words) z j m) (sym q) s);
            state = e;
          };
        }

    back : (y : ℕ) → FromWord w bits (StepFrom L named) y → FromWord (w % named_words) bits R y
    back y x =
        let h = node_of_word x.from x.is in
        let s = x.leads in
        record {
          from = seen_node x.from;
          is = h;
          leads = of (seen_node x.from) s.part s.node y (node_named (seen_node x.from) h) s.is_named
              (subst (λ z. StepIn L z (seen_node x.from) s.part s.node) (part_of_word x.from x.is) s.step) s.state;
        }

    pub onward_same : {a b : Board} → AddsOnly seen_words (FromWord (w % named_words) bits R) a b → AddsOnly seen_words (FromWord w bits (StepFrom L named)) a b
    onward_same d = adds_same d forth back

  module _ {a b : Board} where
    pub onward_parts : w / named_words < L.parts → 5 ≤ kind_of L.tree (w / named_words)
        → AddsOnly seen_words (FromWord (w % named_words) bits (PartsOnward alive (get_or L.next (w / named_words) 0) (part_of L.tree (w / named_words)))) a b
        → AddsOnly seen_words (FromWord w bits (StepFrom L named)) a b
    onward_parts l k d = onward_same (λ n y h x. parts_step r (w / named_words) n l h y x) (λ n j m y h g s e. step_parts r (w / named_words) n l h k j m y s e) d

    pub onward_leaf : w / named_words < L.parts → {kind : ℕ} → kind ≡ kind_of L.tree (w / named_words) → kind_of L.tree (w / named_words) < 5
        → AddsOnly seen_words (FromWord (w % named_words) bits (LeafOnward L.triples own index kind (get_or L.wanted (w / named_words) 0) (get_or L.next (w / named_words) 0))) a b
        → AddsOnly seen_words (FromWord w bits (StepFrom L named)) a b
    onward_leaf l q k d =
        onward_same (λ n y h x. leaf_step_from r (w / named_words) n l h k y x) (λ n j m y h g s e. step_from_leaf r (w / named_words) n l h k j m y g s e)
        (subst (λ z. AddsOnly seen_words (FromWord (w % named_words) bits (LeafOnward L.triples own index z (get_or L.wanted (w / named_words) 0) (get_or L.next (w / named_words) 0))) a b) q d)

  -- nothing follows the end
  pub onward_end : {a : Board} → L.parts ≤ w / named_words → Table seen_words a → AddsOnly seen_words (FromWord w bits (StepFrom L named)) a a
  onward_end l t = adds_none t (λ y x. let a = part_of_word x.from x.is in let b = x.leads.step.0 in omega arith)

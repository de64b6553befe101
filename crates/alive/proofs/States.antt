-- The states of a part that the marked ones make alive. Assumes nothing.
use lib.ListN.{get_or}
use mathlib.Core.List.{List}
use mathlib.Core.Logic.{inl, inr}
use mathlib.Core.Path.{refl, subst, sym, ◌≡◌}
use native.Mathlib.Omega.{arith}
use Prim.Native.Nat.{ℕ, ◌%◌, ◌+◌, ◌/◌, ◌<◌, ◌≤◌}
use Rattle.backward.specs.Steps.{Led, PartBack, Range, Ranges, leaves, turns}
use Rattle.alive.specs.Steps.{AllAlive, AllMarked, BackAt, StateAlive, leads}
use Rattle.index.proofs.Stands.{stands_triple}
use Rattle.index.specs.Objects.{ByObject}
use Rattle.meaning.specs.Limits.{max_nodes, node_words, state_words}
use Rattle.query.specs.Tree.{kind_of}
use Rattle.states.proofs.Leaves.{LeafJoins, leaf_from, leaf_says, says_leaf}
use Rattle.states.proofs.Numbers.{state_inside, state_node, state_part, word_is, word_state}
use Rattle.states.proofs.PartKinds.{is_leaf, leaf_kind}
use Rattle.states.specs.Fits.{ListsFit}
use Rattle.states.specs.Lists.{AliveIn, Lists}
use Rattle.states.specs.Parts.{AliveAt}
use Rattle.states.specs.State.{node_at, part_at, state}
use Rattle.walk.specs.Parts.{Child, Part, chain, either, leaf, part_of, repeat, test}
use Rattle.walk.specs.Walk.{begins, goes_left, goes_right, moves, tested, repeats, stops}
use Rattle.worklist.specs.Table.{InWord, Marked}
use Rattle.alive.proofs.Leaves.{back_joins, joins_back}

module _ {L : Lists} (f : ListsFit L) where
  -- The triples that end at m.
  range_ready : {starts into : List ℕ} → ByObject L.triples L.nodes L.edges starts into → (m : ℕ) → m < L.nodes
      → Range into (get_or starts m 0) (get_or starts (m + 1) 0)
  range_ready b m l = record {
    inside = b.inside m l;
    nodes = λ x s.
        let t = stands_triple b m l s in
        let e = t.subject in
        let g = f.graph.subjects t.at t.inside in
        let h = f.graph.few_nodes in
        omega arith;
  }

  -- ---- a part at a node, by what is alive there

  -- a state, by its part and its node
  alive_state : (j m : ℕ) → m < max_nodes → StateAlive L (state j m) → (j ≤ L.parts) × (m < L.nodes) × AliveIn L j m
  alive_state j m l s =
      let u = state_part j m (state j m) l refl in
      let v = state_node j m (state j m) l refl in
      let p = s.part in
      let n = s.node in
      (omega arith, omega arith, subst (λ x. AliveIn L x m) u (subst (λ x. AliveIn L (part_at (state j m)) x) v s.alive))

  pub alive_at : (table : List ℕ) → AllAlive L table → (m j : ℕ) → m < L.nodes → j ≤ L.parts → AliveAt table m j → AliveIn L j m
  alive_at table a m j l h e =
      let p = f.query.few in
      let q = f.graph.few_nodes in
      (alive_state j m (omega arith) (a (state j m) (state_inside j m (omega arith) (omega arith)) e)).2

  led_alive : (i m : ℕ) → i < L.parts → m < L.nodes → (B : ℕ → Type 0) → ((j : ℕ) → j ≤ L.parts → B j → AliveIn L j m)
      → Led B (get_or L.next i 0) (part_of L.tree i) → AliveIn L i m
  led_alive i m l h B up x = go (part_of L.tree i) refl x
    where
      own : (p : Part) → part_of L.tree i ≡ p → (c : ℕ) → Child p c → c ≤ L.parts
      own p e c y = let z = f.query.before i c l (subst (λ q. Child q c) (sym e) y) in omega arith

      go : (p : Part) → part_of L.tree i ≡ p → Led B (get_or L.next i 0) p → AliveIn L i m
      go leaf e y = absurd y
      go (test b) e (y, z) = tested l e (up b (own (test b) e b refl) y) (up (get_or L.next i 0) (f.query.onward i l) z)
      go (repeat b) e (inl y) = stops l e h (up (get_or L.next i 0) (f.query.onward i l) y)
      go (repeat b) e (inr y) = repeats l e (up b (own (repeat b) e b refl) y)
      go (chain a b) e y = begins l e (up a (own (chain a b) e a (inl refl)) y)
      go (either a b) e (inl y) = goes_left l e (up a (own (either a b) e a (inl refl)) y)
      go (either a b) e (inr y) = goes_right l e (up b (own (either a b) e b (inr refl)) y)

  pub state_alive : (i n y : ℕ) → i ≤ L.parts → n < L.nodes → y ≡ state i n → AliveIn L i n → StateAlive L y
  state_alive i n y l h e a =
      let q = f.graph.few_nodes in
      let u = state_part i n y (omega arith) e in
      let v = state_node i n y (omega arith) e in
      record {
        part = omega arith;
        node = omega arith;
        alive = subst (λ x. AliveIn L x (node_at y)) (sym u) (subst (λ x. AliveIn L i x) (sym v) a);
      }

  -- ---- the states of a word, which are marked

  module _ (table : List ℕ) {w bits : ℕ} (a : AllAlive L table) (k : AllMarked table w bits) (l : w < state_words) where
    -- the word's part is alive at the nodes of its block
    pub word_alive : (m : ℕ) → InWord (w % node_words) bits m → (w / node_words ≤ L.parts) × (m < L.nodes) × AliveIn L (w / node_words) m
    word_alive m h =
        let q = h.word in
        let n : m < max_nodes = omega arith in
        let s = subst (λ v. InWord v bits (state (w / node_words) m)) (sym (word_is w)) (word_state (w / node_words) (w % node_words) bits m n h) in
        let r = s.word in
        alive_state (w / node_words) m n (a (state (w / node_words) m) (omega arith) (k (state (w / node_words) m) s))

    pub ranges_ready : {starts into : List ℕ} → ByObject L.triples L.nodes L.edges starts into → Ranges starts into (w % node_words) bits
    ranges_ready b = record {
      long = λ m h. let p = (word_alive m h).1 in let q = b.long in omega arith;
      range = λ m h. range_ready b m (word_alive m h).1;
    }

  -- SOUND: what a part adds is alive.
  pub part_alive : {starts into table : List ℕ} → ByObject L.triples L.nodes L.edges starts into → AllAlive L table → (j m : ℕ) → m < L.nodes → AliveIn L j m
      → (i y : ℕ) → i < L.parts → PartBack starts into L.tree L.next L.wanted table i j m y → StateAlive L y
  part_alive {starts} {into} {table} b a j m h w i y l (leaves e x) =
      let (n, p, g) = back_joins {L = L} b h x in
      state_alive i n y (omega arith) (leaf_from f.graph g) p
      (moves l (is_leaf L.tree i (small g)) (says_leaf L i n m g) (subst (λ x. AliveIn L x m) (sym e) w))
    where
      small : {n m : ℕ} → LeafJoins L (kind_of L.tree i) (get_or L.wanted i 0) n m → kind_of L.tree i < 5
      small (LeafJoins.rests e h p) = omega arith
      small (LeafJoins.goes g h k lt u o t) = omega arith
      small (LeafJoins.is_at g h c u p) = omega arith
  part_alive {starts} {into} {table} b a j m h w i y l (turns x e) =
      state_alive i m y (omega arith) h e (led_alive i m l h (AliveAt table m) (λ j r z. alive_at table a m j h r z) x)

  -- COMPLETE: what a part is to add, it adds; more may be marked by then.
  pub led_more : (B C : ℕ → Type 0) → ((j : ℕ) → B j → C j) → (after : ℕ) (p : Part) → Led B after p → Led C after p
  led_more B C up after leaf x = x
  led_more B C up after (test b) (x, y) = (up b x, up after y)
  led_more B C up after (repeat b) (inl x) = inl (up after x)
  led_more B C up after (repeat b) (inr x) = inr (up b x)
  led_more B C up after (chain a b) x = up a x
  led_more B C up after (either a b) (inl x) = inl (up a x)
  led_more B C up after (either a b) (inr x) = inr (up b x)

  pub back_part : {starts into table table' : List ℕ} → ByObject L.triples L.nodes L.edges starts into
      → ((x : ℕ) → Marked table x → Marked table' x) → (s i y : ℕ) → node_at s < L.nodes → i < L.parts
      → BackAt L table s i y → PartBack starts into L.tree L.next L.wanted table' i (part_at s) (node_at s) y
  back_part {starts} {into} {table} {table'} b up s i y d l (leads n e p j q) = leaves p (joins_back {L = L} b d (leaf_says L i n (node_at s) (leaf_kind f i l e) j) q)
  back_part {starts} {into} {table} {table'} b up s i y d l (BackAt.turns x w q) =
      turns (led_more (AliveAt table (node_at s)) (AliveAt table' (node_at s)) (λ j h. up (state j (node_at s)) h) (get_or L.next i 0) (part_of L.tree i) x) q

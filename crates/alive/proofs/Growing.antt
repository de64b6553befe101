-- The marked states grow until they are those that are alive. Assumes nothing.
use lib.ListN.{get_or}
use mathlib.Core.Bool.{Bool, false, true}
use mathlib.Core.List.{List}
use mathlib.Core.Logic.{inl, inr, ⊎_elim, ◌⊎◌}
use mathlib.Core.Path.{ap, refl, subst, sym, ◌≡◌}
use native.Mathlib.Omega.{arith}
use Prim.Native.Nat.{ℕ, ◌%◌, ◌*◌, ◌+◌, ◌-◌, ◌/◌, ◌<◌, ◌≤◌}
use Rattle.alive.specs.Links.{Caused}
use Rattle.backward.specs.Steps.{Led, PartBack}
use Rattle.alive.specs.Steps.{AllAlive, AllMarked, BackAt, BackTo, EndAt, StateAlive, Touches, leads, turns}
use Rattle.index.proofs.Stands.{stands_first, stands_none, stands_split}
use Rattle.index.specs.Objects.{ByObject, Stands}
use Rattle.meaning.specs.Limits.{max_predicates, node_words, state_words}
use Rattle.meaning.specs.Query.{Joins}
use Rattle.states.proofs.Leaves.{leaf_says, leaf_to}
use Rattle.states.proofs.Numbers.{in_node, in_part, state_inside, state_node, state_part, word_is, word_part}
use Rattle.states.proofs.PartKinds.{leaf_kind}
use Rattle.states.specs.Fits.{ListsFit}
use Rattle.states.specs.Lists.{Lists, leaf_at, numbered}
use Rattle.states.specs.Living.{Living, SomeAt, Yes}
use Rattle.states.specs.Parts.{AliveAt}
use Rattle.states.specs.State.{node_at, part_at, state, word_at}
use Rattle.walk.proofs.Alive.{alive_least}
use Rattle.walk.specs.Parts.{Child, Part, chain, either, leaf, listed, part_of, repeat, test}
use Rattle.walk.specs.Walk.{Saturated, StepBy, ended}
use Rattle.worklist.proofs.Growth.{adds_as, adds_for, adds_none, adds_sound, adds_then, all_looked, turn_looked, turn_marked}
use Rattle.worklist.specs.Table.{Adds, AddsOnly, Blank, Board, FromWord, InWord, Looked, Marked, Table, Takes}
use Rattle.alive.proofs.States.{alive_at, back_part, led_more, part_alive, state_alive, word_alive}

-- ---- one word, part by part

-- The states that the states of a word make alive are marked, but for parts that stand in the list of links from e on.
pub record Backing (L : Lists) (heads links : List ℕ) (w bits : ℕ) (b₁ b₂ : Board) (e : ℕ) : Type 0 where
  pub from : get_or heads (w / node_words) 0 ≤ e
  pub adds : Adds state_words (StateAlive L) (λ y. ⊥) b₁ b₂
  pub left : (s i y : ℕ) → InWord w bits s → i < L.parts → BackAt L b₁.marked s i y
      → Marked b₂.marked y ⊎ Stands links e (get_or heads (w / node_words + 1) 0) (i * max_predicates)

-- A part that s makes alive is one that the part of s can make alive.
back_touches : {L : Lists} {table : List ℕ} {s i y : ℕ} → BackAt L table s i y → Touches (get_or L.next i 0) (part_of L.tree i) (part_at s)
back_touches {L} {table} {s} {i} (leads n e p j q) = subst (λ x. Touches (get_or L.next i 0) x (part_at s)) (sym e) (sym p)
back_touches (turns x w q) = w

-- The states of a word: its part, and the nodes of its block.
module _ (w bits s : ℕ) (h : InWord w bits s) where
  at_word : InWord (word_at (w / node_words) (w % node_words)) bits s
  at_word = subst (λ v. InWord v bits s) (word_is w) h

  of_word : part_at s ≡ w / node_words
  of_word = in_part (w / node_words) (w % node_words) bits s (omega arith) at_word

  of_block : InWord (w % node_words) bits (node_at s)
  of_block = in_node (w / node_words) (w % node_words) bits s (omega arith) at_word

pub back_start : {L : Lists} {heads links : List ℕ} {w bits : ℕ} {b : Board} → Caused L heads links → w < state_words → Table state_words b
    → Backing L heads links w bits b b (get_or heads (w / node_words) 0)
back_start {L} {heads} {links} {w} {bits} c l t =
    let a = word_part w l in
    record {
      from = omega arith;
      adds = adds_none t (λ y h. h);
      left = λ s i y h g x. inr (c.causes i (w / node_words) g (omega arith) (subst (Touches (get_or L.next i 0) (part_of L.tree i)) (of_word w bits s h) (back_touches x)));
    }

module _ {L : Lists} {heads links : List ℕ} {w bits : ℕ} {b₁ b₂ : Board} {e : ℕ} (g : Backing L heads links w bits b₁ b₂ e) (c : Caused L heads links)
    (lw : w < state_words) (l : e < get_or heads (w / node_words + 1) 0) where
  -- the part of the next link
  pub link_part : get_or links e 0 / max_predicates < L.parts
  link_part = let a = word_part w lw in c.parts (w / node_words) (get_or links e 0) (omega arith) (stands_first g.from l)

  pub back_again : {starts into : List ℕ} {b₃ : Board} → ListsFit L → ByObject L.triples L.nodes L.edges starts into → AllAlive L b₁.marked
      → AllMarked b₁.marked w bits
      → AddsOnly state_words (FromWord (w % node_words) bits (PartBack starts into L.tree L.next L.wanted b₂.marked (get_or links e 0 / max_predicates) (w / node_words))) b₂ b₃
      → Backing L heads links w bits b₁ b₃ (e + 1)
  back_again {starts} {into} {b₃} f b a k d = record {
    from = let h = g.from in omega arith;
    adds =
        adds_as {Y' = λ y. ⊥} (adds_then g.adds (adds_as {S' = StateAlive L} {Y' = λ y. ⊥} d sound (λ y x. absurd x))) (λ y x. x) (λ y x. absurd x);
    left = λ s i y h r x. ⊎_elim (λ z. inl (d.more y z)) (λ m. split s i y h x (stands_split m)) (g.left s i y h r x);
  }
    where
      part : ℕ
      part = get_or links e 0 / max_predicates

      sound : (y : ℕ) → FromWord (w % node_words) bits (PartBack starts into L.tree L.next L.wanted b₂.marked part (w / node_words)) y → StateAlive L y
      sound y x =
          let (p, n, v) = word_alive f b₁.marked a k lw x.from x.is in
          part_alive f b (adds_sound g.adds (StateAlive L) a (λ x h. h)) (w / node_words) x.from n v part y link_part x.leads

      one : (s i y : ℕ) → InWord w bits s → BackAt L b₁.marked s i y → part ≡ i → Marked b₃.marked y
      one s i y h x p =
          let m = of_block w bits s h in
          let n = (word_alive f b₁.marked a k lw (node_at s) m).1 in
          let t = back_part f b g.adds.more s part y n link_part (subst (λ z. BackAt L b₁.marked s z y) (sym p) x) in
          d.all y (record { from = node_at s; is = m; leads = subst (λ j. PartBack starts into L.tree L.next L.wanted b₂.marked part j (node_at s) y) (of_word w bits s h) t })

      split : (s i y : ℕ) → InWord w bits s → BackAt L b₁.marked s i y
          → (get_or links e 0 ≡ i * max_predicates) ⊎ Stands links (e + 1) (get_or heads (w / node_words + 1) 0) (i * max_predicates)
          → Marked b₃.marked y ⊎ Stands links (e + 1) (get_or heads (w / node_words + 1) 0) (i * max_predicates)
      split s i y h x (inl q) = inl (one s i y h x (omega arith))
      split s i y h x (inr m) = inr m

pub back_done : {L : Lists} {heads links : List ℕ} {w bits : ℕ} {b₁ b₂ : Board} {e : ℕ} → Backing L heads links w bits b₁ b₂ e → get_or heads (w / node_words + 1) 0 ≤ e
    → Adds state_words (StateAlive L) (FromWord w bits (BackTo L b₁.marked)) b₁ b₂
back_done g z = adds_for g.adds (λ y x. x) (λ y x. ⊎_elim (λ e. e) (λ m. absurd (stands_none z m)) (g.left x.from x.leads.part y x.is x.leads.is x.leads.back))

-- ---- word by word

-- The part j at the node m has been looked at.
pub record Passed (b : Board) (m j : ℕ) : Type 0 where
  pub inside : state j m < state_words * 64
  pub looked : Looked b (state j m)

-- What is marked is alive, and what the states that have been looked at make alive is marked.
pub record Growing (L : Lists) (b : Board) : Type 0 where
  pub marks : Table state_words b
  pub sound : AllAlive L b.marked
  pub ends : (n : ℕ) → n < L.nodes → Marked b.marked (state L.parts n)
  pub led : (x : ℕ) → x < state_words * 64 → Looked b x → (i n : ℕ) → i < L.parts → part_of L.tree i ≡ leaf → get_or L.next i 0 ≡ part_at x
      → Joins (numbered L) (leaf_at L i) n (node_at x) → Marked b.marked (state i n)
  pub turned : (i m : ℕ) → i < L.parts → m < L.nodes → Led (Passed b m) (get_or L.next i 0) (part_of L.tree i) → Marked b.marked (state i m)

module _ {L : Lists} (f : ListsFit L) where
  -- nothing is passed yet
  none_led : (B : ℕ → Type 0) → ((j : ℕ) → B j → ⊥) → (after : ℕ) (p : Part) → Led B after p → ⊥
  none_led B out after leaf x = x
  none_led B out after (test b) (x, y) = out b x
  none_led B out after (repeat b) (inl x) = out after x
  none_led B out after (repeat b) (inr x) = out b x
  none_led B out after (chain a b) x = out a x
  none_led B out after (either a b) (inl x) = out a x
  none_led B out after (either a b) (inr x) = out b x

  pub grow_start : {a b : Board} → Blank state_words a → AddsOnly state_words (EndAt L.nodes L.parts) a b → Growing L b
  grow_start {b = b} (u, z) a = record {
    marks = a.after;
    sound = adds_sound a (StateAlive L) (λ x l e. absurd (let z = u.none x l in omega arith))
        (λ y e. state_alive f L.parts e.node y (omega arith) e.is e.state ended);
    ends = λ n l. a.all (state L.parts n) (record { node = n; is = l; state = refl });
    led = λ x l h. absurd (none x l h);
    turned = λ i m l h x. absurd (none_led (Passed b m) (λ j p. none (state j m) p.inside p.looked) (get_or L.next i 0) (part_of L.tree i) x);
  }
    where
      none : (x : ℕ) → x < state_words * 64 → Looked b x → ⊥
      none x l h = let y = (a.looked x l h).is in let z = u.none x l in omega arith

  module _ {w bits : ℕ} {b c : Board} (g : Growing L b) (k : Takes state_words (InWord w bits) b c) where
    pub taken_alive : AllAlive L c.marked
    taken_alive x l e = g.sound x l (subst (λ t. Marked t x) k.marked e)

    pub taken_marked : AllMarked c.marked w bits
    taken_marked x h = subst (λ t. Marked t x) (sym k.marked) (turn_marked g.marks k x h)

    pub grow_again : {d : Board} → Adds state_words (StateAlive L) (FromWord w bits (BackTo L c.marked)) c d → Growing L d
    grow_again {d} a = record {
      marks = a.after;
      sound = adds_sound a (StateAlive L) taken_alive (λ x h. h);
      ends = λ n h. still (state L.parts n) (g.ends n h);
      led = λ x l h i n r e p j. by_leaf x i n l r e p j (turn_looked g.marks k a x l h);
      turned = λ i m r h x. by_part i m r h x (split_led m (get_or L.next i 0) (part_of L.tree i) x);
    }
      where
        still : (x : ℕ) → Marked b.marked x → Marked d.marked x
        still x e = a.more x (subst (λ t. Marked t x) (sym k.marked) e)

        all : (y : ℕ) → FromWord w bits (BackTo L b.marked) y → Marked d.marked y
        all y x = a.all y (subst (λ t. FromWord w bits (BackTo L t) y) (sym k.marked) x)

        by_leaf : (x i n : ℕ) → x < state_words * 64 → i < L.parts → part_of L.tree i ≡ leaf → get_or L.next i 0 ≡ part_at x
            → Joins (numbered L) (leaf_at L i) n (node_at x) → InWord w bits x ⊎ Looked b x → Marked d.marked (state i n)
        by_leaf x i n l r e p j (inl z) = all (state i n) (record { from = x; is = z; leads = record { part = i; is = r; back = leads n e p j refl } })
        by_leaf x i n l r e p j (inr h) = still (state i n) (g.led x l h i n r e p j)

        marked_now : (m j : ℕ) → Passed d m j → AliveAt b.marked m j
        marked_now m j p = ⊎_elim (turn_marked g.marks k (state j m)) (λ h. h.is) (turn_looked g.marks k a (state j m) p.inside p.looked)

        -- passed before, or one of the states that are passed now
        passed_split : (m j : ℕ) → Passed d m j → Passed b m j ⊎ InWord w bits (state j m)
        passed_split m j p = ⊎_elim (λ z. inr z) (λ h. inl (record { inside = p.inside; looked = h })) (turn_looked g.marks k a (state j m) p.inside p.looked)

        -- so what makes a part alive was passed before, or a state that is passed now touches it
        split_led : (m after : ℕ) (p : Part) → Led (Passed d m) after p → Led (Passed b m) after p ⊎ ((j : ℕ) × InWord w bits (state j m) × Touches after p j)
        split_led m after leaf x = absurd x
        split_led m after (test p) (x, y) = ⊎_elim (λ u. ⊎_elim (λ v. inl (u, v)) (λ v. inr (after, v, inr refl)) (passed_split m after y)) (λ u. inr (p, u, inl refl)) (passed_split m p x)
        split_led m after (repeat p) (inl x) = ⊎_elim (λ u. inl (inl u)) (λ u. inr (after, u, inl refl)) (passed_split m after x)
        split_led m after (repeat p) (inr x) = ⊎_elim (λ u. inl (inr u)) (λ u. inr (p, u, inr refl)) (passed_split m p x)
        split_led m after (chain p q) x = ⊎_elim (λ u. inl u) (λ u. inr (p, u, refl)) (passed_split m p x)
        split_led m after (either p q) (inl x) = ⊎_elim (λ u. inl (inl u)) (λ u. inr (p, u, inl refl)) (passed_split m p x)
        split_led m after (either p q) (inr x) = ⊎_elim (λ u. inl (inr u)) (λ u. inr (q, u, inr refl)) (passed_split m q x)

        by_part : (i m : ℕ) → i < L.parts → m < L.nodes → Led (Passed d m) (get_or L.next i 0) (part_of L.tree i)
            → Led (Passed b m) (get_or L.next i 0) (part_of L.tree i)
            ⊎ ((j : ℕ) × InWord w bits (state j m) × Touches (get_or L.next i 0) (part_of L.tree i) j) → Marked d.marked (state i m)
        by_part i m r h x (inl y) = still (state i m) (g.turned i m r h y)
        by_part i m r h x (inr (j, z, y)) =
            let q = f.graph.few_nodes in
            let u : m ≡ node_at (state j m) = sym (state_node j m (state j m) (omega arith) refl) in
            let v : j ≡ part_at (state j m) = sym (state_part j m (state j m) (omega arith) refl) in
            all (state i m) (record {
              from = state j m;
              is = z;
              leads = record {
                part = i;
                is = r;
                back = turns (subst (λ y. Led (AliveAt b.marked y) (get_or L.next i 0) (part_of L.tree i)) u
                    (led_more f (Passed d m) (AliveAt b.marked m) (marked_now m) (get_or L.next i 0) (part_of L.tree i) x))
                    (subst (Touches (get_or L.next i 0) (part_of L.tree i)) v y) (ap (λ y. state i y) u);
              };
            })

  -- Nothing waits: the marked states are saturated.
  module _ {b : Board} (g : Growing L b) (done : b.top ≡ 0) where
    abbrev MarkedAt : ℕ → ℕ → Type 0
    MarkedAt i n = n < L.nodes → Marked b.marked (state i n)

    passed : (i n : ℕ) → i ≤ L.parts → n < L.nodes → MarkedAt i n → Passed b n i
    passed i n l h m =
        let p = f.query.few in
        let q = f.graph.few_nodes in
        let r = state_inside i n (omega arith) (omega arith) in
        record { inside = r; looked = all_looked g.marks done (state i n) r (m h) }

    step_back : (i j n m : ℕ) → i < L.parts → StepBy (numbered L) (part_of L.tree) (leaf_at L) (listed L.next) L.parts MarkedAt
        (part_of L.tree i) i n j m → MarkedAt j m → MarkedAt i n
    step_back i j n m l s v h = go (part_of L.tree i) refl s
      where
        own : (p : Part) → part_of L.tree i ≡ p → (c : ℕ) → Child p c → c ≤ L.parts
        own p e c y = let z = f.query.before i c l (subst (λ q. Child q c) (sym e) y) in omega arith

        up : (c : ℕ) → c ≤ L.parts → MarkedAt c n → Passed b n c
        up c r x = passed c n r h x

        here : (j ≡ j) → n ≡ m → MarkedAt j n
        here e p = subst (λ x. MarkedAt j x) (sym p) v

        by : (p : Part) → part_of L.tree i ≡ p → Led (Passed b n) (get_or L.next i 0) p → Marked b.marked (state i n)
        by p e x = g.turned i n l h (subst (λ q. Led (Passed b n) (get_or L.next i 0) q) (sym e) x)

        after : (j ≡ get_or L.next i 0) → n ≡ m → Passed b n (get_or L.next i 0)
        after q p = up (get_or L.next i 0) (f.query.onward i l) (subst (λ x. MarkedAt x n) q (here refl p))

        go : (p : Part) → part_of L.tree i ≡ p → StepBy (numbered L) (part_of L.tree) (leaf_at L) (listed L.next) L.parts MarkedAt p i n j m → Marked b.marked (state i n)
        go leaf e (q, x) =
            let d = leaf_to f.graph (leaf_says L i n m (leaf_kind f i l e) x) in
            let z = f.graph.few_nodes in
            let w = passed (get_or L.next i 0) m (f.query.onward i l) d (subst (λ y. MarkedAt y m) q v) in
            g.led (state (get_or L.next i 0) m) w.inside w.looked i n l e (sym (state_part (get_or L.next i 0) m (state (get_or L.next i 0) m) (omega arith) refl))
            (subst (λ y. Joins (numbered L) (leaf_at L i) n y) (sym (state_node (get_or L.next i 0) m (state (get_or L.next i 0) m) (omega arith) refl)) x)
        go (test c) e (q, p, x) = by (test c) e (up c (own (test c) e c refl) x, after q p)
        go (repeat c) e (p, inl (q, x)) = by (repeat c) e (inl (after q p))
        go (repeat c) e (p, inr q) = by (repeat c) e (inr (up c (own (repeat c) e c refl) (subst (λ x. MarkedAt x n) q (here refl p))))
        go (chain c d) e (p, q) = by (chain c d) e (up c (own (chain c d) e c (inl refl)) (subst (λ x. MarkedAt x n) q (here refl p)))
        go (either c d) e (p, inl q) = by (either c d) e (inl (up c (own (either c d) e c (inl refl)) (subst (λ x. MarkedAt x n) q (here refl p))))
        go (either c d) e (p, inr q) = by (either c d) e (inr (up d (own (either c d) e d (inr refl)) (subst (λ x. MarkedAt x n) q (here refl p))))

    saturated : Saturated (numbered L) (part_of L.tree) (leaf_at L) (listed L.next) L.parts MarkedAt
    saturated = record { ends = g.ends; back = λ i j n m s b. step_back i j n m s.0 s.1 b }

    pub grow_done : Living L b.marked
    grow_done = record {
      long = g.marks.long;
      alive = λ i n l h. (
        (λ e. alive_at f b.marked g.sound n i h l e),
        (λ a. alive_least (numbered L) (part_of L.tree) (leaf_at L) (listed L.next) L.parts MarkedAt saturated a h),
      );
    }

-- ---- whether the root is alive somewhere

pub some_yes : {L : Lists} {table : List ℕ} → 0 < L.parts → Living L table → (r : Bool) → SomeAt r table L.nodes (L.parts - 1) → Yes r L
some_yes {L} p v true (n, l, e) = (n, l, (v.alive (L.parts - 1) n (omega arith) l).0 e)
some_yes {L} p v false none = λ n l a. none n l ((v.alive (L.parts - 1) n (omega arith) l).1 a)

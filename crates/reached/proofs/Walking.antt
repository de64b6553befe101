-- The states at named nodes that are marked grow until they are those that are reached. Assumes nothing.
use lib.ListN.{length}
use mathlib.Core.List.{List}
use mathlib.Core.Logic.{⊎_elim}
use mathlib.Core.Path.{refl, subst, sym, ◌≡◌}
use native.Mathlib.Omega.{arith}
use Prim.Native.Nat.{ℕ, ◌*◌, ◌-◌, ◌<◌, ◌≤◌}
use Rattle.meaning.specs.Limits.{seen_words}
use Rattle.forward.specs.Seen.{seen_node, seen_part, seen_state}
use Rattle.forward.specs.Steps.{StateIn, StepFrom}
use Rattle.forward.specs.Ready.{WalkReady}
use Rattle.reached.specs.Walked.{Walked}
use Rattle.forward.proofs.SeenNumbers.{part_below, seen_inside, seen_node_lem, seen_part_lem}
use Rattle.forward.proofs.Stepping.{step_in, step_named}
use Rattle.states.specs.Lists.{Lists, ReachedIn, StepIn}
use Rattle.walk.specs.Walk.{onward, start}
use Rattle.worklist.proofs.Growth.{adds_sound, all_looked, turn_looked, turn_marked}
use Rattle.worklist.proofs.Stack.{stacked_as}
use Rattle.worklist.specs.Table.{AddsOnly, Blank, Board, FromWord, InWord, Looked, Marked, Same, Stacked, Table, Takes}

-- The number x is a state at a named node that is reached.
pub record StateReached (L : Lists) (named v x : ℕ) : Type 0 where
  pub is : StateIn L named x
  pub reached : ReachedIn L v (seen_part x) (seen_node x)

-- The marked states are reached, and what those that have been looked at lead to is marked.
pub record Walking (L : Lists) (named v : ℕ) (b : Board) : Type 0 where
  pub marks : Table seen_words b
  pub begun : Marked b.marked (seen_state (L.parts - 1) v)
  pub sound : (x : ℕ) → x < seen_words * 64 → Marked b.marked x → StateReached L named v x
  pub closed : (x : ℕ) → x < seen_words * 64 → Looked b x → (y : ℕ) → StepFrom L named x y → Marked b.marked y

module _ {L : Lists} {named : ℕ} {own index alive : List ℕ} (f : WalkReady L named own index alive) {v : ℕ} where
  state_reached : (i n y : ℕ) → i ≤ L.parts → n < named → y ≡ seen_state i n → ReachedIn L v i n → StateReached L named v y
  state_reached i n y l h e a =
      let q = f.few in
      let u = seen_part_lem i n y (omega arith) e in
      let w = seen_node_lem i n y (omega arith) e in
      record {
        is = record { part = omega arith; node = omega arith };
        reached = subst (λ x. ReachedIn L v x (seen_node y)) (sym u) (subst (λ x. ReachedIn L v i x) (sym w) a);
      }

  pub walk_start : {a b : Board} → v < named → Blank seen_words a → AddsOnly seen_words (λ y. y ≡ seen_state (L.parts - 1) v) a b → Walking L named v b
  walk_start h u d = record {
    marks = d.after;
    begun = d.all (seen_state (L.parts - 1) v) refl;
    sound = adds_sound d (StateReached L named v) (λ x l e. absurd (let z = u.0.none x l in omega arith)) (λ x e. state_reached (L.parts - 1) v x (omega arith) h e start);
    closed = λ x l e. absurd (let y = (d.looked x l e).is in let z = u.0.none x l in omega arith);
  }

  -- The states of a word are looked at.
  module _ {w bits : ℕ} {b c : Board} (g : Walking L named v b) (k : Takes seen_words (InWord w bits) b c) where
    pub now_reached : (x : ℕ) → InWord w bits x → StateReached L named v x
    now_reached x t = g.sound x (k.inside x t) (turn_marked g.marks k x t)

    -- what was marked still is
    still : (x : ℕ) → Marked b.marked x → Marked c.marked x
    still x h = subst (λ m. Marked m x) (sym k.marked) h

    pub walk_again : {d : Board} → AddsOnly seen_words (FromWord w bits (StepFrom L named)) c d → Walking L named v d
    walk_again a = record {
      marks = a.after;
      begun = a.more (seen_state (L.parts - 1) v) (still (seen_state (L.parts - 1) v) g.begun);
      sound = adds_sound a (StateReached L named v) (λ x l e. g.sound x l (subst (λ m. Marked m x) k.marked e)) from;
      closed = λ x l h y s. ⊎_elim (λ t. a.all y (record { from = x; is = t; leads = s })) (λ e. a.more y (still y (g.closed x l e y s))) (turn_looked g.marks k a x l h);
    }
      where
        from : (y : ℕ) → FromWord w bits (StepFrom L named) y → StateReached L named v y
        from y x =
            let s = now_reached x.from x.is in
            let r = x.leads in
            let n = f.nodes in
            let m = s.is.node in
            let c = step_in f.fits {n = seen_node x.from} (omega arith) r.step in
            state_reached r.part r.node y c.0 r.is_named r.state (onward s.reached r.step)

  module _ {b : Board} (h : v < named) (g : Walking L named v b) (done : b.top ≡ 0) where
    inside : (i n : ℕ) → i ≤ L.parts → n < named → seen_state i n < seen_words * 64
    inside i n a c = let p = f.fits.query.few in let q = f.few in seen_inside i n (omega arith) (omega arith)

    -- what is reached at a named node was reached through named nodes
    every : {i n : ℕ} → ReachedIn L v i n → n < named → (i ≤ L.parts) × Marked b.marked (seen_state i n)
    every start l = (omega arith, g.begun)
    every (onward {j = j} {k = i} {m = m} {o = n} r s) l =
        let c = step_named f.fits j i m n f.inward s l in
        let (a, e) = every r c in
        let q = f.few in
        let t = f.nodes in
        let u = seen_part_lem j m (seen_state j m) (omega arith) refl in
        let x = seen_node_lem j m (seen_state j m) (omega arith) refl in (
          (step_in f.fits {n = m} (omega arith) s).0,
          g.closed (seen_state j m) (inside j m a c) (all_looked g.marks done (seen_state j m) (inside j m a c) e) (seen_state i n)
              (record {
                part = i;
                node = n;
                is_named = l;
                step = subst (λ d. StepIn L d (seen_node (seen_state j m)) i n) (sym u) (subst (λ d. StepIn L j d i n) (sym x) s);
                state = refl;
              }),
        )

    only : (i n : ℕ) → i ≤ L.parts → n < named → Marked b.marked (seen_state i n) → ReachedIn L v i n
    only i n a c e =
        let q = f.few in
        let r = (g.sound (seen_state i n) (inside i n a c) e).reached in
        subst (λ x. ReachedIn L v x n) (seen_part_lem i n (seen_state i n) (omega arith) refl)
        (subst (λ x. ReachedIn L v (seen_part (seen_state i n)) x) (seen_node_lem i n (seen_state i n) (omega arith) refl) r)

    walk_done : Walked L named v b.marked
    walk_done = record {
      reached = λ i n a c. (only i n a c, λ r. (every r c).1);
      within = λ x l e. part_below x L.parts (g.sound x l e).is.part;
    }

    -- what the code then has
    pub walk_ended : {c : Board} → c ≡ b → Walked L named v c.marked × (seen_words ≤ length c.marked) × Stacked seen_words c.waiting c.stack 0 × (c.top ≡ 0)
    walk_ended e =
        subst (λ (d : Board). Walked L named v d.marked × (seen_words ≤ length d.marked) × Stacked seen_words d.waiting d.stack 0 × (d.top ≡ 0)) (sym e)
        (walk_done, g.marks.long, stacked_as done g.marks.stacked, done)

    -- and of the lists that were lent
    pub walk_ended_lent : {a c : Board} → Same a b → c ≡ b
        → Walked L named v c.marked × (seen_words ≤ length c.marked) × Stacked seen_words c.waiting c.stack 0 × (c.top ≡ 0) × Same a c
    walk_ended_lent {a} s e = let (w, l, k, t) = walk_ended e in (w, l, k, t, subst (Same a) (sym e) s)

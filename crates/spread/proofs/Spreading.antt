-- Types passed along one triple, along all in a round, and round by round until nothing is added. Assumes nothing.
use lib.Bits.{bit_or, and_le_r, or_add_and, or_lt}
use lib.ListN.{length, length-reverse, get_or, set, take}
use lib.Seq.{get_or-set_same, get_or-set_other, set-get_or, take_all, take-suc}
use mathlib.Core.Bool.{Bool, true, false, ◌||◌, true≢false}
use Rattle.std.proofs.Math.Bool.{or-true, or-false}
use mathlib.Core.List.{List, [], ◌∷◌, ◌++◌}
use mathlib.Core.Logic.{◌↔◌, ◌⊎◌, inl, inr}
use mathlib.Core.Path.{◌≡◌, refl, sym, ap, ◌∙◌, subst}
use native.Mathlib.Decide.{ℕ_discrete}
use native.Mathlib.Nat.{not-suc-le-zero, le_of_suc-le-suc}
use native.Mathlib.Numerals.{add-one}
use native.Mathlib.Omega.{arith}
use Prim.Native.Nat.{ℕ, zero, suc, ◌+◌, ◌*◌, ◌^◌, ◌≤◌, ◌<◌, zero-le}
use Rattle.spread.specs.Keys.{object_of, predicate_of, subject_of}
use Rattle.spread.proofs.Rounds.{rounds_least, settled}
use Rattle.spread.proofs.Walks.{walk_keeps, walk_on}
use Rattle.spread.specs.Rounds.{Rounds, RoundOn, RoundsMadeOn, SomeAdded, TriplesWalked, done, in_turn, last, more, turn_at}
use Rattle.spread.specs.Spread.{Carried, PassShown, PassedOnce, Passes, SpreadFrom, mask_room}
use Rattle.meaning.specs.Limits.{max_core_nodes}
use Rattle.meaning.specs.Pack.{Setting, Shape, Target, type}
use Rattle.meaning.specs.Tables.{set_of_mask}
use Rattle.meaning.specs.TypeSet.{◌∈ₜ◌}
use Rattle.shapes.proofs.Sets.{new_member, none_in, union_in}
use Rattle.shapes.specs.Shapes.{SomeShape, Tabled, TargetsOf}
use Rattle.sets.proofs.Progress.{nearer}
use Rattle.sets.specs.Buffers.{zeros}
use Rattle.sets.specs.Progress.{Progress}
use Rattle.meaning.proofs.Lists.Places.{reverse_at, zeros_at}

-- ---- one triple

or_ge : (a b : ℕ) → a ≤ bit_or a b
or_ge a b = omega (arith, or_add_and a b, and_le_r a b)

-- a larger mask leaves less mask_room
room_set : (ms : List ℕ) (o v : ℕ) → o < length ms → get_or ms o 0 < v → v < 2 ^ 16 → mask_room (set ms o v) < mask_room ms
room_set [] o v h l r = absurd (not-suc-le-zero h)
room_set (m ∷ ms) zero v h l r = omega arith
room_set (m ∷ ms) (suc o) v h l r = let k : mask_room (set ms o v) < mask_room ms = room_set ms o v (le_of_suc-le-suc h) l r in omega arith

module _ (table : List (List ℕ)) (k t : ℕ) (d : List ℕ) (l : object_of k < length d) (a : get_or d (object_of k) 0 < 2 ^ 16) (b : t < 2 ^ 16)
    (f : TargetsOf table (get_or d (subject_of k) 0) (predicate_of k) t) where
  abbrev new : ℕ
  new = bit_or (get_or d (object_of k) 0) t

  module _ (S : Setting) (tab : Tabled S table) where
    pub pass_more : PassedOnce S k d (set d (object_of k) new)
    pass_more i R = go (ℕ_discrete i (object_of k))
      where
        go : Dec (i ≡ object_of k) → (R ∈ₜ set_of_mask (get_or (set d (object_of k) new) i 0)) ↔ ((R ∈ₜ set_of_mask (get_or d i 0)) ⊎ Passes S d k i R)
        go (yes e) = rw (e, get_or-set_same d (object_of k) new 0 l) (λ h. forth ((union_in R (get_or d (object_of k) 0) t a b).0 h), λ h. (union_in R (get_or d (object_of k) 0) t a b).1 (back h))
          where
            forth : (R ∈ₜ set_of_mask (get_or d (object_of k) 0)) ⊎ (R ∈ₜ set_of_mask t) → (R ∈ₜ set_of_mask (get_or d (object_of k) 0)) ⊎ Passes S d k (object_of k) R
            forth (inl h) = inl h
            forth (inr h) = inr (record { to = refl; shape = (f S tab R).0 h })

            back : (R ∈ₜ set_of_mask (get_or d (object_of k) 0)) ⊎ Passes S d k (object_of k) R → (R ∈ₜ set_of_mask (get_or d (object_of k) 0)) ⊎ (R ∈ₜ set_of_mask t)
            back (inl h) = inl h
            back (inr p) = inr ((f S tab R).1 p.shape)
        go (no n) = rw (get_or-set_other d (object_of k) i new 0 n) (inl, back)
          where
            back : (R ∈ₜ set_of_mask (get_or d i 0)) ⊎ Passes S d k i R → R ∈ₜ set_of_mask (get_or d i 0)
            back (inl h) = h
            back (inr p) = absurd (n p.to)

    pub pass_same : new ≡ get_or d (object_of k) 0 → PassedOnce S k d d
    pass_same e = let same : set d (object_of k) new ≡ d = rw e (set-get_or d (object_of k) 0) in subst (PassedOnce S k d) same pass_more

  pub pass_adds : (new ≡ get_or d (object_of k) 0 → ⊥) → SomeAdded d (set d (object_of k) new)
  pass_adds n =
      let (R, h, g) = new_member (get_or d (object_of k) 0) t a b n in
      ((object_of k, R), record { has = rw (get_or-set_same d (object_of k) new 0 l) h; had_not = g })

  pub pass_nearer : (new ≡ get_or d (object_of k) 0 → ⊥) → mask_room (set d (object_of k) new) < mask_room d
  pass_nearer n = room_set d (object_of k) new l (omega (arith, n, or_ge (get_or d (object_of k) 0) t)) (or_lt 16 (get_or d (object_of k) 0) t a b)

-- ---- what passed last

-- the empty set has no members
no_shape : {S : Setting} {p : ℕ} {Q : Shape → Type 0} → SomeShape S 0 p Q → ⊥
no_shape s = none_in (type s.member) s.has

-- an entry has what is written to it, or is past the end
written : (l : List ℕ) (i v : ℕ) → (get_or (set l i v) i 0 ≡ v) ⊎ (get_or (set l i v) i 0 ≡ 0)
written [] i v = inr refl
written (x ∷ l) zero v = inl refl
written (x ∷ l) (suc i) v = written l i v

module _ {S : Setting} {triples passed d : List ℕ} (car : Carried S triples passed d) (i : ℕ) (h : i < length triples) where
  abbrev triple : ℕ
  triple = get_or triples i 0

  -- the same types again add nothing
  pub pass_skip : get_or passed i 0 ≡ get_or d (subject_of triple) 0 → PassedOnce S triple d d
  pass_skip e j R = (inl, back)
    where
      back : (R ∈ₜ set_of_mask (get_or d j 0)) ⊎ Passes S d triple j R → R ∈ₜ set_of_mask (get_or d j 0)
      back (inl m) = m
      back (inr p) = rw p.to (car.held i h R (rw e p.shape))

  pub pass_carried : {d' : List ℕ} → PassedOnce S triple d d' → Carried S triples (set passed i (get_or d (subject_of triple) 0)) d'
  pass_carried {d'} p = record { held = λ j hj R s. go j hj R s (ℕ_discrete j i) }
    where
      from : ℕ
      from = get_or d (subject_of triple) 0

      here : (x : ℕ) (R : Target) → (x ≡ from) ⊎ (x ≡ 0) → SomeShape S x (predicate_of triple) (λ t. t.target ≡ R) → R ∈ₜ set_of_mask (get_or d' (object_of triple) 0)
      here x R (inl e) q = (p (object_of triple) R).1 (inr (record { to = refl; shape = rw e at q }))
      here x R (inr e) q = absurd (no_shape (rw e at q))

      go : (j : ℕ) → j < length triples → (R : Target) → SomeShape S (get_or (set passed i from) j 0) (predicate_of (get_or triples j 0)) (λ t. t.target ≡ R)
          → Dec (j ≡ i) → R ∈ₜ set_of_mask (get_or d' (object_of (get_or triples j 0)) 0)
      go j hj R s (yes e) = rw e (here (get_or (set passed i from) i 0) R (written passed i from) (rw e at s))
      go j hj R s (no n) = (p (object_of (get_or triples j 0)) R).1 (inl (car.held j hj R (rw (get_or-set_other passed i j from 0 n) at s)))

-- nothing has passed
carried_start : (S : Setting) (triples d : List ℕ) (n : ℕ) → Carried S triples (zeros n) d
carried_start S triples d n = record { held = λ i h R s. absurd (no_shape (rw (zeros_at n i) at s)) }

-- ---- one round: the first i turns are taken

record TurnsTaken (S : Setting) (triples : List ℕ) (back : Bool) (i : ℕ) (changed : Bool) (p d₀ d : List ℕ) : Type 0 where
  walked : TriplesWalked S (take i (in_turn back triples)) d₀ d
  carried : Carried S triples p d
  added : changed ≡ true → SomeAdded d₀ d

pub record RoundDone (table : List (List ℕ)) (triples : List ℕ) (back : Bool) (i : ℕ) (changed : Bool) (p₀ p d₀ d : List ℕ) : Type 0 where
  pub within : i ≤ length triples
  pub long : length d ≡ length d₀
  turns : (S : Setting) → Tabled S table → Carried S triples p₀ d₀ → TurnsTaken S triples back i changed p d₀ d
  pub progress : Progress mask_room changed d₀ d

pub round_start : (table : List (List ℕ)) (triples : List ℕ) (back : Bool) (p d : List ℕ) → RoundDone table triples back 0 false p p d d
round_start table triples back p d = record {
  within = zero-le;
  long = refl;
  turns = λ S tab car. record { walked = done; carried = car; added = λ e. absurd (true≢false (sym e)) };
  progress = refl;
}

-- as many turns as triples
turns_long : (triples : List ℕ) (back : Bool) → length (in_turn back triples) ≡ length triples
turns_long triples false = refl
turns_long triples true = length-reverse triples

-- the triple of a turn
module _ (triples : List ℕ) (i : ℕ) (h : i < length triples) where
  pub turn_inside : (back : Bool) → turn_at back (length triples) i < length triples
  turn_inside false = h
  turn_inside true = omega arith

  turn_key : (back : Bool) → get_or (in_turn back triples) i 0 ≡ get_or triples (turn_at back (length triples) i) 0
  turn_key false = refl
  turn_key true = reverse_at triples i 0 h

  turn_more : (back : Bool) → take (i + 1) (in_turn back triples) ≡ take i (in_turn back triples) ++ (get_or triples (turn_at back (length triples) i) 0 ∷ [])
  turn_more back =
      ap (λ k. take k (in_turn back triples)) (add-one i) ∙ take-suc (in_turn back triples) i 0 (omega (arith, turns_long triples back))
      ∙ ap (λ k. take i (in_turn back triples) ++ (k ∷ [])) (turn_key back)

module _ {table : List (List ℕ)} {triples : List ℕ} {back : Bool} {i : ℕ} {changed : Bool} {p₀ p d₀ d : List ℕ}
    (r : RoundDone table triples back i changed p₀ p d₀ d) (h : i < length triples) (at : ℕ) (turn : at ≡ turn_at back (length triples) i) where
  here_inside : at < length triples
  here_inside = rw turn (turn_inside triples i h back)

  abbrev key : ℕ
  key = get_or triples at 0

  abbrev from : ℕ
  from = get_or d (subject_of key) 0

  walk_more : {S : Setting} {d' : List ℕ} → TriplesWalked S (take i (in_turn back triples)) d₀ d → PassedOnce S key d d' → TriplesWalked S (take (i + 1) (in_turn back triples)) d₀ d'
  walk_more {S} {d'} w q =
      let e = turn_more triples i h back ∙ ap (λ k. take i (in_turn back triples) ++ (get_or triples k 0 ∷ [])) (sym turn) in
      subst (λ (ks : List ℕ). TriplesWalked S ks d₀ d') (sym e) (walk_on w q)

  pub round_skip : get_or p at 0 ≡ from → RoundDone table triples back (i + 1) changed p₀ p d₀ d
  round_skip e = record {
    within = omega arith;
    long = r.long;
    turns = λ S tab car. let o = r.turns S tab car in
        record { walked = walk_more o.walked (pass_skip o.carried at here_inside e); carried = o.carried; added = o.added };
    progress = r.progress;
  }

  module _ (d' : List ℕ) (s : PassShown table key d d') (l : length d' ≡ length d) where
    round_hit : Progress mask_room true d d' → SomeAdded d d' → RoundDone table triples back (i + 1) true p₀ (set p at from) d₀ d'
    round_hit n (f, x) = record {
      within = omega arith;
      long = l ∙ r.long;
      turns = λ S tab car. let o = r.turns S tab car in record {
        walked = walk_more o.walked (s S tab);
        carried = pass_carried o.carried at here_inside (s S tab);
        added = λ e. (f, record { has = x.has; had_not = λ m. x.had_not (walk_keeps o.walked f.0 f.1 m) });
      };
      progress = nearer mask_room changed d₀ d d' r.progress n;
    }

    round_miss : Progress mask_room false d d' → RoundDone table triples back (i + 1) changed p₀ (set p at from) d₀ d'
    round_miss e = subst (RoundDone table triples back (i + 1) changed p₀ (set p at from) d₀) (sym e) (record {
      within = omega arith;
      long = r.long;
      turns = λ S tab car. let o = r.turns S tab car in record {
        walked = walk_more o.walked (subst (PassedOnce S key d) e (s S tab));
        carried = subst (Carried S triples (set p at from)) e (pass_carried o.carried at here_inside (s S tab));
        added = o.added;
      };
      progress = r.progress;
    })

  -- what was added so far, and now
  pub round_on : (b : Bool) (d' : List ℕ) → PassShown table key d d' → length d' ≡ length d → Progress mask_room b d d' → (b ≡ true → SomeAdded d d')
      → RoundDone table triples back (i + 1) (changed || b) p₀ (set p at from) d₀ d'
  round_on true d' s l n f = rw (or-true changed) (round_hit d' s l n (f refl))
  round_on false d' s l e f = rw (or-false changed) (round_miss d' s l e)

pub round_done : {table : List (List ℕ)} {triples : List ℕ} {back : Bool} {i : ℕ} {changed : Bool} {p₀ p d₀ d : List ℕ}
    → RoundDone table triples back i changed p₀ p d₀ d → length triples ≤ i → RoundOn table triples back changed p₀ p d₀ d
round_done {triples = triples} {back} {i} {d₀ = d₀} {d} r h S tab car =
    let o = r.turns S tab car in
    record {
      walked = subst (λ (ks : List ℕ). TriplesWalked S ks d₀ d) (take_all i (in_turn back triples) (omega (arith, turns_long triples back))) o.walked;
      carried = o.carried;
      added = o.added;
    }

-- ---- round by round: so many are made, each of which added something

pub record Spreading (table : List (List ℕ)) (triples : List ℕ) (rounds : ℕ) (p d₀ d : List ℕ) : Type 0 where
  pub long : length d ≡ length d₀
  carried : (S : Setting) → Tabled S table → Carried S triples p d
  so_far : (S : Setting) → Tabled S table → {n : ℕ} {c : List ℕ} → Rounds S triples n d c → Rounds S triples (n + rounds) d₀ c
  pub room : rounds + mask_room d ≤ mask_room d₀

pub spread_start : (table : List (List ℕ)) (triples d : List ℕ) (n : ℕ) → Spreading table triples 0 (zeros n) d d
spread_start table triples d n = record {
  long = refl;
  carried = λ S tab. carried_start S triples d n;
  so_far = λ S tab {n} {c} r. subst (λ k. Rounds S triples k d c) (omega arith) r;
  room = omega arith;
}

-- no overflow
room_most : (d : List ℕ) → mask_room d ≤ 65535 * length d
room_most [] = omega arith
room_most (m ∷ ms) = omega (arith, room_most ms)

module _ {table : List (List ℕ)} {triples : List ℕ} {rounds : ℕ} {p d₀ d : List ℕ} (s : Spreading table triples rounds p d₀ d) where
  pub rounds_few : length d₀ ≡ max_core_nodes → rounds ≤ 65535 * max_core_nodes
  rounds_few e = let r : mask_room d₀ ≤ 65535 * max_core_nodes = rw e at (room_most d₀) in omega (arith, s.room)

  module _ {p' d' : List ℕ} {back changed : Bool} (l : length d' ≡ length d) (r : RoundOn table triples back changed p p' d d') where
    pub spread_again : changed ≡ true → mask_room d' < mask_room d → Spreading table triples (rounds + 1) p' d₀ d'
    spread_again some less = record {
      long = l ∙ s.long;
      carried = λ S tab. (r S tab (s.carried S tab)).carried;
      so_far = so_far;
      room = let k = s.room in omega arith;
    }
      where
        so_far : (S : Setting) → Tabled S table → {n : ℕ} {c : List ℕ} → Rounds S triples n d' c → Rounds S triples (n + (rounds + 1)) d₀ c
        so_far S tab {n} {c} q =
            let o = r S tab (s.carried S tab) in
            subst (λ k. Rounds S triples k d₀ c) (omega arith) (s.so_far S tab (more (record { back = back; walked = o.walked }) (o.added some).1 q))

    -- after a round that adds nothing these are all
    pub all_made : d' ≡ d → (S : Setting) → Tabled S table → Rounds S triples (rounds + 1) d₀ d'
    all_made e S tab =
        let o = r S tab (s.carried S tab) in
        subst (λ k. Rounds S triples k d₀ d') (omega arith)
        (s.so_far S tab (last (record { back = back; walked = o.walked }) (λ f x. x.had_not (subst (λ (m : List ℕ). f.1 ∈ₜ set_of_mask (get_or m f.0 0)) e x.has))))

pub spread_done : {table : List (List ℕ)} {triples : List ℕ} {rounds : ℕ} {d₀ d : List ℕ} → ((S : Setting) → Tabled S table → Rounds S triples rounds d₀ d)
    → SpreadFrom table triples d₀ d × RoundsMadeOn table triples rounds d₀ d
spread_done made = (λ S tab. rounds_least (made S tab), λ S tab. settled (made S tab))

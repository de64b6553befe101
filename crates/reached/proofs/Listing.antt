-- Listing the pairs in ascending order, start by start. Assumes nothing.
use borrow.Author.Tests.{eq-eqb, eqb-true, ne_eqb}
use lib.Count.{count_trailing_zeros}
use lib.Dec.{eqb}
use lib.ListN.{get_or, length, length-append, set, take}
use lib.Pow.{shr-shr}
use lib.Seq.{length-take-le, take-suc-set}
use mathlib.Core.List.{List, [], append_assoc, append-nil, ◌++◌, ◌∷◌}
use mathlib.Core.Path.{ap, refl, subst, sym, ◌∙◌, ◌≡◌}
use native.Mathlib.Decide.{dec_lt, ℕ_discrete}
use native.Mathlib.Numerals.{add-one}
use native.Mathlib.Omega.{arith}
use Prim.Native.Nat.{suc, zero, ℕ, ◌%◌, ◌*◌, ◌+◌, ◌-◌, ◌/◌, ◌<◌, ◌^◌, ◌≤◌}
use Rattle.states.specs.Fits.{ListsFit}
use Rattle.states.specs.Lists.{AliveIn, Lists, ReachedIn, leaf_at, numbered}
use Rattle.states.specs.Living.{Living}
use Rattle.reached.specs.Walked.{EndsAre, ListedBelow, ListedUpTo, PairIn, PairsAre, Walked, ends_from, has_state}
use Rattle.reached.specs.declared.pairs.TooMany.{TooMany}
use Rattle.std.specs.Prelude.{Err, Ok, Result}
use Rattle.reached.specs.Keys.{pair_key}
use Rattle.forward.specs.Seen.{seen_state}
use Rattle.meaning.specs.Limits.{max_core_nodes, max_nodes, max_pairs, named_words}
use Rattle.meaning.proofs.Lists.Bits.{bit_shift, mask_lt, zero_bits}
use Rattle.meaning.proofs.Lists.Lowest.{Lowest, lowest}
use Rattle.meaning.proofs.Lists.Masks.{bit_small}
use Rattle.meaning.specs.Member.{here, there, ◌∈◌}
use Rattle.meaning.specs.Ordered.{InOrder, ListOf, before, empty}
use Rattle.states.specs.State.{state}
use Rattle.meaning.specs.TypeSet.{bit}
use Rattle.worklist.specs.Table.{Marked, mark}
use Rattle.walk.proofs.Alive.{alive_saturated}
use Rattle.walk.specs.Parts.{listed, part_of}
use Rattle.walk.specs.Walk.{ended, onward, start}
use mathlib.Core.Bool.{Bool, false, true}
use Rattle.meaning.proofs.Cases.{true_false}
use Rattle.meaning.proofs.Lists.Listing.{list_append, list_none, list_over, list_skip}

-- ---- one start, end by end

module _ (seen : List ℕ) (part start : ℕ) where
  ends_hit : (e f : ℕ) → has_state seen part e ≡ true → ends_from seen part start e (suc f) ≡ (pair_key start e) ∷ ends_from seen part start (suc e) f
  unfolding ends_from
  ends_hit e f h = rw h

  ends_miss : (e f : ℕ) → has_state seen part e ≡ false → ends_from seen part start e (suc f) ≡ ends_from seen part start (suc e) f
  unfolding ends_from
  ends_miss e f h = rw h

  ends_none : (e : ℕ) → ends_from seen part start e 0 ≡ []
  unfolding ends_from
  ends_none e = refl

-- No end from e on, before e + d.
ends_pass : (seen : List ℕ) (part v named e d : ℕ) → ((x : ℕ) → e ≤ x → x < e + d → has_state seen part x ≡ false)
    → ends_from seen part v e (named - e) ≡ ends_from seen part v (e + d) (named - (e + d))
ends_pass seen part v named e zero none = let p : e ≡ e + 0 = omega arith in ap (λ x. ends_from seen part v x (named - x)) p
ends_pass seen part v named e (suc d) none =
    one (dec_lt e named)
    ∙ ends_pass seen part v named (suc e) d (λ x l h. none x (omega arith) (omega arith))
    ∙ (let p : suc e + d ≡ e + suc d = omega arith in ap (λ x. ends_from seen part v x (named - x)) p)
  where
    one : Dec (e < named) → ends_from seen part v e (named - e) ≡ ends_from seen part v (suc e) (named - suc e)
    one (yes l) =
        let p : named - e ≡ suc (named - suc e) = omega arith in
        ap (ends_from seen part v e) p ∙ ends_miss seen part v e (named - suc e) (none e (omega arith) (omega arith))
    one (no l) =
        let p : named - e ≡ 0 = omega arith in
        let q : named - suc e ≡ 0 = omega arith in
        ap (ends_from seen part v e) p ∙ ends_none seen part v e ∙ sym (ends_none seen part v (suc e)) ∙ ap (ends_from seen part v (suc e)) (sym q)

-- What is listed, and what is still to come from the end e on.
pub record Ends (seen : List ℕ) (part start named : ℕ) (pairs₀ : List ℕ) (k₀ : ℕ) (pairs : List ℕ) (k e : ℕ) : Type 0 where
  pub few : k ≤ max_pairs
  pub are : take k pairs ++ ends_from seen part start e (named - e) ≡ take k₀ pairs₀ ++ ends_from seen part start 0 named

module _ {seen : List ℕ} {part start named : ℕ} {pairs₀ : List ℕ} {k₀ : ℕ} where
  pub ends_start : k₀ ≤ max_pairs → Ends seen part start named pairs₀ k₀ pairs₀ k₀ 0
  ends_start l = record { few = l; are = let e : named - 0 ≡ named = omega arith in ap (λ x. take k₀ pairs₀ ++ ends_from seen part start 0 x) e }

  module _ {pairs : List ℕ} {k e : ℕ} (s : Ends seen part start named pairs₀ k₀ pairs k e) where
    -- none before e'
    pub ends_skip : (e' : ℕ) → e ≤ e' → ((x : ℕ) → e ≤ x → x < e' → has_state seen part x ≡ false) → Ends seen part start named pairs₀ k₀ pairs k e'
    ends_skip e' l none = record {
      few = s.few;
      are =
          ap (λ x. take k pairs ++ ends_from seen part start x (named - x)) (let p : e' ≡ e + (e' - e) = omega arith in p)
          ∙ ap (λ x. take k pairs ++ x) (sym (ends_pass seen part start named e (e' - e) (λ x a b. none x a (omega arith))))
          ∙ s.are;
    }

    left_over : e < named → named - e ≡ suc (named - (e + 1))
    left_over l = omega arith

    pub ends_add : e < named → k < max_pairs → k < length pairs → has_state seen part e ≡ true → {key : ℕ} → key ≡ pair_key start e
        → Ends seen part start named pairs₀ k₀ (set pairs k key) (k + 1) (e + 1)
    ends_add l g r h {key} is = subst (λ x. Ends seen part start named pairs₀ k₀ (set pairs k x) (k + 1) (e + 1)) (sym is) (record {
      few = omega arith;
      are =
          ap (λ x. take x (set pairs k (pair_key start e)) ++ ends_from seen part start (e + 1) (named - (e + 1))) (add-one k)
          ∙ ap (λ x. take (suc k) (set pairs k (pair_key start e)) ++ ends_from seen part start x (named - (e + 1))) (add-one e)
          ∙ ap (λ x. x ++ ends_from seen part start (suc e) (named - (e + 1))) (take-suc-set pairs k (pair_key start e) r)
          ∙ append_assoc (take k pairs) ((pair_key start e) ∷ []) (ends_from seen part start (suc e) (named - (e + 1)))
          ∙ ap (λ x. take k pairs ++ x) (sym (ends_hit seen part start e (named - (e + 1)) h))
          ∙ ap (λ x. take k pairs ++ ends_from seen part start e x) (sym (left_over l))
          ∙ s.are;
    })

    pub ends_over : e < named → k ≡ max_pairs → max_pairs ≤ length pairs → has_state seen part e ≡ true → max_pairs < length (take k₀ pairs₀ ++ ends_from seen part start 0 named)
    ends_over l g r h =
        let a : take k pairs ++ ((pair_key start e) ∷ ends_from seen part start (suc e) (named - (e + 1))) ≡ take k₀ pairs₀ ++ ends_from seen part start 0 named
        = ap (λ x. take k pairs ++ x) (sym (ends_hit seen part start e (named - (e + 1)) h)) ∙ ap (λ x. take k pairs ++ ends_from seen part start e x) (sym (left_over l)) ∙ s.are in
        let b = ap length a in
        let c = length-append (take k pairs) ((pair_key start e) ∷ ends_from seen part start (suc e) (named - (e + 1))) in
        let d = length-take-le k pairs (omega arith) in
        omega arith

    pub ends_done : named ≤ e → take k pairs ≡ take k₀ pairs₀ ++ ends_from seen part start 0 named
    ends_done l =
        let z : named - e ≡ 0 = omega arith in
        sym (append-nil (take k pairs)) ∙ ap (λ x. take k pairs ++ x) (sym (ends_none seen part start e)) ∙ ap (λ x. take k pairs ++ ends_from seen part start e x) (sym z) ∙ s.are

    -- past the last
    pub ends_past : named ≤ e → Ends seen part start named pairs₀ k₀ pairs k (e + 1)
    ends_past l = record {
      few = s.few;
      are =
          (let p : named - (e + 1) ≡ 0 = omega arith in ap (λ x. take k pairs ++ ends_from seen part start (e + 1) x) p)
          ∙ ap (λ x. take k pairs ++ x) (ends_none seen part start (e + 1) ∙ sym (ends_none seen part start e))
          ∙ (let q : named - e ≡ 0 = omega arith in ap (λ x. take k pairs ++ ends_from seen part start e x) (sym q))
          ∙ s.are;
    }

-- ---- a word's ends from e on, as code shifts them down

-- a bit of a shifted word
shifted : (s u x : ℕ) → bit u (x / 2 ^ s) ≡ bit (s + u) x
shifted s u x = bit_shift u (x / 2 ^ s) ∙ ap (λ (y : ℕ). y % 2) (shr-shr x s u) ∙ sym (bit_shift (s + u) x)

module _ (seen : List ℕ) (part e : ℕ) where
  -- the word, shifted
  abbrev pub ends_at : ℕ
  ends_at = get_or seen (part * named_words + e / 64) 0 / 2 ^ (e % 64)

  -- what it says of an end of the same word
  says : (x : ℕ) → e ≤ x → x < (e / 64 + 1) * 64 → mark seen (seen_state part x) ≡ bit (x - e) ends_at
  unfolding mark seen_state
  says x l h =
      let a : (part * max_core_nodes + x) / 64 ≡ part * named_words + e / 64 = omega arith in
      let b : (part * max_core_nodes + x) % 64 ≡ e % 64 + (x - e) = omega arith in
      ap (λ w. bit ((part * max_core_nodes + x) % 64) (get_or seen w 0)) a
      ∙ ap (λ t. bit t (get_or seen (part * named_words + e / 64) 0)) b
      ∙ sym (shifted (e % 64) (x - e) (get_or seen (part * named_words + e / 64) 0))

  not_there : (x : ℕ) → mark seen (seen_state part x) ≡ 0 → has_state seen part x ≡ false
  not_there x e = ne_eqb (mark seen (seen_state part x)) 1 (λ p. omega arith)

  -- there is none
  pub none_there : ends_at ≡ 0 → (x : ℕ) → e ≤ x → x < (e / 64 + 1) * 64 → has_state seen part x ≡ false
  none_there z x l h = not_there x (says x l h ∙ ap (bit (x - e)) z ∙ zero_bits (x - e))

  -- the first one
  module _ (some : ends_at ≡ 0 → ⊥) (fits : get_or seen (part * named_words + e / 64) 0 < 2 ^ 64) where
    within : (t : ℕ) → bit t ends_at ≡ 1 → e % 64 + t < 64
    within t h = bit_small 64 (e % 64 + t) (get_or seen (part * named_words + e / 64) 0) (sym (shifted (e % 64) t (get_or seen (part * named_words + e / 64) 0)) ∙ h) fits

    low : Lowest ends_at (count_trailing_zeros 64 ends_at)
    low = lowest 64 ends_at (omega arith) (mask_lt 64 ends_at (λ t h. let z = within t h in omega arith))

    pub first_small : e + count_trailing_zeros 64 ends_at < (e / 64 + 1) * 64
    first_small = let z = within (count_trailing_zeros 64 ends_at) low.member in omega arith

    pub first_there : has_state seen part (e + count_trailing_zeros 64 ends_at) ≡ true
    first_there =
        let p : e + count_trailing_zeros 64 ends_at - e ≡ count_trailing_zeros 64 ends_at = omega arith in
        eq-eqb (mark seen (seen_state part (e + count_trailing_zeros 64 ends_at))) 1
        (says (e + count_trailing_zeros 64 ends_at) (omega arith) first_small ∙ ap (λ t. bit t ends_at) p ∙ low.member)

    pub none_before : (x : ℕ) → e ≤ x → x < e + count_trailing_zeros 64 ends_at → has_state seen part x ≡ false
    none_before x l h = let z = first_small in not_there x (says x l (omega arith) ∙ low.least (x - e) (omega arith))

-- ---- what is in that list

module _ (seen : List ℕ) (part start : ℕ) where
  -- a number of the list, by the end that it is of
  pub record EndIn (e f x : ℕ) : Type 0 where
    pub end : ℕ
    pub from : e ≤ end
    pub upto : end < e + f
    pub marked : has_state seen part end ≡ true
    pub number : x ≡ pair_key start end

  later : {e f x : ℕ} → EndIn (suc e) f x → EndIn e (suc f) x
  later r = let a = r.from in let b = r.upto in record { end = r.end; from = omega arith; upto = omega arith; marked = r.marked; number = r.number }

  in_ends : (f e x : ℕ) → x ∈ ends_from seen part start e f → EndIn e f x
  in_ends zero e x m = absurd (none (subst (λ xs. x ∈ xs) (ends_none seen part start e) m))
    where
      none : x ∈ [] → ⊥
      none y = elim y [ ]
  in_ends (suc f) e x m = go (has_state seen part e) refl (in_ends f (suc e) x)
    where
      hit : has_state seen part e ≡ true → (x ∈ ends_from seen part start (suc e) f → EndIn (suc e) f x)
          → x ∈ ((pair_key start e) ∷ ends_from seen part start (suc e) f) → EndIn e (suc f) x
      hit h rec (here p) = record { end = e; from = omega arith; upto = omega arith; marked = h; number = p }
      hit h rec (there n) = later (rec n)

      go : (b : Bool) → has_state seen part e ≡ b → (x ∈ ends_from seen part start (suc e) f → EndIn (suc e) f x) → EndIn e (suc f) x
      go true h rec = hit h rec (subst (λ xs. x ∈ xs) (ends_hit seen part start e f h) m)
      go false h rec = later (rec (subst (λ xs. x ∈ xs) (ends_miss seen part start e f h) m))

  into_ends : (f e x : ℕ) → EndIn e f x → x ∈ ends_from seen part start e f
  into_ends zero e x r = absurd (let a = r.from in let b = r.upto in omega arith)
  into_ends (suc f) e x r = go (has_state seen part e) refl (ℕ_discrete r.end e) (λ n. into_ends f (suc e) x (rest n))
    where
      rest : (r.end ≡ e → ⊥) → EndIn (suc e) f x
      rest n = let a = r.from in let b = r.upto in record { end = r.end; from = omega arith; upto = omega arith; marked = r.marked; number = r.number }

      go : (b : Bool) → has_state seen part e ≡ b → Dec (r.end ≡ e) → ((r.end ≡ e → ⊥) → x ∈ ends_from seen part start (suc e) f)
          → x ∈ ends_from seen part start e (suc f)
      go true h (yes p) rec = subst (λ xs. x ∈ xs) (sym (ends_hit seen part start e f h)) (here (r.number ∙ ap (λ y. pair_key start y) p))
      go true h (no p) rec = subst (λ xs. x ∈ xs) (sym (ends_hit seen part start e f h)) (there (rec p))
      go false h (yes p) rec = absurd (true_false (ap (λ y. has_state seen part y) (sym p) ∙ r.marked) h)
      go false h (no p) rec = subst (λ xs. x ∈ xs) (sym (ends_miss seen part start e f h)) (rec p)

  ends_ascend : (f e : ℕ) → InOrder ◌<◌ (ends_from seen part start e f)
  ends_ascend zero e = subst (InOrder ◌<◌) (sym (ends_none seen part start e)) empty
  ends_ascend (suc f) e = go (has_state seen part e) refl (ends_ascend f (suc e))
    where
      go : (b : Bool) → has_state seen part e ≡ b → InOrder ◌<◌ (ends_from seen part start (suc e) f) → InOrder ◌<◌ (ends_from seen part start e (suc f))
      go true h rec = subst (InOrder ◌<◌) (sym (ends_hit seen part start e f h)) (before (λ y m. let r = in_ends f (suc e) y m in let a = r.from in let b = r.number in omega arith) rec)
      go false h rec = subst (InOrder ◌<◌) (sym (ends_miss seen part start e f h)) rec

-- what code is told of the root
pub alive_not : (table : List ℕ) (part e : ℕ) {r : Bool} → r ≡ eqb (mark table (part * max_nodes + e)) 1 → r ≡ false → Marked table (state part e) → ⊥
unfolding state
alive_not table part e p q h = true_false (p ∙ eq-eqb (mark table (part * max_nodes + e)) 1 h) q

-- ---- the pairs

module _ {L : Lists} (f : ListsFit L) {named : ℕ} (fit : named ≤ L.nodes) where
  pub listed_start : {pairs : List ℕ} → ListedBelow L named 0 pairs 0
  listed_start = record { few = omega arith; are = list_none (PairIn L named) }

  -- the pair that a number in the range of a start is
  from_start : {x v : ℕ} → (p : PairIn L named x) → pair_key v 0 ≤ x → x < pair_key (v + 1) 0 → p.from ≡ v
  from_start p l h = let q = f.graph.few_nodes in let a = p.number in let b = p.to_named in omega arith

  -- Where an end is reached from the root, the root is alive.
  reached_alive : {v i n : ℕ} → ReachedIn L v i n → AliveIn L i n → AliveIn L (L.parts - 1) v
  reached_alive start a = a
  reached_alive (onward {j = j} {k = k} {m = m} {o = o} r s) a = reached_alive r ((alive_saturated (numbered L) (part_of L.tree) (leaf_at L) (listed L.next) L.parts).back j k m o s a)

  -- A start at which the root is not alive has no pair.
  pub listed_dead : {pairs table : List ℕ} {v k : ℕ} → Living L table → v < named → (Marked table (state (L.parts - 1) v) → ⊥)
      → ListedBelow L named (pair_key v 0) pairs k → ListedBelow L named (pair_key (v + 1) 0) pairs k
  listed_dead {v = v} t l dead b = record { few = b.few; are = list_skip (PairIn L named) (omega arith) b.are none }
    where
      none : (x : ℕ) → PairIn L named x → pair_key v 0 ≤ x → x < pair_key (v + 1) 0 → ⊥
      none x p g h =
          let e = from_start p g h in
          let s = f.query.some in
          dead ((t.alive (L.parts - 1) v (omega arith) (omega arith)).1 (reached_alive (subst (λ y. ReachedIn L y L.parts p.to) e p.reached) ended))

  module _ {v : ℕ} {seen : List ℕ} (w : Walked L named v seen) (l : v < named) where
    abbrev ends : List ℕ
    ends = ends_from seen L.parts v 0 named

    sound : (x : ℕ) → x ∈ ends → PairIn L named x × (pair_key v 0 ≤ x) × (x < pair_key (v + 1) 0)
    sound x m =
        let r = in_ends seen L.parts v named 0 x m in
        let a = r.upto in
        let b = r.number in
        let q = f.graph.few_nodes in (
          record {
            from = v;
            to = r.end;
            from_named = l;
            to_named = omega arith;
            reached = (w.reached L.parts r.end (omega arith) (omega arith)).0 (eqb-true (mark seen (seen_state L.parts r.end)) 1 r.marked);
            number = b;
          },
          omega arith,
          omega arith,
        )

    complete : (x : ℕ) → PairIn L named x → pair_key v 0 ≤ x → x < pair_key (v + 1) 0 → x ∈ ends
    complete x p g h =
        let e = from_start p g h in
        let a = p.to_named in
        let b = p.number in
        into_ends seen L.parts v named 0 x (record {
          end = p.to;
          from = omega arith;
          upto = omega arith;
          marked = eq-eqb (mark seen (seen_state L.parts p.to)) 1 ((w.reached L.parts p.to (omega arith) (omega arith)).1 (subst (λ y. ReachedIn L y L.parts p.to) e p.reached));
          number = b ∙ ap (λ y. pair_key y p.to) e;
        })

    added : {xs : List ℕ} → ListOf ◌<◌ (λ x. PairIn L named x × (x < pair_key v 0)) xs → ListOf ◌<◌ (λ x. PairIn L named x × (x < pair_key (v + 1) 0)) (xs ++ ends)
    added b = list_append (PairIn L named) (omega arith) b (ends_ascend seen L.parts v named 0) sound complete

    -- The pairs of one start more.
    pub listed_from : {pairs : List ℕ} (pairs' : List ℕ) {k : ℕ} (r : Result ℕ TooMany) → ListedBelow L named (pair_key v 0) pairs k
        → EndsAre r (ends_from seen L.parts v 0 named) pairs k pairs' → ListedUpTo r L named (pair_key (v + 1) 0) pairs'
    listed_from pairs' (Ok n) b (h, e) = record { few = h; are = subst (ListOf ◌<◌ (λ x. PairIn L named x × (x < pair_key (v + 1) 0))) (sym e) (added b.are) }
    listed_from pairs' (Err e) b h = list_over (PairIn L named) (added b.are) h

  pub listed_done : {pairs : List ℕ} {k v : ℕ} → named ≤ v → ListedBelow L named (pair_key v 0) pairs k → PairsAre (Ok k) L named pairs
  listed_done {pairs} {k} {v} l b = (
    b.few,
    record {
      ascending = b.are.ascending;
      members = λ x. ((λ m. ((b.are.members x).0 m).0), (λ p. (b.are.members x).1 (p, low p)));
    },
  )
    where
      low : {x : ℕ} → PairIn L named x → x < pair_key v 0
      low p = let q = f.graph.few_nodes in let a = p.number in let c = p.from_named in let d = p.to_named in omega arith

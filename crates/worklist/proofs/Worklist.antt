-- Laws of marked states of which some wait: one is marked, one is taken, all are cleared. Assumes nothing.
use lib.Bits.{bit_or}
use lib.ListN.{drop, get_or, get_or-append, get_or-replicate, length, length-set, replicate, set}
use lib.Seq.{get_or-set_other, get_or-set_same}
use Rattle.std.proofs.lemmas.List.{get_or-append_right, get_or-drop, length-replicate}
use mathlib.Core.List.{List, ◌++◌}
use mathlib.Core.Logic.{inl, inr, ⊎_elim, ◌⊎◌, ◌≢◌}
use mathlib.Core.Path.{ap, refl, sym, ◌∙◌, ◌≡◌}
use native.Mathlib.Decide.{ℕ_discrete}
use native.Mathlib.Omega.{arith}
use Prim.Native.Nat.{min, ℕ, ◌%◌, ◌*◌, ◌+◌, ◌-◌, ◌/◌, ◌<◌, ◌^◌, ◌≤◌}
use Rattle.meaning.specs.TypeSet.{bit}
use Rattle.meaning.proofs.Lists.Gained.{gained, gained_bit, or_le, xor_equal}
use Rattle.meaning.proofs.Lists.Lowest.{cleared}
use Rattle.meaning.proofs.Lists.Places.{set_get_d}
use Rattle.worklist.specs.Table.{AddsOnly, Cleared, InWord, Looked, Marked, Stacked, Table, Takes, board, mark}
use Rattle.worklist.proofs.Marks.{cut, cut_other, cut_out, first_in_lem, first_word, first_in, in_word, joined}
use Rattle.worklist.proofs.Marks.{joined_in, joined_more, joined_other, joined_word, low_small, mark_bit, mark_zero, same_word, zero_word}
use Rattle.worklist.proofs.Stack.{has_room, stacked_pop, stacked_push, stacked_same}

-- ---- numbers of a word are marked

module _ {n : ℕ} {marked waiting stack : List ℕ} {top w : ℕ} {lent : ℕ × ℕ × ℕ} (t : Table n (board marked waiting stack top lent)) (lt : w < n) (bits : ℕ) where
  in_marked : w < length marked
  in_marked = let a = t.long in omega arith

  in_waiting : w < length waiting
  in_waiting = let a = t.stacked.long in omega arith

  -- the numbers that wait from now on
  abbrev new : ℕ
  new = gained (get_or marked w 0) bits

  new_in : (x : ℕ) → InWord w new x → InWord w bits x
  new_in x h = record { word = h.word; is = ((gained_bit (x % 64) (get_or marked w 0) bits).0 h.is).0 }

  new_not : (x : ℕ) → InWord w new x → Marked marked x → ⊥
  new_not x h e = let a = ((gained_bit (x % 64) (get_or marked w 0) bits).0 h.is).1 in let b = mark_bit marked x w h.word in omega arith

  new_if : (x : ℕ) → InWord w bits x → (Marked marked x → ⊥) → InWord w new x
  new_if x h n = record { word = h.word; is = (gained_bit (x % 64) (get_or marked w 0) bits).1 (h.is, mark_bit marked x w h.word ∙ mark_zero marked x n) }

  -- All were marked before.
  pub mark_old : bit_or (get_or marked w 0) bits ≡ get_or marked w 0 → AddsOnly n (InWord w bits) (board marked waiting stack top lent) (board marked waiting stack top lent)
  mark_old e = record {
    lent = record { is = refl };
    after = t;
    more = λ x h. h;
    new = λ x h. inl h;
    all = λ y h. sym (ap (λ l. mark l y) same) ∙ joined_in marked w bits in_marked y h;
    looked = λ x l h. h;
    still = λ x l h. h;
  }
    where
      same : joined marked w bits ≡ marked
      same = ap (λ v. set marked w v) e ∙ set_get_d marked w 0

  joins : {stack' : List ℕ} {top' : ℕ} → Stacked n (joined waiting w new) stack' top'
      → AddsOnly n (InWord w bits) (board marked waiting stack top lent) (board (joined marked w bits) (joined waiting w new) stack' top' lent)
  joins {stack'} {top'} d = record {
    lent = record { is = refl };
    after = record {
      long = simp length-set t.long;
      stacked = d;
      within = λ x l h. within x l h (in_word w new x);
    };
    more = joined_more marked w bits in_marked;
    new = λ x h. old x h (in_word w bits x);
    all = joined_in marked w bits in_marked;
    looked = λ x l h. record {
      is = was x h (ℕ_discrete (mark marked x) 1);
      waits_not = mark_zero waiting x
          (λ e. let a = h.waits_not in let b = joined_more waiting w new in_waiting x e in omega arith);
    };
    still = λ x l h. record { is = joined_more marked w bits in_marked x h.is; waits_not = joined_other waiting w new in_waiting x (λ e. new_not x e h.is) ∙ h.waits_not };
  }
    where
      within : (x : ℕ) → x < n * 64 → mark (joined waiting w new) x ≡ 1 → Dec (InWord w new x) → mark (joined marked w bits) x ≡ 1
      within x l h (yes p) = joined_in marked w bits in_marked x (new_in x p)
      within x l h (no n) = joined_more marked w bits in_marked x (t.within x l (sym (joined_other waiting w new in_waiting x n) ∙ h))

      old : (x : ℕ) → mark (joined marked w bits) x ≡ 1 → Dec (InWord w bits x) → (Marked marked x) ⊎ InWord w bits x
      old x h (yes p) = inr p
      old x h (no n) = inl (sym (joined_other marked w bits in_marked x n) ∙ h)

      was : (x : ℕ) → Looked (board (joined marked w bits) (joined waiting w new) stack' top' lent) x → Dec (Marked marked x) → Marked marked x
      was x h (yes p) = p
      was x h (no n) = ⊎_elim (λ e. e) (λ i. absurd (let a = joined_in waiting w new in_waiting x (new_if x i n) in let b = h.waits_not in omega arith)) (old x h.is (in_word w bits x))

  long' : n ≤ length (joined waiting w new)
  long' = simp length-set t.stacked.long

  other_n : (v : ℕ) → v ≢ w → get_or (joined waiting w new) v 0 ≡ get_or waiting v 0
  other_n v n = get_or-set_other waiting w v _ 0 n

  -- Another state of the word waits.
  pub mark_beside : (get_or waiting w 0 ≡ 0 → ⊥) → AddsOnly n (InWord w bits) (board marked waiting stack top lent) (board (joined marked w bits) (joined waiting w new) stack top lent)
  mark_beside h = joins (stacked_same t.stacked (joined waiting w new) long' (λ v l. go v (ℕ_discrete v w)))
    where
      some : 0 < get_or (joined waiting w new) w 0
      some = let a = joined_word waiting w new in_waiting in let b = or_le (get_or waiting w 0) new in omega arith

      go : (v : ℕ) → Dec (v ≡ w) → min 1 (get_or waiting v 0) ≡ min 1 (get_or (joined waiting w new) v 0)
      go v (yes p) = let a = some in let b = ap (λ x. min 1 (get_or waiting x 0)) p in let c = ap (λ x. min 1 (get_or (joined waiting w new) x 0)) p in omega arith
      go v (no n) = let a = other_n v n in omega arith

  -- The word had none.
  module _ (e : bit_or (get_or marked w 0) bits ≡ get_or marked w 0 → ⊥) (z : get_or waiting w 0 ≡ 0) where
    first : 0 < get_or (joined waiting w new) w 0
    first =
        let a : get_or (joined waiting w new) w 0 ≡ new = joined_word waiting w new in_waiting ∙ ap (λ v. bit_or v new) z in
        let b : new ≢ 0 = λ q. e (sym (xor_equal (get_or marked w 0) (bit_or (get_or marked w 0) bits) q)) in
        omega arith

    pub mark_first : AddsOnly n (InWord w bits) (board marked waiting stack top lent) (board (joined marked w bits) (joined waiting w new) (set stack top w) (top + 1) lent)
    mark_first = joins (stacked_push t.stacked (joined waiting w new) long' w lt z first other_n)

    pub first_room : top < length stack
    first_room = has_room t.stacked (joined waiting w new) long' w lt z first other_n

-- ---- a state is taken

module _ {n : ℕ} {waiting stack : List ℕ} {top : ℕ} (d : Stacked n waiting stack top) (some : 0 < top) where
  pub top_inside : get_or stack (top - 1) 0 < n
  top_inside = d.inside (top - 1) (omega arith)

  pub top_waits : 0 < get_or waiting (get_or stack (top - 1) 0) 0
  top_waits = d.waits (top - 1) (omega arith)

  module _ (fits : get_or waiting (get_or stack (top - 1) 0) 0 < 2 ^ 64) where
    in_list : get_or stack (top - 1) 0 < length waiting
    in_list = let a = top_inside in let b = d.long in omega arith

    now_word : get_or (cut waiting (get_or stack (top - 1) 0)) (get_or stack (top - 1) 0) 0 ≡ cleared (get_or waiting (get_or stack (top - 1) 0) 0)
    now_word = get_or-set_same waiting (get_or stack (top - 1) 0) _ 0 in_list

    other_word : (v : ℕ) → v ≢ get_or stack (top - 1) 0 → get_or (cut waiting (get_or stack (top - 1) 0)) v 0 ≡ get_or waiting v 0
    other_word v n = get_or-set_other waiting (get_or stack (top - 1) 0) v _ 0 n

    cut_long : n ≤ length (cut waiting (get_or stack (top - 1) 0))
    cut_long = simp length-set d.long

    takes : {marked : List ℕ} {lent : ℕ × ℕ × ℕ} {top' : ℕ} → Stacked n (cut waiting (get_or stack (top - 1) 0)) stack top'
        → Takes n (λ x. x ≡ first_in waiting (get_or stack (top - 1) 0)) (board marked waiting stack top lent) (board marked (cut waiting (get_or stack (top - 1) 0)) stack top' lent)
    takes a = record {
      lent = record { is = refl };
      marked = refl;
      stack = refl;
      after = a;
      some = first_in waiting (get_or stack (top - 1) 0);
      some_is = refl;
      inside = λ x e. let b = top_inside in let c = low_small waiting (get_or stack (top - 1) 0) in_list top_waits fits in omega arith;
      was = λ x e. ap (mark waiting) e ∙ first_in_lem waiting (get_or stack (top - 1) 0) in_list top_waits fits;
      gone = λ x e. ap (mark (cut waiting (get_or stack (top - 1) 0))) e ∙ out;
      less = λ x h. less x h (ℕ_discrete x (first_in waiting (get_or stack (top - 1) 0)));
      which = λ x h g. which x h g (ℕ_discrete x (first_in waiting (get_or stack (top - 1) 0)));
    }
      where
        out : mark (cut waiting (get_or stack (top - 1) 0)) (first_in waiting (get_or stack (top - 1) 0)) ≡ 0
        out = cut_out waiting (get_or stack (top - 1) 0) in_list top_waits fits

        less : (x : ℕ) → mark (cut waiting (get_or stack (top - 1) 0)) x ≡ 1 → Dec (x ≡ first_in waiting (get_or stack (top - 1) 0)) → Marked waiting x
        less x h (yes e) = absurd (let y = ap (mark (cut waiting (get_or stack (top - 1) 0))) e ∙ out in omega arith)
        less x h (no n) = sym (cut_other waiting (get_or stack (top - 1) 0) in_list top_waits fits x n) ∙ h

        which : (x : ℕ) → Marked waiting x → mark (cut waiting (get_or stack (top - 1) 0)) x ≡ 0 → Dec (x ≡ first_in waiting (get_or stack (top - 1) 0))
            → x ≡ first_in waiting (get_or stack (top - 1) 0)
        which x h g (yes e) = e
        which x h g (no n) = absurd (let y = cut_other waiting (get_or stack (top - 1) 0) in_list top_waits fits x n in omega arith)

    -- It was the last of its word.
    pub take_last : {marked : List ℕ} {lent : ℕ × ℕ × ℕ} → cleared (get_or waiting (get_or stack (top - 1) 0) 0) ≡ 0
        → Takes n (λ x. x ≡ first_in waiting (get_or stack (top - 1) 0)) (board marked waiting stack top lent) (board marked (cut waiting (get_or stack (top - 1) 0)) stack (top - 1) lent)
    take_last z = takes (stacked_pop d (cut waiting (get_or stack (top - 1) 0)) cut_long some (now_word ∙ z) other_word)

    -- Others of its word wait.
    pub take_one : {marked : List ℕ} {lent : ℕ × ℕ × ℕ} → (cleared (get_or waiting (get_or stack (top - 1) 0) 0) ≡ 0 → ⊥)
        → Takes n (λ x. x ≡ first_in waiting (get_or stack (top - 1) 0)) (board marked waiting stack top lent) (board marked (cut waiting (get_or stack (top - 1) 0)) stack top lent)
    take_one z = takes (stacked_same d (cut waiting (get_or stack (top - 1) 0)) cut_long (λ v l. go v (ℕ_discrete v (get_or stack (top - 1) 0))))
      where
        go : (v : ℕ) → Dec (v ≡ get_or stack (top - 1) 0) → min 1 (get_or waiting v 0) ≡ min 1 (get_or (cut waiting (get_or stack (top - 1) 0)) v 0)
        go v (yes p) = let a = top_waits in let b = now_word in let c = ap (λ x. min 1 (get_or waiting x 0)) p in let e = ap (λ x. min 1 (get_or (cut waiting (get_or stack (top - 1) 0)) x 0)) p in
            omega arith
        go v (no n) = let a = other_word v n in omega arith

    -- All of its word.
    pub take_all : {marked : List ℕ} {lent : ℕ × ℕ × ℕ} → Takes n (InWord (get_or stack (top - 1) 0) (get_or waiting (get_or stack (top - 1) 0) 0)) (board marked waiting stack top lent)
        (board marked (set waiting (get_or stack (top - 1) 0) 0) stack (top - 1) lent)
    take_all = record {
      lent = record { is = refl };
      marked = refl;
      stack = refl;
      after = stacked_pop d (set waiting (get_or stack (top - 1) 0) 0) (simp length-set d.long) some (get_or-set_same waiting (get_or stack (top - 1) 0) 0 0 in_list)
          (λ v n. get_or-set_other waiting (get_or stack (top - 1) 0) v 0 0 n);
      some = first_in waiting (get_or stack (top - 1) 0);
      some_is = first_word waiting (get_or stack (top - 1) 0) in_list top_waits fits;
      inside = λ x h. let a = top_inside in let b = h.word in omega arith;
      was = λ x h. sym (mark_bit waiting x (get_or stack (top - 1) 0) h.word) ∙ h.is;
      gone = λ x h. none x h.word;
      less = λ x h. less x h (ℕ_discrete (x / 64) (get_or stack (top - 1) 0));
      which = λ x h g. which x h g (ℕ_discrete (x / 64) (get_or stack (top - 1) 0));
    }
      where
        none : (x : ℕ) → x / 64 ≡ get_or stack (top - 1) 0 → mark (set waiting (get_or stack (top - 1) 0) 0) x ≡ 0
        none x e = zero_word (set waiting (get_or stack (top - 1) 0) 0) x (ap (λ v. get_or (set waiting (get_or stack (top - 1) 0) 0) v 0) e ∙ get_or-set_same waiting (get_or stack (top - 1) 0) 0 0 in_list)

        same : (x : ℕ) → x / 64 ≢ get_or stack (top - 1) 0 → mark (set waiting (get_or stack (top - 1) 0) 0) x ≡ mark waiting x
        same x n = same_word waiting (set waiting (get_or stack (top - 1) 0) 0) x (get_or-set_other waiting (get_or stack (top - 1) 0) (x / 64) 0 0 n)

        less : (x : ℕ) → mark (set waiting (get_or stack (top - 1) 0) 0) x ≡ 1 → Dec (x / 64 ≡ get_or stack (top - 1) 0) → Marked waiting x
        less x h (yes e) = absurd (let y = none x e in omega arith)
        less x h (no n) = sym (same x n) ∙ h

        which : (x : ℕ) → Marked waiting x → mark (set waiting (get_or stack (top - 1) 0) 0) x ≡ 0 → Dec (x / 64 ≡ get_or stack (top - 1) 0)
            → InWord (get_or stack (top - 1) 0) (get_or waiting (get_or stack (top - 1) 0) 0) x
        which x h g (yes e) = record { word = e; is = mark_bit waiting x (get_or stack (top - 1) 0) e ∙ h }
        which x h g (no n) = absurd (let y = same x n in omega arith)

-- ---- numbers are cleared

pub words_cleared : (n : ℕ) (zeros table : List ℕ) → zeros ≡ replicate n 0 → Cleared (n * 64) table (zeros ++ drop n table)
unfolding mark
words_cleared n zeros table e = record { below = λ x l. below x l; above = λ x l. ap (bit (x % 64)) (above (x / 64) (omega arith)) }
  where
    all : length zeros ≡ n
    all = ap length e ∙ length-replicate n 0

    below : (x : ℕ) → x < n * 64 → mark (zeros ++ drop n table) x ≡ 0
    below x l =
        let a = all in
        zero_word (zeros ++ drop n table) x (get_or-append zeros (drop n table) 0 (x / 64) (omega arith) ∙ ap (λ y. get_or y (x / 64) 0) e
        ∙ get_or-replicate n (x / 64) 0 0 (omega arith))

    above : (w : ℕ) → n ≤ w → get_or (zeros ++ drop n table) w 0 ≡ get_or table w 0
    above w l =
        get_or-append_right zeros (drop n table) n w 0 all l ∙ get_or-drop n table (w - n) 0
        ∙ ap (λ i. get_or table i 0) (let e : n + (w - n) ≡ w = omega arith in e)

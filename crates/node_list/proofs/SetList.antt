-- The marked sets in node order: word by word, and the numbers of a word from the lowest on. Assumes nothing.
use Rattle.std.proofs.Common.{◌≡◌, ℕ, zero, suc, ◌+◌, ◌-◌, ◌*◌, ◌/◌, ◌%◌, ◌^◌, ◌<◌, ◌≤◌, eqb, ◌⊎◌, List, [], ◌∷◌, ◌++◌, map, length, get_or, take, drop, set, sym, refl, ap, ◌∙◌, subst, inl, inr, append_assoc, append-nil, add-one, arith, length-set, drop_of_length-le, drop-cons, get_or-set_other, get_or-set_same, take-suc-set, eq-eqb, ne_eqb}
use lib.Count.{ones, ones-le, count_trailing_zeros}
use mathlib.Core.List.{flatten}
use native.Mathlib.Decide.{dec_lt, ℕ_discrete}
use Rattle.node_list.specs.Records.{NodeSets, NodeWord, SetPlaces, SetsFit, WordListed, overwritten, set_numbers, slot_of}
use Rattle.meaning.proofs.Cases.{case_on}
use Rattle.meaning.proofs.Lists.Bits.{zero_bits}
use Rattle.meaning.proofs.Lists.Counting.{span}
use Rattle.meaning.proofs.Lists.Listing.{Below, list_append, list_none}
use Rattle.meaning.proofs.Lists.Lowest.{Lowest, cleared, cleared_le, cleared_member, lowest, ones_cleared}
use Rattle.meaning.proofs.Lists.Masks.{bit_small}
use Rattle.meaning.proofs.Lists.OrderedPlaces.{greater_later}
use Rattle.meaning.proofs.Lists.Places.{∈_at}
use Rattle.meaning.proofs.Lists.Recording.{Records, records_again, records_done, records_start}
use Rattle.meaning.proofs.Lists.SetLists.{empty_list, joined_list, list_as}
use Rattle.meaning.specs.Limits.{max_core_nodes, member_sets, node_list_length, node_width, set_words, type_sets, unused}
use Rattle.meaning.specs.Member.{◌∈◌, here, there}
use Rattle.meaning.specs.Ordered.{ListOf, before, empty}
use Rattle.meaning.specs.TypeSet.{bit}
use Rattle.worklist.proofs.Marks.{mark_bit}
use Rattle.worklist.specs.Table.{InWord, Marked, mark}

-- ---- the number of a set

pub slot_first : (k : ℕ) → k ≡ 0 → type_sets ≡ slot_of k
unfolding slot_of
slot_first k e = rw e refl

pub slot_later : (k : ℕ) → (k ≡ 0 → ⊥) → k ≡ slot_of k
unfolding slot_of
slot_later k n = sym (rw (ne_eqb k 0 n) refl)

pub slot_lt : (k : ℕ) → k < type_sets → slot_of k < member_sets
unfolding slot_of
slot_lt k h = case_on (eqb k 0) (λ e. rw e (omega arith)) (λ e. rw e (omega arith))

-- ---- a word in node order

module _ (flags : List ℕ) where
  -- the bit of a set
  mark_at : (w t : ℕ) → t < 64 → bit t (get_or flags w 0) ≡ mark flags (w * 64 + t)
  mark_at w t h = let m : t ≡ (w * 64 + t) % 64 = omega arith in ap (λ x. bit x (get_or flags w 0)) m ∙ mark_bit flags (w * 64 + t) w (omega arith)

  pub later_word : (w : ℕ) → (w ≡ 0 → ⊥) → NodeWord flags w (get_or flags w 0)
  later_word w n t h = mark_at w t h ∙ ap (mark flags) (slot_later (w * 64 + t) (λ z. n (omega arith)))

  -- {Literal} in the place of the empty set
  pub first_word : (w : ℕ) → w ≡ 0 → NodeWord flags w (get_or flags w 0 - get_or flags w 0 % 2 + get_or flags (set_words / 2) 0 % 2)
  unfolding bit
  first_word w z zero h =
      (let e : (get_or flags w 0 - get_or flags w 0 % 2 + get_or flags (set_words / 2) 0 % 2) % 2 ≡ get_or flags (set_words / 2) 0 % 2 = omega arith in e)
      ∙ mark_at (set_words / 2) 0 h ∙ ap (mark flags) (slot_first (w * 64 + 0) (omega arith))
  first_word w z (suc t) h =
      ap (bit t) (let e : (get_or flags w 0 - get_or flags w 0 % 2 + get_or flags (set_words / 2) 0 % 2) / 2 ≡ get_or flags w 0 / 2 = omega arith in e)
      ∙ mark_at w (suc t) h ∙ ap (mark flags) (slot_later (w * 64 + suc t) (λ q. omega arith))

-- ---- the numbers of a word, from the lowest on

-- of those that the bits say, the ones that are not left
pub record Done (w bits left x : ℕ) : Type 0 where
  pub is : InWord w bits x
  pub past : bit (x % 64) left ≡ 0

pub record Wording (w bits at : ℕ) (sets₀ sets : List ℕ) (left end : ℕ) : Type 0 where
  pub small : left ≤ bits
  pub within : (t : ℕ) → bit t left ≡ 1 → bit t bits ≡ 1
  pub lower : (u t : ℕ) → bit u bits ≡ 1 → bit u left ≡ 0 → bit t left ≡ 1 → u < t
  pub count : end + ones left ≡ at + ones bits
  pub long : length sets ≡ length sets₀
  pub new : List ℕ
  pub list : ListOf ◌<◌ (Done w bits left) new
  pub front : take end sets ≡ take at sets₀ ++ new

pub word_start : (w bits at : ℕ) (sets : List ℕ) → Wording w bits at sets sets bits at
word_start w bits at sets = record {
  small = omega arith;
  within = λ t e. e;
  lower = λ u t a b. absurd (omega arith);
  count = refl;
  long = refl;
  new = [];
  list = empty_list (λ x d. let a = d.is.is in let b = d.past in omega arith);
  front = sym (append-nil (take at sets));
}

single : (x : ℕ) → ListOf ◌<◌ (λ y. y ≡ x) (x ∷ [])
single x = record { ascending = before {x = x} {xs = []} (λ y m. elim m [ ]) empty; members = λ y. (forth y, here) }
  where
    forth : (y : ℕ) → y ∈ (x ∷ []) → y ≡ x
    forth y (here e) = e
    forth y (there m) = elim m [ ]

module _ {w bits at : ℕ} {sets₀ sets : List ℕ} {left end : ℕ} (g : Wording w bits at sets₀ sets left end) (fits : bits < 2 ^ 64) (some : 0 < left) where
  low : Lowest left (count_trailing_zeros 64 left)
  low = let s = g.small in lowest 64 left some (omega arith)

  pub low_small : count_trailing_zeros 64 left < 64
  low_small = let s = g.small in bit_small 64 (count_trailing_zeros 64 left) left low.member (omega arith)

  pub word_room : (n : ℕ) → at + ones bits ≤ n → end < n
  word_room n h = let a = ones_cleared left some in let b = g.count in omega arith

  abbrev pub next : ℕ
  next = w * 64 + count_trailing_zeros 64 left

  at_next : next % 64 ≡ count_trailing_zeros 64 left
  at_next = let z = low_small in omega arith

  of_next : next / 64 ≡ w
  of_next = let z = low_small in omega arith

  -- one more is done
  more : (x : ℕ) → Done w bits (cleared left) x → Done w bits left x ⊎ (x ≡ next)
  more x d = go (ℕ_discrete (x % 64) (count_trailing_zeros 64 left))
    where
      go : Dec (x % 64 ≡ count_trailing_zeros 64 left) → Done w bits left x ⊎ (x ≡ next)
      go (yes e) = inr (let a = d.is.word in omega arith)
      go (no n) = inl (record { is = d.is; past = sym (low.others (x % 64) n) ∙ d.past })

  both : (x : ℕ) → Done w bits left x ⊎ (x ≡ next) → Done w bits (cleared left) x
  both x (inl d) = record { is = d.is; past = low.others (x % 64) (λ e. let a = ap (λ t. bit t left) e ∙ low.member in let b = d.past in omega arith) ∙ d.past }
  both x (inr e) = subst (Done w bits (cleared left)) (sym e) (record {
    is = record { word = of_next; is = ap (λ t. bit t bits) at_next ∙ g.within (count_trailing_zeros 64 left) low.member };
    past = ap (λ t. bit t (cleared left)) at_next ∙ low.gone;
  })

  still_lower : (u t : ℕ) → bit u bits ≡ 1 → bit u (cleared left) ≡ 0 → bit t (cleared left) ≡ 1 → u < t
  still_lower u t a b c = go (ℕ_discrete u (count_trailing_zeros 64 left))
    where
      mine : bit t left ≡ 1
      mine = cleared_member t left c

      above : count_trailing_zeros 64 left ≤ t
      above = over (dec_lt t (count_trailing_zeros 64 left))
        where
          over : Dec (t < count_trailing_zeros 64 left) → count_trailing_zeros 64 left ≤ t
          over (yes h) = absurd (let z = low.least t h in let y = mine in omega arith)
          over (no n) = omega arith

      go : Dec (u ≡ count_trailing_zeros 64 left) → u < t
      go (yes e) = other (ℕ_discrete t (count_trailing_zeros 64 left))
        where
          other : Dec (t ≡ count_trailing_zeros 64 left) → u < t
          other (yes q) = absurd (let z = ap (λ x. bit x (cleared left)) q ∙ low.gone in omega arith)
          other (no q) = let z = above in omega arith
      go (no n) = g.lower u t a (sym (low.others u n) ∙ b) mine

  pub word_again : end < length sets → Wording w bits at sets₀ (set sets end next) (cleared left) (end + 1)
  word_again room = record {
    small = let a = cleared_le left in let b = g.small in omega arith;
    within = λ t e. g.within t (cleared_member t left e);
    lower = still_lower;
    count = let a = ones_cleared left some in let b = g.count in omega arith;
    long = length-set sets end next ∙ g.long;
    new = g.new ++ (next ∷ []);
    list = joined_list g.list (single next) (λ x y d e. before_next x y d e) (λ x. (more x, both x));
    front =
        ap (λ n. take n (set sets end next)) (add-one end) ∙ take-suc-set sets end next room ∙ ap (λ xs. xs ++ (next ∷ [])) g.front
        ∙ append_assoc (take at sets₀) g.new (next ∷ []);
  }
    where
      before_next : (x y : ℕ) → Done w bits left x → y ≡ next → x < y
      before_next x y d e =
          let a = d.is.word in
          let b = g.lower (x % 64) (count_trailing_zeros 64 left) d.is.is d.past low.member in
          omega arith

pub word_done : {w bits at : ℕ} {sets₀ sets : List ℕ} {left end : ℕ} → Wording w bits at sets₀ sets left end → left ≡ 0 → WordListed w bits at sets₀ sets end
unfolding ones
word_done {w} {bits} {at} {left = left} {end} g z = record {
  new = g.new;
  list = list_as (λ x. (λ d. d.is, λ i. record { is = i; past = ap (bit (x % 64)) z ∙ zero_bits (x % 64) })) g.list;
  front = g.front;
  count = let a = ap ones z in let c = g.count in let o : ones 0 ≡ 0 = refl in omega arith;
}

-- ---- word by word

-- the marked sets below the word w are listed
pub record Listing (flags : List ℕ) (w : ℕ) (sets : List ℕ) (count : ℕ) : Type 0 where
  pub few : count ≤ w * 64
  pub list : ListOf ◌<◌ (Below (λ k. Marked flags (slot_of k)) (w * 64)) (take count sets)

pub listing_start : (flags sets : List ℕ) → Listing flags 0 sets 0
listing_start flags sets = record { few = omega arith; list = list_none (λ k. Marked flags (slot_of k)) }

-- a word's numbers are at most 64
pub word_few : {flags : List ℕ} {w : ℕ} {sets : List ℕ} {count : ℕ} → Listing flags w sets count → (bits : ℕ) → bits < 2 ^ 64 → count + ones bits ≤ (w + 1) * 64
word_few l bits f = let a = l.few in let b = ones-le 64 bits f in omega arith

pub listing_again : {flags : List ℕ} {w : ℕ} {sets sets' : List ℕ} {count r : ℕ} (bits : ℕ) → bits < 2 ^ 64 → Listing flags w sets count → NodeWord flags w bits
    → WordListed w bits count sets sets' r → Listing flags (w + 1) sets' r
listing_again {flags} {w} {sets} {sets'} {count} {r} bits f l n m = record {
  few = let a = word_few l bits f in let c = m.count in omega arith;
  list = subst (ListOf ◌<◌ (Below (λ k. Marked flags (slot_of k)) ((w + 1) * 64))) (sym m.front)
      (list_append (λ k. Marked flags (slot_of k)) (omega arith) l.list m.list.ascending sound complete);
}
  where
    marked_iff : (x : ℕ) → x / 64 ≡ w → bit (x % 64) bits ≡ mark flags (slot_of x)
    marked_iff x e = n (x % 64) (omega arith) ∙ ap (λ k. mark flags (slot_of k)) (let q : w * 64 + x % 64 ≡ x = omega arith in q)

    sound : (x : ℕ) → x ∈ m.new → Marked flags (slot_of x) × (w * 64 ≤ x) × (x < (w + 1) * 64)
    sound x i = let d = (m.list.members x).0 i in let e = d.word in (sym (marked_iff x e) ∙ d.is, omega arith, omega arith)

    complete : (x : ℕ) → Marked flags (slot_of x) → w * 64 ≤ x → x < (w + 1) * 64 → x ∈ m.new
    complete x q a b = let e : x / 64 ≡ w = omega arith in (m.list.members x).1 (record { word = e; is = marked_iff x e ∙ q })

pub listing_done : {flags : List ℕ} {w : ℕ} {sets : List ℕ} {count : ℕ} → Listing flags w sets count → w ≡ set_words / 2 → NodeSets flags sets count
listing_done {flags} {w} {sets} {count} l e = record {
  few = let a = l.few in omega arith;
  list = subst (λ n. ListOf ◌<◌ (Below (λ k. Marked flags (slot_of k)) n) (take count sets)) (let q : w * 64 ≡ type_sets = omega arith in q) l.list;
}

pub sets_fit : {flags sets : List ℕ} {r : ℕ} → NodeSets flags sets r → SetsFit (take r sets)
sets_fit l = record { ascend = l.list.ascending; below = λ k m. ((l.list.members k).0 m).1 }

-- ---- the nodes' numbers

pub set_long : (k : ℕ) → length (set_numbers k) ≡ node_width
unfolding set_numbers
set_long k = refl

pub few_sets : {sets : List ℕ} → SetsFit sets → length sets ≤ type_sets
few_sets {sets} f = span type_sets 0 sets f.ascend (λ x m. let l = f.below x m in (omega arith, omega arith))

-- the records of the sets before place i are written, and they have their numbers
pub record Numbering (sets : List ℕ) (first i : ℕ) (out₀ places out : List ℕ) : Type 0 where
  pub within : i ≤ length sets
  pub records : Records node_width first (first + i) (map set_numbers (drop i sets)) (map set_numbers sets) out₀ out
  pub placed : (k : ℕ) → k < i → get_or places (get_or sets k 0) 0 ≡ first + k

pub numbering_start : (sets : List ℕ) (first : ℕ) (places out : List ℕ) → Numbering sets first 0 out places out
numbering_start sets first places out = record {
  within = omega arith;
  records =
      subst (λ n. Records node_width first n (map set_numbers sets) (map set_numbers sets) out out) (let e : first ≡ first + 0 = omega arith in e)
      (records_start node_width first (map set_numbers sets) out);
  placed = λ k h. absurd (omega arith);
}

module _ {sets : List ℕ} {first i : ℕ} {out₀ places out : List ℕ} (n : Numbering sets first i out₀ places out) (f : SetsFit sets) where
  pub numbering_room : first ≤ max_core_nodes → node_list_length ≤ length out₀ → i < length sets → (first + i) * node_width + node_width ≤ length out₀
  numbering_room a b h = let c = few_sets f in omega arith

  pub numbering_again : i < length sets → type_sets ≤ length places → (first + i) * node_width + node_width ≤ length out₀
      → Numbering sets first (i + 1) out₀ (set places (get_or sets i 0) (first + i)) (overwritten ((first + i) * node_width) (set_numbers (get_or sets i 0)) out)
  numbering_again h long room = record {
    within = omega arith;
    records = subst (λ m. Records node_width first m (map set_numbers (drop (i + 1) sets)) (map set_numbers sets) out₀ (overwritten ((first + i) * node_width) (set_numbers (get_or sets i 0)) out))
        (let e : first + i + 1 ≡ first + (i + 1) = omega arith in e)
        (records_again (set_numbers (get_or sets i 0)) (rw next_set at n.records) (set_long (get_or sets i 0)) room);
    placed = λ k l. go k l (ℕ_discrete k i);
  }
    where
      next_set : map set_numbers (drop i sets) ≡ set_numbers (get_or sets i 0) ∷ map set_numbers (drop (i + 1) sets)
      next_set = rw (drop-cons sets i 0 h, add-one i) refl

      go : (k : ℕ) → k < i + 1 → Dec (k ≡ i) → get_or (set places (get_or sets i 0) (first + i)) (get_or sets k 0) 0 ≡ first + k
      go k l (yes e) = rw e (get_or-set_same places (get_or sets i 0) (first + i) 0 (let b = f.below (get_or sets i 0) (∈_at sets i h) in omega arith))
      go k l (no q) =
          get_or-set_other places (get_or sets i 0) (get_or sets k 0) (first + i) 0 (λ e. let g = greater_later sets f.ascend k i (omega arith) h in omega arith) ∙ n.placed k (omega arith)

  pub numbering_done : length sets ≤ i → first ≤ max_core_nodes → node_list_length ≤ length out₀
      → (out ≡ overwritten (first * node_width) (flatten (map set_numbers sets)) out₀) × SetPlaces sets first places
  numbering_done h a b =
      let w = n.within in
      let c = few_sets f in (
        records_done (rw (drop_of_length-le sets h) at n.records) (omega arith) (omega arith),
        record { are = λ k l. n.placed k (omega arith) },
      )

-- ---- a set's record

pub set_literal : (k : ℕ) → k ≡ 0 → 2 ∷ 0 ∷ k ∷ unused ∷ unused ∷ unused ∷ unused ∷ [] ≡ set_numbers k
unfolding set_numbers
set_literal k e = sym (rw (eq-eqb k 0 e) refl)

pub set_other : (k : ℕ) → (k ≡ 0 → ⊥) → 3 ∷ 0 ∷ k ∷ unused ∷ unused ∷ unused ∷ unused ∷ [] ≡ set_numbers k
unfolding set_numbers
set_other k n = sym (rw (ne_eqb k 0 n) refl)

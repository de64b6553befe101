-- Laws of comparing a text with a part, byte after byte. Assumes nothing.
use borrow.Author.Tests.{eq-eqb, eqb-true, eqb-false}
use lib.Dec.{eqb}
use lib.ListN.{length, drop, get_or, length-drop, drop_of_length-le, length-append}
use lib.Seq.{drop-drop, take_all}
use mathlib.Core.Bool.{Bool, true, false, ◌&&◌, cond}
use mathlib.Core.Logic.{◌⊎◌, inl, inr}
use mathlib.Core.List.{[], ◌∷◌, ◌++◌, append-nil}
use mathlib.Core.Path.{◌≡◌, refl, sym, ap, ◌∙◌}
use native.Mathlib.Omega.{arith}
use Prim.Native.Nat.{ℕ, ◌+◌, ◌-◌, ◌/◌, ◌%◌, ◌<◌, ◌≤◌}
use Rattle.meaning.specs.Pack.{Text}
use Rattle.meaning.specs.Tests.{same_text, begins}
use Rattle.meaning.proofs.Cases.{case_on}
use Rattle.spelling.proofs.Segments.{byte_stays, byte_escaped}
use Rattle.spelling.proofs.Written.{one_long, three_long, segment_next, segment_none}
use Rattle.std.specs.Prelude.{Option, None, Some}
use Rattle.spelling.specs.Matching.{match_at}
use Rattle.spelling.specs.Segment.{unreserved, hex_digit, spelled_byte, segment, percent}
use Rattle.meaning.proofs.Lists.Library.{starts_begins}
use Rattle.std.specs.Bool.{then_some}
use Rattle.std.specs.List.{slice_range, starts_with}
use Rattle.meaning.proofs.Lists.Texts.{begins_rest, same_eq, same_refl}

-- ---- a part at a place

pub match_nil : (text : Text) (at : ℕ) → match_at [] text at ≡ Some at
unfolding match_at
match_nil text at = let z : at + 0 ≡ at = omega arith in rw z

pub begins_length : (p s : Text) → begins p s ≡ true → length p ≤ length s
begins_length p s h = omega (arith, length-append p (drop (length p) s), ap length (begins_rest p s h))

-- a part longer than what is left of the text
match_short : (part text : Text) (at : ℕ) → length text - at < length part → match_at part text at ≡ None
unfolding match_at
match_short part text at h =
    case_on (begins part (drop at text))
    (λ e. absurd (let k = begins_length part (drop at text) e in omega (arith, length-drop at text)))
    (λ e. rw e)

-- by whether the rest of the text starts with it
starts_match : (part text rest : Text) (at : ℕ) → rest ≡ drop at text → {s : Bool} → s ≡ starts_with eqb rest part → then_some s (at + length part) ≡ match_at part text at
unfolding match_at
starts_match part text rest at e {s} f = rw (starts_begins rest part f, e) (go (begins part (drop at text)))
  where
    go : (b : Bool) → then_some b (at + length part) ≡ cond b (Some (at + length part)) None
    go true = refl
    go false = refl

-- ---- a spelled byte

module _ (b : ℕ) (text : Text) (at : ℕ) where
  -- there is no such place
  pub byte_past : (length text < at) ⊎ (length text < length text) → None ≡ match_at (spelled_byte b) text at
  byte_past (inr h) = absurd (omega arith)
  byte_past (inl h) = sym (match_short (spelled_byte b) text at (case_on (unreserved b) (λ e. omega (arith, one_long b e)) (λ e. omega (arith, three_long b e))))

  module _ {rest : Text} (q : rest ≡ slice_range text at (length text)) where
    rest_is : rest ≡ drop at text
    rest_is = q ∙ take_all (length text - at) (drop at text) (omega (arith, length-drop at text))

    pub byte_same : {s : Bool} → unreserved b ≡ true → s ≡ starts_with eqb rest (b ∷ []) → then_some s (at + 1) ≡ match_at (spelled_byte b) text at
    byte_same u e = rw (byte_stays b u) (starts_match (b ∷ []) text rest at rest_is e)

    pub escape_same : {s : Bool} {x y : ℕ} → unreserved b ≡ false → x ≡ hex_digit (b / 16) → y ≡ hex_digit (b % 16) → s ≡ starts_with eqb rest (percent ∷ x ∷ y ∷ [])
        → then_some s (at + 3) ≡ match_at (spelled_byte b) text at
    escape_same {x} {y} u f g e = rw (byte_escaped b u, ← f, ← g) (starts_match (percent ∷ x ∷ y ∷ []) text rest at rest_is e)

-- ---- a part in two

begins_append : (x y s : Text) → begins (x ++ y) s ≡ (begins x s && begins y (drop (length x) s))
begins_append [] y s = refl
begins_append (a ∷ x) y [] = refl
begins_append (a ∷ x) y (b ∷ s) =
    case_on (eqb a b) (λ e. rw e (begins_append x y s)) (λ e. rw e)

match_append : (x y text : Text) (at : ℕ) → match_at (x ++ y) text at ≡ cond (begins x (drop at text)) (match_at y text (at + length x)) None
unfolding match_at
match_append x y text at =
    let n : at + length (x ++ y) ≡ at + length x + length y = omega (arith, length-append x y) in
    case_on (begins x (drop at text))
    (λ e. rw (begins_append x y (drop at text), e, drop-drop (length x) at text, n))
    (λ e. rw (begins_append x y (drop at text), e))

pub match_on : (x y text : Text) (at to : ℕ) → match_at x text at ≡ Some to → match_at (x ++ y) text at ≡ match_at y text to
unfolding match_at
match_on x y text at to h =
    case_on (begins x (drop at text))
    (λ e. let k : Some (at + length x) ≡ Some to = rw e at h in
    let t : at + length x ≡ to = cc in
    match_append x y text at ∙ rw (e, t))
    (λ e. let k : None ≡ Some to = rw e at h in let z : ◌≡◌ {A = ℕ} 0 1 = cc in absurd (omega arith))

pub match_off : (x y text : Text) (at : ℕ) → match_at x text at ≡ None → match_at (x ++ y) text at ≡ None
unfolding match_at
match_off x y text at h =
    case_on (begins x (drop at text))
    (λ e. let k : Some (at + length x) ≡ None = rw e at h in let z : ◌≡◌ {A = ℕ} 0 1 = cc in absurd (omega arith))
    (λ e. match_append x y text at ∙ rw e)

-- ---- a segment: the first i bytes of v stand in the text before `to`

pub record Matching (v text : Text) (at i to : ℕ) : Type 0 where
  pub is : match_at (segment (drop i v)) text to ≡ match_at (segment v) text at

pub matching_start : (v text : Text) (at : ℕ) → Matching v text at 0 at
matching_start v text at = record { is = refl }

module _ {v text : Text} {at i to : ℕ} (m : Matching v text at i to) (h : i < length v) (r : Option ℕ)
    (e : r ≡ match_at (spelled_byte (get_or v i 0)) text to) where
  abbrev byte : Text
  byte = spelled_byte (get_or v i 0)

  abbrev rest : Text
  rest = segment (drop (i + 1) v)

  pub matching_again : (to' : ℕ) → r ≡ Some to' → Matching v text at (i + 1) to'
  matching_again to' q =
      record { is = sym (match_on byte rest text to to' (sym e ∙ q)) ∙ rw (← segment_next v i h) m.is }

  pub matching_over : r ≡ None → None ≡ match_at (segment v) text at
  matching_over q = sym (match_off byte rest text to (sym e ∙ q)) ∙ rw (← segment_next v i h) m.is

pub matching_done : {v text : Text} {at i to : ℕ} → Matching v text at i to → length v ≤ i → Some to ≡ match_at (segment v) text at
matching_done {v} {text} {at} {i} {to} m h = sym (match_nil text to) ∙ rw (segment_none v i h) at m.is

-- ---- the whole text

module _ (part text : Text) where
  pub not_same : (r : Option ℕ) → r ≡ match_at part text 0 → r ≡ None → false ≡ same_text part text
  unfolding match_at
  not_same r e q =
      case_on (same_text part text)
      (λ s. let k = same_eq part text s in
      let b : begins part text ≡ true = rw (← k) (begins_all part) in
      let d : Some (0 + length part) ≡ None = rw b at (sym e ∙ q) in
      let z : ◌≡◌ {A = ℕ} 0 1 = cc in absurd (omega arith))
      (λ s. sym s)
    where
      begins_all : (p : Text) → begins p p ≡ true
      begins_all [] = refl
      begins_all (x ∷ p) = rw (eq-eqb x x refl) (begins_all p)

  pub same_whole : (r : Option ℕ) (to : ℕ) → r ≡ match_at part text 0 → r ≡ Some to → eqb to (length text) ≡ same_text part text
  unfolding match_at
  same_whole r to e q =
      case_on (begins part text)
      (λ b. let k : Some (0 + length part) ≡ Some to = rw b at (sym e ∙ q) in
      let t : 0 + length part ≡ to = cc in
      let w = begins_rest part text b in
      case_on (eqb to (length text))
      (λ f. let z : length text ≤ length part = omega (arith, eqb-true to (length text) f) in
      let g : part ≡ text = sym (append-nil part) ∙ rw (drop_of_length-le text z) at w in
      rw (f, g) (sym (same_refl text)))
      (λ f. rw f (case_on (same_text part text)
      (λ s. absurd (eqb-false to (length text) f (omega (arith, ap length (same_eq part text s)))))
      (λ s. sym s))))
      (λ b. let k : None ≡ Some to = rw b at (sym e ∙ q) in let z : ◌≡◌ {A = ℕ} 0 1 = cc in absurd (omega arith))

-- What an open call answers and leaves is fixed by the bytes and the lengths of what it is lent, if its outcome is fixed by the
-- bytes (`call-once`): two answers to the same bytes, with lists of the same lengths, are equal, keep all lists or write the
-- same at the front of each, whatever the lists held before, and leave lists and buffers alike that were alike. Assumes
-- nothing.
use lib.ListN.{drop, length}
use mathlib.Core.List.{List, [], ◌∷◌, ◌++◌}
use mathlib.Core.Path.{◌≡◌, sym, ap, subst, ◌∙◌}
use Prim.Native.Nat.{ℕ, ◌≤◌}
use Rattle.calls.proofs.Meets.{long?}
use Rattle.calls.specs.Call.{Call, Each, Each₂, Kept, Lent, LongEnough, Outcome, Written, Zero, gives, refuses}
use Rattle.sets.specs.Buffers.{zeros}

-- ---- what is supposed, and what follows

-- The same lengths are asked, and the same are lent.
abbrev pub SameLengths : List Lent → List Lent → Type 0
SameLengths = Each₂ (λ b c. (b.least ≡ c.least) × (length b.before ≡ length c.before))

-- Each two that were alike are alike after.
abbrev pub AlikeAfter : List Lent → List Lent → Type 0
AlikeAfter = Each₂ (λ b c. b.before ≡ c.before → b.after ≡ c.after)

module _ {A : Type 0} (Refuses : A → Type 0) (Gives : A → List (List ℕ) → Type 0) where
  -- Which outcome it is, and what it says and gives, are fixed.
  pub record Fixed : Type 0 where
    pub one_refusal : {r s : A} → Refuses r → Refuses s → r ≡ s
    pub not_both : {r s : A} {gs : List (List ℕ)} → Refuses r → Gives s gs → ⊥
    pub one_result : {r s : A} {fs gs : List (List ℕ)} → Gives r fs → Gives s gs → (r ≡ s) × (fs ≡ gs)

  -- What two calls leave in their output lists.
  pub data SameLists (r s : A) (lists lists₂ : List Lent) : Type 0 where
    both_kept : Kept lists → Kept lists₂ → SameLists r s lists lists₂
    both_written : (fronts : List (List ℕ)) → Gives r fronts → Gives s fronts → Written fronts lists → Written fronts lists₂ → SameLists r s lists lists₂

  pub record Same (r s : A) (lists lists₂ buffers buffers₂ : List Lent) : Type 0 where
    pub answer : r ≡ s
    pub fronts : SameLists r s lists lists₂
    pub list_contents : AlikeAfter lists lists₂
    pub buffer_contents : AlikeAfter buffers buffers₂

-- ---- by cases on the lists

split : (bs ds : List Lent) → Kept (bs ++ ds) → Kept bs × Kept ds
split [] ds k = (tt, k)
split (b ∷ bs) ds k = let (x, y) = split bs ds k.1 in ((k.0, x), y)

joined : (bs cs ds es : List Lent) → SameLengths bs cs → SameLengths ds es → SameLengths (bs ++ ds) (cs ++ es)
joined [] [] ds es e f = f
joined (b ∷ bs) (c ∷ cs) ds es e f = (e.0, joined bs cs ds es e.1 f)
joined [] (c ∷ cs) ds es e f = absurd e
joined (b ∷ bs) [] ds es e f = absurd e

back : (bs cs : List Lent) → SameLengths bs cs → SameLengths cs bs
back [] [] e = tt
back (b ∷ bs) (c ∷ cs) e = ((sym e.0.0, sym e.0.1), back bs cs e.1)
back [] (c ∷ cs) e = e
back (b ∷ bs) [] e = e

-- from what is true of each to what is true of each two
paired : {R S : Lent → Lent → Type 0} {P : Lent → Type 0} → ((b c : Lent) → R b c → P b → P c → S b c) → (bs cs : List Lent) → Each₂ R bs cs
    → Each P bs → Each P cs → Each₂ S bs cs
paired f [] [] e k m = tt
paired f (b ∷ bs) (c ∷ cs) e k m = (f b c e.0 k.0 m.0, paired f bs cs e.1 k.1 m.1)
paired f [] (c ∷ cs) e k m = e
paired f (b ∷ bs) [] e k m = e

moved : (bs cs : List Lent) → SameLengths bs cs → LongEnough bs → LongEnough cs
moved [] [] e l = tt
moved (b ∷ bs) (c ∷ cs) e l = (subst (λ (z : ℕ × ℕ). z.0 ≤ z.1) (λ i. (e.0.0 i, e.0.1 i)) l.0, moved bs cs e.1 l.1)
moved [] (c ∷ cs) e l = absurd e
moved (b ∷ bs) [] e l = absurd e

kept_alike : (bs cs : List Lent) → SameLengths bs cs → Kept bs → Kept cs → AlikeAfter bs cs
kept_alike = paired (λ b c e k m q. k ∙ q ∙ sym m)

zero_alike : (bs cs : List Lent) → SameLengths bs cs → Zero bs → Zero cs → AlikeAfter bs cs
zero_alike = paired (λ b c e k m q. k ∙ ap zeros e.1 ∙ sym m)

written_alike : (fs : List (List ℕ)) (bs cs : List Lent) → SameLengths bs cs → Written fs bs → Written fs cs → AlikeAfter bs cs
written_alike [] [] [] e k m = tt
written_alike (f ∷ fs) (b ∷ bs) (c ∷ cs) e k m = ((λ q. k.0 ∙ ap (λ xs. f ++ drop (length f) xs) q ∙ sym m.0), written_alike fs bs cs e.1 k.1 m.1)
written_alike (f ∷ fs) (b ∷ bs) [] e k m = e
written_alike (f ∷ fs) [] cs e k m = absurd k
written_alike [] [] (c ∷ cs) e k m = e
written_alike [] (b ∷ bs) cs e k m = absurd k

-- ---- the theorem

module _ {A : Type 0} {Refuses : A → Type 0} {Gives : A → List (List ℕ) → Type 0} (fixed : Fixed Refuses Gives) {r s : A} {lists lists₂ buffers buffers₂ : List Lent} where
  outcome_once : SameLengths lists lists₂ → AlikeAfter buffers buffers₂ → Outcome Refuses Gives r lists → Outcome Refuses Gives s lists₂
      → Same Refuses Gives r s lists lists₂ buffers buffers₂
  outcome_once e z (refuses x k) (refuses y m) = record { answer = fixed.one_refusal x y; fronts = both_kept k m; list_contents = kept_alike lists lists₂ e k m; buffer_contents = z }
  outcome_once e z (refuses x k) (gives gs y m) = absurd (fixed.not_both x y)
  outcome_once e z (gives fs x k) (refuses y m) = absurd (fixed.not_both y x)
  outcome_once e z (gives fs x k) (gives gs y m) =
      let (a, p) = fixed.one_result x y in
      let w = subst (λ hs. Written hs lists₂) (sym p) m in
      record { answer = a; fronts = both_written fs x (subst (Gives s) (sym p) y) k w; list_contents = written_alike fs lists lists₂ e k w; buffer_contents = z }

  pub call_once : {one : A} → SameLengths lists lists₂ → SameLengths buffers buffers₂ → Call one Refuses Gives r lists buffers → Call one Refuses Gives s lists₂ buffers₂
      → Same Refuses Gives r s lists lists₂ buffers buffers₂
  call_once e f a b = go (long? (lists ++ buffers))
    where
      all : SameLengths (lists ++ buffers) (lists₂ ++ buffers₂)
      all = joined lists lists₂ buffers buffers₂ e f

      go : Dec (LongEnough (lists ++ buffers)) → Same Refuses Gives r s lists lists₂ buffers buffers₂
      go (yes l) = let m = moved (lists ++ buffers) (lists₂ ++ buffers₂) all l in outcome_once e (zero_alike buffers buffers₂ f (a.zero l) (b.zero m)) (a.outcome l) (b.outcome m)
      go (no n) =
          let (q, u) = a.refuses_1 n in
          let (p, v) = b.refuses_1 (λ m. n (moved (lists₂ ++ buffers₂) (lists ++ buffers) (back (lists ++ buffers) (lists₂ ++ buffers₂) all) m)) in
          let (k, x) = split lists buffers u in
          let (m, y) = split lists₂ buffers₂ v in
          record { answer = q ∙ sym p; fronts = both_kept k m; list_contents = kept_alike lists lists₂ e k m; buffer_contents = kept_alike buffers buffers₂ f x y }

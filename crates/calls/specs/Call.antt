-- What an open call does with what it is lent (document 01, "Refused, in checking order"), the same for every call: 1, which
-- touches nothing; else a refusal, which keeps the output lists, or a success, which says what stands at the front of each;
-- and the working buffers are zero. A call's own part is three things: what it says as 1, when it refuses, what it gives.
-- Assumes nothing.
use Rattle.std.specs.Borrow.{MutBor}
use denote.Triple.Both.{Both}
use Rattle.std.specs.Prelude.{drop, length, List, [], ◌∷◌, ◌++◌, ◌≡◌, ℕ, ◌≤◌}
use Rattle.meaning.specs.Limits.{max_working_length}
use Rattle.sets.specs.Buffers.{zeros}

-- ---- what is lent

-- What a lent list holds when the call begins, and when it returns.
pub record Contents : Type 0 where
  pub before : List ℕ
  pub after : List ℕ

-- of a parameter, as a contract names it
abbrev pub lent : Both (MutBor (List ℕ)) (MutBor (List ℕ)) → Contents
lent x = record { before = x.entry.now; after = x.exit.now }

infix 85 ◌becomes◌
abbrev pub ◌becomes◌ : List ℕ → List ℕ → Contents
xs becomes ys = record { before = xs; after = ys }

-- A lent list or working buffer, with the least length that is asked of it.
pub record Lent : Type 0 where
  pub least : ℕ
  pub before : List ℕ
  pub after : List ℕ

infix 80 ◌at_least◌
abbrev pub ◌at_least◌ : Contents → ℕ → Lent
c at_least n = record { least = n; before = c.before; after = c.after }

-- ---- of each of a list; of each two, and as many of the one as of the other

abbrev pub Each : (Lent → Type 0) → List Lent → Type 0
Each P [] = Unit
Each P (b ∷ bs) = P b × Each P bs

abbrev pub Each₂ : {X Y : Type 0} → (X → Y → Type 0) → List X → List Y → Type 0
Each₂ R [] [] = Unit
Each₂ R (x ∷ xs) (y ∷ ys) = R x y × Each₂ R xs ys
Each₂ R [] (y ∷ ys) = ⊥
Each₂ R (x ∷ xs) [] = ⊥

-- ---- what is asked of it, and what becomes of it

-- 1: "A lent list has less than .. numbers .., or a working buffer is below the one length that docs/ states for it"
abbrev pub LongEnough : List Lent → Type 0
LongEnough = Each (λ b. b.least ≤ length b.before)

-- "which is at most 1,048,576 entries"
abbrev pub Modest : List Lent → Type 0
Modest = Each (λ b. b.least ≤ max_working_length)

-- "touches nothing", "output lists keep their contents"
abbrev pub Kept : List Lent → Type 0
Kept = Each (λ b. b.after ≡ b.before)

-- "A lent working buffer is zero"
abbrev pub Zero : List Lent → Type 0
Zero = Each (λ b. b.after ≡ zeros (length b.before))

-- These numbers stand at the front of each list. "Entries past a reported count also keep theirs."
abbrev pub Written : List (List ℕ) → List Lent → Type 0
Written = Each₂ (λ front b. b.after ≡ front ++ drop (length front) b.before)

-- ---- the contract

module _ {A : Type 0} where
  -- What comes of a call where 1 does not. "A refusal gives its number; output lists keep their contents."
  pub data Outcome (Refuses : A → Type 0) (Gives : A → List (List ℕ) → Type 0) (r : A) (lists : List Lent) : Type 0 where
    refuses : Refuses r → Kept lists → Outcome Refuses Gives r lists
    gives : (fronts : List (List ℕ)) → Gives r fronts → Written fronts lists → Outcome Refuses Gives r lists

  -- An open call answers r, and leaves this in its output lists and in its working buffers.
  pub record Call (one : A) (Refuses : A → Type 0) (Gives : A → List (List ℕ) → Type 0) (r : A) (lists buffers : List Lent) : Type 0 where
    pub refuses_1 : ¬ LongEnough (lists ++ buffers) → (r ≡ one) × Kept (lists ++ buffers)
    pub outcome : LongEnough (lists ++ buffers) → Outcome Refuses Gives r lists
    pub zero : LongEnough (lists ++ buffers) → Zero buffers
    pub modest : Modest buffers

-- A set of numbers as bits in words of 64, and its members of which some wait to be looked at. Assumes nothing.
use Rattle.std.specs.Prelude.{get_or, length, List, None, Option, Some, ◌⊎◌, ◌≡◌, min, suc, zero, ℕ, ◌%◌, ◌*◌, ◌+◌, ◌-◌, ◌/◌, ◌<◌, ◌^◌, ◌≤◌}
use Rattle.meaning.specs.TypeSet.{bit}

-- 1 if x is in the table, and 0 if not.
unfoldable pub mark : List ℕ → ℕ → ℕ
mark table x = bit (x % 64) (get_or table (x / 64) 0)

abbrev pub Marked : List ℕ → ℕ → Type 0
Marked table x = mark table x ≡ 1

-- x is one of the numbers of the word w that the bits say.
pub record InWord (w bits x : ℕ) : Type 0 where
  pub word : x / 64 ≡ w
  pub is : bit (x % 64) bits ≡ 1

-- R leads to y from one of them.
pub record FromWord (w bits : ℕ) (R : ℕ → ℕ → Type 0) (y : ℕ) : Type 0 where
  pub from : ℕ
  pub is : InWord w bits from
  pub leads : R from y

unfoldable pub sum : (ℕ → ℕ) → ℕ → ℕ
sum f zero = 0
sum f (suc n) = f n + sum f n

-- How many of the first n words are not 0.
abbrev pub busy : ℕ → List ℕ → ℕ
busy n table = sum (λ w. min 1 (get_or table w 0)) n

-- ---- numbers that wait, in the first n words

-- The stack has the words in which a number waits, each once.
pub record Stacked (n : ℕ) (waiting stack : List ℕ) (top : ℕ) : Type 0 where
  pub small : n < 2 ^ 16
  pub long : n ≤ length waiting
  pub room : n ≤ length stack
  pub count : top ≡ busy n waiting
  pub inside : (k : ℕ) → k < top → get_or stack k 0 < n
  pub waits : (k : ℕ) → k < top → 0 < get_or waiting (get_or stack k 0) 0
  pub listed : (w : ℕ) → w < n → 0 < get_or waiting w 0 → (k : ℕ) × (k < top) × (get_or stack k 0 ≡ w)
  pub once : (j k : ℕ) → j < k → k < top → get_or stack j 0 ≡ get_or stack k 0 → ⊥

-- ---- marked numbers, of which some wait

-- The names say which lists are lent: a list that is given back is the one that has its name.
pub record Board : Type 0 where
  pub marked : List ℕ
  pub waiting : List ℕ
  pub stack : List ℕ
  pub top : ℕ
  pub lent : ℕ × ℕ × ℕ

abbrev pub board : List ℕ → List ℕ → List ℕ → ℕ → ℕ × ℕ × ℕ → Board
board marked waiting stack top lent = record { marked = marked; waiting = waiting; stack = stack; top = top; lent = lent }

-- The board that the code has.
abbrev pub board_of : Rattle.worklist.specs.declared.Board.Board → Board
board_of b = board b.marked.now b.waiting.now b.stack.now b.top (b.marked.ghost_name, b.waiting.ghost_name, b.stack.ghost_name)

-- The same lists are lent.
pub record Same (a b : Board) : Type 0 where
  pub is : b.lent ≡ a.lent

pub record Table (n : ℕ) (b : Board) : Type 0 where
  pub long : n ≤ length b.marked
  pub stacked : Stacked n b.waiting b.stack b.top
  pub within : (x : ℕ) → x < n * 64 → Marked b.waiting x → Marked b.marked x

-- x is marked, and has been looked at.
pub record Looked (b : Board) (x : ℕ) : Type 0 where
  pub is : Marked b.marked x
  pub waits_not : mark b.waiting x ≡ 0

-- The numbers T, some, which waited, wait no longer.
pub record Takes (n : ℕ) (T : ℕ → Type 0) (a b : Board) : Type 0 where
  pub lent : Same a b
  pub marked : b.marked ≡ a.marked
  pub stack : b.stack ≡ a.stack
  pub after : Stacked n b.waiting b.stack b.top
  pub some : ℕ
  pub some_is : T some
  pub inside : (x : ℕ) → T x → x < n * 64
  pub was : (x : ℕ) → T x → Marked a.waiting x
  pub gone : (x : ℕ) → T x → mark b.waiting x ≡ 0
  pub less : (x : ℕ) → Marked b.waiting x → Marked a.waiting x
  pub which : (x : ℕ) → Marked a.waiting x → mark b.waiting x ≡ 0 → T x

-- One number that waited is taken; or none waits, and all is as it was.
abbrev pub TakesNumber : ℕ → Option ℕ → Board → Board → Type 0
TakesNumber n (Some x) a b = (0 < a.top) × Takes n (λ y. y ≡ x) a b
TakesNumber n None a b = (a.top ≡ 0) × (b ≡ a)

-- All numbers that wait in a word are taken: the word, and the bits that say which; or none waits, and all is as it was.
abbrev pub TakesWord : ℕ → Option (ℕ × ℕ) → Board → Board → Type 0
TakesWord n (Some word) a b = (0 < a.top) × (b.top ≡ a.top - 1) × (word.0 < n) × Takes n (InWord word.0 word.1) a b
TakesWord n None a b = (a.top ≡ 0) × (b ≡ a)

-- More numbers were marked: all of Y, and only such as S says. They wait.
pub record Adds (n : ℕ) (S Y : ℕ → Type 0) (a b : Board) : Type 0 where
  pub lent : Same a b
  pub after : Table n b
  pub more : (x : ℕ) → Marked a.marked x → Marked b.marked x
  pub new : (x : ℕ) → Marked b.marked x → Marked a.marked x ⊎ S x
  pub all : (y : ℕ) → Y y → Marked b.marked y
  pub looked : (x : ℕ) → x < n * 64 → Looked b x → Looked a x
  pub still : (x : ℕ) → x < n * 64 → Looked a x → Looked b x

-- All of Y were marked too, and nothing else.
abbrev pub AddsOnly : ℕ → (ℕ → Type 0) → Board → Board → Type 0
AddsOnly n Y = Adds n Y Y

-- How many numbers have not been looked at.
abbrev pub left : ℕ → Board → ℕ
left n b = sum (λ x. 1 - (mark b.marked x - mark b.waiting x)) (n * 64)

-- ---- what the functions ask and answer: a table of some number of words, above w; what is answered is true of each such number

abbrev pub SomeTable : ℕ → Board → Type 0
SomeTable w b = (n : ℕ) × (w < n) × Table n b

abbrev pub ForTable : ℕ → Board → (ℕ → Type 0) → Type 0
ForTable w b Q = (n : ℕ) → w < n → Table n b → Q n

abbrev pub SomeStacked : Board → Type 0
SomeStacked b = (n : ℕ) × Stacked n b.waiting b.stack b.top

abbrev pub ForStacked : Board → (ℕ → Type 0) → Type 0
ForStacked b Q = (n : ℕ) → Stacked n b.waiting b.stack b.top → Q n

-- ---- nothing

-- A table in which nothing is marked, and nothing waits.
pub record Unmarked (n : ℕ) (marked waiting stack : List ℕ) : Type 0 where
  pub long : n ≤ length marked
  pub none : (x : ℕ) → x < n * 64 → mark marked x ≡ 0
  pub empty : Stacked n waiting stack 0

-- A board on which nothing is marked, and nothing waits.
abbrev pub Blank : ℕ → Board → Type 0
Blank n b = Unmarked n b.marked b.waiting b.stack × (b.top ≡ 0)

-- The numbers below n are no longer in the table, and the others are as they were.
pub record Cleared (n : ℕ) (table table' : List ℕ) : Type 0 where
  pub below : (x : ℕ) → x < n → mark table' x ≡ 0
  pub above : (x : ℕ) → n ≤ x → mark table' x ≡ mark table x

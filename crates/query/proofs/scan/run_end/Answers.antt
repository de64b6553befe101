-- `query::scan::run_end` meets its contract: the run ends at the first byte that does not pass. Assumes nothing.
use Rattle.std.specs.Prelude.{Option, Bool, true, false, List, ◌≡◌, ℕ, ◌<◌, drop, length, unwrap_or, MatchOption, HoldsAt}
use Rattle.std.specs.List.{AllWithin}
use lib.Seq.{take_all}
use Rattle.std.proofs.Common.{rules, arith, refl, ◌∙◌, length-drop}
use Rattle.std.proofs.lemmas.Iterator.{IsFirst-from_position, YieldsList-from_slice, index_from_first}
use Rattle.grammar.specs.Parse.{run}
use Rattle.query.specs.Reading.{class}
use Rattle.query.proofs.scan.run_end.Goals as goal

run_is : (p : ℕ → Bool) → (s : List ℕ) (r : Option ℕ)
    → MatchOption r (AllWithin (λ y. p y ≡ true) s 0 (length s)) (λ i. (i < length s) × HoldsAt (λ y. p y ≡ false) s i × AllWithin (λ y. p y ≡ true) s 0 i)
    → run p s ≡ unwrap_or r (length s)
unfolding run
run_is p s r h = index_from_first (run p) (λ y. p y ≡ false) (λ y. p y ≡ true) refl (λ x xs e. rw e) (λ x xs e. rw e (search rules)) s r h

pub returns-in-Some : goal.returns-in-Some
returns-in-Some c =
    let e = run_is (class c.args.kind) (drop c.args.at c.args.q.now) c.position.result
    (IsFirst-from_position _ _ _ (λ y. class c.args.kind y ≡ false) (λ y. class c.args.kind y ≡ true) c.position.ensures.ran
    (YieldsList-from_slice (drop c.args.at c.args.q.now) (c.iter.ensures.rest ∙ take_all _ _ (omega (arith, length-drop c.args.at c.args.q.now)))) (λ x q k. search rules) (λ x q k. search rules)) in
    let n : run (class c.args.kind) (drop c.args.at c.args.q.now) ≡ c.in-Some.k = rw c.in-Some.is at e in
    omega arith

pub returns-in-None : goal.returns-in-None
returns-in-None c =
    let e = run_is (class c.args.kind) (drop c.args.at c.args.q.now) c.position.result
    (IsFirst-from_position _ _ _ (λ y. class c.args.kind y ≡ false) (λ y. class c.args.kind y ≡ true) c.position.ensures.ran
    (YieldsList-from_slice (drop c.args.at c.args.q.now) (c.iter.ensures.rest ∙ take_all _ _ (omega (arith, length-drop c.args.at c.args.q.now)))) (λ x q k. search rules) (λ x q k. search rules)) in
    let n : run (class c.args.kind) (drop c.args.at c.args.q.now) ≡ length (drop c.args.at c.args.q.now) = rw c.in-None.is at e in
    omega (arith, length-drop c.args.at c.args.q.now)

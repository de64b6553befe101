-- `alive::links::cause` meets its contract. Assumes nothing.
use mathlib.Core.Path.{refl, sym, ◌∙◌}
use native.Mathlib.Omega.{arith}
use Rattle.states.proofs.PartKinds.{some_before}
use Rattle.alive.proofs.links.cause.Goals as goal

pub kind_of-kind-requires : goal.kind_of-kind-requires
kind_of-kind-requires c = c.requires.in_tree

pub returns-then-kind-ge-SEQUENCE : goal.returns-then-kind-ge-SEQUENCE
returns-then-kind-ge-SEQUENCE c = let e = c.kind_of-kind.ensures in
    record {
      small = omega arith;
      after = λ q k. absurd (omega arith);
      body = λ q k n. absurd (omega arith);
      first = λ q k. absurd (omega arith);
    }

pub offset_bounds-next-i : goal.offset_bounds-next-i
offset_bounds-next-i c = let z = c.requires.short in
    omega arith

pub bounds-next-i : goal.bounds-next-i
bounds-next-i c = c.requires.in_next

pub returns-then-w-eq0 : goal.returns-then-w-eq0
returns-then-w-eq0 c = let z = c.requires.onward in
    record {
      small = omega arith;
      after = λ q k. refl;
      body = λ q k n. absurd (omega arith);
      first = λ q k. absurd (omega arith);
    }

pub returns-then-kind-lt-NESTED : goal.returns-then-kind-lt-NESTED
returns-then-kind-lt-NESTED c = let e = c.kind_of-kind.ensures in
    record {
      small = omega arith;
      after = λ q k. absurd (omega arith);
      body = λ q k n. absurd (omega arith);
      first = λ q k. absurd (omega arith);
    }

pub returns-then-kind-eq-SEQUENCE : goal.returns-then-kind-eq-SEQUENCE
returns-then-kind-eq-SEQUENCE c = record {
  small = omega arith;
  after = λ q k. absurd (omega arith);
  body = λ q k n. absurd (n (sym c.kind_of-kind.ensures ∙ c.if-kind-eq-SEQUENCE.true));
  first = λ q k. absurd (omega arith);
}

pub overflow_sub-result : goal.overflow_sub-result
overflow_sub-result c = let e = c.kind_of-kind.ensures in
    let z = some_before c.requires (omega arith) in
    omega arith

pub overflow_cast-result : goal.overflow_cast-result
overflow_cast-result c = let z = c.requires.short in
    omega arith

pub returns-then-w-eq1 : goal.returns-then-w-eq1
returns-then-w-eq1 c = let z = c.requires.short in
    record {
      small = omega arith;
      after = λ q k. absurd (omega arith);
      body = λ q k n. refl;
      first = λ q k. absurd (omega arith);
    }

pub first_number-requires : goal.first_number-requires
first_number-requires c = c.requires.in_tree

pub overflow_cast-result-2 : goal.overflow_cast-result-2
overflow_cast-result-2 c = let e = c.first_number.ensures in omega arith

pub returns : goal.returns
returns c = let e = c.first_number.ensures in
    record {
      small = omega arith;
      after = λ q k. absurd (omega arith);
      body = λ q k n. absurd (omega arith);
      first = λ q k. e;
    }

-- `rules::is_bound` meets its contract: the atoms decide. Assumes nothing.
use Rattle.std.proofs.Common.{refl, rules, arith}
use borrow.Author.Tests.{tests}
use Rattle.std.proofs.lemmas.Iterator.{serves_from_Range}
use Rattle.meaning.proofs.Lists.Library.{contains_elem}
use lib.ListN.{get_or}
use Prim.Native.Nat.{◌+◌, ◌*◌}
use Rattle.meaning.specs.Limits.{atom_width}
use Rattle.meaning.specs.Pack.{Atom}
use Rattle.meaning.specs.Tests.{elem}
use Rattle.names.proofs.Atoms.{atom_holds, atom_room, variables_few}
use Rattle.meaning.proofs.Lists.Ranges.{any_entry, part_slice}
use Rattle.names.proofs.rules.is_bound.Goals as goal

pub any-requires-clause-callable : goal.any-requires-clause-callable
any-requires-clause-callable c =
    let g = c.requires.given in
    serves_from_Range (λ x q k. search (rules, tests)) (λ x low high. let r = atom_room g x high in let f = variables_few g x high in search rules)

pub returns : goal.returns
returns c = λ as' a. any_entry (λ (t : Atom). elem c.args.v t.variables) as' a.many _ refl
    (λ i b q k. (
      search rules,
      λ x e.
          let at = c.args.first + i * atom_width + 2 in
          let end = at + get_or c.args.numbers.now (c.args.first + i * atom_width + 1) 0 in
          let p = part_slice at end c.args.numbers.now (omega arith) in
          atom_holds a i x e c.args.v (contains_elem c.args.v _ (search (rules, p))),
    )) c.any.ensures.ran

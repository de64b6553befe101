-- `matching::candidates::all_candidates` meets its contract: the candidates of the first j atoms. Assumes nothing.
use lib.ListN.{length, get_or, take, drop, length-take, length-drop}
use mathlib.Core.List.{List}
use mathlib.Core.Path.{refl}
use native.Mathlib.Omega.{arith}
use Prim.Native.Nat.{◌-◌, ◌+◌, ◌*◌}
use Rattle.matching.specs.Plan.{Among, KeyVariables, RowsBytes}
use Rattle.matching.proofs.Prepare.{prepare_start, prepare_again, prepare_done}
use Rattle.meaning.specs.Limits.{atom_width, max_rows}
use Rattle.meaning.proofs.Lists.Parts.{as_part}
use Rattle.matching.proofs.candidates.all_candidates.Goals as goal

pub loop-j-init : goal.loop-j-init
loop-j-init c = prepare_start _ _ _ _ _ _ _ refl

pub candidates-n-requires : goal.candidates-n-requires
candidates-n-requires c = let s = c.args in
    let p = c.requires in
    let j = c.loop-j.j in
    let l = c.loop-j-test.true in
    let a = j * atom_width + 2 in
    let k = get_or s.atoms.now (j * atom_width + 1) 0 in
    let o = get_or s.orders.now (j * atom_width + 1) 0 in
    let own = drop a s.atoms.now in
    let order = drop a s.orders.now in (
      as_part KeyVariables a k own (p.0.variables j l),
      as_part KeyVariables a o order (p.1.variables j l),
      as_part (λ (x : List _). Among x (take (a + k - a) own)) a o order (as_part (λ (x : List _). Among (take o order) x) a k own (λ v. (p.2.same j l v).0)),
      p.3,
      as_part (λ (x : List _). RowsBytes s.rows.now (get_or s.atoms.now (j * atom_width) 0) (length x)) a k own (p.4 j l),
      omega (
        arith,
        p.5,
        p.6,
        p.0.few,
        l,
        c.loop-j.invariant.long,
        length-take (j * max_rows + max_rows - j * max_rows) (drop (j * max_rows) c.loop-j.out),
        length-drop (j * max_rows) c.loop-j.out,
      ),
    )

pub loop-j-preserved : goal.loop-j-preserved
loop-j-preserved c = prepare_again c.loop-j.invariant c.loop-j-test.true c.requires.0.few c.requires.6 _ _ _ _ refl refl c.candidates-n.ensures
    c.candidates-n.auto.out

pub returns : goal.returns
returns c = prepare_done c.loop-j.invariant c.loop-j-test.false

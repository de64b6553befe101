-- `checks::check` meets its contract: the refusals are looked at in checking order. Assumes nothing.
use mathlib.Core.Path.{refl, sym, ◌∙◌}
use native.Mathlib.Omega.{arith}
use Rattle.checks.proofs.FromParts.{accepts, broken, given, is_pack, loaded}
use Rattle.std.proofs.lemmas.Result.{err_from_is_err_and}
use Rattle.pack.proofs.Order.{refused_3, refused_4, refused_5, refused_6, refused_7}
use Rattle.checks.proofs.check.Goals as goal

pub returns-then-bad_size : goal.returns-then-bad_size
returns-then-bad_size c = (3, refused_3 _ (sym c.bad_size.ensures ∙ c.if-bad_size.true), refl)

pub returns-in_err-counts : goal.returns-in_err-counts
returns-in_err-counts c =
    let p = err_from_is_err_and c.from_residual.result c.from_residual.ensures.1 in
    rw (p.1, p.2) (broken _ _ _ c.load.result c.load.ensures c.ok_or.ensures.value (refused_4 _ (sym c.bad_size.ensures ∙ c.if-bad_size.false)) c.in_err-counts.was)

pub returns-then-has_duplicates : goal.returns-then-has_duplicates
returns-then-has_duplicates c =
    let l = loaded _ _ _ c.load.result c.load.ensures c.ok_or.ensures.value c.in_ok-counts.was in
    (5, refused_5 _ (sym c.bad_size.ensures ∙ c.if-bad_size.false) l.pack l.is (sym (c.has_duplicates.ensures l.pack l.held.setting) ∙ c.if-has_duplicates.true), refl)

pub returns-then-has_prefix_clash : goal.returns-then-has_prefix_clash
returns-then-has_prefix_clash c =
    let l = loaded _ _ _ c.load.result c.load.ensures c.ok_or.ensures.value c.in_ok-counts.was in (
      6,
      refused_6 _ (sym c.bad_size.ensures ∙ c.if-bad_size.false) l.pack l.is (sym (c.has_duplicates.ensures l.pack l.held.setting) ∙ c.if-has_duplicates.false)
          (sym (c.has_prefix_clash.ensures l.pack l.held.setting) ∙ c.if-has_prefix_clash.true),
      refl,
    )

pub is_dangling-requires : goal.is_dangling-requires
is_dangling-requires c =
    is_pack (loaded _ _ _ c.load.result c.load.ensures c.ok_or.ensures.value c.in_ok-counts.was) (λ k. omega (arith, c.type_inv.s k)) (omega (arith, c.requires.0, c.load.auto.numbers))

pub returns-then-is_dangling : goal.returns-then-is_dangling
returns-then-is_dangling c =
    let l = loaded _ _ _ c.load.result c.load.ensures c.ok_or.ensures.value c.in_ok-counts.was in (
      7,
      refused_7 _ (sym c.bad_size.ensures ∙ c.if-bad_size.false) l.pack l.is (sym (c.has_duplicates.ensures l.pack l.held.setting) ∙ c.if-has_duplicates.false)
          (sym (c.has_prefix_clash.ensures l.pack l.held.setting) ∙ c.if-has_prefix_clash.false)
          (sym (c.is_dangling.ensures l.pack (given l (λ k. omega (arith, c.type_inv.s k)) (omega (arith, c.requires.0, c.load.auto.numbers)))) ∙ c.if-is_dangling.true),
      refl,
    )

pub returns : goal.returns
returns c =
    let l = loaded _ _ _ c.load.result c.load.ensures c.ok_or.ensures.value c.in_ok-counts.was in
    accepts l (λ k. omega (arith, c.type_inv.s k)) (omega (arith, c.requires.0, c.load.auto.numbers)) (sym c.bad_size.ensures ∙ c.if-bad_size.false)
    (sym (c.has_duplicates.ensures l.pack l.held.setting) ∙ c.if-has_duplicates.false)
    (sym (c.has_prefix_clash.ensures l.pack l.held.setting) ∙ c.if-has_prefix_clash.false)
    (sym (c.is_dangling.ensures l.pack (given l (λ k. omega (arith, c.type_inv.s k)) (omega (arith, c.requires.0, c.load.auto.numbers)))) ∙ c.if-is_dangling.false)

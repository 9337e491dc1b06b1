-- `Move::write_words` meets its contract. Assumes nothing.
use mathlib.Core.Bool.{Bool, true, false}
use mathlib.Core.Path.{refl, ap, subst}
use lib.ListN.{get_or}
use Prim.Native.Nat.{◌+◌, ◌≤◌, zero-le}
use native.Mathlib.Nat.{le_refl}
use native.Mathlib.Omega.{arith}
use mir.Val.{bool_byte}
use borrow.Author.Rules.{rules}
use Rattle.bounds.specs.declared.answer.Written.{Written}
use Rattle.bounds.specs.Refusals.{Answer}
use Rattle.write.specs.Sayings.{MovesAndSays}
use Rattle.column.specs.Columns.{MovableUpTo}
use Rattle.column.specs.Counts.{none}
use Rattle.column.proofs.Counts.{counts_le}
use Rattle.column.proofs.Walks.{none_written, one_more_written, moves_word, not_an_error, one_more_counted}
use Rattle.column.proofs.moving.Move.write_words.Goals as goal

-- a flag counts at most one
flag_le : (b : Bool) → bool_byte b ≤ 1
flag_le true = le_refl 1
flag_le false = zero-le

pub loop-i-init : goal.loop-i-init
loop-i-init c = (refl, none_written _ _ _ _ _, none)

pub unwrap-written-requires : goal.unwrap-written-requires
unfolding MovableUpTo
unwrap-written-requires c = not_an_error _ _ _ _ _ (c.requires.movable_up_to _ c.loop-i-test.true) c.word.ensures

pub overflow_add-exact : goal.overflow_add-exact
overflow_add-exact c = record { fits = omega (arith, flag_le c.is_exact.result, counts_le c.loop-i.invariant.2, c.loop-i.invariant.0, c.loop-i-test.true) }

pub loop-i-preserved : goal.loop-i-preserved
loop-i-preserved c =
    let m = moves_word _ _ _ _ _ (subst (λ (a : Answer Written). MovesAndSays c.args.self.from.bits c.args.self.to.bits c.args.self.rule (get_or c.args.words.now c.loop-i.i 0) a) c.unwrap-written.ensures c.word.ensures) in
    (c.loop-i.invariant.0, one_more_written _ _ _ _ _ _ _ _ (search rules) c.loop-i.invariant.1 m.moves, one_more_counted _ _ _ _ _ _ _ _ (search rules) c.loop-i.invariant.2 m _ (ap (λ (b : Bool). c.loop-i.exact + bool_byte b) c.is_exact.ensures))

-- The letter's three demands (paper 00), each as one statement: its sentences in their order, over what the public contracts allow.
use Rattle.promises.specs.Demands.{ReadingIsTheDefinition}
use Rattle.promises.specs.Numbers.{AWholeNumberIsRefusedExactlyWhereItHasNoWord, EveryWholeNumberUpToTheLimitIsWritten, TheLimitPlusOneIsRefused}
use Rattle.promises.specs.Refusals.{RefusalsFollowTheTable}
use Rattle.promises.specs.Sheets.{ARefusedWriteLeavesTheBuffer}
use Rattle.promises.specs.Slices.{ARefusedColumnWritesNothing, ARefusedBlockWritesNothing, EachWordOfAColumnIsMoved, AStrictColumnKeepsEveryValue, EachWordOfABlockIsRead}
use Rattle.promises.specs.Writing.{RoundedIsTheNearest, RoundedIsNeverZeroNorNaR, PastTheLargest, BeforeTheSmallest, StrictMovesKeepTheValue, StrictMovesAreRefusedExactlyWhereThereIsNoWord, NaRMovesToNaR, ChainsComeHome}

-- Every public call takes every input and ends: no public function has a `requires`, and a function is proved only if it ends.
pub record DemandOne : Type 0 where
  -- "Bad input gets the refusal number that our papers fix,
  pub numbers : RefusalsFollowTheTable
  -- and a refused call writes into no memory that we lent it."
  pub column : ARefusedColumnWritesNothing
  pub block : ARefusedBlockWritesNothing
  pub buffer : ARefusedWriteLeavesTheBuffer

pub record DemandTwo : Type 0 where
  -- "For widths 2 to 64, the reading of each word (with its own fraction bits: paper 02, Wish 3), alone
  pub alone : ReadingIsTheDefinition
  -- or at any place in a column
  pub in_a_column : EachWordOfAColumnIsMoved
  pub with_its_value : AStrictColumnKeepsEveryValue
  -- or block, is the value that the published linear takum definition gives.
  pub in_a_block : EachWordOfABlockIsRead
  -- Writing a value rounded gives the nearest word, a tie going to the even word;
  pub nearest : RoundedIsTheNearest
  -- a nonzero value past either end gives the end word of its sign,
  pub past_the_largest : PastTheLargest
  pub before_the_smallest : BeforeTheSmallest
  -- never zero and never NaR."
  pub never_zero_nor_NaR : RoundedIsNeverZeroNorNaR

pub record DemandThree : Type 0 where
  -- "A strict move of any valid word between widths 2 to 64 gives the same value,
  pub same_value : StrictMovesKeepTheValue
  -- or NaR for NaR,
  pub NaR_for_NaR : NaRMovesToNaR
  -- or is refused as inexact, and so refused exactly when no word of that width has the value.
  pub exactly : StrictMovesAreRefusedExactlyWhereThereIsNoWord
  -- After any chain of strict moves in which none was refused, a strict move back to the first width gives the first word.
  pub chains : ChainsComeHome
  -- A strict write of a whole number is refused as inexact exactly when it has no word:
  pub whole_numbers : AWholeNumberIsRefusedExactlyWhereItHasNoWord
  -- never when its size is at or below the stated limit for the width,
  pub up_to_the_limit : EveryWholeNumberUpToTheLimitIsWritten
  -- and always at the limit plus one."
  pub limit_plus_one : TheLimitPlusOneIsRefused

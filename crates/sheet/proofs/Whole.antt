-- What the test of the number of bytes tells of a block. Assumes nothing.
use Rattle.std.proofs.Common.{◌≡◌, ℕ, List, Ok, Err, sym, ap, ◌∙◌, subst}
use Rattle.bounds.specs.declared.refusal.Refusal.{Refusal}
use Rattle.bounds.specs.Refusals.{Answer, through, refused}
use Rattle.sheet.specs.declared.bytes.Bytes.{Bytes}
use Rattle.sheet.specs.Whole.{IsBytes}
use Rattle.sheet.specs.Reads.{block_test}

GivesBytes : Answer Bytes → Type 0
GivesBytes (Ok b) = Unit {0}
GivesBytes (Err q) = ⊥

all_of : List ℕ → Answer Bytes → List ℕ
all_of d (Ok b) = b.all.now
all_of d (Err q) = d

refusal_of : Refusal → Answer Bytes → Refusal
refusal_of d (Ok b) = d
refusal_of d (Err q) = q

pub are_the_block : (block : List ℕ) (b : Bytes) → IsBytes block (Ok b) → b.all.now ≡ block
unfolding IsBytes GivesBytes all_of
are_the_block block b (through e x) = ap (all_of block) x.1 ∙ x.2
are_the_block block b (refused e x) = absurd (subst GivesBytes x tt)

pub other_size : (block : List ℕ) (places : ℕ) (q : Refusal) → IsBytes block (Err q) → block_test block places ≡ Err q
unfolding IsBytes GivesBytes refusal_of block_test
other_size block places q (through e x) = absurd (subst GivesBytes (sym x.1) tt)
other_size block places q (refused e x) = rw e (ap Err (sym (ap (refusal_of q) x)))

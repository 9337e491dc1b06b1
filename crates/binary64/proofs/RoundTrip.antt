-- Up to width 57 a word taken out and written again, by either rule, is the first word. Assumes nothing.
use Rattle.std.specs.Prelude.{Ok}
use Rattle.bounds.specs.Refusals.{Answer, IsWord}
use mathlib.Core.Path.{◌≡◌, sym, ap, ◌∙◌}
use mathlib.Core.Bool.{Bool}
use Prim.Native.Nat.{ℕ, ◌*◌, ◌^◌, ◌≤◌}
use lib.IntN.{ℤ, nat_abs}
use lib.Ieee.{Float, nan, inf, fin, up, down}
use lib.Ieee.Exact.{HasValue}
use lib.Ieee.Fits.{down_pos}
use Rattle.word.specs.Reads.{signed_size}
use Rattle.word.specs.Takum.{real, takum}
use Rattle.bounds.proofs.Verdicts.{width_fits, answered}
use Rattle.round.specs.declared.value.Rule.{Rule}
use Rattle.write.specs.Writes.{is_negative}
use Rattle.write.proofs.Moves.{rejoined}
use Rattle.round.proofs.Rounding.{exact_written}
use Rattle.binary64.specs.declared.taking.Binary64.{Binary64}
use Rattle.binary64.specs.Takes.{TakesBinary64}
use Rattle.binary64.specs.Writes.{IsWrittenBinary64, WritesBinary64}
use Rattle.binary64.proofs.Exactness.{taken_exact}
use Rattle.binary64.proofs.Taken.{taken}

-- a number with exactly a word's value is written as that word
pub value_written_back : (n w : ℕ) (rule : Rule) (x : Float) (z : ℤ) (r : Answer ℕ) → IsWord n w → takum n w ≡ real z → HasValue x (is_negative z) (nat_abs z) (2 ^ 307) → IsWrittenBinary64 n rule x r → r ≡ Ok w
unfolding IsWrittenBinary64
value_written_back n w rule nan z r i q h y = absurd h
value_written_back n w rule (inf s) z r i q h y = absurd h
value_written_back n w rule (fin s m e) z r i q h y =
    exact_written n i.least i.most rule s (m * up e * 2 ^ 307) (down e) w r (down_pos e)
    (record { z = nat_abs z; is = record { word = i; means = q ∙ ap real (sym (rejoined z) ∙ ap (λ (s : Bool). signed_size s (nat_abs z)) (sym h.0)) }; same = sym h.1 }) y

pub out_then_in : (n w : ℕ) (rule : Rule) (x : Float) (r : Answer ℕ) → n ≤ 57 → TakesBinary64 n w (Binary64.Number x) → WritesBinary64 n rule x r → r ≡ Ok w
unfolding WritesBinary64
out_then_in n w rule x r narrow p q =
    let t = taken_exact n w x narrow p in
    let i = (taken n w x p).word in
    value_written_back n w rule x t.0 r i t.1 t.2 (answered (width_fits n i.least i.most) q)

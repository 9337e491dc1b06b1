-- The face adds no choice: where the public call allows one answer, one struct is handed over. Gives and Gives' may differ, as those of a column do
-- by what its results hold. Assumes nothing.
use mathlib.Core.Path.{◌≡◌, ◌∙◌, sym, ap}
use Rattle.ledusprig.specs.Handed.{HandsOver}

pub hands_over_one :
    {Answers Handed : Type 0} {handed : Answers → Handed} {Gives Gives' : Answers → Type 0} {r s : Handed} →
    HandsOver handed Gives r →
    HandsOver handed Gives' s →
    ((a b : Answers) → Gives a → Gives' b → a ≡ b) →
    r ≡ s
hands_over_one {handed = handed} p q one = p.is ∙ ap handed (one _ _ p.given q.given) ∙ sym q.is

-- `cut_by` meets its contract. Assumes nothing.
use Rattle.std.proofs.Common.{sym, ap, ◌∙◌, true≢false, rules}
use denote.Enum.Bare.{same_true, sameb}
use Rattle.std.specs.contracts.io.ErrorKind.{the_type}
use Rattle.std.specs.declared.io.ErrorKind.{ErrorKind}
use Rattle.std.specs.declared.io.ErrorKind.TheVariants.{BrokenPipe}
use Rattle.lister.specs.Endings.{unread, failed}
use Rattle.lister.proofs.pieces.cut_by.Goals as goal

pub returns-then-eq : goal.returns-then-eq
returns-then-eq c = unread (sym c.kind.ensures ∙ same_true the_type (search rules) c.kind.result BrokenPipe (sym c.if-eq.ensures))

pub returns : goal.returns
returns c = failed (λ e. true≢false (sym (c.if-eq.ensures ∙ ap (λ (k : ErrorKind). sameb the_type k BrokenPipe) (c.kind.ensures ∙ e))))

-- A buffer and the place where the next text goes: how much room it has, and what is put there.
use Rattle.std.specs.Prelude.{◌≡◌, List, ℕ, ◌+◌, ◌≤◌, length}
use Rattle.listing.specs.declared.text.Text.{Text}
use Rattle.listing.specs.Puts.{Puts}

abbrev pub HasRoom : ℕ → Text → Type 0
HasRoom n text = text.at + n ≤ length text.out.now

-- the text t is put at the place, and the next place is behind it, in the same buffer
pub record Adds (before : Text) (t : List ℕ) (after : Text) : Type 0 where
  pub puts : Puts before.out.now before.at t after.out.now after.at
  pub same_buffer : after.out.ghost_name ≡ before.out.ghost_name

-- a text that meets P and has no more than n bytes is put
pub record AddsSome (n : ℕ) (P : List ℕ → Type 0) (before after : Text) : Type 0 where
  pub text : List ℕ
  pub is : P text
  pub short : length text ≤ n
  pub adds : Adds before text after

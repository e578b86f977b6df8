-- What a writing into lent bytes, from a place on, has done: the bytes and the place before and after. No public promise cites this.
use Rattle.std.specs.Prelude.{List, ◌≡◌, ℕ, ◌+◌, length}
use Rattle.numbers.specs.Over.{over}
use Rattle.listing.specs.declared.write.Writer.{Writer}

pub record Wrote (before after : List ℕ) (at next : ℕ) (new : List ℕ) : Type 0 where
  pub bytes : after ≡ over before at new
  pub place : next ≡ at + length new

-- a writer wrote new where it stood, and still holds the bytes that it was lent, as many as before
pub record Writes (before after : Writer) (new : List ℕ) : Type 0 where
  pub wrote : Wrote before.text.now after.text.now before.at after.at new
  pub kept : length after.text.now ≡ length before.text.now
  pub lent : after.text.ghost_name ≡ before.text.ghost_name

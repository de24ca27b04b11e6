-- What is written to a sink.
use Rattle.std.specs.Prelude.{◌≡◌, ◌++◌, true, false, List, ℕ, Option}
use Rattle.std.specs.Io.KnownBytes.{Appends}
use Rattle.gnb_base.specs.Outside.{SinkAt}
use Rattle.command_defs.specs.Outside.{OutsideAt}

-- this text was written
pub record Prints (before after : SinkAt) (text : List ℕ) : Type 0 where
  pub appends : Appends before.held after.held text

-- a front of this text was written
pub record PrintsFront (before after : SinkAt) (text : List ℕ) : Type 0 where
  pub part : List ℕ
  pub rest : List ℕ
  pub parts : text ≡ part ++ rest
  pub prints : Prints before after part

-- this text was written, and maybe more after it
pub record PrintsAtLeast (before after : SinkAt) (text : List ℕ) : Type 0 where
  pub more : List ℕ
  pub prints : Prints before after (text ++ more)

-- Where a read failed in the call, this text was written, even where the write after that read failed as well. A program can't know that a
-- read is going to fail, nor that a write is: so at each read that it makes, what the lines before it come to was written.
abbrev pub WritesBeforeReads : OutsideAt → OutsideAt → List ℕ → Type 0
WritesBeforeReads before after text =
    before.source.failed ≡ false → after.source.failed ≡ true → PrintsAtLeast before.sink after.sink text

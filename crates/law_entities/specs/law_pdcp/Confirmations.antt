-- What a sender learns, whatever it learns it by: all below a COUNT are confirmed, and those of a set.
use Rattle.std.specs.Prelude.{ℕ, ◌+◌, ◌-◌, Bool, false, not, ◌&&◌, ◌||◌, nat_lt, nat_le, max, List, filter}
use Rattle.pdcp_defs.specs.Senders.{Sender, is_set}

pub record Confirmation : Type 0 where
  pub below : ℕ
  pub also : ℕ → Bool

-- what is not confirmed so is still held
unfoldable pub confirmed : {X : Type 0} → Sender X → Confirmation → Sender X
confirmed s c = record s { unconfirmed = filter (λ e. nat_le c.below e.0 && not (c.also e.0)) s.unconfirmed }

-- an acknowledgement, and the delivered number of a status: all up to a COUNT
abbrev pub up_to : ℕ → Confirmation
up_to count = record { below = count + 1; also = λ k. false }

-- a status report: all below FMC, and those whose bit is set
abbrev pub reported : ℕ → List Bool → Confirmation
reported fmc bits = record { below = fmc; also = λ k. nat_lt fmc k && is_set bits (k - fmc - 1) }

-- both of them
abbrev pub together : Confirmation → Confirmation → Confirmation
together a b = record { below = max a.below b.below; also = λ k. a.also k || b.also k }

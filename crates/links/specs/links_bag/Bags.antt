-- The control messages that were ever put, and what the calls of their bag give. Message n is the n-th that was put.
use Rattle.std.specs.Prelude.{◌≡◌, ℕ, ◌+◌, ◌&&◌, nat_lt, if◌then◌else◌, List, length, Option, Some, None}
use Rattle.gnb_types.specs.declared.names.NodeId.{NodeId}
use Rattle.transport_defs.specs.declared.ControlMessage.{ControlMessage}
use Rattle.transport_defs.specs.Links.{Bag, most_control_messages, put_control_message, control_message, landed, is_in, is_of, in_flight_of}
use Rattle.links.specs.declared.links_bag.error.LinkError.TheVariants as errors
use Rattle.links.specs.links_bag.Answers.{Answer, gives, refuses}
use Rattle.links.specs.link_tallies.Tied.{one_if}

abbrev pub message : NodeId → NodeId → ℕ → List ℕ → ControlMessage (List ℕ)
message from to ue octets = record { from = from; to = to; ue = ue; message = octets }

module _ {M : Type 0} where
  -- a message gets the next number, and is in flight
  abbrev pub put : Bag M → ControlMessage M → Answer ℕ (Bag M)
  put bag l = if nat_lt (length bag.control_messages) most_control_messages then gives (length bag.control_messages + 1) (put_control_message bag l) else refuses errors.Spent

  -- a message that was ever put may be given, again and again; it isn't in flight any more
  abbrev pub give_in : Bag M → ℕ → Option (ControlMessage M) → Answer (ControlMessage M) (Bag M)
  give_in bag number None = refuses errors.NoSuch
  give_in bag number (Some l) = gives l (landed bag number)

  abbrev pub give : Bag M → ℕ → Answer (ControlMessage M) (Bag M)
  give bag number = give_in bag number (control_message bag number)

  -- a message in flight is lost
  abbrev pub lose_in : Bag M → ℕ → Option (ControlMessage M) → Answer (Unit {0}) (Bag M)
  lose_in bag number None = refuses errors.NoSuch
  lose_in bag number (Some l) = if is_in number bag.flight then gives tt (landed bag number) else refuses errors.Empty

  abbrev pub lose : Bag M → ℕ → Answer (Unit {0}) (Bag M)
  lose bag number = lose_in bag number (control_message bag number)

  -- how many are in flight, of a terminal where one is named
  abbrev pub in_flight : Bag M → Option ℕ → ℕ
  in_flight bag None = length bag.flight
  in_flight bag (Some ue) = in_flight_of bag ue

  -- how many of those in flight this message is, 1 or 0: of its terminal, where one is named
  abbrev pub counts : Bag M → ℕ → Option ℕ → ℕ
  counts bag number None = one_if (is_in number bag.flight)
  counts bag number (Some ue) = one_if (is_in number bag.flight && is_of ue (control_message bag number))

  -- One message fewer is in flight, in all and of its terminal, where this one was in flight; of all others as many are as were.
  abbrev pub IsOneFewer : Bag M → Bag M → ℕ → Type 0
  IsOneFewer old new number = (ue : Option ℕ) → in_flight new ue + counts old number ue ≡ in_flight old ue

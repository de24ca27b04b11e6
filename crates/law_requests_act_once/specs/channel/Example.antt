-- A worked list of orders between the two CU-CPs, for terminal 1: a handover request that is put again and answered later, an SN
-- status that waits and is overtaken by a cancel, a request that expires with its cancel, and a release.
use Rattle.std.specs.Prelude.{ℕ, false, List, [], ◌∷◌, Option, Some, None}
use Rattle.gnb_types.specs.declared.names.Gnb.TheVariants.{A, B}
use Rattle.gnb_types.specs.declared.names.NodeId.{NodeId}
use Rattle.gnb_types.specs.declared.names.NodeId.TheVariants.{CuCp}
use Rattle.gnb_types.specs.declared.names.SnBits.TheVariants.{Len12}
use Rattle.gnb_types.specs.declared.keys.Channel.{Channel}
use Rattle.message_types.specs.declared.xn.XnMessage.TheVariants as xns
use Rattle.message_types.specs.declared.rrc.Token.{Token}
use Rattle.unit_defs.specs.Ways.{Message, xn, rrc, Pdu}
use Rattle.unit_defs.specs.Transactions.{kind_of, no_instance, Waiting}
use Rattle.law_requests_act_once.specs.channel.Replies.{answers, overtakes, Talk}
use Rattle.law_requests_act_once.specs.channel.Ends.{Route, Act}
use Rattle.law_requests_act_once.specs.channel.Moves.{Move, asks, asks_at_once, advances, closes, ages, repeats, takes, replies, replies_late, replies_again, Order}

-- messages are what they say
abbrev pub plain_talk : Talk (Message Token) Token Pdu
plain_talk = record {
  way = record { encode = λ m. m; wrap = λ t. t; unwrap = λ t. Some t; pass = λ t. rrc t; write = λ sn pdu. pdu; number = λ sn pdu. None };
  kind = kind_of;
  answers = answers;
  overtakes = overtakes;
}

abbrev pub to_target : Channel
to_target = record { ue = 1; peer = CuCp B }

abbrev pub to_source : Channel
to_source = record { ue = 1; peer = CuCp A }

abbrev pub preparation : ℕ → Message Token
preparation instance = xn (xns.HandoverRequest (record { 0 = 1 }) instance 2 1 Len12 4 (record { gnb = B; up = 1 }) 1 None)

abbrev pub prepared : ℕ → Message Token
prepared instance = xn (xns.HandoverRequestAcknowledge (record { 0 = 1 }) instance (record { gnb = B; up = 1 }) [] [])

abbrev pub sn_status : ℕ → Message Token
sn_status instance = xn (xns.SnStatusTransfer (record { 0 = 1 }) instance [])

abbrev pub cancel : ℕ → Message Token
cancel instance = xn (xns.HandoverCancel (record { 0 = 1 }) instance)

abbrev pub release : ℕ → Message Token
release instance = xn (xns.UeContextRelease (record { 0 = 1 }) instance)

abbrev pub confirm : ℕ → Message Token
confirm instance = xn (xns.TransportConfirm (record { 0 = 1 }) instance)

abbrev pub asked_for : Message Token → Option ℕ → Waiting Token
asked_for message deadline = record { message = message; deadline = deadline; awaited = false }

abbrev pub order_of : NodeId → Move (Message Token) Token → Order plain_talk
order_of node move = record { node = node; move = move }

abbrev pub script : List (Order plain_talk)
script =
    order_of (CuCp A) (asks to_target (asked_for (preparation no_instance) (Some 8)))
    ∷ order_of (CuCp B) (takes to_source 1 (preparation 1))
    ∷ order_of (CuCp A) ages
    ∷ order_of (CuCp A) (repeats to_target (preparation 1))
    ∷ order_of (CuCp B) (replies_late to_source 1 (prepared 1))
    ∷ order_of (CuCp B) (replies_again to_source)
    ∷ order_of (CuCp A) (asks to_target (asked_for (sn_status no_instance) None))
    ∷ order_of (CuCp A) (closes to_target)
    ∷ order_of (CuCp A) (advances to_target)
    ∷ order_of (CuCp A) (asks_at_once to_target (asked_for (cancel no_instance) None))
    ∷ order_of (CuCp B) (takes to_source 3 (cancel 3))
    ∷ order_of (CuCp B) (replies to_source (confirm 3))
    ∷ order_of (CuCp A) (closes to_target)
    ∷ order_of (CuCp A) (asks to_target (asked_for (preparation no_instance) (Some 1)))
    ∷ order_of (CuCp A) ages
    ∷ order_of (CuCp A) (asks_at_once to_target (asked_for (cancel no_instance) None))
    ∷ order_of (CuCp B) (takes to_source 5 (cancel 5))
    ∷ order_of (CuCp B) (replies to_source (confirm 5))
    ∷ order_of (CuCp A) (closes to_target)
    ∷ order_of (CuCp A) (asks to_target (asked_for (release no_instance) None))
    ∷ order_of (CuCp B) (takes to_source 6 (release 6))
    ∷ order_of (CuCp B) (replies to_source (confirm 6))
    ∷ []

abbrev pub route : Route
route = record { from = CuCp A; to = CuCp B; ue = 1 }

-- the requests on which the target acts, the newest first: neither the SN status nor the request that expired
abbrev pub expected : List (Act (Message Token))
expected =
    record { instance = 6; message = release 6 }
    ∷ record { instance = 5; message = cancel 5 }
    ∷ record { instance = 3; message = cancel 3 }
    ∷ record { instance = 1; message = preparation 1 }
    ∷ []

-- The elements of a value of the PDU fit the fields that code has for them.
use Rattle.std.proofs.Common.{ℕ, []}
use Rattle.std.specs.Prelude.{codes}
use Rattle.aper_defs.specs.Values.{Value, message}
use Rattle.aper_defs.specs.Membership.{Has}
use Rattle.message_defs.specs.profile_defs.Messages.{core_messages}
use Rattle.message_defs.specs.profile_defs.Profile.{core_type}
use Rattle.message_defs.specs.Places.{elements_in}
use Rattle.message_values.specs.Fitting.{AreFitting}
use Rattle.message_values.proofs.Fits.{AllFit, none, one, no_more, also, pdu_fits, instance_one, peer_fits, tunnels_fit, ue_one}

all : AllFit core_messages
all =
    also (one ue_one (one instance_one (one (peer_fits 12) (one (tunnels_fit 13) none)))) (
    also (one ue_one (one instance_one none)) no_more)

pub fits : (index code criticality : ℕ) (body : Value) → Has [] core_type (message index code criticality body) → AreFitting (elements_in body)
unfolding core_type
fits = pdu_fits (codes "Core-PDU") core_messages all

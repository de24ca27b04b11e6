-- The elements of a value of the PDU fit the fields that code has for them, in each version of the profile.
use Rattle.std.proofs.Common.{ℕ, []}
use Rattle.std.specs.Prelude.{codes}
use Rattle.aper_defs.specs.Values.{Value, message}
use Rattle.aper_defs.specs.Membership.{Has}
use Rattle.message_defs.specs.profile_defs.Messages.{xn_messages}
use Rattle.message_defs.specs.profile_defs.Profile.{xn_type}
use Rattle.message_defs.specs.Places.{elements_in}
use Rattle.message_values.specs.Fitting.{AreFitting}
use Rattle.message_values.proofs.Fits.{AllFit, none, one, no_more, also, pdu_fits, bearers_one, cause_fits, du_one, epoch_one, instance_one, peer_fits, quota_one, sn_fits, statuses_fit, tunnels_fit, ue_one}

all : (version : ℕ) → AllFit (xn_messages version)
all version =
    also (one ue_one (one instance_one (one epoch_one (one bearers_one (one (sn_fits 9) (one quota_one (one (peer_fits 12) (one du_one none)))))))) (
    also (one ue_one (one instance_one (one (peer_fits 12) (one (tunnels_fit 14) (one (tunnels_fit 15) none))))) (
    also (one ue_one (one instance_one (one (cause_fits 8) none))) (
    also (one ue_one (one instance_one (one (statuses_fit 16) none))) (
    also (one ue_one (one instance_one none)) (
    also (one ue_one (one instance_one none)) (
    also (one ue_one (one instance_one none)) no_more))))))

pub fits : (version index code criticality : ℕ) (body : Value) → Has [] (xn_type version) (message index code criticality body)
    → AreFitting (elements_in body)
unfolding xn_type
fits version = pdu_fits (codes "XnAP-PDU") (xn_messages version) (all version)

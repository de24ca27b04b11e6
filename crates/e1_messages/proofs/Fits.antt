-- The elements of a value of the PDU fit the fields that code has for them.
use Rattle.std.proofs.Common.{ℕ, []}
use Rattle.std.specs.Prelude.{codes}
use Rattle.aper_defs.specs.Values.{Value, message}
use Rattle.aper_defs.specs.Membership.{Has}
use Rattle.message_defs.specs.profile_defs.Messages.{e1_messages}
use Rattle.message_defs.specs.profile_defs.Profile.{e1_type}
use Rattle.message_defs.specs.Places.{elements_in}
use Rattle.message_values.specs.Fitting.{AreFitting}
use Rattle.message_values.proofs.Fits.{AllFit, none, one, no_more, also, pdu_fits, bearers_one, cause_fits, du_one, flag_fits, instance_one, mode_fits, name_fits, peer_fits, quota_one, sn_fits, statuses_fit, tunnels_fit, ue_one}

all : AllFit e1_messages
all =
    also (one instance_one (one (name_fits 17) none)) (
    also (one instance_one none) (
    also (one ue_one (one instance_one (one bearers_one (one (sn_fits 9) (one quota_one (one (flag_fits 18) none)))))) (
    also (one ue_one (one instance_one (one (tunnels_fit 5) (one (tunnels_fit 13) (one (tunnels_fit 14) (one (tunnels_fit 15) none)))))) (
    also (one ue_one (one instance_one (one (cause_fits 8) none))) (
    also (one ue_one (one instance_one (one (tunnels_fit 6) (one (mode_fits 11) (one (peer_fits 12) (one (tunnels_fit 14) (one (tunnels_fit 15) (one (statuses_fit 16) (one du_one none))))))))) (
    also (one ue_one (one instance_one (one (tunnels_fit 5) (one (statuses_fit 16) none)))) (
    also (one ue_one (one instance_one (one (cause_fits 8) none))) (
    also (one ue_one (one instance_one (one (flag_fits 20) none))) (
    also (one ue_one (one instance_one none)) no_more)))))))))

pub fits : (index code criticality : ℕ) (body : Value) → Has [] e1_type (message index code criticality body) → AreFitting (elements_in body)
unfolding e1_type
fits = pdu_fits (codes "E1AP-PDU") e1_messages all

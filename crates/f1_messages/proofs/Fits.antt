-- The elements of a value of the PDU fit the fields that code has for them.
use Rattle.std.proofs.Common.{ℕ, []}
use Rattle.std.specs.Prelude.{codes}
use Rattle.aper_defs.specs.Values.{Value, message}
use Rattle.aper_defs.specs.Membership.{Has}
use Rattle.message_defs.specs.profile_defs.Messages.{f1_messages}
use Rattle.message_defs.specs.profile_defs.Profile.{f1_type}
use Rattle.message_defs.specs.Places.{elements_in}
use Rattle.message_values.specs.Fitting.{AreFitting}
use Rattle.message_values.proofs.Fits.{AllFit, none, one, no_more, also, pdu_fits, container_fits, epoch_one, instance_one, name_fits, peer_fits, sn_fits, tunnels_fit, ue_one}

all : AllFit f1_messages
all =
    also (one instance_one (one (name_fits 17) none)) (
    also (one instance_one none) (
    also (one ue_one (one instance_one (one epoch_one (one (tunnels_fit 5) (one (sn_fits 9) (one (peer_fits 12) none)))))) (
    also (one ue_one (one instance_one (one (tunnels_fit 6) none))) (
    also (one ue_one (one instance_one (one epoch_one none))) (
    also (one ue_one (one instance_one (one (tunnels_fit 6) none))) (
    also (one ue_one (one instance_one none)) (
    also (one ue_one (one instance_one none)) (
    also (one ue_one (one (container_fits 7) none)) (
    also (one ue_one (one (container_fits 7) none)) no_more)))))))))

pub fits : (index code criticality : ℕ) (body : Value) → Has [] f1_type (message index code criticality body) → AreFitting (elements_in body)
unfolding f1_type
fits = pdu_fits (codes "F1AP-PDU") f1_messages all

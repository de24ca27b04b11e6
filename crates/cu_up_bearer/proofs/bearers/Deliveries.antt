-- What is stored is delivered, one packet after another.
use Rattle.std.proofs.Common.{◌≡◌, ◌==◌, ℕ, ◌+◌, ◌<◌, Bool, true, false, cond, List, [], ◌∷◌, ◌++◌, length, Option, Some, None, refl, sym, ap, ◌∙◌, subst, append-nil, append_assoc, Ok}
use Rattle.std.specs.List.{AllByRecursion}
use Rattle.gnb_types.specs.declared.names.Dir.TheVariants.{Ul}
use Rattle.gnb_types.specs.declared.outputs.Output.{Output}
use Rattle.gnb_types.specs.declared.outputs.Output.TheVariants as outs
use Rattle.pdcp_defs.specs.Receivers.{Receiver, Delivery, deliver as handed_up, deliver_from, with_packet}
use Rattle.unit_defs.specs.Ways.{gives}
use Rattle.unit_defs.specs.CuUpRecords.{CuUpBearer}
use Rattle.unit_defs.specs.CuUpBearers.{delivered, deliver_stored}
use Rattle.unit_defs.specs.octet_defs.Codec.{Codec, octet_way}
use Rattle.unit_defs.specs.octet_defs.Units.{OctetAnswer}
use Rattle.unit_defs.specs.octet_defs.Writing.{outputs_of}
use Rattle.unit_messages.specs.steps.Steps.{stepped, step_after}
use Rattle.pdcp_bearers.specs.declared.ue_bearers.receiver.Delivered.{Delivered}
use Rattle.pdcp_bearers.specs.ue_bearers.Receivers.{ReceiverState, IsDelivered}
use Rattle.cu_up_bearer.specs.declared.tunnels.at.Scope.{Scope}
use Rattle.cu_up_bearer.specs.tunnels.Tunnels.{at_as}
use Rattle.cu_up_bearer.specs.bearers.Bearers.{with_receiver}

module _ (codec : Codec) (a : Scope) (b : CuUpBearer) where
  abbrev pub handing : Delivery (List ℕ) → OctetAnswer CuUpBearer
  handing d = gives (delivered (octet_way codec) (at_as a) d.packets) (record b { receiver = d.after })

  pub delivers : (d : ReceiverState) → deliver_stored (octet_way codec) (at_as a) (with_receiver b d) ≡ handing (handed_up d.receiver)
  unfolding deliver_stored
  delivers d = refl

  pub delivers_one : (before : List Output) (d e : Delivery (List ℕ)) (count : ℕ) (packet : List ℕ) → d ≡ with_packet (count, packet) e
      → step_after before (handing d) ≡ step_after (before ++ outs.Deliver a.ue a.bearer Ul count packet ∷ []) (handing e)
  delivers_one before d e count packet is =
      ap (λ (x : Delivery (List ℕ)). step_after before (handing x)) is
      ∙ ap (λ (os : List Output). stepped os (record b { receiver = e.after }))
      (sym (append_assoc before (outs.Deliver a.ue a.bearer Ul count packet ∷ []) (outputs_of (delivered (octet_way codec) (at_as a) e.packets))))

  pub delivers_none : (before : List Output) (r : ReceiverState) (d : Delivery (List ℕ)) → d ≡ record { packets = []; after = r.receiver }
      → step_after before (handing d) ≡ stepped before (with_receiver b r)
  delivers_none before r d is =
      ap (λ (x : Delivery (List ℕ)). step_after before (handing x)) is ∙ ap (λ (os : List Output). stepped os (with_receiver b r)) (append-nil before)

-- ---- what the entity says of an answer that came

pub delivered_facts : (old new : ReceiverState) (o : Option Delivered) (d : Delivered) → IsDelivered old new o → o ≡ Some d
    → (new ≡ record old { receiver = new.receiver }) × (handed_up old.receiver ≡ with_packet (d.count, d.packet) (handed_up new.receiver))
    × (length new.receiver.stored < length old.receiver.stored)
delivered_facts old new o d says is = subst (λ (x : Option Delivered). IsDelivered old new x) is says

pub not_delivered : (old new : ReceiverState) (o : Option Delivered) → IsDelivered old new o → o ≡ None
    → (new ≡ old) × (handed_up old.receiver ≡ record { packets = []; after = old.receiver })
not_delivered old new o says is = subst (λ (x : Option Delivered). IsDelivered old new x) is says

-- ---- what is stored: first what is delivered, then what stays

abbrev more_from : ℕ × List ℕ → Delivery (List ℕ) → Delivery (List ℕ) → Bool → Delivery (List ℕ)
more_from e rest none b = cond b (with_packet e rest) none

split_from : (deliv : ℕ) (es : List (ℕ × List ℕ)) → es ≡ (deliver_from deliv es).packets ++ (deliver_from deliv es).after.stored
split_from deliv [] = refl
split_from deliv (e ∷ es) = by (deliver_from (deliv + 1) es) (e.0 == deliv) (split_from (deliv + 1) es)
  where
    by : (rest : Delivery (List ℕ)) (b : Bool) → es ≡ rest.packets ++ rest.after.stored
        → e ∷ es ≡ (more_from e rest (record { packets = []; after = record { deliv = deliv; stored = e ∷ es } }) b).packets
        ++ (more_from e rest (record { packets = []; after = record { deliv = deliv; stored = e ∷ es } }) b).after.stored
    by rest true is = ap (λ (xs : List (ℕ × List ℕ)). e ∷ xs) is
    by rest false is = refl

split : (r : Receiver (List ℕ)) → r.stored ≡ (handed_up r).packets ++ (handed_up r).after.stored
unfolding handed_up
split r = split_from r.deliv r.stored

pub first_stored : (old new : Receiver (List ℕ)) (e : ℕ × List ℕ) → handed_up old ≡ with_packet e (handed_up new) → old.stored ≡ e ∷ new.stored
first_stored old new e is =
    split old ∙ ap (λ (d : Delivery (List ℕ)). d.packets ++ d.after.stored) is ∙ ap (λ (xs : List (ℕ × List ℕ)). e ∷ xs) (sym (split new))

pub all_kept : (P : ℕ × List ℕ → Type 0) (old new : Receiver (List ℕ)) (e : ℕ × List ℕ) → handed_up old ≡ with_packet e (handed_up new)
    → AllByRecursion P old.stored → AllByRecursion P new.stored
all_kept P old new e is all = (subst (λ (xs : List (ℕ × List ℕ)). AllByRecursion P xs) (first_stored old new e is) all).1

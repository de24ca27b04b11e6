-- What a terminal makes of the packet that it awaits.
use Rattle.std.proofs.Common.{◌≡◌, ℕ, ◌+◌, Bool, true, false, ◌||◌, List, [], ◌∷◌, Option, Some, refl, sym, ap, subst, arith, eq-eqb, inl, inr}
use Rattle.std.specs.Prelude.{if◌then◌else◌, nat_lt}
use Rattle.gnb_types.specs.declared.names.UeId.{UeId}
use Rattle.gnb_types.specs.declared.names.BearerId.{BearerId}
use Rattle.gnb_types.specs.declared.names.Dir.TheVariants.{Dl}
use Rattle.gnb_types.specs.declared.reasons.DropReason.TheVariants.{Duplicate}
use Rattle.gnb_types.specs.declared.reasons.HeldReason.TheVariants.{Ahead}
use Rattle.gnb_types.specs.Orders.{bearer_cmp}
use Rattle.tables.specs.Tables.{find, put}
use Rattle.pdcp_defs.specs.Receivers.{Receiver, Delivery, is_duplicate, is_ahead, stored, with_packet, deliver as handed_up}
use Rattle.unit_defs.specs.Ways.{packet_content, radio_input, held, Way, ◌then◌, nothing, puts, drops}
use Rattle.unit_defs.specs.Ue.{UeNode, UeBearer, with_bearer, of_bearer, handed, took_data, took, take, ue_acts}
use Rattle.law_downlink_scripts.specs.downlink_only_rows.DownlinkOnly.{UeTakes}

abbrev awaits : ℕ → Receiver (List ℕ)
awaits count = record { deliv = count; stored = [] }

module _ (count : ℕ) (p : List ℕ) where
  no_duplicate : is_duplicate (awaits count) count ≡ false
  unfolding is_duplicate find
  no_duplicate = let e : nat_lt count count ≡ false = grind arith in ap (λ (t : Bool). t || false) e

  handed_one : handed_up (stored (awaits count) count p) ≡ record { packets = (count, p) ∷ []; after = awaits (count + 1) }
  unfolding handed_up stored put
  handed_one =
      ap (λ (t : Bool). if t then with_packet (count, p) (record { packets = []; after = awaits (count + 1) })
      else record { packets = []; after = record { deliv = count; stored = (count, p) ∷ [] } }) (eq-eqb count count refl)

module _ {M C P : Type 0} (way : Way M C P) (u : UeNode) (bearer : BearerId) (b : UeBearer) (count : ℕ) (p : List ℕ) where
  row_takes : b.receiver ≡ awaits count → UeTakes way u bearer b count p (took_data way u bearer (Some count) p b then (λ c. nothing (with_bearer way u bearer c)))
  row_takes is =
      subst (λ (r : Receiver (List ℕ)). UeTakes way u bearer b count p ((if is_duplicate r count then drops Duplicate b else
      (if is_ahead u.plan.quota r count then puts (held Ahead) b else handed way u bearer b (handed_up (stored r count p))))
      then (λ c. nothing (with_bearer way u bearer c)))) (sym is)
      (by (is_duplicate (awaits count) count) (is_ahead u.plan.quota (awaits count) count) (no_duplicate count p))
    where
      last : UeTakes way u bearer b count p (handed way u bearer b (handed_up (stored (awaits count) count p)) then (λ c. nothing (with_bearer way u bearer c)))
      last =
          subst (λ (d : Delivery (List ℕ)). UeTakes way u bearer b count p (handed way u bearer b d then (λ c. nothing (with_bearer way u bearer c))))
          (sym (handed_one count p)) (inr (refl, refl))

      by : (s t : Bool) → s ≡ false → UeTakes way u bearer b count p ((if s then drops Duplicate b else
          (if t then puts (held Ahead) b else handed way u bearer b (handed_up (stored (awaits count) count p))))
          then (λ c. nothing (with_bearer way u bearer c)))
      by true t e = absurd cc
      by false false e = last
      by false true e = inl refl

  pub ue_takes : (who : UeId) (pdu : P) → find bearer_cmp u.bearers bearer ≡ Some b → b.receiver ≡ awaits count
      → UeTakes way u bearer b count p (ue_acts way u (radio_input who bearer Dl pdu (packet_content (Some count) p)))
  unfolding ue_acts take
  ue_takes who pdu has is =
      subst (λ (o : Option UeBearer). UeTakes way u bearer b count p (of_bearer way u bearer (took way u bearer (packet_content (Some count) p)) o))
      (sym has) (row_takes is)

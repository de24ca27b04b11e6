-- What a CU-UP does with an item of a tunnel, in octets.
use Rattle.std.proofs.Common.{◌≡◌, ℕ, ◌&&◌, List, [], ◌∷◌, ◌++◌, map, Option, Some, None, refl, sym, ap, ◌∙◌}
use Rattle.std.specs.Prelude.{if◌then◌else◌}
use Rattle.std.specs.List.{flat_map, list_all}
use Rattle.std.specs.Ordering.{nat_cmp}
use Rattle.std.proofs.lemmas.List.{map-append}
use Rattle.gnb_types.specs.declared.names.BearerId.{BearerId}
use Rattle.gnb_types.specs.declared.names.UeId.{UeId}
use Rattle.gnb_types.specs.declared.reasons.HeldReason.{HeldReason}
use Rattle.gnb_types.specs.Orders.{ue_cmp, bearer_cmp}
use Rattle.message_types.specs.declared.rrc.Token.{Token}
use Rattle.tables.specs.Tables.{find, put, without}
use Rattle.unit_defs.specs.Ways.{Message, Pdu, Taken, packet_input, Output, control, packet, radio, deliver, dropped, held, opened, closed, failed, no, Way, Answer, gives, spent, ◌then◌, nothing}
use Rattle.unit_defs.specs.Teids.{without_each}
use Rattle.unit_defs.specs.CuUpRecords.{CuUpBearer, CuUpContext, CuUpTunnel, CuUp, CuUpScope, cu_up_scope}
use Rattle.unit_defs.specs.CuUpBearers.{is_over, open_teids}
use Rattle.unit_defs.specs.CuUpItems.{held_reason, took}
use Rattle.unit_defs.specs.CuUp.{context_of, closed_in, ended, ended_if_over, end_where_over, with_context, with_bearer, taken_by, taken_in, taken_of, taken_on, take, cu_up_acts}
use Rattle.unit_defs.specs.octet_defs.Codec.{Codec, octet_way}
use Rattle.run_defs.specs.States.{Lengths}
use Rattle.run_defs.specs.Runs.{plain_way}
use Rattle.law_octets_say_the_same.specs.octet_rows.Octets.{up_again, put_again, answer_again}
use Rattle.law_octets_say_the_same.proofs.octet_rows.Answers.{then_again, if_again}
use Rattle.law_octets_say_the_same.proofs.octet_rows.Ups.{itself, Again}

-- the row of an item, where its bearer is there
module _ {M C P : Type 0} (way : Way M C P) (r : CuUp M C) (teid : ℕ) (item : Taken P) (t : CuUpTunnel) (c : CuUpContext) (b : CuUpBearer) where
  acts_by : find nat_cmp r.tunnels teid ≡ Some t → context_of r t.ue ≡ Some c → find bearer_cmp c.bearers t.bearer ≡ Some b
      → cu_up_acts way r (packet_input teid item) ≡ taken_by way r t teid item c b (held_reason (cu_up_scope t.ue c t.bearer) b t.kind item)
  unfolding cu_up_acts take
  acts_by is_open there has =
      ap (taken_on way r teid item) is_open ∙ ap (taken_of way r t teid item) there ∙ ap (taken_in way r t teid item c) has

module _ (codec : Codec) (spelled : Message Token → List ℕ) (sn : Lengths) where
  abbrev PlainUp : Type 0
  PlainUp = CuUp (Message Token) Token

  abbrev OctetUp : Type 0
  OctetUp = CuUp (List ℕ) (List ℕ)

  abbrev pub up_octets : PlainUp → OctetUp
  up_octets r = up_again r

  -- the TEIDs that are closed are the same
  closed_as : (o : Output (Message Token) Pdu) → closed_in (put_again spelled sn o) ≡ closed_in o
  closed_as (control to ue message) = refl
  closed_as (packet to teid ue bearer dir tag load) = refl
  closed_as (radio ue bearer dir epoch tag pdu) = refl
  closed_as (deliver ue bearer dir count p) = refl
  closed_as (dropped reason) = refl
  closed_as (held reason) = refl
  closed_as (opened teid) = refl
  closed_as (closed teid) = refl
  closed_as (failed ue cause) = refl
  closed_as (no reason) = refl

  all_closed_as : (os : List (Output (Message Token) Pdu)) → flat_map closed_in (map (put_again spelled sn) os) ≡ flat_map closed_in os
  all_closed_as [] = refl
  all_closed_as (o ∷ os) = (λ i. closed_as o i ++ all_closed_as os i)

  with_bearer_as : (r : PlainUp) (ue : UeId) (c : CuUpContext) (bearer : BearerId) (a : Answer (Message Token) Pdu CuUpBearer)
      → with_bearer (octet_way codec) (up_octets r) ue c bearer (answer_again spelled sn itself a)
      ≡ answer_again spelled sn up_octets (with_bearer plain_way r ue c bearer a)
  with_bearer_as r ue c bearer (gives os b) =
      ap (λ (teids : List ℕ). gives (map (put_again spelled sn) os) (up_octets (record (with_context ue r (record c { bearers = put bearer_cmp c.bearers bearer b })) { tunnels = without_each r.tunnels teids })))
      (all_closed_as os)
  with_bearer_as r ue c bearer (spent counter) = refl

  -- ---- a context ends

  ends_of : (teids : List ℕ) → map (put_again spelled sn) (map (λ teid. closed teid) teids) ≡ map (λ teid. closed teid) teids
  ends_of [] = refl
  ends_of (teid ∷ teids) = ap (λ os. closed teid ∷ os) (ends_of teids)

  closings_as : (bs : List (BearerId × CuUpBearer))
      → map (put_again spelled sn) (flat_map (λ e. map (λ teid. closed teid) (open_teids e.1)) bs) ≡ flat_map (λ e. map (λ teid. closed teid) (open_teids e.1)) bs
  closings_as [] = refl
  closings_as (e ∷ bs) =
      map-append (put_again spelled sn) (map (λ teid. closed teid) (open_teids e.1)) (flat_map (λ e. map (λ teid. closed teid) (open_teids e.1)) bs)
      ∙ (λ i. ends_of (open_teids e.1) i ++ closings_as bs i)

  ended_as : (r : PlainUp) (ue : UeId) (c : CuUpContext)
      → ended (octet_way codec) (up_octets r) ue c ≡ answer_again spelled sn up_octets (ended plain_way r ue c)
  unfolding ended
  ended_as r ue c =
      ap (λ os. gives os (up_octets (record r {
        contexts = without ue_cmp r.contexts ue;
        tunnels = without_each r.tunnels (flat_map (λ e. open_teids e.1) c.bearers);
      }))) (sym (closings_as c.bearers))

  over_as : (ue : UeId) (r : PlainUp) → end_where_over (octet_way codec) ue (up_octets r) ≡ answer_again spelled sn up_octets (end_where_over plain_way ue r)
  unfolding end_where_over
  over_as ue r = by (context_of r ue)
    where
      by : (o : Option CuUpContext) → ended_if_over (octet_way codec) ue (up_octets r) o ≡ answer_again spelled sn up_octets (ended_if_over plain_way ue r o)
      by None = refl
      by (Some c) =
          if_again spelled sn up_octets (c.flags.released && list_all (λ e. is_over c.flags e.1) c.bearers) (ended plain_way r ue c) (nothing r)
          (ended (octet_way codec) (up_octets r) ue c) (nothing (up_octets r)) (ended_as r ue c) refl

  -- ---- an item

  pub item_as : (r : PlainUp) (teid : ℕ) (t : CuUpTunnel) (c : CuUpContext) (b : CuUpBearer) (item : Taken Pdu) (read : Taken (List ℕ))
      → find nat_cmp r.tunnels teid ≡ Some t → context_of r t.ue ≡ Some c → find bearer_cmp c.bearers t.bearer ≡ Some b
      → held_reason (cu_up_scope t.ue c t.bearer) b t.kind read ≡ held_reason (cu_up_scope t.ue c t.bearer) b t.kind item
      → Again codec spelled sn (cu_up_scope t.ue c t.bearer) (took (octet_way codec) (cu_up_scope t.ue c t.bearer) t.kind teid read b)
      (took plain_way (cu_up_scope t.ue c t.bearer) t.kind teid item b)
      → cu_up_acts (octet_way codec) (up_octets r) (packet_input teid read) ≡ answer_again spelled sn up_octets (cu_up_acts plain_way r (packet_input teid item))
  item_as r teid t c b item read is_open there has holds takes =
      acts_by (octet_way codec) (up_octets r) teid read t c b is_open there has
      ∙ ap (taken_by (octet_way codec) (up_octets r) t teid read c b) holds
      ∙ by (held_reason at b t.kind item)
      ∙ ap (answer_again spelled sn up_octets) (sym (acts_by plain_way r teid item t c b is_open there has))
    where
      at : CuUpScope
      at = cu_up_scope t.ue c t.bearer

      by : (o : Option HeldReason) → taken_by (octet_way codec) (up_octets r) t teid read c b o ≡ answer_again spelled sn up_octets (taken_by plain_way r t teid item c b o)
      by (Some reason) = refl
      by None =
          ap (λ a. with_bearer (octet_way codec) (up_octets r) t.ue c t.bearer a then end_where_over (octet_way codec) t.ue) takes
          ∙ ap (λ a. a then end_where_over (octet_way codec) t.ue) (with_bearer_as r t.ue c t.bearer (took plain_way at t.kind teid item b))
          ∙ then_again spelled sn up_octets up_octets (with_bearer plain_way r t.ue c t.bearer (took plain_way at t.kind teid item b))
          (end_where_over plain_way t.ue) (end_where_over (octet_way codec) t.ue) (over_as t.ue)

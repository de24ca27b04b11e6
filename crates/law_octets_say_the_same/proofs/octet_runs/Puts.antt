-- What units put, over octets: on tunnels, on radios, and to others.
use Rattle.std.proofs.Common.{◌≡◌, ℕ, ◌+◌, suc, List, [], ◌∷◌, ◌++◌, length, map, Option, Some, None, refl, sym, ap, ◌∙◌}
use Rattle.std.specs.Prelude.{unwrap_or}
use Rattle.std.specs.Option.{option_map}
use Rattle.std.proofs.lemmas.List.{map-append, length-map}
use Rattle.gnb_types.specs.declared.names.NodeId.{NodeId}
use Rattle.gnb_types.specs.declared.names.NodeId.TheVariants.{CuCp, CuUp, Du, Core, Ue}
use Rattle.gnb_types.specs.declared.names.UeId.{UeId}
use Rattle.gnb_types.specs.declared.keys.TunnelEnd.{TunnelEnd}
use Rattle.gnb_types.specs.declared.keys.EntityKey.{EntityKey}
use Rattle.gnb_types.specs.declared.outputs.Tag.{Tag}
use Rattle.gnb_types.specs.declared.outputs.Tag.TheVariants.{Absent, Own, Same}
use Rattle.gnb_types.specs.Orders.{ue_cmp, tunnel_cmp, entity_cmp}
use Rattle.message_types.specs.declared.rrc.Token.{Token}
use Rattle.tables.specs.Tables.{find, put, at, map_values}
use Rattle.tables.proofs.TableLaws.{find-mapped, put-mapped, without-mapped}
use Rattle.unit_defs.specs.Ways.{Message, Pdu, Load, Put, control, packet, radio, deliver, dropped, held, opened, closed, failed, no}
use Rattle.unit_defs.specs.octet_defs.Codec.{Codec}
use Rattle.transport_defs.specs.declared.Item.{Item}
use Rattle.transport_defs.specs.Links.{put_control_message, is_epoch, Radio, silent, emptied}
use Rattle.run_defs.specs.Lines.{ControlMessage, put_item, put_message, lost_items, tunnel_link, radio_link, shown}
use Rattle.run_defs.specs.Written.{Written}
use Rattle.run_defs.specs.States.{goes, ◌next◌, goes_on, entity, radio_of, with_radio, World}
use Rattle.run_defs.specs.Steps.{with_tunnel, count_beside, noted, on_tunnel, put_on_tunnel, put_on_connected, put_on_radio, control_message_of, put_control, lost_if, opens, closes, radio_lost, lose_each, radios_of, lose_radios_of, lose_radios, epoch_now, same_epoch, connect_in, reconnect, reconnect_node, item_of, put_out, put_out_all}
use Rattle.run_defs.specs.Runs.{Reading, plain_world}
use Rattle.run_defs.specs.UnitRuns.{unit_world, tables}
use Rattle.law_octets_say_the_same.specs.octet_runs.Again.{PlainState, item_again, items_again, radio_again, control_message_again, put_again}
use Rattle.law_octets_say_the_same.proofs.octet_runs.Lists.{length-values, values-append, radios_same}
use Rattle.law_octets_say_the_same.proofs.octet_runs.Endings.{PlainWithin, OctetWithin, encode, over, line_again, within_again, next_again, choice}

abbrev pub OnTunnel : Type 0
OnTunnel = Item (Written (Load Pdu))

abbrev pub OnRadio : Type 0
OnRadio = Item (Written Pdu)

module _ (codec : Codec) (reading : Reading) where
  abbrev pub plain : World (Message Token) Token (Written (Load Pdu)) (Written Pdu)
  plain = plain_world reading

  abbrev pub octet : World (List ℕ) (List ℕ) (List ℕ) (List ℕ)
  octet = unit_world codec (tables codec)

  -- ---- tunnels

  pub put_on_tunnel_again : (end : TunnelEnd) (item : OnTunnel) (s : PlainState)
      → put_on_tunnel octet end (item_again item) (over codec s) ≡ within_again codec (put_on_tunnel plain end item s)
  unfolding put_on_tunnel
  put_on_tunnel_again end item s =
      next_again codec (line_again codec) (goes (put_item (tunnel_link end) (shown item.key item.count item.content.octets) ∷ []) s)
      (λ t. on_tunnel plain t end item (find tunnel_cmp t.tunnels end)) (λ t. on_tunnel octet t end (item_again item) (find tunnel_cmp t.tunnels end)) same
    where
      by : (t : PlainState) (o : Option (List OnTunnel))
          → on_tunnel octet (over codec t) end (item_again item) (option_map items_again o) ≡ within_again codec (on_tunnel plain t end item o)
      by t None = refl
      by t (Some items) =
          ap (λ ts. goes_on (record (over codec t) { tunnels = ts }))
          (ap (put tunnel_cmp (map_values items_again t.tunnels) end) (sym (map-append item_again items (item ∷ [])))
          ∙ put-mapped tunnel_cmp items_again t.tunnels end (items ++ item ∷ []))

      same : (t : PlainState) → on_tunnel octet (over codec t) end (item_again item) (find tunnel_cmp (map_values items_again t.tunnels) end)
          ≡ within_again codec (on_tunnel plain t end item (find tunnel_cmp t.tunnels end))
      same t =
          ap (on_tunnel octet (over codec t) end (item_again item)) (find-mapped tunnel_cmp items_again t.tunnels end)
          ∙ by t (find tunnel_cmp t.tunnels end)

  stands : (end : TunnelEnd) (ts : List (TunnelEnd × List OnTunnel)) → at tunnel_cmp [] (map_values items_again ts) end ≡ items_again (at tunnel_cmp [] ts end)
  unfolding at
  stands end ts = ap (λ o. unwrap_or o []) (find-mapped tunnel_cmp items_again ts end) ∙ by (find tunnel_cmp ts end)
    where
      by : (o : Option (List OnTunnel)) → unwrap_or (option_map items_again o) [] ≡ items_again (unwrap_or o [])
      by None = refl
      by (Some items) = refl

  pub with_tunnel_again : (end : TunnelEnd) (ts : List (TunnelEnd × List OnTunnel))
      → with_tunnel end (map_values items_again ts) ≡ map_values items_again (with_tunnel end ts)
  with_tunnel_again end ts =
      ap (put tunnel_cmp (map_values items_again ts) end) (stands end ts) ∙ put-mapped tunnel_cmp items_again ts end (at tunnel_cmp [] ts end)

  opens_again : (end : TunnelEnd) (s : PlainState) → opens octet end (over codec s) ≡ within_again codec (opens plain end s)
  unfolding opens
  opens_again end s = ap (λ ts. goes_on (record (over codec s) { tunnels = ts })) (with_tunnel_again end s.tunnels)

  closes_again : (end : TunnelEnd) (s : PlainState) → closes octet end (over codec s) ≡ within_again codec (closes plain end s)
  unfolding closes
  closes_again end s = λ i. goes (lines i) (record (over codec s) { tunnels = without-mapped tunnel_cmp items_again s.tunnels end i })
    where
      by : (items : List OnTunnel) → lost_if octet end (items_again items) ≡ map (line_again codec) (lost_if plain end items)
      by [] = refl
      by (item ∷ items) = ap (λ n. lost_items (tunnel_link end) (suc n) ∷ []) (length-map items item_again)

      lines : lost_if octet end (at tunnel_cmp [] (map_values items_again s.tunnels) end) ≡ map (line_again codec) (lost_if plain end (at tunnel_cmp [] s.tunnels end))
      lines = ap (lost_if octet end) (stands end s.tunnels) ∙ by (at tunnel_cmp [] s.tunnels end)

  -- ---- radios

  pub radio_of_again : (s : PlainState) (key : EntityKey) → radio_of (over codec s) key ≡ radio_again (radio_of s key)
  unfolding at
  radio_of_again s key = ap (λ o. unwrap_or o silent) (find-mapped entity_cmp radio_again s.radios key) ∙ by (find entity_cmp s.radios key)
    where
      by : (o : Option (Radio (Written Pdu))) → unwrap_or (option_map radio_again o) silent ≡ radio_again (unwrap_or o silent)
      by None = refl
      by (Some r) = refl

  pub with_radio_again : (key : EntityKey) (r : Radio (Written Pdu)) (s : PlainState)
      → with_radio key (radio_again r) (over codec s) ≡ over codec (with_radio key r s)
  with_radio_again key r s = ap (λ rs. record (over codec s) { radios = rs }) (put-mapped entity_cmp radio_again s.radios key r)

  put_on_radio_again : (epoch : ℕ) (item : OnRadio) (s : PlainState)
      → put_on_radio octet epoch (item_again item) (over codec s) ≡ within_again codec (put_on_radio plain epoch item s)
  unfolding put_on_radio
  put_on_radio_again epoch item s =
      next_again codec (line_again codec) (goes (put_item (radio_link item.key epoch) (shown item.key item.count item.content.octets) ∷ []) s)
      (put_on_connected plain item.key epoch item) (put_on_connected octet item.key epoch (item_again item)) same
    where
      added : (t : PlainState) → OctetWithin
      added t = goes_on (with_radio item.key (record (radio_of (over codec t) item.key) { items = (radio_of (over codec t) item.key).items ++ item_again item ∷ [] }) (over codec t))

      added_plain : (t : PlainState) → PlainWithin
      added_plain t = goes_on (with_radio item.key (record (radio_of t item.key) { items = (radio_of t item.key).items ++ item ∷ [] }) t)

      adds : (t : PlainState) → added t ≡ within_again codec (added_plain t)
      adds t =
          ap (λ (r : Radio (List ℕ)). goes_on (with_radio item.key (record r { items = r.items ++ item_again item ∷ [] }) (over codec t))) (radio_of_again t item.key)
          ∙ ap (λ xs. goes_on (with_radio item.key (record { items = xs; carried = (radio_of t item.key).carried }) (over codec t)))
          (sym (map-append item_again (radio_of t item.key).items (item ∷ [])))
          ∙ ap goes_on (with_radio_again item.key (record (radio_of t item.key) { items = (radio_of t item.key).items ++ item ∷ [] }) t)

      same : (t : PlainState) → put_on_connected octet item.key epoch (item_again item) (over codec t) ≡ within_again codec (put_on_connected plain item.key epoch item t)
      same t =
          choice (within_again codec) (is_epoch (find ue_cmp t.connected item.key.ue) epoch) (added_plain t)
          (goes (lost_items (radio_link item.key epoch) 1 ∷ []) t) (added t) (goes (lost_items (radio_link item.key epoch) 1 ∷ []) (over codec t)) (adds t) refl

  lose_each_again : (epoch : ℕ) (keys : List EntityKey) (s : PlainState) → lose_each octet epoch keys (over codec s) ≡ within_again codec (lose_each plain epoch keys s)
  lose_each_again epoch [] s = refl
  lose_each_again epoch (key ∷ keys) s =
      ap (λ (e : OctetWithin). e next lose_each octet epoch keys) first
      ∙ next_again codec (line_again codec) (goes (radio_lost plain epoch key (radio_of s key).items) (record s { radios = emptied s.radios key }))
      (lose_each plain epoch keys) (lose_each octet epoch keys) (lose_each_again epoch keys)
    where
      by : (items : List OnRadio) → radio_lost octet epoch key (items_again items) ≡ map (line_again codec) (radio_lost plain epoch key items)
      by [] = refl
      by (item ∷ items) = ap (λ n. lost_items (radio_link key epoch) (suc n) ∷ []) (length-map items item_again)

      lost : radio_lost octet epoch key (radio_of (over codec s) key).items ≡ map (line_again codec) (radio_lost plain epoch key (radio_of s key).items)
      lost = ap (λ (r : Radio (List ℕ)). radio_lost octet epoch key r.items) (radio_of_again s key) ∙ by (radio_of s key).items

      first : goes (radio_lost octet epoch key (radio_of (over codec s) key).items) (record (over codec s) { radios = emptied (over codec s).radios key })
          ≡ within_again codec (goes (radio_lost plain epoch key (radio_of s key).items) (record s { radios = emptied s.radios key }))
      first = λ i. goes (lost i) (record (over codec s) { radios = without-mapped entity_cmp radio_again s.radios key i })

  lose_radios_again : (ue : UeId) (s : PlainState) → lose_radios octet ue (over codec s) ≡ within_again codec (lose_radios plain ue s)
  unfolding lose_radios
  lose_radios_again ue s = by (find ue_cmp s.connected ue)
    where
      by : (o : Option ℕ) → lose_radios_of octet ue o (over codec s) ≡ within_again codec (lose_radios_of plain ue o s)
      by None = refl
      by (Some epoch) = ap (λ keys. lose_each octet epoch keys (over codec s)) (radios_same ue s.radios) ∙ lose_each_again epoch (radios_of plain ue s.radios) s

  reconnect_again : (ue : UeId) (s : PlainState) → reconnect octet ue (over codec s) ≡ within_again codec (reconnect plain ue s)
  reconnect_again ue s =
      choice (within_again codec) (same_epoch plain (find ue_cmp s.connected ue) now) (goes_on s) (lose_radios plain ue s next (λ t. goes_on (connect_in plain ue now t)))
      (goes_on (over codec s)) (lose_radios octet ue (over codec s) next (λ t. goes_on (connect_in octet ue now t))) refl
      (ap (λ (e : OctetWithin). e next (λ t. goes_on (connect_in octet ue now t))) (lose_radios_again ue s)
      ∙ next_again codec (line_again codec) (lose_radios plain ue s) (λ t. goes_on (connect_in plain ue now t)) (λ t. goes_on (connect_in octet ue now t)) (λ t. refl))
    where
      now : Option ℕ
      now = epoch_now plain s ue

  pub reconnect_node_again : (node : NodeId) (s : PlainState) → reconnect_node octet node (over codec s) ≡ within_again codec (reconnect_node plain node s)
  reconnect_node_again (CuCp gnb) s = refl
  reconnect_node_again (CuUp gnb number) s = refl
  reconnect_node_again (Du gnb number) s = refl
  reconnect_node_again Core s = refl
  reconnect_node_again (Ue ue) s = reconnect_again (record { 0 = ue }) s

  -- ---- outputs

  put_control_again : (l : ControlMessage (Message Token)) (s : PlainState)
      → put_control octet (control_message_again (encode codec) l) (over codec s) ≡ within_again codec (put_control plain l s)
  unfolding put_control put_control_message
  put_control_again l s =
      (λ i. goes (put_message (many i + 1) (control_message_again (encode codec) l) ∷ []) (record (over codec s) {
        bag = record {
          control_messages = map_values (control_message_again (encode codec)) s.bag.control_messages ++ (many i + 1, control_message_again (encode codec) l) ∷ [];
          flight = s.bag.flight ++ (many i + 1) ∷ [];
        };
      }))
      ∙ ap (λ ls. goes (put_message (length s.bag.control_messages + 1) (control_message_again (encode codec) l) ∷ []) (record (over codec s) {
        bag = record {
          control_messages = ls;
          flight = s.bag.flight ++ (length s.bag.control_messages + 1) ∷ [];
        };
      })) (values-append (control_message_again (encode codec)) s.bag.control_messages (length s.bag.control_messages + 1) l)
    where
      many : length (map_values (control_message_again (encode codec)) s.bag.control_messages) ≡ length s.bag.control_messages
      many = length-values (control_message_again (encode codec)) s.bag.control_messages

  noted_again : (key : EntityKey) (tag : Tag) (s : PlainState) → noted key tag (over codec s) ≡ over codec (noted key tag s)
  noted_again key Absent s = refl
  noted_again key (Own count) s = refl
  noted_again key Same s = refl

  module _ (node : NodeId) (taken : Option ℕ) where
    pub put_out_again : (o : Put (Message Token) (Written (Load Pdu)) (Written Pdu)) (s : PlainState)
        → put_out octet node taken (put_again (encode codec) o) (over codec s) ≡ within_again codec (put_out plain node taken o s)
    put_out_again (control to ue message) s = put_control_again (control_message_of plain node to ue message) s
    put_out_again (packet to teid ue bearer dir tag load) s =
        ap (put_on_tunnel octet (record { node = to; teid = teid }) (item_again item)) (noted_again (entity ue bearer dir) tag s)
        ∙ put_on_tunnel_again (record { node = to; teid = teid }) item (noted (entity ue bearer dir) tag s)
      where
        item : OnTunnel
        item = item_of plain ue bearer dir (count_beside tag taken) load
    put_out_again (radio ue bearer dir epoch tag pdu) s =
        ap (put_on_radio octet epoch (item_again item)) (noted_again (entity ue bearer dir) tag s)
        ∙ put_on_radio_again epoch item (noted (entity ue bearer dir) tag s)
      where
        item : OnRadio
        item = item_of plain ue bearer dir (count_beside tag taken) pdu
    put_out_again (deliver ue bearer dir count p) s = refl
    put_out_again (dropped reason) s = refl
    put_out_again (held reason) s = refl
    put_out_again (opened teid) s = opens_again (record { node = node; teid = teid }) s
    put_out_again (closed teid) s = closes_again (record { node = node; teid = teid }) s
    put_out_again (failed ue cause) s = refl
    put_out_again (no reason) s = refl

    pub put_out_all_again : (os : List (Put (Message Token) (Written (Load Pdu)) (Written Pdu))) (s : PlainState)
        → put_out_all octet node taken (map (put_again (encode codec)) os) (over codec s) ≡ within_again codec (put_out_all plain node taken os s)
    unfolding put_out_all
    put_out_all_again [] s = refl
    put_out_all_again (o ∷ os) s =
        ap (λ (e : OctetWithin). e next put_out_all octet node taken (map (put_again (encode codec)) os)) (put_out_again o s)
        ∙ next_again codec (line_again codec) (put_out plain node taken o s) (put_out_all plain node taken os)
        (put_out_all octet node taken (map (put_again (encode codec)) os)) (put_out_all_again os)

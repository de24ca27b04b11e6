-- The lines of a step tell what the unit puts on a tunnel.
use Rattle.std.proofs.Common.{◌≡◌, ◌==◌, ℕ, ◌+◌, Bool, true, false, ◌&&◌, List, [], ◌∷◌, ◌++◌, map, Option, Some, None, inl, inr, refl, sym, ap, subst, eqb-true}
use Rattle.std.specs.Prelude.{if◌then◌else◌}
use Rattle.std.specs.List.{flat_map}
use Rattle.std.specs.Ordering.{eq_by_cmp}
use Rattle.std.proofs.lemmas.Grind.{flat_map-append}
use Rattle.gnb_types.specs.declared.names.NodeId.{NodeId}
use Rattle.gnb_types.specs.declared.names.NodeId.TheVariants.{CuCp, CuUp, Du, Core, Ue}
use Rattle.gnb_types.specs.declared.names.UeId.{UeId}
use Rattle.gnb_types.specs.declared.names.SnBits.{SnBits}
use Rattle.gnb_types.specs.declared.keys.EntityKey.{EntityKey}
use Rattle.gnb_types.specs.declared.keys.TunnelEnd.{TunnelEnd}
use Rattle.gnb_types.specs.Orders.{ue_cmp, tunnel_cmp, node_cmp}
use Rattle.tables.specs.Tables.{find, at}
use Rattle.message_types.specs.declared.rrc.Token.{Token}
use Rattle.unit_defs.specs.Ways.{Message, Pdu, Load, fresh, numbered, frame, uplink, status, end_marker, Put, control, packet, radio, deliver, dropped, held, opened, closed, failed, no}
use Rattle.unit_defs.specs.octet_defs.Writing.{load_octets, written_load}
use Rattle.transport_defs.specs.declared.Item.{Item}
use Rattle.transport_defs.specs.Links.{is_epoch, emptied}
use Rattle.run_defs.specs.Lines.{RunLine, put_item, lost_items, tunnel_link, radio_link, shown}
use Rattle.run_defs.specs.Units.{Units}
use Rattle.run_defs.specs.States.{State, Stop, Lengths, goes, stops, told_before, ◌next◌, goes_on, Within, entity, radio_of, with_radio}
use Rattle.run_defs.specs.Steps.{first_outstanding, entities_of, checked_by, check_spans, noted, count_beside, item_of, on_tunnel, put_on_tunnel, put_on_connected, put_on_radio, put_control, opens, closes, lost_if, radio_lost, lose_each, lose_radios_of, lose_radios, radios_of, same_epoch, epoch_now, connect_in, reconnect, reconnect_node, put_out, put_out_all, carried_out}
use Rattle.run_defs.specs.Written.{Written, written_pdu, written_put}
use Rattle.run_defs.specs.Runs.{Reading, plain_world}
use Rattle.proof_run_steps.specs.steps.Causes.{Cause, by_order, by_tick, by_octets, by_octets_on, by_attach, by_release, by_offer, by_item, by_air, by_ack, by_control_message, node_of, count_of, first_of}
use Rattle.proof_unit_steps.specs.frames.Numbered.{frame_of, frames_in, frames_by}
use Rattle.proof_unit_steps.specs.tunnel_frames.OneTunnel.{is_tunnel, number_on, numbers_on, CountTo}
use Rattle.law_frames_are_numbered.specs.tunnel_numbers.Tunnels.{IsNoFrame, AreNumbered, put_on}

pub numbered_then : (teid a : ℕ) (xs : List (List ℕ)) (b : ℕ) (ys : List (List ℕ)) (c : ℕ) → AreNumbered teid a xs b → AreNumbered teid b ys c
    → AreNumbered teid a (xs ++ ys) c
numbered_then teid a [] b ys c p q = subst (λ (k : ℕ). AreNumbered teid k ys c) p q
numbered_then teid a (x ∷ xs) b ys c (inl p) q = inl (p.0, numbered_then teid (a + 1) xs b ys c p.1 q)
numbered_then teid a (x ∷ xs) b ys c (inr p) q = inr (p.0, numbered_then teid a xs b ys c p.1 q)

module _ (end : TunnelEnd) where
  abbrev pub Puts : List (RunLine (Message Token)) → List (List ℕ)
  Puts lines = flat_map (put_on end) lines

  abbrev PlainWithin : Type 0
  PlainWithin = Within (Message Token) Token (Written (Load Pdu)) (Written Pdu)

  abbrev PlainState : Type 0
  PlainState = State (Message Token) Token (Written (Load Pdu)) (Written Pdu)

  -- frames go on from this number to that
  abbrev pub Tells : ℕ → ℕ → Within (Message Token) Token (Written (Load Pdu)) (Written Pdu) → Type 0
  Tells k j (goes lines t) = AreNumbered end.teid k (Puts lines) j
  Tells k j (stops lines why) = (i : ℕ) × AreNumbered end.teid k (Puts lines) i

  puts_both : (k : ℕ) (xs : List (RunLine (Message Token))) (j : ℕ) (ys : List (RunLine (Message Token))) (i : ℕ) → AreNumbered end.teid k (Puts xs) j
      → AreNumbered end.teid j (Puts ys) i → AreNumbered end.teid k (Puts (xs ++ ys)) i
  puts_both k xs j ys i p q =
      subst (λ (os : List (List ℕ)). AreNumbered end.teid k os i) (sym (flat_map-append (put_on end) xs ys)) (numbered_then end.teid k (Puts xs) j (Puts ys) i p q)

  pub then_tells : (k j i : ℕ) (e : PlainWithin) (f : PlainState → PlainWithin) → Tells k j e → ((t : PlainState) → Tells j i (f t)) → Tells k i (e next f)
  then_tells k j i (goes lines t) f p q = by (f t) (q t)
    where
      by : (e : PlainWithin) → Tells j i e → Tells k i (told_before lines e)
      by (goes more s) h = puts_both k lines j more i p h
      by (stops more why) h = (h.0, puts_both k lines j more h.0 p h.1)
  then_tells k j i (stops lines why) f p q = p

  abbrev pub TellsNone : (PlainState → PlainWithin) → Type 0
  TellsNone f = (k : ℕ) (t : PlainState) → Tells k k (f t)

  none_then : (k : ℕ) (e : PlainWithin) (f : PlainState → PlainWithin) → Tells k k e → TellsNone f → Tells k k (e next f)
  none_then k e f p q = then_tells k k k e f p (q k)

  module _ (reading : Reading) where
    none_checked : TellsNone check_spans
    unfolding check_spans
    none_checked k s = by (first_outstanding s (flat_map entities_of s.plans))
      where
        by : (o : Option Stop) → Tells k k (checked_by s o)
        by None = refl
        by (Some why) = (k, refl)

    none_lost : (epoch : ℕ) (key : EntityKey) (items : List (Item (Written Pdu)))
        → Puts (radio_lost (plain_world reading) epoch key items) ≡ []
    none_lost epoch key [] = refl
    none_lost epoch key (item ∷ items) = refl

    none_lose_each : (epoch : ℕ) (keys : List EntityKey) → TellsNone (lose_each (plain_world reading) epoch keys)
    none_lose_each epoch [] k s = refl
    none_lose_each epoch (key ∷ keys) k s =
        none_then k (goes (radio_lost (plain_world reading) epoch key (radio_of s key).items) (record s { radios = emptied s.radios key }))
        (lose_each (plain_world reading) epoch keys)
        (subst (λ (os : List (List ℕ)). AreNumbered end.teid k os k) (sym (none_lost epoch key (radio_of s key).items)) refl) (none_lose_each epoch keys)

    none_lose_of : (ue : UeId) (o : Option ℕ) → TellsNone (lose_radios_of (plain_world reading) ue o)
    none_lose_of ue None k s = refl
    none_lose_of ue (Some epoch) k s = none_lose_each epoch (radios_of (plain_world reading) ue s.radios) k s

    none_lose : (ue : UeId) → TellsNone (lose_radios (plain_world reading) ue)
    unfolding lose_radios
    none_lose ue k s = none_lose_of ue (find ue_cmp s.connected ue) k s

    none_reconnect : (ue : UeId) → TellsNone (reconnect (plain_world reading) ue)
    none_reconnect ue k s = by (same_epoch (plain_world reading) (find ue_cmp s.connected ue) (epoch_now (plain_world reading) s ue))
      where
        by : (t : Bool) → Tells k k (if t then goes_on s
            else (lose_radios (plain_world reading) ue s next (λ t. goes_on (connect_in (plain_world reading) ue (epoch_now (plain_world reading) s ue) t))))
        by true = refl
        by false =
            none_then k (lose_radios (plain_world reading) ue s) (λ t. goes_on (connect_in (plain_world reading) ue (epoch_now (plain_world reading) s ue) t))
            (none_lose ue k s) (λ j t. refl)

    none_node : (node : NodeId) → TellsNone (reconnect_node (plain_world reading) node)
    none_node (Ue ue) k s = none_reconnect (record { 0 = ue }) k s
    none_node (CuCp g) k s = refl
    none_node (CuUp g number) k s = refl
    none_node (Du g number) k s = refl
    none_node Core k s = refl

    -- ---- what is put

    other_numbered : (sn : SnBits) (k j : ℕ) (load : Load Pdu) → IsNoFrame load → j ≡ k → AreNumbered end.teid k (load_octets end.teid (written_load sn load) ∷ []) j
    other_numbered sn k j load is same = inr ((sn, load, is, refl), same)

    -- one load on the tunnel
    load_numbered : (sn : SnBits) (k j : ℕ) (load : Load Pdu) (to : NodeId) (teid : ℕ) → is_tunnel end to teid ≡ true → teid ≡ end.teid
        → CountTo k (numbers_on end (frame_of to teid load)) j → AreNumbered end.teid k (load_octets teid (written_load sn load) ∷ []) j
    load_numbered sn k j (frame poll restart number pdu) to teid on same h = by (subst (λ (b : Bool). CountTo k ((if b then number ∷ [] else []) ++ []) j) on h)
      where
        by : (number ≡ k) × (j ≡ k + 1) → AreNumbered end.teid k (load_octets teid (written_load sn (frame poll restart number pdu)) ∷ []) j
        by p = inl (
          (sn, poll, restart, pdu, λ i. load_octets (same i) (written_load sn (frame poll restart (p.0 i) pdu))),
          p.1,
        )
    load_numbered sn k j (fresh p) to teid on same h =
        subst (λ (t : ℕ). AreNumbered end.teid k (load_octets t (written_load sn (fresh p)) ∷ []) j) (sym same) (other_numbered sn k j (fresh p) tt h)
    load_numbered sn k j (numbered bits count p) to teid on same h =
        subst (λ (t : ℕ). AreNumbered end.teid k (load_octets t (written_load sn (numbered bits count p)) ∷ []) j) (sym same)
        (other_numbered sn k j (numbered bits count p) tt h)
    load_numbered sn k j (uplink pdu) to teid on same h =
        subst (λ (t : ℕ). AreNumbered end.teid k (load_octets t (written_load sn (uplink pdu)) ∷ []) j) (sym same) (other_numbered sn k j (uplink pdu) tt h)
    load_numbered sn k j (status lost delivered) to teid on same h =
        subst (λ (t : ℕ). AreNumbered end.teid k (load_octets t (written_load sn (status lost delivered)) ∷ []) j) (sym same)
        (other_numbered sn k j (status lost delivered) tt h)
    load_numbered sn k j end_marker to teid on same h =
        subst (λ (t : ℕ). AreNumbered end.teid k (load_octets t (written_load sn end_marker) ∷ []) j) (sym same) (other_numbered sn k j end_marker tt h)

    off_tunnel : (to : NodeId) (teid : ℕ) (load : Load Pdu) → is_tunnel end to teid ≡ false → numbers_on end (frame_of to teid load) ≡ []
    off_tunnel to teid (frame poll restart number pdu) off = ap (λ (b : Bool). (if b then number ∷ [] else []) ++ []) off
    off_tunnel to teid (fresh p) off = refl
    off_tunnel to teid (numbered bits count p) off = refl
    off_tunnel to teid (uplink pdu) off = refl
    off_tunnel to teid (status lost delivered) off = refl
    off_tunnel to teid end_marker off = refl

    on_tells : (k : ℕ) (s : PlainState) (to : TunnelEnd) (item : Item (Written (Load Pdu))) (o : Option (List (Item (Written (Load Pdu)))))
        → Tells k k (on_tunnel (plain_world reading) s to item o)
    on_tells k s to item None = refl
    on_tells k s to item (Some items) = refl

    second_true : (a b : Bool) → a && b ≡ true → b ≡ true
    second_true true b h = h
    second_true false b h = absurd cc

    tunnel_tells : (sn : SnBits) (k j : ℕ) (to : NodeId) (teid : ℕ) (key : EntityKey) (count : Option ℕ) (load : Load Pdu) (s : PlainState)
        → CountTo k (numbers_on end (frame_of to teid load)) j
        → Tells k j (put_on_tunnel (plain_world reading) (record { node = to; teid = teid })
        (record { key = key; count = count; content = record { says = load; octets = load_octets teid (written_load sn load) } }) s)
    unfolding put_on_tunnel
    tunnel_tells sn k j to teid key count load s h =
        then_tells k j j
        (goes (put_item (tunnel_link (record { node = to; teid = teid })) (shown key count (load_octets teid (written_load sn load))) ∷ []) s)
        (λ t. on_tunnel (plain_world reading) t (record { node = to; teid = teid })
        (record { key = key; count = count; content = record { says = load; octets = load_octets teid (written_load sn load) } })
        (find tunnel_cmp t.tunnels (record { node = to; teid = teid })))
        (by (is_tunnel end to teid) refl)
        (λ t. on_tells j t (record { node = to; teid = teid })
        (record { key = key; count = count; content = record { says = load; octets = load_octets teid (written_load sn load) } })
        (find tunnel_cmp t.tunnels (record { node = to; teid = teid })))
      where
        by : (b : Bool) → is_tunnel end to teid ≡ b
            → AreNumbered end.teid k ((if is_tunnel end to teid then load_octets teid (written_load sn load) ∷ [] else []) ++ []) j
        by true on =
            subst (λ (b : Bool). AreNumbered end.teid k ((if b then load_octets teid (written_load sn load) ∷ [] else []) ++ []) j) (sym on)
            (load_numbered sn k j load to teid on (eqb-true teid end.teid (second_true (eq_by_cmp node_cmp to end.node) (teid == end.teid) on)) h)
        by false off =
            subst (λ (b : Bool). AreNumbered end.teid k ((if b then load_octets teid (written_load sn load) ∷ [] else []) ++ []) j) (sym off)
            (subst (λ (ns : List ℕ). CountTo k ns j) (off_tunnel to teid load off) h)

    connected_tells : (k : ℕ) (key : EntityKey) (epoch : ℕ) (item : Item (Written Pdu)) (s : PlainState)
        → Tells k k (put_on_connected (plain_world reading) key epoch item s)
    connected_tells k key epoch item s = by (is_epoch (find ue_cmp s.connected key.ue) epoch)
      where
        by : (t : Bool) → Tells k k (if t
            then goes_on (with_radio key (record (radio_of s key) { items = (radio_of s key).items ++ item ∷ [] }) s)
            else goes (lost_items (radio_link key epoch) 1 ∷ []) s)
        by true = refl
        by false = refl

    radio_tells : (k epoch : ℕ) (item : Item (Written Pdu)) (s : PlainState) → Tells k k (put_on_radio (plain_world reading) epoch item s)
    unfolding put_on_radio
    radio_tells k epoch item s =
        then_tells k k k (goes (put_item (radio_link item.key epoch) (shown item.key item.count item.content.octets) ∷ []) s)
        (put_on_connected (plain_world reading) item.key epoch item) refl (λ t. connected_tells k item.key epoch item t)

    closed_lost : {X : Type 0} (k : ℕ) (to : TunnelEnd) (xs : List X)
        → AreNumbered end.teid k (Puts (lost_if (plain_world reading) to xs)) k
    closed_lost k to [] = refl
    closed_lost k to (x ∷ xs) = refl

    output_tells : (sn : Lengths) (node : NodeId) (taken : Option ℕ) (o : Put (Message Token) (Load Pdu) Pdu) (k j : ℕ) (s : PlainState)
        → CountTo k (numbers_on end (frames_in o)) j → Tells k j (put_out (plain_world reading) node taken (written_put sn o) s)
    unfolding put_control opens closes
    output_tells sn node taken (packet to teid ue bearer dir tag load) k j s h =
        tunnel_tells (sn ue) k j to teid (entity ue bearer dir) (count_beside tag taken) load (noted (entity ue bearer dir) tag s) h
    output_tells sn node taken (radio ue bearer dir epoch tag pdu) k j s h =
        subst (λ (i : ℕ). Tells k i (put_out (plain_world reading) node taken (written_put sn (radio ue bearer dir epoch tag pdu)) s)) (sym h)
        (radio_tells k epoch (item_of (plain_world reading) ue bearer dir (count_beside tag taken) (written_pdu (sn ue) pdu)) (noted (entity ue bearer dir) tag s))
    output_tells sn node taken (control to ue m) k j s h = h
    output_tells sn node taken (deliver ue bearer dir count p) k j s h = h
    output_tells sn node taken (dropped reason) k j s h = h
    output_tells sn node taken (opened teid) k j s h = h
    output_tells sn node taken (closed teid) k j s h =
        subst (λ (i : ℕ). Tells k i (put_out (plain_world reading) node taken (closed teid) s)) (sym h)
        (closed_lost k (record { node = node; teid = teid }) (at tunnel_cmp [] s.tunnels (record { node = node; teid = teid })))
    output_tells sn node taken (failed ue cause) k j s h = h
    output_tells sn node taken (held reason) k j s h = h
    output_tells sn node taken (no reason) k j s h = h

    count_split : (a : ℕ) (xs ys : List ℕ) (c : ℕ) → CountTo a (xs ++ ys) c → (b : ℕ) × CountTo a xs b × CountTo b ys c
    count_split a [] ys c h = (a, refl, h)
    count_split a (x ∷ xs) ys c h = let more = count_split (a + 1) xs ys c h.1 in (more.0, (h.0, more.1), more.2)

    all_tell : (sn : Lengths) (node : NodeId) (taken : Option ℕ) (os : List (Put (Message Token) (Load Pdu) Pdu)) (k j : ℕ) (s : PlainState)
        → CountTo k (numbers_on end (frames_by os)) j → Tells k j (put_out_all (plain_world reading) node taken (map (written_put sn) os) s)
    unfolding put_out_all
    all_tell sn node taken [] k j s h = h
    all_tell sn node taken (o ∷ os) k j s h =
        let parts = count_split k (numbers_on end (frames_in o)) (numbers_on end (frames_by os)) j
        (subst (λ (ns : List ℕ). CountTo k ns j) (flat_map-append (number_on end) (frames_in o) (frames_by os)) h) in
        then_tells k parts.0 j (put_out (plain_world reading) node taken (written_put sn o) s) (put_out_all (plain_world reading) node taken (map (written_put sn) os))
        (output_tells sn node taken o k parts.0 s parts.1) (λ t. all_tell sn node taken os parts.0 j t parts.2)

    -- ---- a step

    first_tells : (cause : Cause (Message Token) (Written (Load Pdu)) (Written Pdu)) (k : ℕ) (s : PlainState)
        → Tells k k (first_of (plain_world reading) cause s)
    first_tells (by_order node order) k s = refl
    first_tells (by_tick node) k s = refl
    first_tells (by_octets from to octets) k s = refl
    first_tells (by_octets_on on octets) k s = refl
    first_tells (by_attach plan) k s = refl
    first_tells (by_release g ue) k s =
        none_then k (lose_radios (plain_world reading) ue s) (λ t. goes_on (record (connect_in (plain_world reading) ue None t) { gone = t.gone ++ ue ∷ [] }))
        (none_lose ue k s) (λ j t. refl)
    first_tells (by_offer ue bearer p) k s = refl
    first_tells (by_item on item rest) k s = refl
    first_tells (by_air key home item) k s = refl
    first_tells (by_ack key home item rest) k s = refl
    first_tells (by_control_message number l to) k s = refl

    pub act_tells : (sn : Lengths) (cause : Cause (Message Token) (Written (Load Pdu)) (Written Pdu)) (os : List (Put (Message Token) (Load Pdu) Pdu)) (units : Units (Message Token) Token)
        (k j : ℕ) (s : PlainState) → CountTo k (numbers_on end (frames_by os)) j
        → Tells k j
        (carried_out (plain_world reading) (node_of cause) (count_of cause) (first_of (plain_world reading) cause) (map (written_put sn) os) units s)
    act_tells sn cause os units k j s h =
        let t : PlainState = record s { units = units } in
        then_tells k j j
        (first_of (plain_world reading) cause t next reconnect_node (plain_world reading) (node_of cause)
        next put_out_all (plain_world reading) (node_of cause) (count_of cause) (map (written_put sn) os)) check_spans
        (then_tells k k j (first_of (plain_world reading) cause t next reconnect_node (plain_world reading) (node_of cause))
        (put_out_all (plain_world reading) (node_of cause) (count_of cause) (map (written_put sn) os))
        (then_tells k k k (first_of (plain_world reading) cause t) (reconnect_node (plain_world reading) (node_of cause)) (first_tells cause k t)
        (λ x. none_node (node_of cause) k x))
        (λ x. all_tell sn (node_of cause) (count_of cause) os k j x h))
        (λ x. none_checked j x)

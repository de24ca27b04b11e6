-- Events of packets, over octets.
use Rattle.std.proofs.Common.{◌≡◌, ℕ, ◌==◌, ◌+◌, ◌-◌, Bool, true, false, ◌&&◌, List, [], ◌∷◌, length, Option, Some, None, refl, ap, ◌∙◌}
use Rattle.std.specs.Prelude.{if◌then◌else◌, nat_lt, unwrap_or}
use Rattle.std.specs.Option.{option_map}
use Rattle.gnb_types.specs.declared.names.Gnb.{Gnb}
use Rattle.gnb_types.specs.declared.names.NodeId.{NodeId}
use Rattle.gnb_types.specs.declared.names.NodeId.TheVariants.{CuCp, CuUp as up_id, Du as du_id, Core, Ue}
use Rattle.gnb_types.specs.declared.names.UeId.{UeId}
use Rattle.gnb_types.specs.declared.names.BearerId.{BearerId}
use Rattle.gnb_types.specs.declared.names.Dir.TheVariants.{Dl, Ul}
use Rattle.gnb_types.specs.declared.keys.TunnelEnd.{TunnelEnd}
use Rattle.gnb_types.specs.declared.keys.EntityKey.{EntityKey}
use Rattle.gnb_types.specs.declared.reasons.RefuseReason.TheVariants.{NoBearer, Size, Empty}
use Rattle.gnb_types.specs.Orders.{ue_cmp, tunnel_cmp, node_cmp}
use Rattle.message_types.specs.declared.rrc.Token.{Token}
use Rattle.tables.specs.Tables.{find, at}
use Rattle.tables.proofs.TableLaws.{find-mapped, put-mapped}
use Rattle.unit_defs.specs.Messages.{teid_of}
use Rattle.unit_defs.specs.Ways.{Message, Pdu, Load}
use Rattle.unit_defs.specs.CuUpRecords.{CuUp}
use Rattle.unit_defs.specs.CuUp.{new_cu_up}
use Rattle.unit_defs.specs.Du.{Du, new_du}
use Rattle.unit_defs.specs.Core.{CorePath}
use Rattle.unit_defs.specs.Ue.{UeNode, is_connected, largest_packet}
use Rattle.unit_defs.specs.octet_defs.Codec.{Codec}
use Rattle.transport_defs.specs.Links.{nth, Radio}
use Rattle.run_defs.specs.Lines.{got_item, is_quiet, is_busy, tunnel_link, radio_link, shown}
use Rattle.run_defs.specs.Units.{cu_up_of, du_of, ue_of, epoch_at}
use Rattle.run_defs.specs.Written.{Written}
use Rattle.unit_defs.specs.Accessors.{du_epoch}
use Rattle.run_defs.specs.States.{World, item_for, carried_for, confirmed_for, goes, ◌next◌, goes_on, as_step, prints, refused, entity, has_bearer, book_of, radio_of, with_radio}
use Rattle.run_defs.specs.Steps.{put_on_tunnel, check_spans, is_done, is_held, is_refused, ordered_by}
use Rattle.run_defs.specs.Conditions.{same_epoch, ready_at, ready_of, ready_home, receiver_of, sender_of, epoch_of, rests, ask_line}
use Rattle.run_defs.specs.Events.{offered, offer_on_path, offer_down, offer, taken_off, get_done, got_by, get_on, get, carried_off, carry_done, carried_by, air_item, air_at, air, confirmed_off, confirm_done, ack_items, ack_at, ack, ask}
use Rattle.run_defs.specs.Runs.{Reading}
use Rattle.law_octets_say_the_same.specs.octet_rows.Octets.{up_again, du_again}
use Rattle.law_octets_say_the_same.specs.octet_runs.Again.{PlainState, PlainUnits, item_again, items_again, units_again}
use Rattle.law_octets_say_the_same.specs.octet_runs.Faithful.{ReadsAlike, RestsAlike}
use Rattle.law_octets_say_the_same.proofs.octet_runs.Lists.{nth-map}
use Rattle.law_octets_say_the_same.proofs.octet_runs.Endings.{PlainWithin, OctetWithin, PlainDone, over, line_again, within_again, outcome_again, done_again, next_again, as_step_again, choice}
use Rattle.law_octets_say_the_same.proofs.octet_runs.Puts.{OnTunnel, OnRadio, plain, octet, put_on_tunnel_again, radio_of_again, with_radio_again}
use Rattle.law_octets_say_the_same.proofs.octet_runs.Steps.{check_spans_again, does_again}

-- ---- units of a name

pub up_of_again : (u : PlainUnits) (g : Gnb) (n : ℕ) → cu_up_of (units_again u) g n ≡ up_again (cu_up_of u g n)
unfolding at
up_of_again u g n = ap (λ o. unwrap_or o (new_cu_up g n)) (find-mapped node_cmp up_again u.ups (up_id g n)) ∙ by (find node_cmp u.ups (up_id g n))
  where
    by : (o : Option (CuUp (Message Token) Token)) → unwrap_or (option_map up_again o) (new_cu_up {M = List ℕ} {C = List ℕ} g n) ≡ up_again (unwrap_or o (new_cu_up g n))
    by None = refl
    by (Some r) = refl

pub du_of_again : (u : PlainUnits) (g : Gnb) (n : ℕ) → du_of (units_again u) g n ≡ du_again (du_of u g n)
unfolding at
du_of_again u g n = ap (λ o. unwrap_or o (new_du g n)) (find-mapped node_cmp du_again u.dus (du_id g n)) ∙ by (find node_cmp u.dus (du_id g n))
  where
    by : (o : Option (Du (Message Token) Token)) → unwrap_or (option_map du_again o) (new_du {M = List ℕ} {C = List ℕ} g n) ≡ du_again (unwrap_or o (new_du g n))
    by None = refl
    by (Some r) = refl

module _ (codec : Codec) (reading : Reading) where
  abbrev here : World (Message Token) Token (Written (Load Pdu)) (Written Pdu)
  here = plain codec reading

  abbrev there : World (List ℕ) (List ℕ) (List ℕ) (List ℕ)
  there = octet codec reading

  ordered_again : (s : PlainState) (d : PlainDone) → ordered_by there (over codec s) (done_again codec d) ≡ outcome_again codec (ordered_by here s d)
  ordered_again s (is_done outcome) = refl
  ordered_again s (is_held reason) = refl
  ordered_again s (is_refused reason) = refl

  -- ---- offer

  pub offer_again : (ue : UeId) (bearer : BearerId) (p : List ℕ) (s : PlainState)
      → offer there ue bearer Dl p (over codec s) ≡ outcome_again codec (offer here ue bearer Dl p s)
  unfolding offer
  offer_again ue bearer p s =
      choice (outcome_again codec) (has_bearer s ue bearer) (offer_down here ue bearer p s) (refused NoBearer s) (offer_down there ue bearer p (over codec s))
      (refused NoBearer (over codec s)) (on_path (find ue_cmp s.core.paths ue)) refl
    where
      on_path : (o : Option CorePath) → offer_on_path there ue bearer p (over codec s) o ≡ outcome_again codec (offer_on_path here ue bearer p s o)
      on_path None = refl
      on_path (Some path) =
          choice (outcome_again codec) (nat_lt largest_packet (length p)) (refused Size s) (as_step (Some Core) puts) (refused Size (over codec s))
          (as_step (Some Core) puts_there) refl (ap (as_step (Some Core)) same ∙ as_step_again codec (Some Core) puts)
        where
          end : TunnelEnd
          end = record { node = path.up; teid = teid_of path.n3 bearer }

          item : OnTunnel
          item = record { key = entity ue bearer Dl; count = None; content = here.lay_n3 (teid_of path.n3 bearer) p }

          puts : PlainWithin
          puts = put_on_tunnel here end item (offered here (entity ue bearer Dl) s) next check_spans

          puts_there : OctetWithin
          puts_there = put_on_tunnel there end (item_again item) (over codec (offered here (entity ue bearer Dl) s)) next check_spans

          same : puts_there ≡ within_again codec puts
          same =
              ap (λ (e : OctetWithin). e next check_spans) (put_on_tunnel_again codec reading end item (offered here (entity ue bearer Dl) s))
              ∙ next_again codec (line_again codec) (put_on_tunnel here end item (offered here (entity ue bearer Dl) s)) check_spans check_spans (check_spans_again codec reading)

  -- ---- get

  module _ (end : TunnelEnd) (s : PlainState) where
    got_again : (d : PlainDone) → got_by there end (over codec s) (done_again codec d) ≡ outcome_again codec (got_by here end s d)
    got_again (is_done outcome) = refl
    got_again (is_held reason) = refl
    got_again (is_refused reason) = refl

    pub get_again : ((item : OnTunnel) (rest : List OnTunnel) → find tunnel_cmp s.tunnels end ≡ Some (item ∷ rest) → ReadsAlike codec reading s end.node (item_for end.teid item))
        → get there end (over codec s) ≡ outcome_again codec (get here end s)
    unfolding get
    get_again reads =
        ap (get_on there end (over codec s)) (find-mapped tunnel_cmp items_again s.tunnels end) ∙ by (find tunnel_cmp s.tunnels end) refl
      where
        by : (o : Option (List OnTunnel)) → find tunnel_cmp s.tunnels end ≡ o → get_on there end (over codec s) (option_map items_again o) ≡ outcome_again codec (get_on here end s o)
        by None e = refl
        by (Some []) e = refl
        by (Some (item ∷ rest)) e =
            ap (got_by there end (over codec s))
            (does_again codec reading end.node item.count (taken_off here end item rest) (taken_off there end (item_again item) (items_again rest))
            (λ t. ap (λ ts. goes (got_item (tunnel_link end) (shown item.key item.count item.content.octets) ∷ []) (record (over codec t) { tunnels = ts }))
            (put-mapped tunnel_cmp items_again t.tunnels end rest)) s (item_for end.teid item) (reads item rest e))
            ∙ got_again (get_done here end item rest s)

  -- ---- the radio of a terminal is ready

  epoch_again : (s : PlainState) (home : NodeId) (ue : UeId) → epoch_at (units_again s.units) home ue ≡ epoch_at s.units home ue
  epoch_again s (CuCp gnb) ue = refl
  epoch_again s (up_id gnb number) ue = refl
  epoch_again s (du_id gnb number) ue = ap (λ r. du_epoch r ue) (du_of_again s.units gnb number)
  epoch_again s Core ue = refl
  epoch_again s (Ue number) ue = refl

  ready_again : (s : PlainState) (ue : UeId) → ready_home (over codec s) ue ≡ ready_home s ue
  ready_again s ue = by (ue_of s.units ue)
    where
      at_home : (u : UeNode) (o : Option NodeId) → ready_at (over codec s) ue u o ≡ ready_at s ue u o
      at_home u None = refl
      at_home u (Some home) = ap (λ e. if is_connected u.state && same_epoch e u.epoch then Some home else None) (epoch_again s home ue)

      by : (o : Option UeNode) → ready_of (over codec s) ue o ≡ ready_of s ue o
      by None = refl
      by (Some u) = at_home u u.home

  -- ---- air and ack

  module _ (key : EntityKey) (s : PlainState) where
    carried_again : (home : NodeId) (d : PlainDone) → carried_by there key home (over codec s) (done_again codec d) ≡ outcome_again codec (carried_by here key home s d)
    carried_again home (is_done outcome) = refl
    carried_again home (is_held reason) = refl
    carried_again home (is_refused reason) = refl

    abbrev Carries : NodeId → OnRadio → Type 0
    Carries home item = ReadsAlike codec reading s (receiver_of key home) (carried_for item)

    pub air_again : ((home : NodeId) (item : OnRadio) → ready_home s key.ue ≡ Some home → nth (radio_of s key).items (radio_of s key).carried ≡ Some item → Carries home item)
        → air there key (over codec s) ≡ outcome_again codec (air here key s)
    unfolding air
    air_again reads =
        choice (outcome_again codec) (has_bearer s key.ue key.bearer) (air_at here key s (ready_home s key.ue)) (refused NoBearer s)
        (air_at there key (over codec s) (ready_home (over codec s) key.ue)) (refused NoBearer (over codec s))
        (ap (air_at there key (over codec s)) (ready_again s key.ue) ∙ by (ready_home s key.ue) refl) refl
      where
        off : (item : OnRadio) (t : PlainState) → carried_off there key (item_again item) (over codec t) ≡ within_again codec (carried_off here key item t)
        off item t =
            ap (λ (r : Radio (List ℕ)). goes (got_item (radio_link key (epoch_of t key.ue)) (shown item.key item.count item.content.octets) ∷ [])
            (with_radio key (record r { carried = r.carried + 1 }) (over codec t))) (radio_of_again codec reading t key)
            ∙ ap (goes (got_item (radio_link key (epoch_of t key.ue)) (shown item.key item.count item.content.octets) ∷ []))
            (with_radio_again codec reading key (record (radio_of t key) { carried = (radio_of t key).carried + 1 }) t)

        on_item : (home : NodeId) → ready_home s key.ue ≡ Some home → (o : Option OnRadio) → nth (radio_of s key).items (radio_of s key).carried ≡ o
            → air_item there key home (over codec s) (option_map item_again o) ≡ outcome_again codec (air_item here key home s o)
        on_item home ready None e = refl
        on_item home ready (Some item) e =
            ap (carried_by there key home (over codec s))
            (does_again codec reading (receiver_of key home) item.count (carried_off here key item) (carried_off there key (item_again item)) (off item) s (carried_for item)
            (reads home item ready e))
            ∙ carried_again home (carry_done here key home item s)

        by : (o : Option NodeId) → ready_home s key.ue ≡ o → air_at there key (over codec s) o ≡ outcome_again codec (air_at here key s o)
        by None ready = refl
        by (Some home) ready =
            ap (λ (r : Radio (List ℕ)). air_item there key home (over codec s) (nth r.items r.carried)) (radio_of_again codec reading s key)
            ∙ ap (air_item there key home (over codec s)) (nth-map item_again (radio_of s key).items (radio_of s key).carried)
            ∙ on_item home ready (nth (radio_of s key).items (radio_of s key).carried) refl

    pub ack_again : ((home : NodeId) (item : OnRadio) (rest : List OnRadio) → ready_home s key.ue ≡ Some home → (radio_of s key).items ≡ item ∷ rest
        → ReadsAlike codec reading s (sender_of key home) (confirmed_for item))
        → ack there key (over codec s) ≡ outcome_again codec (ack here key s)
    unfolding ack
    ack_again reads =
        choice (outcome_again codec) (has_bearer s key.ue key.bearer) (ack_at here key s (ready_home s key.ue)) (refused NoBearer s)
        (ack_at there key (over codec s) (ready_home (over codec s) key.ue)) (refused NoBearer (over codec s))
        (ap (ack_at there key (over codec s)) (ready_again s key.ue) ∙ by (ready_home s key.ue) refl) refl
      where
        off : (rest : List OnRadio) (t : PlainState) → confirmed_off there key (items_again rest) (over codec t) ≡ within_again codec (confirmed_off here key rest t)
        off rest t =
            ap (λ (r : Radio (List ℕ)). goes_on (with_radio key (record { items = items_again rest; carried = r.carried - 1 }) (over codec t))) (radio_of_again codec reading t key)
            ∙ ap goes_on (with_radio_again codec reading key (record { items = rest; carried = (radio_of t key).carried - 1 }) t)

        on_items : (home : NodeId) → ready_home s key.ue ≡ Some home → (items : List OnRadio) (carried : ℕ) → (radio_of s key).items ≡ items
            → ack_items there key home (over codec s) (items_again items) carried ≡ outcome_again codec (ack_items here key home s items carried)
        on_items home ready [] carried e = refl
        on_items home ready (item ∷ rest) carried e =
            choice (outcome_again codec) (carried == 0) (refused Empty s) (ordered_by here s (confirm_done here key home item rest s)) (refused Empty (over codec s))
            (ordered_by there (over codec s) (confirm_done there key home (item_again item) (items_again rest) (over codec s))) refl
            (ap (ordered_by there (over codec s))
            (does_again codec reading (sender_of key home) item.count (confirmed_off here key rest) (confirmed_off there key (items_again rest)) (off rest) s (confirmed_for item)
            (reads home item rest ready e))
            ∙ ordered_again s (confirm_done here key home item rest s))

        by : (o : Option NodeId) → ready_home s key.ue ≡ o → ack_at there key (over codec s) o ≡ outcome_again codec (ack_at here key s o)
        by None ready = refl
        by (Some home) ready =
            ap (λ (r : Radio (List ℕ)). ack_items there key home (over codec s) r.items r.carried) (radio_of_again codec reading s key)
            ∙ on_items home ready (radio_of s key).items (radio_of s key).carried refl

  -- ---- ask

  pub ask_again : (ue : UeId) (bearer : BearerId) (s : PlainState) → RestsAlike codec s ue bearer
      → ask there ue bearer (over codec s) ≡ outcome_again codec (ask here ue bearer s)
  unfolding ask
  ask_again ue bearer s same =
      choice (outcome_again codec) (has_bearer s ue bearer) (prints (ask_line s ue bearer ∷ []) s) (refused NoBearer s)
      (prints (ask_line (over codec s) ue bearer ∷ []) (over codec s)) (refused NoBearer (over codec s))
      (ap (λ (t : Bool). prints ((if t then is_quiet ue bearer down up else is_busy ue bearer) ∷ []) (over codec s)) same ∙ by (rests s ue bearer)) refl
    where
      down : ℕ
      down = (book_of s (entity ue bearer Dl)).delivered

      up : ℕ
      up = (book_of s (entity ue bearer Ul)).delivered

      by : (t : Bool) → prints ((if t then is_quiet ue bearer down up else is_busy ue bearer) ∷ []) (over codec s)
          ≡ outcome_again codec (prints ((if t then is_quiet ue bearer down up else is_busy ue bearer) ∷ []) s)
      by true = refl
      by false = refl

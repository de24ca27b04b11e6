-- What a unit's outputs put on links: frames on one tunnel, one item on a tunnel or a radio.
use Rattle.std.proofs.Common.{◌≡◌, ℕ, ◌+◌, false, List, [], ◌∷◌, ◌++◌, map, Option, Some, refl, sym, ap, ◌∙◌, append_assoc}
use Rattle.std.specs.Ordering.{eq_by_cmp}
use Rattle.std.proofs.lemmas.List.{append-nil, map-append}
use Rattle.gnb_types.specs.declared.names.NodeId.{NodeId}
use Rattle.gnb_types.specs.declared.names.UeId.{UeId}
use Rattle.gnb_types.specs.declared.names.BearerId.{BearerId}
use Rattle.gnb_types.specs.declared.names.Dir.TheVariants.{Dl}
use Rattle.gnb_types.specs.declared.outputs.Tag.{Tag}
use Rattle.gnb_types.specs.declared.outputs.Tag.TheVariants.{Own, Same, Absent}
use Rattle.gnb_types.specs.declared.keys.TunnelEnd.{TunnelEnd}
use Rattle.gnb_types.specs.declared.keys.EntityKey.{EntityKey}
use Rattle.gnb_types.specs.Orders.{tunnel_cmp}
use Rattle.gnb_types.proofs.OrderLemmas.{tunnel_total}
use Rattle.tables.specs.Tables.{find, put}
use Rattle.tables.proofs.TableLaws.{find-put-same, find-put-other}
use Rattle.message_types.specs.declared.rrc.Token.{Token}
use Rattle.unit_defs.specs.Ways.{Message, Pdu, packet_pdu, Load, frame, Put, packet}
use Rattle.unit_defs.specs.CuUpRecords.{DownlinkTunnel, CuUpScope}
use Rattle.run_defs.specs.Lines.{put_item, tunnel_link, shown}
use Rattle.run_defs.specs.Written.{Written, written_put, written_item}
use Rattle.run_defs.specs.States.{goes, told_before, ◌next◌, Lengths, entity}
use Rattle.run_defs.specs.Steps.{noted, count_beside, item_of, on_tunnel, put_on_tunnel, put_out, put_out_all}
use Rattle.run_defs.specs.Runs.{Reading, plain_way, plain_world}
use Rattle.law_downlink_scripts.specs.downlink_only_rows.DownlinkOnly.{next_on, sends}
use Rattle.law_downlink_scripts.proofs.downlink_only_facts.Views.{PlainState, OnTunnel, load_of, frames_from}
use Rattle.law_downlink_scripts.proofs.downlink_only_facts.Moves.{Line, PlainWithin, AreMute, mute_and}

abbrev pub PlainPut : Type 0
PlainPut = Put (Message Token) (Written (Load Pdu)) (Written Pdu)

-- all but tunnels and books is the same
pub record AsBefore (s t : PlainState) : Type 0 where
  pub units : t.units ≡ s.units
  pub core : t.core ≡ s.core
  pub plans : t.plans ≡ s.plans
  pub radios : t.radios ≡ s.radios
  pub connected : t.connected ≡ s.connected

same_as : (s : PlainState) → AsBefore s s
same_as s = record { units = refl; core = refl; plans = refl; radios = refl; connected = refl }

-- these items came on one tunnel, and no other changed
pub record Adds (s t : PlainState) (end : TunnelEnd) (items new : List OnTunnel) : Type 0 where
  pub same : AsBefore s t
  pub there : find tunnel_cmp t.tunnels end ≡ Some (items ++ new)
  pub others : (q : TunnelEnd) → eq_by_cmp tunnel_cmp q end ≡ false → find tunnel_cmp t.tunnels q ≡ find tunnel_cmp s.tunnels q

-- without a stop, by lines that deliver nothing
pub record PutsOn (s : PlainState) (end : TunnelEnd) (items : List OnTunnel) (says : List (Load Pdu)) (w : PlainWithin) : Type 0 where
  pub lines : List Line
  pub after : PlainState
  pub is : w ≡ goes lines after
  pub mute : AreMute lines
  pub new : List OnTunnel
  pub said : map load_of new ≡ says
  pub adds : Adds s after end items new

module _ (reading : Reading) where
  -- one item on an open tunnel
  pub puts_one : (s u : PlainState) (end : TunnelEnd) (items : List OnTunnel) (item : OnTunnel) → AsBefore s u → u.tunnels ≡ s.tunnels
      → find tunnel_cmp s.tunnels end ≡ Some items → PutsOn s end items (item.content.says ∷ []) (put_on_tunnel (plain_world reading) end item u)
  unfolding put_on_tunnel
  puts_one s u end items item same tunnels there = record {
    lines = put_item (tunnel_link end) (shown item.key item.count item.content.octets) ∷ [];
    after = t;
    is = ap (λ (o : Option (List OnTunnel)). told_before (put_item (tunnel_link end) (shown item.key item.count item.content.octets) ∷ [])
        (on_tunnel (plain_world reading) u end item o)) (ap (λ es. find tunnel_cmp es end) tunnels ∙ there);
    mute = (tt, tt);
    new = item ∷ [];
    said = refl;
    adds = record {
      same = record { units = same.units; core = same.core; plans = same.plans; radios = same.radios; connected = same.connected };
      there = find-put-same tunnel_total u.tunnels end (items ++ item ∷ []);
      others = λ q apart. find-put-other tunnel_total u.tunnels end (items ++ item ∷ []) q apart ∙ ap (λ es. find tunnel_cmp es q) tunnels;
    };
  }
    where
      t : PlainState
      t = record u { tunnels = put tunnel_cmp u.tunnels end (items ++ item ∷ []) }

  noted_same : (s : PlainState) (key : EntityKey) (tag : Tag) → AsBefore s (noted key tag s) × ((noted key tag s).tunnels ≡ s.tunnels)
  noted_same s key Absent = (same_as s, refl)
  noted_same s key (Own count) = (record { units = refl; core = refl; plans = refl; radios = refl; connected = refl }, refl)
  noted_same s key Same = (same_as s, refl)

  -- one output for an open tunnel
  pub output_puts : (s : PlainState) (node to : NodeId) (taken : Option ℕ) (teid : ℕ) (ue : UeId) (bearer : BearerId) (tag : Tag) (load : Written (Load Pdu))
      (items : List OnTunnel) → find tunnel_cmp s.tunnels (record { node = to; teid = teid }) ≡ Some items
      → PutsOn s (record { node = to; teid = teid }) items (load.says ∷ []) (put_out (plain_world reading) node taken (packet to teid ue bearer Dl tag load) s)
  output_puts s node to taken teid ue bearer tag load items there =
      let n = noted_same s (entity ue bearer Dl) tag in
      puts_one s (noted (entity ue bearer Dl) tag s) (record { node = to; teid = teid }) items
      (item_of (plain_world reading) ue bearer Dl (count_beside tag taken) load) n.0 n.1 there

  pub none_puts : (s : PlainState) (end : TunnelEnd) (items : List OnTunnel) → find tunnel_cmp s.tunnels end ≡ Some items → PutsOn s end items [] (goes [] s)
  none_puts s end items there = record {
    lines = [];
    after = s;
    is = refl;
    mute = tt;
    new = [];
    said = refl;
    adds = record { same = same_as s; there = there ∙ ap Some (sym (append-nil items)); others = λ q apart. refl };
  }

  -- one after another
  more_puts : (s : PlainState) (end : TunnelEnd) (items : List OnTunnel) (first rest : List (Load Pdu)) (w : PlainWithin) (f : PlainState → PlainWithin)
      → PutsOn s end items first w
      → ((t : PlainState) (there : List OnTunnel) → find tunnel_cmp t.tunnels end ≡ Some there → PutsOn t end there rest (f t))
      → PutsOn s end items (first ++ rest) (w next f)
  more_puts s end items first rest w f p q =
      let r = q p.after (items ++ p.new) p.adds.there in record {
        lines = p.lines ++ r.lines;
        after = r.after;
        is = ap (λ (x : PlainWithin). x next f) p.is ∙ ap (told_before p.lines) r.is;
        mute = mute_and p.lines r.lines p.mute r.mute;
        new = p.new ++ r.new;
        said = map-append load_of p.new r.new ∙ ap (λ (ls : List (Load Pdu)). ls ++ map load_of r.new) p.said ∙ ap (λ (ls : List (Load Pdu)). first ++ ls) r.said;
        adds = record {
          same = record {
            units = r.adds.same.units ∙ p.adds.same.units;
            core = r.adds.same.core ∙ p.adds.same.core;
            plans = r.adds.same.plans ∙ p.adds.same.plans;
            radios = r.adds.same.radios ∙ p.adds.same.radios;
            connected = r.adds.same.connected ∙ p.adds.same.connected;
          };
          there = r.adds.there ∙ ap Some (append_assoc items p.new r.new);
          others = λ e apart. r.adds.others e apart ∙ p.adds.others e apart;
        };
      }

  -- packets in frames
  pub sends_puts : (sn : Lengths) (at : CuUpScope) (ps : List (List ℕ)) (d : DownlinkTunnel) (count : ℕ) (node : NodeId) (taken : Option ℕ) (s : PlainState)
      (items : List OnTunnel) → find tunnel_cmp s.tunnels (record { node = d.du; teid = d.teid }) ≡ Some items
      → PutsOn s (record { node = d.du; teid = d.teid }) items (frames_from d.next count ps)
      (put_out_all (plain_world reading) node taken (map (written_put sn) (sends plain_way at d count ps)) s)
  unfolding put_out_all
  sends_puts sn at [] d count node taken s items there = none_puts s (record { node = d.du; teid = d.teid }) items there
  sends_puts sn at (p ∷ ps) d count node taken s items there =
      more_puts s (record { node = d.du; teid = d.teid }) items (frame false false d.next (Some (packet_pdu count p)) ∷ []) (frames_from (d.next + 1) (count + 1) ps) _
      (put_out_all (plain_world reading) node taken (map (written_put sn) (sends plain_way at (next_on d) (count + 1) ps)))
      (output_puts s node d.du taken d.teid at.ue at.bearer (Own count)
      (written_item (sn at.ue) d.teid (frame false false d.next (Some (packet_pdu count p)))) items there)
      (λ t more found. sends_puts sn at ps (next_on d) (count + 1) node taken t more found)

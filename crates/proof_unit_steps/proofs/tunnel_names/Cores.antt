-- The core puts items on the N3 tunnels of its paths, and takes new paths from path switches.
use Rattle.std.proofs.Common.{◌≡◌, ℕ, Bool, true, false, cond, List, [], ◌∷◌, map, Option, Some, None, refl, sym, ◌∙◌, subst}
use Rattle.std.specs.Ordering.{eq_by_cmp}
use Rattle.std.specs.Cmp.{Equal-is}
use Rattle.gnb_types.specs.declared.names.NodeId.{NodeId}
use Rattle.gnb_types.specs.declared.names.NodeId.TheVariants.{CuCp, CuUp, Du, Core, Ue}
use Rattle.gnb_types.specs.declared.names.UeId.{UeId}
use Rattle.gnb_types.specs.declared.names.Dir.TheVariants.{Dl}
use Rattle.gnb_types.specs.declared.keys.Channel.{Channel}
use Rattle.gnb_types.specs.declared.plans.Peer.{Peer}
use Rattle.gnb_types.specs.declared.plans.Tunnel.{Tunnel}
use Rattle.gnb_types.specs.Orders.{ue_cmp}
use Rattle.gnb_types.proofs.OrderLemmas.{ue_total, ue_exact}
use Rattle.message_types.specs.declared.xn.CoreMessage.TheVariants as cores
use Rattle.tables.specs.Tables.{find}
use Rattle.tables.proofs.TableLaws.{find-put}
use Rattle.unit_defs.specs.Ways.{Message, core, Way}
use Rattle.unit_defs.specs.Messages.{channel}
use Rattle.unit_defs.specs.Transactions.{Kind, request, reply, transfer, kind_of, replied}
use Rattle.unit_defs.specs.CuUpRecords.{n3}
use Rattle.unit_defs.specs.Core.{CorePath, CoreRecord, end_of, old_ends, new_path, moved, switch_path, asked, came, core_acts}
use Rattle.proof_unit_steps.specs.tunnel_names.Names.{Property, Names, PeerList, OwnUpList, PutOn, OutputsName, AnswerNames, KeptNames}
use Rattle.proof_unit_steps.specs.tunnel_names.CuCps.{PathNames, CoreNames}
use Rattle.proof_unit_steps.proofs.tunnel_names.Kept.{after, replied_names, on_request_names}

module _ {M C P : Type 0} {way : Way M C P} (is : Property way) where
  -- on the path's tunnels the core puts what it may
  on_path : (ue : UeId) (up : NodeId) (ts : List Tunnel) (t : Tunnel) → OwnUpList is.owners up n3 ue (t ∷ ts) → PutOn is Core up t.teid ue t.bearer Dl
  on_path ue (CuUp gnb number) ts t p = p.0
  on_path ue (CuCp gnb) ts t p = absurd p
  on_path ue (Du gnb number) ts t p = absurd p
  on_path ue Core ts t p = absurd p
  on_path ue (Ue u) ts t p = absurd p

  rest_of : (ue : UeId) (up : NodeId) (ts : List Tunnel) (t : Tunnel) → OwnUpList is.owners up n3 ue (t ∷ ts) → OwnUpList is.owners up n3 ue ts
  rest_of ue (CuUp gnb number) ts t p = p.1
  rest_of ue (CuCp gnb) ts t p = absurd p
  rest_of ue (Du gnb number) ts t p = absurd p
  rest_of ue Core ts t p = absurd p
  rest_of ue (Ue u) ts t p = absurd p

  ends_name : (ue : UeId) (up : NodeId) (ts : List Tunnel) → OwnUpList is.owners up n3 ue ts → OutputsName is Core (map (end_of way ue up) ts)
  ends_name ue up [] p = tt
  ends_name ue up (t ∷ ts) p = ((on_path ue up ts t p, tt), ends_name ue up ts (rest_of ue up ts t p))

  moved_names : (ue : UeId) (peer : Peer) (paths : List Tunnel) (r : CoreRecord M C) → PeerList is.owners peer n3 ue paths → CoreNames is r
      → AnswerNames is (CoreNames is) Core (moved way ue peer paths r)
  moved_names ue peer paths r fits p = (
    record {
      paths = λ v x e. found v x (eq_by_cmp ue_cmp v ue) refl (sym (find-put ue_total r.paths ue (new_path way peer paths) v) ∙ e);
      kept = p.kept;
    },
    by (find ue_cmp r.paths ue) refl,
  )
    where
      found : (v : UeId) (x : CorePath) (b : Bool) → eq_by_cmp ue_cmp v ue ≡ b → cond b (Some (new_path way peer paths)) (find ue_cmp r.paths v) ≡ Some x → PathNames is v x
      found v x true tie e =
          let same : v ≡ ue = ue_exact v ue ((Equal-is (ue_cmp v ue)).0 tie) in
          let those : new_path way peer paths ≡ x = cc in
          subst (λ (w : UeId). PathNames is w x) (sym same) (subst (λ (y : CorePath). PathNames is ue y) those fits)
      found v x false apart e = p.paths v x e

      by : (o : Option CorePath) → find ue_cmp r.paths ue ≡ o → OutputsName is Core (old_ends way ue o)
      by None e = tt
      by (Some path) e = ends_name ue path.up path.n3 (p.paths ue path e)

  switch_names : (ch : Channel) (ue : UeId) (instance : ℕ) (peer : Peer) (paths : List Tunnel) (r : CoreRecord M C) → PeerList is.owners peer n3 ue paths → CoreNames is r
      → AnswerNames is (CoreNames is) Core (switch_path way ch ue instance peer paths r)
  unfolding switch_path kind_of
  switch_names ch ue instance peer paths r fits p =
      after is Core (KeptNames is Core) (CoreNames is) (replied way r.transactions ch (core (cores.PathSwitchAcknowledge ue instance)))
      (λ t. moved way ue peer paths (record r { transactions = t }))
      (replied_names is Core r.transactions ch (core (cores.PathSwitchAcknowledge ue instance)) p.kept tt)
      (λ t k. moved_names ue peer paths (record r { transactions = t }) fits (record { paths = p.paths; kept = k }))

  asked_names : (from : NodeId) (ch : Channel) (m : Message C) (r : CoreRecord M C) → Names is.owners from m → CoreNames is r
      → AnswerNames is (CoreNames is) Core (asked way ch m r)
  unfolding kind_of
  asked_names from ch (core (cores.PathSwitchRequest ue instance peer paths)) r names p = switch_names ch ue instance peer paths r names p
  asked_names from ch m r names p = (p, (tt, tt))

  came_names : (from : NodeId) (m : Message C) (r : CoreRecord M C) (k : Kind) → Names is.owners from m → CoreNames is r
      → AnswerNames is (CoreNames is) Core (came way from m r k)
  came_names from m r (request ue i) names p =
      on_request_names is Core (CoreNames is) r r.transactions (channel ue from) i (λ t. asked way (channel ue from) m (record r { transactions = t })) p p.kept
      (λ t k. asked_names from (channel ue from) m (record r { transactions = t }) names (record { paths = p.paths; kept = k }))
  came_names from m r (reply ue i) names p = (p, (tt, tt))
  came_names from m r (transfer ue) names p = (p, (tt, tt))

  pub core_names : (r : CoreRecord M C) (from : NodeId) (m : Message C) → Names is.owners from m → CoreNames is r
      → AnswerNames is (CoreNames is) Core (core_acts way r from m)
  unfolding core_acts
  core_names r (CuCp gnb) m names p = came_names (CuCp gnb) m r (kind_of m) names p
  core_names r from m names p = (p, (tt, tt))

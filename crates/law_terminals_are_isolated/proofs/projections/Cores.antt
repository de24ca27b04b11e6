-- Each row of the core is one terminal's.
use Rattle.std.proofs.Common.{◌≡◌, ℕ, List, [], ◌∷◌, map, Option, Some, None, refl, ap, ◌∙◌, subst}
use Rattle.std.specs.List.{AllByRecursion}
use Rattle.gnb_types.specs.declared.names.NodeId.{NodeId}
use Rattle.gnb_types.specs.declared.names.NodeId.TheVariants.{CuCp, CuUp, Du, Core, Ue}
use Rattle.gnb_types.specs.declared.names.UeId.{UeId}
use Rattle.gnb_types.specs.declared.plans.Peer.{Peer}
use Rattle.gnb_types.specs.declared.plans.Tunnel.{Tunnel}
use Rattle.gnb_types.specs.declared.reasons.DropReason.TheVariants.{Unexpected}
use Rattle.gnb_types.specs.Orders.{ue_cmp}
use Rattle.gnb_types.proofs.OrderLemmas.{ue_total}
use Rattle.tables.specs.Tables.{find}
use Rattle.tables.proofs.TableLaws.{find-put-other}
use Rattle.message_types.specs.declared.xn.CoreMessage.TheVariants as cores
use Rattle.unit_defs.specs.Ways.{Message, core, dropped, Way, Answer, gives, drops}
use Rattle.unit_defs.specs.Transactions.{Kind, request, reply, transfer, kind_of, Transactions, replied}
use Rattle.unit_defs.specs.Messages.{channel}
use Rattle.unit_defs.specs.Core.{CorePath, CoreRecord, end_of, old_ends, new_path, moved, switch_path, asked, came, core_acts}
use Rattle.law_terminals_are_isolated.specs.projections.Projections.{requests_of, ue_in, message_ue, CoreProjection, core_projection}
use Rattle.law_terminals_are_isolated.specs.projections.Steps.{seen, IsFor, PutsFor, StaysFor}
use Rattle.law_terminals_are_isolated.proofs.projections.Answers.{same_then, puts_then}
use Rattle.law_terminals_are_isolated.proofs.projections.Tables.{same_put, apart_numbers, apart_ues}
use Rattle.law_terminals_are_isolated.proofs.projections.EqualStates.{EqualStates, replied_equal, on_request_equal}
use Rattle.law_terminals_are_isolated.proofs.projections.Apart.{Leaves, replied_puts, on_request_puts}

module _ {M C P : Type 0} (way : Way M C P) where
  -- ---- it depends on the projection alone

  abbrev Same : UeId → Answer M P (CoreRecord M C) → Answer M P (CoreRecord M C) → Type 0
  Same ue a b = seen (core_projection ue) a ≡ seen (core_projection ue) b

  drops_same : (ue : UeId) (r q : CoreRecord M C) → core_projection ue r ≡ core_projection ue q → Same ue (drops Unexpected r) (drops Unexpected q)
  drops_same ue r q e = ap (λ (s : CoreProjection M C). gives (dropped Unexpected ∷ []) s) e

  moved_same : (ue : UeId) (peer : Peer) (n3 : List Tunnel) (r q : CoreRecord M C) → core_projection ue r ≡ core_projection ue q
      → Same ue (moved way ue peer n3 r) (moved way ue peer n3 q)
  moved_same ue peer n3 r q e = λ i. gives (old_ends way ue ((e i).path)) (record {
    path = same_put ue_total r.paths q.paths ue ue (new_path way peer n3) (ap (λ (s : CoreProjection M C). s.path) e) i;
    requests = (e i).requests;
  })

  abbrev with_transactions : CoreRecord M C → Transactions M C → CoreRecord M C
  with_transactions r t = record r { transactions = t }

  with_same : (ue : UeId) (r q : CoreRecord M C) (t u : Transactions M C) → core_projection ue r ≡ core_projection ue q → EqualStates way ue.0 t u
      → core_projection ue (with_transactions r t) ≡ core_projection ue (with_transactions q u)
  with_same ue r q t u e a = λ i. record { path = (e i).path; requests = a i }

  switch_same : (from : NodeId) (ue : UeId) (instance : ℕ) (peer : Peer) (n3 : List Tunnel) (r q : CoreRecord M C) → core_projection ue r ≡ core_projection ue q
      → Same ue (switch_path way (channel ue.0 from) ue instance peer n3 r) (switch_path way (channel ue.0 from) ue instance peer n3 q)
  unfolding switch_path
  switch_same from ue instance peer n3 r q e =
      same_then (requests_of ue.0) (core_projection ue) _ _ _ _
      (replied_equal way r.transactions q.transactions (channel ue.0 from) (core (cores.PathSwitchAcknowledge ue instance)) (ap (λ (s : CoreProjection M C). s.requests) e))
      (λ t u a. moved_same ue peer n3 (with_transactions r t) (with_transactions q u) (with_same ue r q t u e a))

  asked_same : (from : NodeId) (m : Message C) (ue : ℕ) (instance : ℕ) → kind_of m ≡ request ue instance → (r q : CoreRecord M C)
      → core_projection (record { 0 = ue }) r ≡ core_projection (record { 0 = ue }) q
      → Same (record { 0 = ue }) (asked way (channel ue from) m r) (asked way (channel ue from) m q)
  unfolding kind_of
  asked_same from (core (cores.PathSwitchRequest v i peer n3)) ue instance k r q e =
      subst (λ (n : ℕ). (r q : CoreRecord M C) → core_projection (record { 0 = n }) r ≡ core_projection (record { 0 = n }) q
      → Same (record { 0 = n }) (switch_path way (channel n from) v i peer n3 r) (switch_path way (channel n from) v i peer n3 q))
      (ap (λ (x : Kind). (ue_in x).0) k) (switch_same from v i peer n3) r q e
  asked_same from m ue instance k r q e = drops_same (record { 0 = ue }) r q e

  came_same : (from : NodeId) (m : Message C) (k : Kind) → kind_of m ≡ k → (r q : CoreRecord M C) → core_projection (ue_in k) r ≡ core_projection (ue_in k) q
      → Same (ue_in k) (came way from m r k) (came way from m q k)
  came_same from m (request ue instance) k r q e =
      on_request_equal way (core_projection (record { 0 = ue })) r q r.transactions q.transactions (channel ue from) instance e
      (ap (λ (s : CoreProjection M C). s.requests) e) _ _
      (λ t u a. asked_same from m ue instance k (with_transactions r t) (with_transactions q u) (with_same (record { 0 = ue }) r q t u e a))
  came_same from m (reply ue instance) k r q e = drops_same (record { 0 = ue }) r q e
  came_same from m (transfer ue) k r q e = drops_same (record { 0 = ue }) r q e

  pub acts_same : (from : NodeId) (m : Message C) (r q : CoreRecord M C) → core_projection (message_ue from m) r ≡ core_projection (message_ue from m) q
      → Same (message_ue from m) (core_acts way r from m) (core_acts way q from m)
  unfolding core_acts
  acts_same (CuCp gnb) m r q e = came_same (CuCp gnb) m (kind_of m) refl r q e
  acts_same (CuUp gnb number) m r q e = drops_same _ r q e
  acts_same (Du gnb number) m r q e = drops_same _ r q e
  acts_same Core m r q e = drops_same _ r q e
  acts_same (Ue ue) m r q e = drops_same _ r q e

  -- ---- it leaves the others

  abbrev Steps : UeId → CoreRecord M C → Answer M P (CoreRecord M C) → Type 0
  Steps ue r a = PutsFor ue.0 (StaysFor core_projection ue r) a

  drops_steps : (ue : UeId) (r q : CoreRecord M C) → StaysFor core_projection ue r q → Steps ue r (drops Unexpected q)
  drops_steps ue r q stays = ((tt, tt), stays)

  ends_for : (ue : UeId) (up : NodeId) (n3 : List Tunnel) → AllByRecursion (IsFor ue.0) (map (end_of way ue up) n3)
  ends_for ue up [] = tt
  ends_for ue up (t ∷ ts) = (refl, ends_for ue up ts)

  old_for : (ue : UeId) (o : Option CorePath) → AllByRecursion (IsFor ue.0) (old_ends way ue o)
  old_for ue None = tt
  old_for ue (Some path) = ends_for ue path.up path.n3

  with_stays : (ue : UeId) (r q : CoreRecord M C) (t : Transactions M C) → StaysFor core_projection ue r q → Leaves way ue.0 q.transactions t
      → StaysFor core_projection ue r (with_transactions q t)
  with_stays ue r q t stays leaves other apart = λ i. record {
    path = (stays other apart i).path;
    requests = (leaves other.0 (apart_numbers other ue apart) ∙ ap (λ (s : CoreProjection M C). s.requests) (stays other apart)) i;
  }

  moved_steps : (ue : UeId) (peer : Peer) (n3 : List Tunnel) (r q : CoreRecord M C) → StaysFor core_projection ue r q → Steps ue r (moved way ue peer n3 q)
  moved_steps ue peer n3 r q stays = (
    old_for ue (find ue_cmp q.paths ue),
    λ other apart i. record {
      path = (find-put-other ue_total q.paths ue (new_path way peer n3) other (apart_ues other ue apart)
          ∙ ap (λ (s : CoreProjection M C). s.path) (stays other apart)) i;
      requests = (stays other apart i).requests;
    },
  )

  switch_steps : (from : NodeId) (ue : UeId) (instance : ℕ) (peer : Peer) (n3 : List Tunnel) (r q : CoreRecord M C) → StaysFor core_projection ue r q
      → Steps ue r (switch_path way (channel ue.0 from) ue instance peer n3 q)
  unfolding switch_path
  switch_steps from ue instance peer n3 r q stays =
      puts_then ue.0 (Leaves way ue.0 q.transactions) _ (replied way q.transactions (channel ue.0 from) (core (cores.PathSwitchAcknowledge ue instance)))
      (λ t. moved way ue peer n3 (with_transactions q t))
      (replied_puts way q.transactions (channel ue.0 from) (core (cores.PathSwitchAcknowledge ue instance)))
      (λ t leaves. moved_steps ue peer n3 r (with_transactions q t) (with_stays ue r q t stays leaves))

  asked_steps : (from : NodeId) (m : Message C) (ue : ℕ) (instance : ℕ) → kind_of m ≡ request ue instance → (r q : CoreRecord M C)
      → StaysFor core_projection (record { 0 = ue }) r q → Steps (record { 0 = ue }) r (asked way (channel ue from) m q)
  unfolding kind_of
  asked_steps from (core (cores.PathSwitchRequest v i peer n3)) ue instance k r q stays =
      subst (λ (n : ℕ). (r q : CoreRecord M C) → StaysFor core_projection (record { 0 = n }) r q
      → Steps (record { 0 = n }) r (switch_path way (channel n from) v i peer n3 q))
      (ap (λ (x : Kind). (ue_in x).0) k) (switch_steps from v i peer n3) r q stays
  asked_steps from m ue instance k r q stays = drops_steps (record { 0 = ue }) r q stays

  itself : (ue : UeId) (r : CoreRecord M C) → StaysFor core_projection ue r r
  itself ue r other apart = refl

  came_steps : (from : NodeId) (m : Message C) (k : Kind) → kind_of m ≡ k → (r : CoreRecord M C) → Steps (ue_in k) r (came way from m r k)
  came_steps from m (request ue instance) k r =
      on_request_puts way (StaysFor core_projection (record { 0 = ue }) r) r r.transactions (channel ue from) instance (itself (record { 0 = ue }) r) _
      (λ t leaves. asked_steps from m ue instance k r (with_transactions r t) (with_stays (record { 0 = ue }) r r t (itself (record { 0 = ue }) r) leaves))
  came_steps from m (reply ue instance) k r = drops_steps (record { 0 = ue }) r r (itself (record { 0 = ue }) r)
  came_steps from m (transfer ue) k r = drops_steps (record { 0 = ue }) r r (itself (record { 0 = ue }) r)

  pub acts_steps : (from : NodeId) (m : Message C) (r : CoreRecord M C) → Steps (message_ue from m) r (core_acts way r from m)
  unfolding core_acts
  acts_steps (CuCp gnb) m r = came_steps (CuCp gnb) m (kind_of m) refl r
  acts_steps (CuUp gnb number) m r = drops_steps _ r r (itself _ r)
  acts_steps (Du gnb number) m r = drops_steps _ r r (itself _ r)
  acts_steps Core m r = drops_steps _ r r (itself _ r)
  acts_steps (Ue ue) m r = drops_steps _ r r (itself _ r)

-- Steps of the rows of a terminal, over plain values.
use Rattle.std.proofs.Common.{◌≡◌, ◌==◌, ℕ, suc, ◌+◌, ◌^◌, ◌<◌, ◌≤◌, Bool, true, false, cond, not, nat_lt, nat_le, List, [], ◌∷◌, ◌++◌, length, take, drop, get_or, Option, Some, None, Ok, Err, refl, sym, ap, ◌∙◌, subst, append-nil, append_assoc, drop-cons, arith}
use Rattle.std.proofs.Math.ListN.{set}
use Rattle.std.proofs.lemmas.List.{take_more_set, drop-set-lt, take_all, drop_all, length-take-le}
use Rattle.std.specs.Prelude.{Result}
use Rattle.std.specs.Result.{IsErrAnd}
use Rattle.std.proofs.lemmas.Result.{err_from_is_err_and}
use Rattle.std.proofs.lemmas.Bool.Decides.{nat_tests}
use Rattle.gnb_types.specs.declared.names.BearerId.{BearerId}
use Rattle.gnb_types.specs.declared.names.Gnb.{Gnb}
use Rattle.gnb_types.specs.declared.names.NodeId.TheVariants.{Du}
use Rattle.gnb_types.specs.declared.names.UeId.{UeId}
use Rattle.gnb_types.specs.declared.outputs.Output.{Output}
use Rattle.gnb_types.specs.declared.outputs.Tag.TheVariants.{Absent}
use Rattle.gnb_types.specs.declared.reasons.DropReason.TheVariants.{Stale, Unexpected}
use Rattle.gnb_types.specs.declared.reasons.RefuseReason.TheVariants.{NotAccessing, Size, Quota}
use Rattle.message_types.specs.declared.rrc.Token.{Token}
use Rattle.message_types.specs.declared.rrc.Token.TheVariants as tokens
use Rattle.unit_defs.specs.declared.UeState.{UeState}
use Rattle.unit_defs.specs.declared.UeState.TheVariants as states
use Rattle.unit_defs.specs.declared.TokenKind.TheVariants as says
use Rattle.gnb_types.specs.Orders.{bearer_cmp}
use Rattle.tables.specs.Tables.{find}
use Rattle.pdcp.specs.Near.{last_count}
use Rattle.pdcp_defs.specs.Senders.{has_room, numbered as numbered_sender, confirmed_by}
use Rattle.unit_defs.specs.Ways.{Content, packet_content, report_content, gives, spent, with_outputs, ◌then◌, nothing, puts, no, drops, counts_spent, epochs_spent, report_pdu}
use Rattle.unit_defs.specs.Ue.{UeBearer, UeNode, is_connected, on_air, data_output, unconfirmed_outputs, number_each, number_waiting, connect_bearer, with_bearer, of_bearer, at_bearer, took, confirmed, confirmed_if, used_uplink, largest_packet, offered, offer, connect_each, connect, with_bearers, accept, accepted_in, obey, told, arrive, arrived, said, says_it, is_accessing, last_epoch}
use Rattle.unit_defs.specs.octet_defs.Codec.{Codec, octet_way}
use Rattle.unit_defs.specs.octet_defs.Units.{OctetAnswer}
use Rattle.unit_messages.specs.declared.steps.StepError.{StepError}
use Rattle.unit_messages.specs.declared.steps.StepError.TheVariants as errors
use Rattle.unit_messages.specs.steps.Steps.{Step, stepped, stopped, step_after, IsStep}
use Rattle.unit_defs.specs.octet_defs.Writing.{outputs_of}
use Rattle.unit_messages.proofs.steps.StepLaws.{OctetPut, step_with, step_then, step_stops}
use Rattle.pdcp_bearers.specs.ue_packets.Bearers.{kept, offered_at, terminal_of}
use Rattle.pdcp_bearers.specs.declared.ue_packets.terminal.Terminal.{Terminal}
use Rattle.pdcp_bearers.specs.declared.ue_packets.bearer.Bearer.{Bearer}
use Rattle.ue_node.specs.rows.Records.{numbered, IsTerminalOf}
use Rattle.ue_node.proofs.rows.BearerLemmas.{numbered_push}
use Rattle.pdcp_defs.specs.Receivers.{received_bits}

-- ---- what the rows at a bearer read of a terminal

abbrev pub bare : UeNode → UeNode
bare u = record { plan = u.plan; state = u.state; epoch = u.epoch; home = None; goal = None; token = None; bearers = [] }

module _ (codec : Codec) (u : UeNode) (bearer : BearerId) where
  number_each_same : (ps : List (List ℕ)) (b : UeBearer) → number_each (octet_way codec) u bearer ps b ≡ number_each (octet_way codec) (bare u) bearer ps b
  unfolding number_each
  number_each_same [] b = refl
  number_each_same (p ∷ ps) b =
      let d : UeBearer = record b { sender = numbered_sender b.sender p; waiting = ps } in
      λ i. cond (not (has_room u.plan.sn u.plan.quota b.sender)) (nothing b)
      ((cond (nat_lt last_count b.sender.next) (spent counts_spent) (puts (data_output (octet_way codec) u bearer b.sender.next p) d))
      then (λ c. number_each_same ps c i))

  pub number_waiting_same : (b : UeBearer) → number_waiting (octet_way codec) u bearer b ≡ number_waiting (octet_way codec) (bare u) bearer b
  unfolding number_waiting
  number_waiting_same b = ap (λ (a : OctetAnswer UeBearer). cond (is_connected u.state) a (nothing b)) (number_each_same b.waiting b)

  pub connect_same : (b : UeBearer) → connect_bearer (octet_way codec) u bearer b ≡ connect_bearer (octet_way codec) (bare u) bearer b
  unfolding connect_bearer
  connect_same b =
      ap
      (λ (a : OctetAnswer UeBearer). with_outputs
      (on_air (octet_way codec) u bearer Absent ((octet_way codec).write u.plan.sn (report_pdu b.receiver.deliv (received_bits b.receiver))) ∷ unconfirmed_outputs (octet_way codec) u bearer b) a)
      (number_waiting_same b)

  pub took_same : (content : Content) (b : UeBearer) → took (octet_way codec) u bearer content b ≡ took (octet_way codec) (bare u) bearer content b
  took_same (packet_content None packet) b = refl
  took_same (packet_content (Some count) packet) b = refl
  took_same (report_content fmc bits) b = number_waiting_same (record b { sender = confirmed_by b.sender fmc bits })

  pub confirmed_same : (content : Content) (b : UeBearer) → confirmed (octet_way codec) u bearer content b ≡ confirmed (octet_way codec) (bare u) bearer content b
  confirmed_same (packet_content count packet) b = number_waiting_same (confirmed_if (octet_way codec) count b)
  confirmed_same (report_content fmc bits) b = refl

-- ---- a step at a bearer is a step of the terminal

module _ {X : Type 0} (codec : Codec) (before after : List Output) (u v : UeNode) (bearer : BearerId) where
  pub kept_step : (a : OctetAnswer UeBearer) (c : UeBearer) (result : Result X StepError) → with_bearer (octet_way codec) u bearer c ≡ v
      → IsStep (step_after before a) after c result
      → IsStep (step_after before (a then (λ d. nothing (with_bearer (octet_way codec) u bearer d)))) after v result
  kept_step a c (Ok x) is step =
      step_then before after a (λ d. nothing (with_bearer (octet_way codec) u bearer d)) c step
      ∙ ap (λ (os : List Output). stepped os (with_bearer (octet_way codec) u bearer c)) (append-nil after)
      ∙ ap (λ (w : UeNode). stepped after w) is
  kept_step a c (Err (errors.Spent counter)) is step =
      step_stops before after a (λ d. nothing (with_bearer (octet_way codec) u bearer d)) counter step
  kept_step a c (Err errors.Memory) is step = tt

  pub row_step : (row : UeBearer → OctetAnswer UeBearer) (a : OctetAnswer UeBearer) (b c : UeBearer) (result : Result X StepError)
      → find bearer_cmp u.bearers bearer ≡ Some b → row b ≡ a → with_bearer (octet_way codec) u bearer c ≡ v
      → IsStep (step_after before a) after c result
      → IsStep (step_after before (at_bearer (octet_way codec) u bearer row)) after v result
  row_step row a b c result found row_is is step =
      subst (λ (s : OctetAnswer UeNode). IsStep (step_after before s) after v result)
      (sym
      (ap (λ (o : Option UeBearer). of_bearer (octet_way codec) u bearer row o) found
      ∙ ap (λ (x : OctetAnswer UeBearer). x then (λ d. nothing (with_bearer (octet_way codec) u bearer d))) row_is))
      (kept_step a c result is step)

-- ---- an offered packet

module _ (codec : Codec) (u : UeNode) (bearer : BearerId) where
  -- the rows at the bearer and at the terminal are the same but for what is kept
  offer_same : (packet : List ℕ) (b : UeBearer) → with_bearer (octet_way codec) u bearer b ≡ u
      → offered (octet_way codec) u bearer packet (Some b)
      ≡ (offered_at (octet_way codec) (bare u) bearer packet b then (λ d. nothing (with_bearer (octet_way codec) u bearer d)))
  offer_same packet b back =
      by (nat_lt largest_packet (length packet)) (nat_le u.plan.quota (used_uplink (octet_way codec) b))
    where
      keeps : UeBearer → OctetAnswer UeNode
      keeps d = nothing (with_bearer (octet_way codec) u bearer d)

      more : UeBearer
      more = record b { waiting = b.waiting ++ packet ∷ [] }

      by : (long full : Bool)
          → cond long (puts (no Size) u) (cond full (puts (no Quota) u) (number_waiting (octet_way codec) u bearer more then keeps))
          ≡ (cond long (puts (no Size) b) (cond full (puts (no Quota) b) (number_waiting (octet_way codec) (bare u) bearer more)) then keeps)
      by true full = ap (λ (w : UeNode). puts (no Size) w) (sym back)
      by false true = ap (λ (w : UeNode). puts (no Quota) w) (sym back)
      by false false = ap (λ (a : OctetAnswer UeBearer). a then keeps) (number_waiting_same codec u bearer more)

module _ {X : Type 0} (codec : Codec) (before after : List Output) (u v : UeNode) (bearer : BearerId) where
  pub offer_step : (packet : List ℕ) (b c : UeBearer) (result : Result X StepError)
      → find bearer_cmp u.bearers bearer ≡ Some b → with_bearer (octet_way codec) u bearer b ≡ u → with_bearer (octet_way codec) u bearer c ≡ v
      → IsStep (step_after before (offered_at (octet_way codec) (bare u) bearer packet b)) after c result
      → IsStep (step_after before (offer (octet_way codec) bearer packet u)) after v result
  unfolding offer
  offer_step packet b c result found back is step =
      subst (λ (s : OctetAnswer UeNode). IsStep (step_after before s) after v result)
      (sym (ap (λ (o : Option UeBearer). offered (octet_way codec) u bearer packet o) found ∙ offer_same codec u bearer packet b back))
      (kept_step codec before after u v bearer (offered_at (octet_way codec) (bare u) bearer packet b) c result is step)

-- ---- a new connection of each bearer

abbrev pub map_step : {R S : Type 0} → (R → S) → Step R → Step S
map_step f (stepped outputs after) = stepped outputs (f after)
map_step f (stopped counter) = stopped counter

map_step_twice : {R S T : Type 0} (g : S → T) (f : R → S) (s : Step R) → map_step g (map_step f s) ≡ map_step (λ r. g (f r)) s
map_step_twice g f (stepped outputs after) = refl
map_step_twice g f (stopped counter) = refl

map_step_as : {R S : Type 0} (f g : R → S) → ((r : R) → f r ≡ g r) → (s : Step R) → map_step f s ≡ map_step g s
map_step_as {S = S} f g same (stepped outputs after) = ap (λ (r : S). stepped outputs r) (same after)
map_step_as f g same (stopped counter) = refl

then_kept : {R S : Type 0} (f : R → S) (before : List Output) (a : OctetAnswer R)
    → step_after before (a then (λ r. nothing (f r))) ≡ map_step f (step_after before a)
then_kept f before (gives outputs after) = ap (λ (os : List OctetPut). stepped (before ++ outputs_of os) (f after)) (append-nil outputs)
then_kept f before (spent counter) = refl

abbrev pub Bearers : Type 0
Bearers = List (BearerId × UeBearer)

module _ (codec : Codec) (u : UeNode) where
  -- what is left of a connection at an index: those before it are as they are now
  abbrev pub connecting : List Output → ℕ → List Bearer → Step Bearers
  connecting before i bs =
      map_step (λ es. numbered 1 (take i bs) ++ es) (step_after before (connect_each (octet_way codec) u (numbered (i + 1) (drop i bs))))

  pub connecting_starts : (before : List Output) (bs : List Bearer)
      → connecting before 0 bs ≡ step_after before (connect_each (octet_way codec) u (numbered 1 bs))
  connecting_starts before bs = all (step_after before (connect_each (octet_way codec) u (numbered 1 bs)))
    where
      all : (s : Step Bearers) → map_step (λ es. es) s ≡ s
      all (stepped outputs after) = refl
      all (stopped counter) = refl

  pub connecting_ends : (before : List Output) (i : ℕ) (bs : List Bearer) → length bs ≤ i → connecting before i bs ≡ stepped before (numbered 1 bs)
  connecting_ends before i bs h =
      ap (λ (ds : List Bearer). map_step (λ es. numbered 1 (take i bs) ++ es) (step_after before (connect_each (octet_way codec) u (numbered (i + 1) ds)))) (drop_all i bs h)
      ∙ ap (λ (ts : List Bearer). stepped (before ++ []) (numbered 1 ts ++ [])) (take_all i bs h)
      ∙ (λ k. stepped (append-nil before k) (append-nil (numbered 1 bs) k))

  module _ (before after : List Output) (i : ℕ) (bs : List Bearer) (d c : Bearer) (within : i < length bs) where
    abbrev here : BearerId
    here = record { 0 = i + 1 }

    abbrev first_one : UeBearer
    first_one = kept (get_or bs i d)

    opened_up : connecting before i bs
        ≡ map_step (λ es. numbered 1 (take i bs) ++ es) (step_after before (connect_each (octet_way codec) u ((here, first_one) ∷ numbered (i + 1 + 1) (drop (i + 1) bs))))
    opened_up =
        let next : suc i ≡ i + 1 = omega arith in
        ap (λ (ds : List Bearer). map_step (λ es. numbered 1 (take i bs) ++ es) (step_after before (connect_each (octet_way codec) u (numbered (i + 1) ds))))
        (drop-cons bs i d within ∙ ap (λ (k : ℕ). get_or bs i d ∷ drop k bs) next)

    pub connecting_stops : (counter : ℕ) → step_after before (connect_bearer (octet_way codec) u here first_one) ≡ stopped counter
        → connecting before i bs ≡ stopped counter
    connecting_stops counter step =
        opened_up
        ∙ ap (λ (s : Step Bearers). map_step (λ es. numbered 1 (take i bs) ++ es) s)
        (step_stops before after (connect_bearer (octet_way codec) u here first_one)
        (λ e. connect_each (octet_way codec) u (numbered (i + 1 + 1) (drop (i + 1) bs)) then (λ es. nothing ((here, e) ∷ es))) counter step)

    joined : (es : Bearers) → numbered 1 (take i bs) ++ (here, kept c) ∷ es ≡ numbered 1 (take (i + 1) (set bs i c)) ++ es
    joined es =
        sym (append_assoc (numbered 1 (take i bs)) ((here, kept c) ∷ []) es)
        ∙ ap (λ (xs : Bearers). xs ++ es)
        (sym (numbered_push (take i bs) c 1 i (length-take-le i bs (omega arith)))
        ∙ ap (λ (ts : List Bearer). numbered 1 ts) (sym (take_more_set bs i c within)))

    pub connecting_goes : step_after before (connect_bearer (octet_way codec) u here first_one) ≡ stepped after (kept c)
        → connecting after (i + 1) (set bs i c) ≡ connecting before i bs
    connecting_goes step =
        let es : Bearers = numbered (i + 1 + 1) (drop (i + 1) bs) in
        let s : Step Bearers = step_after after (connect_each (octet_way codec) u es) in
        sym
        (opened_up
        ∙ ap (λ (t : Step Bearers). map_step (λ xs. numbered 1 (take i bs) ++ xs) t)
        (step_then before after (connect_bearer (octet_way codec) u here first_one)
        (λ e. connect_each (octet_way codec) u es then (λ xs. nothing ((here, e) ∷ xs))) (kept c) step
        ∙ then_kept (λ xs. (here, kept c) ∷ xs) after (connect_each (octet_way codec) u es))
        ∙ map_step_twice (λ xs. numbered 1 (take i bs) ++ xs) (λ xs. (here, kept c) ∷ xs) s
        ∙ map_step_as (λ xs. numbered 1 (take i bs) ++ (here, kept c) ∷ xs) (λ xs. numbered 1 (take (i + 1) (set bs i c)) ++ xs) joined s
        ∙ ap (λ (ds : List Bearer). map_step (λ xs. numbered 1 (take (i + 1) (set bs i c)) ++ xs) (step_after after (connect_each (octet_way codec) u (numbered (i + 1 + 1) ds))))
        (sym (drop-set-lt (i + 1) bs i c (omega arith))))

-- a terminal that the code reads
terminal_is : (u : UeNode) (t : Terminal) → IsTerminalOf u t → bare u ≡ terminal_of t
terminal_is u t e =
    λ i. record { plan = e.plan i; state = e.state i; epoch = e.epoch i; home = None; goal = None; token = None; bearers = [] }

module _ (codec : Codec) (u : UeNode) (t : Terminal) (is : IsTerminalOf u t) (before after : List Output) (i j : ℕ) (bs : List Bearer) (d c : Bearer)
    (within : i < length bs) (same : j ≡ i) where
  abbrev here_at : BearerId
  here_at = record { 0 = i + 1 }

  connects_as : (b : UeBearer) → connect_bearer (octet_way codec) u here_at b ≡ connect_bearer (octet_way codec) (terminal_of t) here_at b
  connects_as b =
      connect_same codec u here_at b ∙ ap (λ (w : UeNode). connect_bearer (octet_way codec) w here_at b) (terminal_is u t is)

  -- a turn of the loop
  pub connects_one : step_after before (connect_bearer (octet_way codec) (terminal_of t) here_at (kept (get_or bs j d))) ≡ stepped after (kept c)
      → connecting codec u after (i + 1) (set bs j c) ≡ connecting codec u before i bs
  connects_one step =
      ap (λ (k : ℕ). connecting codec u after (i + 1) (set bs k c)) same
      ∙ connecting_goes codec u before after i bs d c within
      (ap (λ (a : OctetAnswer UeBearer). step_after before a) (connects_as (kept (get_or bs i d)))
      ∙ ap (λ (k : ℕ). step_after before (connect_bearer (octet_way codec) (terminal_of t) here_at (kept (get_or bs k d)))) (sym same)
      ∙ step)

  -- and one that fails
  pub connects_fail : (s : Step Bearers) (e : StepError) (v : Bearers) → connecting codec u before i bs ≡ s
      → IsStep {X = Unit {0}} (step_after before (connect_bearer (octet_way codec) (terminal_of t) here_at (kept (get_or bs j d)))) after (kept c) (Err e)
      → IsStep {X = Unit {0}} s after v (Err e)
  connects_fail s (errors.Spent counter) v all step =
      sym all
      ∙ connecting_stops codec u before after i bs d c within counter
      (ap (λ (a : OctetAnswer UeBearer). step_after before a) (connects_as (kept (get_or bs i d)))
      ∙ ap (λ (k : ℕ). step_after before (connect_bearer (octet_way codec) (terminal_of t) here_at (kept (get_or bs k d)))) (sym same)
      ∙ step)
  connects_fail s errors.Memory v all step = tt

-- an error that is handed on
pub error_as : {R : Type 0} (s : Step R) (after : List Output) (v : R) (e : StepError) (result : Result (Unit {0}) StepError)
    → IsErrAnd result (λ y. y ≡ e) → IsStep {X = Unit {0}} s after v (Err e) → IsStep s after v result
error_as s after v e result err step =
    let p = err_from_is_err_and result err in
    subst (λ (r : Result (Unit {0}) StepError). IsStep s after v r) (sym p.1)
    (subst (λ (y : StepError). IsStep {X = Unit {0}} s after v (Err y)) (sym p.2) step)

-- ---- rows that connect

pub kept_all : (before after : List Output) (u v : UeNode) (codec : Codec) (a : OctetAnswer Bearers) (bs : Bearers) (result : Result (Unit {0}) StepError)
    → with_bearers (octet_way codec) u bs ≡ v → IsStep (step_after before a) after bs result
    → IsStep (step_after before (a then (λ xs. nothing (with_bearers (octet_way codec) u xs)))) after v result
kept_all before after u v codec a bs (Ok x) is step =
    step_then before after a (λ xs. nothing (with_bearers (octet_way codec) u xs)) bs step
    ∙ ap (λ (os : List Output). stepped os (with_bearers (octet_way codec) u bs)) (append-nil after)
    ∙ ap (λ (w : UeNode). stepped after w) is
kept_all before after u v codec a bs (Err (errors.Spent counter)) is step =
    step_stops before after a (λ xs. nothing (with_bearers (octet_way codec) u xs)) counter step
kept_all before after u v codec a bs (Err errors.Memory) is step = tt

-- an answer that is another one
pub step_as : (before after : List Output) (v : UeNode) (result : Result (Unit {0}) StepError) (a b : OctetAnswer UeNode) → a ≡ b
    → IsStep (step_after before b) after v result → IsStep (step_after before a) after v result
step_as before after v result a b same step =
    subst (λ (x : OctetAnswer UeNode). IsStep (step_after before x) after v result) (sym same) step

pub accepts : (codec : Codec) (epoch : ℕ) (u : UeNode) → epoch ≡ u.epoch → u.state ≡ states.Returning
    → accept (octet_way codec) epoch u ≡ connect (octet_way codec) (record u { token = None; state = states.Connected })
unfolding accept
accepts codec epoch u epoch_is state_is =
    let same : (epoch == u.epoch) ≡ true = grind (arith, nat_tests) in
    ap (λ (t : Bool). cond t (accepted_in (octet_way codec) u u.state) (drops Stale u)) same
    ∙ ap (λ (s : UeState). accepted_in (octet_way codec) u s) state_is

pub tells_command : (codec : Codec) (u : UeNode) (token : Token) (ue : UeId) (epoch : ℕ) (gnb : Gnb) (du : ℕ) → token ≡ tokens.Command ue epoch gnb du
    → ue.0 ≡ u.plan.ue.0 → told (octet_way codec) token u ≡ obey (octet_way codec) epoch (Du gnb du) u
tells_command codec u token ue epoch gnb du is own =
    let same : (ue.0 == u.plan.ue.0) ≡ true = grind (arith, nat_tests) in
    ap (λ (t : Token). told (octet_way codec) t u) is
    ∙ ap (λ (t : Bool). cond t (obey (octet_way codec) epoch (Du gnb du) u) (drops Unexpected u)) same

pub tells_accepted : (codec : Codec) (u : UeNode) (token : Token) (ue : UeId) (epoch : ℕ) → token ≡ tokens.Accepted ue epoch
    → ue.0 ≡ u.plan.ue.0 → told (octet_way codec) token u ≡ accept (octet_way codec) epoch u
tells_accepted codec u token ue epoch is own =
    let same : (ue.0 == u.plan.ue.0) ≡ true = grind (arith, nat_tests) in
    ap (λ (t : Token). told (octet_way codec) t u) is
    ∙ ap (λ (t : Bool). cond t (accept (octet_way codec) epoch u) (drops Unexpected u)) same

pub arrives : (codec : Codec) (before mid : List Output) (u : UeNode) → u.state ≡ states.Accessing → u.epoch + 1 < 2 ^ 32
    → mid ≡ before ++ outputs_of (said (octet_way codec) (arrived (octet_way codec) u) (Some says.Complete) u.goal)
    → step_after before (arrive (octet_way codec) u) ≡ step_after mid (connect (octet_way codec) (arrived (octet_way codec) u))
unfolding arrive
arrives codec before mid u state_is epoch_fits mid_is =
    let left : nat_le last_epoch u.epoch ≡ false = grind (arith, nat_tests) in
    let now : UeNode = arrived (octet_way codec) u in
    ap
    (λ (s : UeState). step_after before (cond (not (is_accessing s)) (puts (no NotAccessing) u)
    ((cond (nat_le last_epoch u.epoch) (spent epochs_spent) (says_it (octet_way codec) now)) then connect (octet_way codec))))
    state_is
    ∙ ap (λ (t : Bool). step_after before ((cond t (spent epochs_spent) (says_it (octet_way codec) now)) then connect (octet_way codec))) left
    ∙ step_with before (said (octet_way codec) now (Some says.Complete) u.goal) (connect (octet_way codec) now)
    ∙ ap (λ (os : List Output). step_after os (connect (octet_way codec) now)) (sym mid_is)

-- the same, where the next epoch was reckoned
pub arrives_at : (codec : Codec) (before mid : List Output) (u : UeNode) (epoch : ℕ) → u.state ≡ states.Accessing → epoch ≡ u.epoch + 1 → u.epoch + 1 < 2 ^ 32
    → mid ≡ before ++ outputs_of (said (octet_way codec) (record (arrived (octet_way codec) u) { epoch = epoch }) (Some says.Complete) u.goal)
    → step_after before (arrive (octet_way codec) u) ≡ step_after mid (connect (octet_way codec) (record (arrived (octet_way codec) u) { epoch = epoch }))
arrives_at codec before mid u epoch state_is next fits mid_is =
    let now : ℕ → UeNode = λ n. record (arrived (octet_way codec) u) { epoch = n } in
    arrives codec before mid u state_is fits
    (mid_is ∙ ap (λ (n : ℕ). before ++ outputs_of (said (octet_way codec) (now n) (Some says.Complete) u.goal)) next)
    ∙ ap (λ (n : ℕ). step_after mid (connect (octet_way codec) (now n))) (sym next)

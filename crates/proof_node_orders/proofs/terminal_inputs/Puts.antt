-- What a list of outputs puts on one bearer's radio, and delivers: packets that are sent, those of a new connection of all bearers, and
-- those that are delivered.
use Rattle.std.proofs.Common.{◌≡◌, ℕ, Bool, true, false, cond, if◌then◌else◌, List, [], ◌∷◌, ◌++◌, Some, refl, sym, ap, subst, ◌∙◌}
use Rattle.std.specs.Prelude.{flat_map}
use Rattle.std.specs.Ordering.{is_eq, eq_by_cmp}
use Rattle.std.specs.declared.cmp.Ordering.TheVariants.{Less}
use Rattle.std.specs.Cmp.{Equal-is}
use Rattle.std.specs.List.{AllByRecursion}
use Rattle.std.specs.Map.{keys_of}
use Rattle.std.proofs.lemmas.List.{append-nil}
use Rattle.std.proofs.lemmas.Map.Keys.{sorted_head, sorted_tail}
use Rattle.gnb_types.specs.declared.names.SnBits.{SnBits}
use Rattle.gnb_types.specs.declared.names.BearerId.{BearerId}
use Rattle.gnb_types.specs.Orders.{bearer_cmp}
use Rattle.gnb_types.proofs.OrderLemmas.{bearer_exact}
use Rattle.tables.specs.Tables.{find, map_values, IsSorted}
use Rattle.pdcp_defs.specs.Senders.{Sender, has_room, numbered as with_next}
use Rattle.pdcp_defs.specs.Receivers.{received_bits}
use Rattle.unit_defs.specs.Ways.{Pdu, packet_pdu, report_pdu, Output, Way}
use Rattle.unit_defs.specs.Ue.{UeBearer, UeNode}
use Rattle.bearer_defs.specs.uplink_defs.Orders.{numbers}
use Rattle.proof_node_orders.specs.terminal_rows.Shown.{number_orders, orders_of, orders_if, packets_of, connection, delivered_to}
use Rattle.proof_node_orders.proofs.terminal_rows.Numbering.{sends}
use Rattle.proof_node_orders.specs.terminal_inputs.Inputs.{packet_in, packets_put, packets_delivered, left_on}

-- ---- what stands on the radio stays there while packets are numbered

numbering_leaves : (sn : SnBits) (quota : ℕ) (ps : List (List ℕ)) (s : Sender (List ℕ)) (air : List (ℕ × List ℕ))
    → left_on air (number_orders sn quota ps s) ≡ air
unfolding left_on number_orders
numbering_leaves sn quota [] s air = refl
numbering_leaves sn quota (p ∷ ps) s air = by (has_room sn quota s) (numbering_leaves sn quota ps (with_next s p) air)
  where
    by : (t : Bool) → left_on air (number_orders sn quota ps (with_next s p)) ≡ air
        → left_on air (if t then numbers p ps ∷ number_orders sn quota ps (with_next s p) else []) ≡ air
    by true h = h
    by false h = refl

pub orders_leave : (u : UeNode) (b : UeBearer) (air : List (ℕ × List ℕ)) → left_on air (orders_of u b) ≡ air
orders_leave u b air = numbering_leaves u.plan.sn u.plan.quota b.waiting b.sender air

pub orders_if_leave : (t : Bool) (u : UeNode) (b : UeBearer) (air : List (ℕ × List ℕ)) → left_on air (orders_if t u b) ≡ air
unfolding left_on
orders_if_leave true u b air = orders_leave u b air
orders_if_leave false u b air = refl

module _ {M C : Type 0} (way : Way M C Pdu) (plain : (sn : SnBits) (pdu : Pdu) → way.write sn pdu ≡ pdu) (u : UeNode) (bearer : BearerId) where
  -- ---- packets that are sent by a bearer

  pub sent_is : (q : BearerId) (t : Bool) → eq_by_cmp bearer_cmp bearer q ≡ t → (ps : List (ℕ × List ℕ)) (more : List (Output M Pdu))
      → packets_put bearer (sends way u q ps ++ more) ≡ (if t then ps else []) ++ packets_put bearer more
  unfolding packets_put
  sent_is q true is [] more = refl
  sent_is q false is [] more = refl
  sent_is q true is (e ∷ es) more =
      ap (λ b. (if b then packet_in (way.write u.plan.sn (packet_pdu e.0 e.1)) else []) ++ packets_put bearer (sends way u q es ++ more)) is
      ∙ ap (λ pdu. packet_in pdu ++ packets_put bearer (sends way u q es ++ more)) (plain u.plan.sn (packet_pdu e.0 e.1))
      ∙ ap (λ xs. e ∷ xs) (sent_is q true is es more)
  sent_is q false is (e ∷ es) more =
      ap (λ b. (if b then packet_in (way.write u.plan.sn (packet_pdu e.0 e.1)) else []) ++ packets_put bearer (sends way u q es ++ more)) is
      ∙ sent_is q false is es more

  pub sent_alone : (q : BearerId) (t : Bool) → eq_by_cmp bearer_cmp bearer q ≡ t → (ps : List (ℕ × List ℕ))
      → packets_put bearer (sends way u q ps) ≡ (if t then ps else [])
  unfolding packets_put
  sent_alone q t is ps =
      ap (λ xs. packets_put bearer xs) (sym (append-nil (sends way u q ps))) ∙ sent_is q t is ps [] ∙ append-nil (if t then ps else [])

  pub sent_delivers : (q : BearerId) (ps : List (ℕ × List ℕ)) (more : List (Output M Pdu))
      → packets_delivered bearer (sends way u q ps ++ more) ≡ packets_delivered bearer more
  unfolding packets_delivered
  sent_delivers q [] more = refl
  sent_delivers q (e ∷ es) more = sent_delivers q es more

  pub sent_alone_delivers : (q : BearerId) (ps : List (ℕ × List ℕ)) → packets_delivered bearer (sends way u q ps) ≡ []
  unfolding packets_delivered
  sent_alone_delivers q [] = refl
  sent_alone_delivers q (e ∷ es) = sent_alone_delivers q es

  -- ---- those that are delivered

  pub delivered_is : (q : BearerId) (t : Bool) → eq_by_cmp bearer_cmp bearer q ≡ t → (ps : List (ℕ × List ℕ))
      → packets_delivered bearer (delivered_to way u q ps) ≡ (if t then ps else [])
  unfolding packets_delivered
  delivered_is q true is [] = refl
  delivered_is q false is [] = refl
  delivered_is q true is (e ∷ es) =
      ap (λ b. (if b then (e.0, e.1) ∷ [] else []) ++ packets_delivered bearer (delivered_to way u q es)) is
      ∙ ap (λ xs. e ∷ xs) (delivered_is q true is es)
  delivered_is q false is (e ∷ es) =
      ap (λ b. (if b then (e.0, e.1) ∷ [] else []) ++ packets_delivered bearer (delivered_to way u q es)) is
      ∙ delivered_is q false is es

  pub delivered_puts : (q : BearerId) (ps : List (ℕ × List ℕ)) → packets_put bearer (delivered_to way u q ps) ≡ []
  unfolding packets_put
  delivered_puts q [] = refl
  delivered_puts q (e ∷ es) = delivered_puts q es

  -- ---- a new connection, of each bearer in turn

  abbrev all_of : UeBearer → List (ℕ × List ℕ)
  all_of c = c.sender.unconfirmed ++ packets_of u c

  connection_is : (e : BearerId × UeBearer) (t : Bool) → eq_by_cmp bearer_cmp bearer e.0 ≡ t → (more : List (Output M Pdu))
      → packets_put bearer (connection way u e ++ more) ≡ (if t then all_of e.1 else []) ++ packets_put bearer more
  unfolding packets_put
  connection_is e t is more =
      let report = report_pdu e.1.receiver.deliv (received_bits e.1.receiver) in
      let rest = packets_put bearer (sends way u e.0 (all_of e.1) ++ more) in
      ap (λ pdu. (if eq_by_cmp bearer_cmp bearer e.0 then packet_in pdu else []) ++ rest) (plain u.plan.sn report)
      ∙ nothing (eq_by_cmp bearer_cmp bearer e.0) rest
      ∙ sent_is e.0 t is (all_of e.1) more
    where
      nothing : (c : Bool) (xs : List (ℕ × List ℕ)) → (if c then [] else []) ++ xs ≡ xs
      nothing true xs = refl
      nothing false xs = refl

  connections_far : (es : List (BearerId × UeBearer)) → AllByRecursion (λ k. bearer_cmp bearer k ≡ Less) (keys_of es)
      → packets_put bearer (flat_map (λ e. connection way u e) es) ≡ []
  unfolding packets_put
  connections_far [] all = refl
  connections_far (e ∷ es) all =
      connection_is e false (ap is_eq all.0) (flat_map (λ x. connection way u x) es) ∙ connections_far es all.1

  pub connections_here : (es : List (BearerId × UeBearer)) (c : UeBearer) → IsSorted bearer_cmp es → find bearer_cmp es bearer ≡ Some c
      → packets_put bearer (flat_map (λ e. connection way u e) es) ≡ all_of c
  unfolding find packets_put
  connections_here [] c sorted there = absurd cc
  connections_here (e ∷ es) c sorted there =
      by (eq_by_cmp bearer_cmp bearer e.0) refl there (connections_here es c (sorted_tail bearer_cmp e.0 (keys_of es) sorted))
    where
      more : List (Output M Pdu)
      more = flat_map (λ x. connection way u x) es

      by : (t : Bool) → eq_by_cmp bearer_cmp bearer e.0 ≡ t → cond t (Some e.1) (find bearer_cmp es bearer) ≡ Some c
          → (find bearer_cmp es bearer ≡ Some c → packets_put bearer more ≡ all_of c)
          → packets_put bearer (connection way u e ++ more) ≡ all_of c
      by true is h again =
          let same : e.1 ≡ c = cc in
          let name : bearer ≡ e.0 = bearer_exact bearer e.0 ((Equal-is (bearer_cmp bearer e.0)).0 is) in
          let apart = subst (λ (k : BearerId). AllByRecursion (λ y. bearer_cmp k y ≡ Less) (keys_of es)) (sym name)
          (sorted_head bearer_cmp e.0 (keys_of es) sorted) in
          connection_is e true is more ∙ ap (λ xs. all_of e.1 ++ xs) (connections_far es apart) ∙ append-nil (all_of e.1) ∙ ap all_of same
      by false is h again = connection_is e false is more ∙ again h

  connection_delivers : (e : BearerId × UeBearer) (more : List (Output M Pdu))
      → packets_delivered bearer (connection way u e ++ more) ≡ packets_delivered bearer more
  unfolding packets_delivered
  connection_delivers e more = sent_delivers e.0 (all_of e.1) more

  pub connections_deliver : (es : List (BearerId × UeBearer)) → packets_delivered bearer (flat_map (λ e. connection way u e) es) ≡ []
  unfolding packets_delivered
  connections_deliver [] = refl
  connections_deliver (e ∷ es) = connection_delivers e (flat_map (λ x. connection way u x) es) ∙ connections_deliver es

-- numbering keeps the names of all bearers
pub keys_mapped : (f : UeBearer → UeBearer) (es : List (BearerId × UeBearer)) → keys_of (map_values f es) ≡ keys_of es
unfolding map_values
keys_mapped f [] = refl
keys_mapped f (e ∷ es) = ap (λ ks. e.0 ∷ ks) (keys_mapped f es)

-- Facts of what waits on a radio down: it follows the terminal, is taken in its order, and more comes to its end.
use Rattle.std.proofs.Common.{◌≡◌, ℕ, ◌+◌, ◌-◌, ◌<◌, ◌≤◌, max, ◌==◌, Bool, true, false, ◌&&◌, List, [], ◌∷◌, ◌++◌, Option, Some, None, refl, sym, ap, subst, ◌∙◌, append_assoc, eqb-true, arith}
use Rattle.std.specs.Prelude.{if◌then◌else◌}
use Rattle.std.proofs.lemmas.List.{append-nil}
use Rattle.std.specs.List.{AllByRecursion}
use Rattle.std.specs.Ordering.{eq_by_cmp, is_eq}
use Rattle.std.specs.Cmp.{Equal-is, tied_itself}
use Rattle.gnb_types.specs.declared.names.UeId.{UeId}
use Rattle.gnb_types.specs.declared.names.BearerId.{BearerId}
use Rattle.gnb_types.specs.declared.names.Dir.TheVariants.{Dl}
use Rattle.gnb_types.specs.declared.keys.EntityKey.{EntityKey}
use Rattle.gnb_types.specs.Orders.{bearer_cmp, entity_cmp}
use Rattle.gnb_types.proofs.OrderLemmas.{bearer_total, bearer_exact, entity_total, entity_exact}
use Rattle.message_types.specs.declared.rrc.Token.{Token}
use Rattle.bearer_defs.specs.chain_defs.Models.{Model}
use Rattle.intervals.specs.Intervals.{HasNoGap}
use Rattle.intervals.proofs.Intervals.{all_append, HasNoGap-append}
use Rattle.unit_defs.specs.Ways.{Message, Pdu, packet_pdu, report_pdu, Load, Put, control, packet, radio, deliver, dropped, held, opened, closed, failed, no}
use Rattle.transport_defs.specs.Links.{Radio, silent, is_epoch, nth}
use Rattle.run_defs.specs.Written.{Written}
use Rattle.run_defs.specs.States.{entity}
use Rattle.run_defs.specs.Steps.{same_epoch, count_beside}
use Rattle.run_defs.specs.Runs.{Reading, plain_world}
use Rattle.proof_run_steps.specs.radio_steps.Radios.{OnAir, lost_in, with_item, after_put, after_puts, moved_to}
use Rattle.proof_node_orders.specs.terminal_inputs.Inputs.{packet_in}
use Rattle.proof_bearer_refinement.specs.uplink_radio.Radio.{OnRadio, packets_on, IsRadio}
use Rattle.proof_bearer_refinement.proofs.uplink_radio.Lists.{counts, packets_both, after_carry, carried_one, after_ack, IsHead, acked_one, more_put, nothing_there}
use Rattle.proof_bearer_refinement.proofs.uplink_radio.Puts.{with_more}
use Rattle.law_downlink_order.specs.received_packets.Received.{WasPut}
use Rattle.law_downlink_order.specs.waiting_frames.Frames.{Fits}
use Rattle.proof_bearer_refinement.specs.downlink_radio.Down.{down_key, IsDown, Puts, packets_down, WasReceived}

abbrev pub Air : Type 0
Air = OnAir (Written Pdu)

-- ---- facts that later states keep

pub all_put_later : (d e : Model) (xs : List (ℕ × List ℕ)) → ((count : ℕ) (packet : List ℕ) → WasPut d count packet → WasPut e count packet)
    → AllByRecursion (λ (x : ℕ × List ℕ). WasPut d x.0 x.1) xs → AllByRecursion (λ (x : ℕ × List ℕ). WasPut e x.0 x.1) xs
all_put_later d e [] on all = tt
all_put_later d e (x ∷ xs) on all = (on x.0 x.1 all.0, all_put_later d e xs on all.1)

pub received_later : (n m : ℕ) (xs : List ℕ) → n ≤ m → AllByRecursion (λ (count : ℕ). count < n) xs → AllByRecursion (λ (count : ℕ). count < m) xs
received_later n m [] l all = tt
received_later n m (x ∷ xs) l all = ((let a = all.0 in omega (arith, a, l)), received_later n m xs l all.1)

-- the same radio beside a model that received as much
unfoldable pub down_later : (a : Air) (d e : Model) → e.terminal.deliv ≡ d.terminal.deliv
    → ((count : ℕ) (packet : List ℕ) → WasPut d count packet → WasPut e count packet) → IsDown a d → IsDown a e
down_later a d e same on h = record {
  known = h.known;
  waits = h.waits;
  radio = h.radio;
  received = subst (λ (n : ℕ). AllByRecursion (λ (count : ℕ). count < n) h.known) (sym same) h.received;
  put = all_put_later d e h.waits on h.put;
  no_gap = subst (λ (n : ℕ). HasNoGap n h.waits) (sym same) h.no_gap;
  off = h.off;
}

-- a silent one fits to any model
pub silent_down : (a : Air) (d : Model) → a.radio ≡ silent → IsDown a d
unfolding HasNoGap
silent_down a d is = record {
  known = [];
  waits = [];
  radio = subst (λ (r : Radio (Written Pdu)). IsRadio r [] []) (sym is) nothing_there;
  received = tt;
  put = tt;
  no_gap = tt;
  off = λ none. is;
}

-- ---- the radios follow the terminal

module _ (reading : Reading) where
  same_is : (a b : Option ℕ) → same_epoch (plain_world reading) a b ≡ true → a ≡ b
  same_is None None is = refl
  same_is None (Some n) is = absurd cc
  same_is (Some m) None is = absurd cc
  same_is (Some m) (Some n) is = ap (λ (k : ℕ). Some k) (eqb-true m n is)

  pub moved_down : (a : Air) (now : Option ℕ) (d : Model) → IsDown a d → IsDown (moved_to (plain_world reading) now a) d
  moved_down a now d h = by (same_epoch (plain_world reading) a.epoch now)
    where
      lost : (e : Option ℕ) → a.epoch ≡ e → IsDown (record { epoch = now; radio = lost_in e a.radio }) d
      lost None at = silent_down (record { epoch = now; radio = a.radio }) d (h.off at)
      lost (Some e) at = silent_down (record { epoch = now; radio = silent }) d refl

      by : (t : Bool) → IsDown (if t then a else record { epoch = now; radio = lost_in a.epoch a.radio }) d
      by true = h
      by false = lost a.epoch refl

-- ---- a packet is taken, or confirmed

nth_of : (P : OnRadio → Type 0) (xs : List OnRadio) (k : ℕ) (x : OnRadio) → AllByRecursion P xs → nth xs k ≡ Some x → P x
nth_of P [] k x all is = absurd cc
nth_of P (y ∷ ys) k x all is = by (k == 0) is (λ more. nth_of P ys (k - 1) x all.1 more)
  where
    by : (t : Bool) → (if t then Some y else nth ys (k - 1)) ≡ Some x → (nth ys (k - 1) ≡ Some x → P x) → P x
    by true is on = let same : y ≡ x = cc in subst P same all.0
    by false is on = on is

pub item_of : (P : OnRadio → Type 0) (xs : List OnRadio) (k : ℕ) (x : OnRadio) → AllByRecursion P xs → nth xs k ≡ Some x → P x
item_of = nth_of

silent_has : (r : Radio (Written Pdu)) (item : OnRadio) → r ≡ silent → nth r.items r.carried ≡ Some item → ⊥
silent_has r item is found =
    let none : None ≡ Some item = sym (ap (λ (x : Radio (Written Pdu)). nth x.items x.carried) is) ∙ found in absurd cc

module _ (a : Air) (d : Model) (h : IsDown a d) (item : OnRadio) (is : nth a.radio.items a.radio.carried ≡ Some item) where
  abbrev carried_more : Air
  carried_more = record a { radio = record a.radio { carried = a.radio.carried + 1 } }

  next : IsRadio carried_more.radio (h.known ++ counts (packet_in item.content.says)) (after_carry item.content.says h.waits)
      × (h.waits ≡ packet_in item.content.says ++ after_carry item.content.says h.waits)
  next = carried_one a.radio h.known h.waits h.radio item is

  never_off : a.epoch ≡ None → carried_more.radio ≡ silent
  never_off none = absurd (silent_has a.radio item (h.off none) is)

  -- a packet stands first of what waits
  pub first_waits : (count : ℕ) (sdu : List ℕ) → item.content.says ≡ packet_pdu count sdu
      → (rest : List (ℕ × List ℕ)) × (h.waits ≡ (count, sdu) ∷ rest) × IsRadio carried_more.radio (h.known ++ count ∷ []) rest
  first_waits count sdu says =
      let both = subst (λ (p : Pdu). IsRadio carried_more.radio (h.known ++ counts (packet_in p)) (after_carry p h.waits)
      × (h.waits ≡ packet_in p ++ after_carry p h.waits)) says next in
      (after_carry (packet_pdu count sdu) h.waits, both.1, both.0)

  pub may_take : (count : ℕ) (sdu : List ℕ) → item.content.says ≡ packet_pdu count sdu → (count ≤ d.terminal.deliv) × WasPut d count sdu
  unfolding HasNoGap
  may_take count sdu says =
      let first = first_waits count sdu says in
      let no_gap : HasNoGap d.terminal.deliv ((count, sdu) ∷ first.0) = subst (λ (xs : List (ℕ × List ℕ)). HasNoGap d.terminal.deliv xs) first.1 h.no_gap in
      let put : AllByRecursion (λ (x : ℕ × List ℕ). WasPut d x.0 x.1) ((count, sdu) ∷ first.0) =
      subst (λ (xs : List (ℕ × List ℕ)). AllByRecursion (λ (x : ℕ × List ℕ). WasPut d x.0 x.1) xs) first.1 h.put in
      (no_gap.0, put.0)

  pub taken_down : (e : Model) (count : ℕ) (sdu : List ℕ) → item.content.says ≡ packet_pdu count sdu → e.terminal.deliv ≡ max d.terminal.deliv (count + 1)
      → ((other : ℕ) (one : List ℕ) → WasPut d other one → WasPut e other one) → IsDown carried_more e
  unfolding HasNoGap
  taken_down e count sdu says up on =
      let first = first_waits count sdu says in
      let no_gap : HasNoGap d.terminal.deliv ((count, sdu) ∷ first.0) = subst (λ (xs : List (ℕ × List ℕ)). HasNoGap d.terminal.deliv xs) first.1 h.no_gap in
      let put : AllByRecursion (λ (x : ℕ × List ℕ). WasPut d x.0 x.1) ((count, sdu) ∷ first.0) =
      subst (λ (xs : List (ℕ × List ℕ)). AllByRecursion (λ (x : ℕ × List ℕ). WasPut d x.0 x.1) xs) first.1 h.put in
      record {
        known = h.known ++ count ∷ [];
        waits = first.0;
        radio = first.2;
        received = all_append (λ (c : ℕ). c < e.terminal.deliv) h.known (count ∷ [])
            (received_later d.terminal.deliv e.terminal.deliv h.known (omega (arith, up)) h.received) (omega (arith, up), tt);
        put = all_put_later d e first.0 on put.1;
        no_gap = subst (λ (n : ℕ). HasNoGap n first.0) (sym up) no_gap.1;
        off = never_off;
      }

  pub report_down : (fmc : ℕ) (bits : List Bool) → item.content.says ≡ report_pdu fmc bits → IsDown carried_more d
  report_down fmc bits says =
      let both = subst (λ (p : Pdu). IsRadio carried_more.radio (h.known ++ counts (packet_in p)) (after_carry p h.waits)
      × (h.waits ≡ packet_in p ++ after_carry p h.waits)) says next in
      record {
        known = h.known;
        waits = h.waits;
        radio = subst (λ (k : List ℕ). IsRadio carried_more.radio k h.waits) (append-nil h.known) both.0;
        received = h.received;
        put = h.put;
        no_gap = h.no_gap;
        off = never_off;
      }

pub acked_down : (a : Air) (d : Model) (h : IsDown a d) (item : OnRadio) (rest : List OnRadio) → a.radio.items ≡ item ∷ rest → (a.radio.carried == 0) ≡ false
    → (k : IsDown (record a { radio = record { items = rest; carried = a.radio.carried - 1 } }) d) × (k.waits ≡ h.waits) × WasReceived d item.content.says
acked_down a d h item rest is some = by item.content.says (acked_one a.radio h.known h.waits h.radio item rest is some)
  where
    later : Air
    later = record a { radio = record { items = rest; carried = a.radio.carried - 1 } }

    never_off : a.epoch ≡ None → later.radio ≡ silent
    never_off none = absurd (let never : [] ≡ item ∷ rest = sym (ap (λ (r : Radio (Written Pdu)). r.items) (h.off none)) ∙ is in cc)

    by : (p : Pdu) → IsRadio later.radio (after_ack p h.known) h.waits × IsHead p h.known
        → (k : IsDown later d) × (k.waits ≡ h.waits) × WasReceived d p
    by (packet_pdu count sdu) both =
        let all : AllByRecursion (λ (c : ℕ). c < d.terminal.deliv) (count ∷ after_ack (packet_pdu count sdu) h.known) =
        subst (λ (k : List ℕ). AllByRecursion (λ (c : ℕ). c < d.terminal.deliv) k) both.1 h.received in (
          record {
            known = after_ack (packet_pdu count sdu) h.known;
            waits = h.waits;
            radio = both.0;
            received = all.1;
            put = h.put;
            no_gap = h.no_gap;
            off = never_off;
          },
          refl,
          all.0,
        )
    by (report_pdu fmc bits) both = (
      record {
        known = h.known;
        waits = h.waits;
        radio = both.0;
        received = h.received;
        put = h.put;
        no_gap = h.no_gap;
        off = never_off;
      },
      refl,
      tt,
    )

-- ---- more comes to its end

unfoldable pub more_down : (a : Air) (d : Model) (h : IsDown a d) (more : List OnRadio) → (a.epoch ≡ None → more ≡ []) → Fits d h.waits (packets_on more)
    → IsDown (with_more a more) d
more_down a d h more none fits = record {
  known = h.known;
  waits = h.waits ++ packets_on more;
  radio = more_put a.radio h.known h.waits h.radio more;
  received = h.received;
  put = all_append (λ (x : ℕ × List ℕ). WasPut d x.0 x.1) h.waits (packets_on more) h.put fits.put;
  no_gap = HasNoGap-append d.terminal.deliv h.waits (packets_on more) h.no_gap fits.no_gap;
  off = λ off.
      ap (λ (zs : List OnRadio). record a.radio { items = a.radio.items ++ zs }) (none off)
      ∙ ap (λ (zs : List OnRadio). record a.radio { items = zs }) (append-nil a.radio.items) ∙ h.off off;
}

module _ (key : EntityKey) (taken : Option ℕ) where
  abbrev item_put : Option ℕ → Put (Message Token) (Written (Load Pdu)) (Written Pdu) → List OnRadio
  item_put at (radio who q dir epoch tag pdu) =
      if eq_by_cmp entity_cmp key (entity who q dir) && is_epoch at epoch
      then record { key = entity who q dir; count = count_beside tag taken; content = pdu } ∷ [] else []
  item_put at output = []

  unfoldable pub items_put : Option ℕ → Puts → List OnRadio
  items_put at [] = []
  items_put at (output ∷ outputs) = item_put at output ++ items_put at outputs

  none_more : (a : Air) → a ≡ with_more a []
  none_more a = ap (λ (zs : List OnRadio). record a { radio = record a.radio { items = zs } }) (sym (append-nil a.radio.items))

  one_put : (a : Air) (output : Put (Message Token) (Written (Load Pdu)) (Written Pdu))
      → after_put key taken output a ≡ with_more a (item_put a.epoch output)
  one_put a (radio who q dir epoch tag pdu) = by (eq_by_cmp entity_cmp key (entity who q dir) && is_epoch a.epoch epoch)
    where
      item : OnRadio
      item = record { key = entity who q dir; count = count_beside tag taken; content = pdu }

      by : (t : Bool) → (if t then with_item item a else a) ≡ with_more a (if t then item ∷ [] else [])
      by true = refl
      by false = none_more a
  one_put a (control to u m) = none_more a
  one_put a (packet to teid u b dir tag load) = none_more a
  one_put a (deliver u b dir count p) = none_more a
  one_put a (dropped reason) = none_more a
  one_put a (held reason) = none_more a
  one_put a (opened teid) = none_more a
  one_put a (closed teid) = none_more a
  one_put a (failed u cause) = none_more a
  one_put a (no reason) = none_more a

  pub puts_are : (outputs : Puts) (a : Air) → after_puts key taken outputs a ≡ with_more a (items_put a.epoch outputs)
  unfolding items_put
  puts_are [] a = none_more a
  puts_are (output ∷ outputs) a =
      ap (after_puts key taken outputs) (one_put a output) ∙ puts_are outputs (with_more a (item_put a.epoch output))
      ∙ ap (λ (zs : List OnRadio). record a { radio = record a.radio { items = zs } })
      (append_assoc a.radio.items (item_put a.epoch output) (items_put a.epoch outputs))

  one_says : (at : Option ℕ) (t : Bool) (item : OnRadio) → packets_on (if t then item ∷ [] else []) ≡ (if t then packet_in item.content.says else [])
  unfolding packets_on
  one_says at true item = append-nil (packet_in item.content.says)
  one_says at false item = refl

  pub puts_say : (at : Option ℕ) (outputs : Puts) → packets_on (items_put at outputs) ≡ packets_down key at outputs
  unfolding packets_on packets_down items_put
  puts_say at [] = refl
  puts_say at (radio who q dir epoch tag pdu ∷ outputs) =
      packets_both (item_put at (radio who q dir epoch tag pdu)) (items_put at outputs)
      ∙ (λ i. one_says at (eq_by_cmp entity_cmp key (entity who q dir) && is_epoch at epoch)
      (record { key = entity who q dir; count = count_beside tag taken; content = pdu }) i ++ puts_say at outputs i)
  puts_say at (control to u m ∷ outputs) = puts_say at outputs
  puts_say at (packet to teid u b dir tag load ∷ outputs) = puts_say at outputs
  puts_say at (deliver u b dir count p ∷ outputs) = puts_say at outputs
  puts_say at (dropped reason ∷ outputs) = puts_say at outputs
  puts_say at (held reason ∷ outputs) = puts_say at outputs
  puts_say at (opened teid ∷ outputs) = puts_say at outputs
  puts_say at (closed teid ∷ outputs) = puts_say at outputs
  puts_say at (failed u cause ∷ outputs) = puts_say at outputs
  puts_say at (no reason ∷ outputs) = puts_say at outputs

  -- where the radio isn't connected nothing comes there
  pub none_off : (at : Option ℕ) (outputs : Puts) → at ≡ None → items_put at outputs ≡ []
  unfolding items_put
  none_off at [] off = refl
  none_off at (radio who q dir epoch tag pdu ∷ outputs) off =
      (λ i. one_off i ++ none_off at outputs off i)
    where
      never : (t : Bool) (item : OnRadio) → (if t && false then item ∷ [] else []) ≡ []
      never true item = refl
      never false item = refl

      one_off : item_put at (radio who q dir epoch tag pdu) ≡ []
      one_off =
          (λ i. if eq_by_cmp entity_cmp key (entity who q dir) && is_epoch (off i) epoch
          then record { key = entity who q dir; count = count_beside tag taken; content = pdu } ∷ [] else [])
          ∙ never (eq_by_cmp entity_cmp key (entity who q dir)) (record { key = entity who q dir; count = count_beside tag taken; content = pdu })
  none_off at (control to u m ∷ outputs) off = none_off at outputs off
  none_off at (packet to teid u b dir tag load ∷ outputs) off = none_off at outputs off
  none_off at (deliver u b dir count p ∷ outputs) off = none_off at outputs off
  none_off at (dropped reason ∷ outputs) off = none_off at outputs off
  none_off at (held reason ∷ outputs) off = none_off at outputs off
  none_off at (opened teid ∷ outputs) off = none_off at outputs off
  none_off at (closed teid ∷ outputs) off = none_off at outputs off
  none_off at (failed u cause ∷ outputs) off = none_off at outputs off
  none_off at (no reason ∷ outputs) off = none_off at outputs off

-- ---- another bearer's radio down is another one

pub down_refinement : (ue : UeId) (bearer other : BearerId)
    → eq_by_cmp entity_cmp (down_key ue bearer) (entity ue other Dl) ≡ eq_by_cmp bearer_cmp bearer other
down_refinement ue bearer other = by (eq_by_cmp bearer_cmp bearer other) refl
  where
    unless : (t : Bool) → eq_by_cmp entity_cmp (down_key ue bearer) (entity ue other Dl) ≡ t → eq_by_cmp bearer_cmp bearer other ≡ false → t ≡ false
    unless false refinement apart = refl
    unless true refinement apart =
        let same : bearer ≡ other
        = ap (λ (k : EntityKey). k.bearer) (entity_exact (down_key ue bearer) (entity ue other Dl) ((Equal-is (entity_cmp (down_key ue bearer) (entity ue other Dl))).0 refinement)) in
        let never : true ≡ false = sym (ap is_eq (tied_itself bearer_total bearer)) ∙ ap (λ (q : BearerId). eq_by_cmp bearer_cmp bearer q) same ∙ apart in absurd cc

    by : (t : Bool) → eq_by_cmp bearer_cmp bearer other ≡ t → eq_by_cmp entity_cmp (down_key ue bearer) (entity ue other Dl) ≡ t
    by true refinement =
        ap (λ (q : BearerId). eq_by_cmp entity_cmp (down_key ue bearer) (entity ue q Dl))
        (sym (bearer_exact bearer other ((Equal-is (bearer_cmp bearer other)).0 refinement)))
        ∙ ap is_eq (tied_itself entity_total (down_key ue bearer))
    by false apart = unless (eq_by_cmp entity_cmp (down_key ue bearer) (entity ue other Dl)) refl apart

-- What a terminal puts on its radio up comes to the end of it, where its radios are connected in the epoch in which it puts.
use Rattle.std.proofs.Common.{◌≡◌, ℕ, ◌==◌, Bool, true, false, ◌&&◌, List, [], ◌∷◌, ◌++◌, map, Option, Some, refl, sym, ap, subst, ◌∙◌, append_assoc, arith}
use Rattle.std.specs.Prelude.{if◌then◌else◌}
use Rattle.std.proofs.lemmas.List.{append-nil}
use Rattle.std.specs.List.{AllByRecursion}
use Rattle.std.specs.Ordering.{eq_by_cmp, is_eq}
use Rattle.std.specs.Cmp.{Equal-is, tied_itself}
use Rattle.gnb_types.specs.declared.names.UeId.{UeId}
use Rattle.gnb_types.specs.declared.names.BearerId.{BearerId}
use Rattle.gnb_types.specs.declared.names.Dir.{Dir}
use Rattle.gnb_types.specs.declared.names.Dir.TheVariants.{Dl, Ul}
use Rattle.gnb_types.specs.declared.keys.EntityKey.{EntityKey}
use Rattle.gnb_types.specs.Orders.{bearer_cmp, entity_cmp}
use Rattle.gnb_types.proofs.OrderLemmas.{bearer_total, bearer_exact, entity_total, entity_exact}
use Rattle.message_types.specs.declared.rrc.Token.{Token}
use Rattle.unit_defs.specs.Ways.{Message, Pdu, Output, control, packet, radio, deliver, dropped, held, opened, closed, failed, no}
use Rattle.transport_defs.specs.Links.{is_epoch}
use Rattle.run_defs.specs.Written.{Written, written_pdu, written_put}
use Rattle.run_defs.specs.States.{Lengths, entity}
use Rattle.run_defs.specs.Steps.{count_beside}
use Rattle.proof_run_steps.specs.radio_steps.Radios.{OnAir, with_item, after_puts}
use Rattle.proof_node_orders.specs.terminal_inputs.Inputs.{packet_in, packets_put}
use Rattle.proof_node_orders.specs.terminal_radios.Radios.{IsPutIn}
use Rattle.proof_bearer_refinement.specs.uplink_radio.Radio.{OnRadio, packets_on, up_key}

abbrev Air : Type 0
Air = OnAir (Written Pdu)

number_same : (a : ℕ) → (a == a) ≡ true
number_same a = grind arith

and_true : (t : Bool) → (t && true) ≡ t
and_true true = refl
and_true false = refl

abbrev pub with_more : Air → List OnRadio → Air
with_more a more = record a { radio = record a.radio { items = a.radio.items ++ more } }

-- these packets came there, and nothing where the terminal isn't connected
pub record IsPut (a z : Air) (said : List (ℕ × List ℕ)) (is_there : Bool) : Type 0 where
  pub more : List OnRadio
  pub is : z ≡ with_more a more
  pub says : packets_on more ≡ said
  pub none : is_there ≡ false → more ≡ []

module _ (ue : UeId) (bearer : BearerId) where
  pub key_refinement : (other : BearerId) → eq_by_cmp entity_cmp (up_key ue bearer) (entity ue other Ul) ≡ eq_by_cmp bearer_cmp bearer other
  key_refinement other = by (eq_by_cmp bearer_cmp bearer other) refl
    where
      unless : (t : Bool) → eq_by_cmp entity_cmp (up_key ue bearer) (entity ue other Ul) ≡ t → eq_by_cmp bearer_cmp bearer other ≡ false → t ≡ false
      unless false refinement apart = refl
      unless true refinement apart =
          let same : bearer ≡ other
          = ap (λ (k : EntityKey). k.bearer) (entity_exact (up_key ue bearer) (entity ue other Ul) ((Equal-is (entity_cmp (up_key ue bearer) (entity ue other Ul))).0 refinement)) in
          let never : true ≡ false = sym (ap is_eq (tied_itself bearer_total bearer)) ∙ ap (λ (q : BearerId). eq_by_cmp bearer_cmp bearer q) same ∙ apart in absurd cc

      by : (t : Bool) → eq_by_cmp bearer_cmp bearer other ≡ t → eq_by_cmp entity_cmp (up_key ue bearer) (entity ue other Ul) ≡ t
      by true refinement =
          ap (λ (q : BearerId). eq_by_cmp entity_cmp (up_key ue bearer) (entity ue q Ul))
          (sym (bearer_exact bearer other ((Equal-is (bearer_cmp bearer other)).0 refinement)))
          ∙ ap is_eq (tied_itself entity_total (up_key ue bearer))
      by false apart = unless (eq_by_cmp entity_cmp (up_key ue bearer) (entity ue other Ul)) refl apart

  module _ (lengths : Lengths) (taken : Option ℕ) (epoch : ℕ) (is_there : Bool) where
    abbrev after : List (Output (Message Token) Pdu) → Air → Air
    after outputs a = after_puts (up_key ue bearer) taken (map (written_put lengths) outputs) a

    nothing_more : (a : Air) → IsPut a a [] is_there
    unfolding packets_on
    nothing_more a = record {
      more = [];
      is = ap (λ (zs : List OnRadio). record a { radio = record a.radio { items = zs } }) (sym (append-nil a.radio.items));
      says = refl;
      none = λ off. refl;
    }

    reaches : (who : UeId) (q : BearerId) (dir : Dir) (e : ℕ) (a : Air) → who ≡ ue → dir ≡ Ul → e ≡ epoch → a.epoch ≡ Some epoch
        → (eq_by_cmp entity_cmp (up_key ue bearer) (entity who q dir) && is_epoch a.epoch e) ≡ eq_by_cmp bearer_cmp bearer q
    reaches who q dir e a same_ue up same_epoch at =
        (λ i. eq_by_cmp entity_cmp (up_key ue bearer) (entity (same_ue i) q (up i)) && is_epoch (at i) (same_epoch i))
        ∙ (λ i. key_refinement q i && number_same epoch i) ∙ and_true (eq_by_cmp bearer_cmp bearer q)

    one_more : (item : OnRadio) (a z : Air) (said : List (ℕ × List ℕ)) → is_there ≡ true → IsPut (with_item item a) z said is_there
        → IsPut a z (packet_in item.content.says ++ said) is_there
    unfolding packets_on
    one_more item a z said on p = record {
      more = item ∷ p.more;
      is = p.is ∙ ap (λ (zs : List OnRadio). record a { radio = record a.radio { items = zs } }) (append_assoc a.radio.items (item ∷ []) p.more);
      says = ap (λ (zs : List (ℕ × List ℕ)). packet_in item.content.says ++ zs) p.says;
      none = λ off. absurd (let never : true ≡ false = sym on ∙ off in cc);
    }

    put_if : (t : Bool) (item : OnRadio) (a : Air) (outputs : List (Output (Message Token) Pdu)) → is_there ≡ true
        → IsPut (with_item item a) (after outputs (with_item item a)) (packets_put bearer outputs) is_there
        → IsPut a (after outputs a) (packets_put bearer outputs) is_there
        → IsPut a (after outputs (if t then with_item item a else a)) ((if t then packet_in item.content.says else []) ++ packets_put bearer outputs) is_there
    put_if true item a outputs on here away = one_more item a (after outputs (with_item item a)) (packets_put bearer outputs) on here
    put_if false item a outputs on here away = away

    pub all_put : (outputs : List (Output (Message Token) Pdu)) (a : Air) → AllByRecursion (IsPutIn ue epoch is_there) outputs
        → (is_there ≡ true → a.epoch ≡ Some epoch) → IsPut a (after outputs a) (packets_put bearer outputs) is_there
    unfolding packets_put
    all_put [] a all at = nothing_more a
    all_put (radio who q Dl e tag pdu ∷ outputs) a all at = absurd (let never : Dl ≡ Ul = all.0.1 in cc)
    all_put (radio who q Ul e tag pdu ∷ outputs) a all at =
        let item : OnRadio = record { key = entity who q Ul; count = count_beside tag taken; content = written_pdu (lengths who) pdu } in
        subst (λ (x : Air). IsPut a (after outputs x) ((if eq_by_cmp bearer_cmp bearer q then packet_in pdu else []) ++ packets_put bearer outputs) is_there)
        (sym (ap (λ (t : Bool). if t then with_item item a else a) (reaches who q Ul e a all.0.0 refl all.0.2 (at all.0.3))))
        (put_if (eq_by_cmp bearer_cmp bearer q) item a outputs all.0.3 (all_put outputs (with_item item a) all.1 at) (all_put outputs a all.1 at))
    all_put (control to u m ∷ outputs) a all at = all_put outputs a all.1 at
    all_put (packet to teid u b dir tag load ∷ outputs) a all at = all_put outputs a all.1 at
    all_put (deliver u b dir count p ∷ outputs) a all at = all_put outputs a all.1 at
    all_put (dropped reason ∷ outputs) a all at = all_put outputs a all.1 at
    all_put (held reason ∷ outputs) a all at = all_put outputs a all.1 at
    all_put (opened teid ∷ outputs) a all at = all_put outputs a all.1 at
    all_put (closed teid ∷ outputs) a all at = all_put outputs a all.1 at
    all_put (failed u cause ∷ outputs) a all at = all_put outputs a all.1 at
    all_put (no reason ∷ outputs) a all at = all_put outputs a all.1 at

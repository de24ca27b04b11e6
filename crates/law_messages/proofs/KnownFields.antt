-- What is written is known to its type, all of it.
use Rattle.std.proofs.Common.{◌≡◌, ℕ, Bool, true, cond, List, [], ◌∷◌, Option, Some, None, option_map, refl, ap, ◌∙◌}
use Rattle.gnb_types.specs.declared.plans.Peer.{Peer}
use Rattle.gnb_types.specs.declared.plans.Tunnel.{Tunnel}
use Rattle.gnb_types.specs.declared.plans.SnStatus.{SnStatus}
use Rattle.aper_defs.specs.Trees.{Rows, Slot, slots, has_slot}
use Rattle.aper_defs.specs.Values.{Value, Values, Ies, components, list, elements, message, value, no_options, present, ie}
use Rattle.message_defs.specs.profile_defs.Forms.{tree, parts, rows}
use Rattle.message_defs.specs.profile_defs.Elements.{Element}
use Rattle.message_defs.specs.profile_defs.BaseTypes as types
use Rattle.message_defs.specs.profile_defs.Compounds as compounds
use Rattle.message_defs.specs.profile_defs.Tables.{Use, Message, element_rows}
use Rattle.message_defs.specs.Known.{known, known_components, known_additions, known_row, each_value, known_elements}
use Rattle.message_defs.specs.Fields.{from_number, from_peer, from_tunnel, from_each, from_tunnels, from_status, from_statuses}
use Rattle.message_defs.specs.Places.{Field, content_of, put_element, written_elements}

each_fixed : {A : Type 0} → (f : A → Value) (g : Value → Value) → ((x : A) → g (f x) ≡ f x) → (xs : List A) → each_value g (from_each f xs) ≡ from_each f xs
each_fixed f g fixed [] = refl
each_fixed f g fixed (x ∷ xs) = ap (λ (v : Value). value v (each_value g (from_each f xs))) (fixed x)
    ∙ ap (λ (vs : Values). value (f x) vs) (each_fixed f g fixed xs)

tunnel_known : (t : Tunnel) → known (tree compounds.tunnel) (from_tunnel t) ≡ from_tunnel t
unfolding tree parts known known_components known_additions
tunnel_known t = refl

pub tunnels_known : (ts : List Tunnel) → known (tree compounds.tunnels) (from_tunnels ts) ≡ from_tunnels ts
unfolding tree known
tunnels_known ts = ap (λ (vs : Values). list vs) (each_fixed from_tunnel (λ v. known (tree compounds.tunnel) v) tunnel_known ts)

status_known : (s : SnStatus) → known (tree compounds.status) (from_status s) ≡ from_status s
unfolding tree parts known known_components known_additions
status_known s = by s.ul_received
  where
    by : (received : Option (List Bool)) → known (tree compounds.status) (from_status (record s { ul_received = received }))
        ≡ from_status (record s { ul_received = received })
    by None = refl
    by (Some bs) = refl

pub statuses_known : (ss : List SnStatus) → known (tree compounds.statuses) (from_statuses ss) ≡ from_statuses ss
unfolding tree known
statuses_known ss = ap (λ (vs : Values). list vs) (each_fixed from_status (λ v. known (tree compounds.status) v) status_known ss)

-- what may be there
pub option_fixed : {A : Type 0} → (f : A → Value) (g : Value → Value) → ((x : A) → g (f x) ≡ f x) → (x : Option A)
    → option_map g (option_map f x) ≡ option_map f x
option_fixed f g fixed None = refl
option_fixed f g fixed (Some x) = ap Some (fixed x)

-- ---- elements, one by one
known_put : (ss : List Slot) (f : ℕ → Value → Value) (e : Element) (x : Option Value) (others : Ies) → has_slot e.id ss ≡ true
    → known_elements ss f (put_element e x others) ≡ put_element e (option_map (f e.id) x) (known_elements ss f others)
known_put ss f e None others h = refl
known_put ss f e (Some v) others h =
    ap (λ (b : Bool). cond b (ie e.id 0 (f e.id v) (known_elements ss f others)) (known_elements ss f others)) h

pub data AreFixed (ss : List Slot) (f : ℕ → Value → Value) (fields : List Field) : List Use → Type 0 where
  none : AreFixed ss f fields []
  one : {u : Use} {us : List Use} → has_slot u.element.id ss ≡ true
      → option_map (f u.element.id) (content_of u.element fields) ≡ content_of u.element fields
      → AreFixed ss f fields us → AreFixed ss f fields (u ∷ us)

pub written_known : (ss : List Slot) (f : ℕ → Value → Value) (fields : List Field) (us : List Use) → AreFixed ss f fields us
    → known_elements ss f (written_elements us fields) ≡ written_elements us fields
written_known ss f fields [] none = refl
written_known ss f fields (u ∷ us) (one has fixed others) =
    known_put ss f u.element (content_of u.element fields) (written_elements us fields) has
    ∙ ap (λ (x : Option Value). put_element u.element x (known_elements ss f (written_elements us fields))) fixed
    ∙ ap (put_element u.element (content_of u.element fields)) (written_known ss f fields us others)

pub tunnels_fixed : (x : Option (List Tunnel)) → option_map (λ v. known (tree compounds.tunnels) v) (option_map from_tunnels x) ≡ option_map from_tunnels x
tunnels_fixed x = option_fixed from_tunnels (λ v. known (tree compounds.tunnels) v) tunnels_known x

pub statuses_fixed : (x : Option (List SnStatus)) → option_map (λ v. known (tree compounds.statuses) v) (option_map from_statuses x) ≡ option_map from_statuses x
statuses_fixed x = option_fixed from_statuses (λ v. known (tree compounds.statuses) v) statuses_known x

pub peer_fixed : (x : Option Peer) → option_map (λ v. known (tree compounds.peer) v) (option_map from_peer x) ≡ option_map from_peer x
unfolding tree parts known known_components known_additions
peer_fixed x = option_fixed from_peer (λ v. known (tree compounds.peer) v) (λ p. refl) x

pub unit_fixed : (x : Option ℕ) → option_map (λ v. known (tree types.unit) v) (option_map from_number x) ≡ option_map from_number x
unfolding tree known
unit_fixed x = option_fixed from_number (λ v. known (tree types.unit) v) (λ n. refl) x

-- ---- a message
abbrev pub rows_of : Message → Rows
rows_of m = rows (element_rows m.elements)

abbrev pub with_elements : Message → Ies → Value
with_elements m ies = message m.outcome m.code 0 (components (present (elements ies) no_options) no_options)

pub said_as : (m : Message) (fields : List Field) → AreFixed (slots (rows_of m)) (λ id v. known_row (rows_of m) id v) fields m.elements
    → with_elements m (known_elements (slots (rows_of m)) (λ id v. known_row (rows_of m) id v) (written_elements m.elements fields))
    ≡ with_elements m (written_elements m.elements fields)
said_as m fields fixed =
    ap (with_elements m) (written_known (slots (rows_of m)) (λ id v. known_row (rows_of m) id v) fields m.elements fixed)

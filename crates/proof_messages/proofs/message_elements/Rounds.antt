-- A field that is read from a value of its type, and written again, is what the type knows of the value.
use Rattle.std.proofs.Common.{◌≡◌, ℕ, zero, suc, ◌<◌, Bool, true, false, ◌∷◌, refl, ap, ◌∙◌, arith}
use Rattle.std.specs.Prelude.{codes, pos, negsuc, ◌||◌, nat_lt}
use Rattle.aper_defs.specs.Trees.{Tree, integer, enumerated}
use Rattle.aper_defs.specs.Values.{Value, Values, Options, truth, number, enumeral, bits, octets, text, components, list, no_values, value, no_options, absent, present}
use Rattle.aper_defs.specs.Fields.{Path}
use Rattle.aper_defs.specs.Fields as fields
use Rattle.aper_defs.specs.Membership.{Has, HasComponents, EachFrom, is_index_of}
use Rattle.proof_aper.proofs.answers.NumberFacts.{below}
use Rattle.message_defs.specs.profile_defs.Forms.{Components, component, no_components, bit_string, sized, tree, parts}
use Rattle.message_defs.specs.profile_defs.BaseTypes as types
use Rattle.message_defs.specs.profile_defs.Compounds as compounds
use Rattle.message_defs.specs.Known.{known, known_components, known_additions, each_value}
use Rattle.message_defs.specs.Fields.{from_number, to_number, to_index, gnb_index, gnb_at, sn_index, sn_at, from_sn, to_sn, to_flag, to_octets, to_text, from_peer, to_peer, from_tunnel, to_tunnel, from_each, to_each, from_tunnels, to_tunnels, from_received, to_received, from_status, to_status, from_statuses, to_statuses}

differ : (let b : Bool = false in b) ≡ true → ⊥
differ h = cc

or_false : (b : Bool) → (b || false) ≡ true → b ≡ true
or_false true h = refl
or_false false h = cc

module _ (p : Path) where
  number_is : (low high : ℕ) (v : Value) → Has p (integer (pos low) (pos high) false) v → from_number (to_number v) ≡ v
  unfolding Has
  number_is low high (number (pos n)) h = refl
  number_is low high (number (negsuc n)) h = absurd (differ h)
  number_is low high v h = absurd h

  pub ue_is : (v : Value) → Has p (tree types.ue) v → from_number (to_number v) ≡ known (tree types.ue) v
  unfolding tree known
  ue_is v h = number_is 1 16 v h

  pub bearer_is : (v : Value) → Has p (tree types.bearer) v → from_number (to_number v) ≡ known (tree types.bearer) v
  unfolding tree known
  bearer_is v h = number_is 1 8 v h

  pub word_is : (v : Value) → Has p (tree types.word) v → from_number (to_number v) ≡ known (tree types.word) v
  unfolding tree known
  word_is v h = number_is 0 4294967295 v h

  pub unit_is : (v : Value) → Has p (tree types.unit) v → from_number (to_number v) ≡ known (tree types.unit) v
  unfolding tree known
  unit_is v h = number_is 1 2 v h

  pub quota_is : (v : Value) → Has p (tree types.quota) v → from_number (to_number v) ≡ known (tree types.quota) v
  unfolding tree known
  quota_is v h = number_is 4 4096 v h

  index_is : (names : ℕ) (extensible : Bool) (v : Value) → Has p (enumerated names extensible) v → enumeral (to_index v) ≡ v
  unfolding Has
  index_is names extensible (enumeral i) h = refl
  index_is names extensible v h = absurd h

  pub cause_is : (v : Value) → Has p (tree types.cause) v → enumeral (to_index v) ≡ known (tree types.cause) v
  unfolding tree known
  cause_is v h = index_is 3 true v h

  pub mode_is : (v : Value) → Has p (tree types.mode) v → enumeral (to_index v) ≡ known (tree types.mode) v
  unfolding tree known
  mode_is v h = index_is 5 true v h

  index_below : (i : ℕ) → is_index_of 2 false i ≡ true → i < 2
  index_below i h = below i 2 (or_false (nat_lt i 2) h)

  gnb_two : (i : ℕ) → i < 2 → gnb_index (gnb_at i) ≡ i
  gnb_two zero h = refl
  gnb_two (suc zero) h = refl
  gnb_two (suc (suc i)) h = absurd (omega arith)

  sn_two : (i : ℕ) → i < 2 → sn_index (sn_at i) ≡ i
  sn_two zero h = refl
  sn_two (suc zero) h = refl
  sn_two (suc (suc i)) h = absurd (omega arith)

  two_gnb : (v : Value) → Has p (enumerated 2 false) v → enumeral (gnb_index (gnb_at (to_index v))) ≡ v
  unfolding Has
  two_gnb (enumeral i) h = ap (λ (n : ℕ). let w : Value = enumeral n in w) (gnb_two i (index_below i h))
  two_gnb v h = absurd h

  two_sn : (v : Value) → Has p (enumerated 2 false) v → from_sn (to_sn v) ≡ v
  unfolding Has
  two_sn (enumeral i) h = ap (λ (n : ℕ). let w : Value = enumeral n in w) (sn_two i (index_below i h))
  two_sn v h = absurd h

  pub gnb_is : (v : Value) → Has p (tree types.gnb) v → enumeral (gnb_index (gnb_at (to_index v))) ≡ known (tree types.gnb) v
  unfolding tree known
  gnb_is v h = two_gnb v h

  pub sn_is : (v : Value) → Has p (tree types.sn_bits) v → from_sn (to_sn v) ≡ known (tree types.sn_bits) v
  unfolding tree known
  sn_is v h = two_sn v h

  pub flag_is : (v : Value) → Has p (tree types.flag) v → truth (to_flag v) ≡ known (tree types.flag) v
  unfolding tree known Has
  flag_is (truth b) h = refl
  flag_is v h = absurd h

  pub container_is : (v : Value) → Has p (tree types.container) v → octets (to_octets v) ≡ known (tree types.container) v
  unfolding tree known Has
  container_is (octets os) h = refl
  container_is v h = absurd h

  pub name_is : (v : Value) → Has p (tree types.name) v → text (to_text v) ≡ known (tree types.name) v
  unfolding tree known Has
  name_is (text cs) h = refl
  name_is v h = absurd h

-- ---- a CU-UP, tunnels, SN statuses
-- the last component of a status
abbrev pub received_part : Components
received_part = component (codes "ulReceived") true (bit_string (sized 1 4096)) no_components

two_components : Value → Value → Value
two_components a b = components (present a (present b no_options)) no_options

module _ (p : Path) where
  pub peer_is : (v : Value) → Has p (tree compounds.peer) v → from_peer (to_peer v) ≡ known (tree compounds.peer) v
  unfolding tree parts known known_components known_additions Has HasComponents two_components
  peer_is (components (present g (present u no_options)) more) h =
      ap (λ (v : Value). two_components v (from_number (to_number u))) (gnb_is (fields.component (codes "gnb") ∷ p) g h.0.0)
      ∙ ap (λ (v : Value). two_components g v) (unit_is (fields.component (codes "up") ∷ p) u h.0.1.0)
  peer_is (components no_options more) h = absurd h.0
  peer_is (components (absent vs) more) h = absurd (differ h.0.0)
  peer_is (components (present g no_options) more) h = absurd h.0.1
  peer_is (components (present g (absent vs)) more) h = absurd (differ h.0.1.0)
  peer_is (components (present g (present u (absent vs))) more) h = absurd h.0.1.1
  peer_is (components (present g (present u (present v vs))) more) h = absurd h.0.1.1
  peer_is v h = absurd h

  tunnel_is : (v : Value) → Has p (tree compounds.tunnel) v → from_tunnel (to_tunnel v) ≡ known (tree compounds.tunnel) v
  unfolding tree parts known known_components known_additions Has HasComponents two_components
  tunnel_is (components (present b (present t no_options)) more) h =
      ap (λ (v : Value). two_components v (from_number (to_number t))) (bearer_is (fields.component (codes "bearer") ∷ p) b h.0.0)
      ∙ ap (λ (v : Value). two_components b v) (word_is (fields.component (codes "teid") ∷ p) t h.0.1.0)
  tunnel_is (components no_options more) h = absurd h.0
  tunnel_is (components (absent vs) more) h = absurd (differ h.0.0)
  tunnel_is (components (present b no_options) more) h = absurd h.0.1
  tunnel_is (components (present b (absent vs)) more) h = absurd (differ h.0.1.0)
  tunnel_is (components (present b (present t (absent vs))) more) h = absurd h.0.1.1
  tunnel_is (components (present b (present t (present v vs))) more) h = absurd h.0.1.1
  tunnel_is v h = absurd h

  four_components : Value → Value → Value → Options → Value
  four_components a b c vs = components (present a (present b (present c vs))) no_options

  received_is : (q : Path) (vs : Options) → HasComponents q (parts received_part) vs
      → from_received (to_received vs) ≡ known_components (parts received_part) vs
  unfolding tree parts known known_components Has HasComponents
  received_is q (absent no_options) h = refl
  received_is q (present (bits bs) no_options) h = refl
  received_is q no_options h = absurd h
  received_is q (absent (absent vs)) h = absurd h.1
  received_is q (absent (present v vs)) h = absurd h.1
  received_is q (present (bits bs) (absent vs)) h = absurd h.1
  received_is q (present (bits bs) (present v vs)) h = absurd h.1
  received_is q (present v vs) h = absurd h.0

  status_is : (v : Value) → Has p (tree compounds.status) v → from_status (to_status v) ≡ known (tree compounds.status) v
  unfolding tree parts known known_components known_additions Has HasComponents four_components
  status_is (components (present b (present d (present u vs))) more) h =
      ap (λ (v : Value). four_components v (from_number (to_number d)) (from_number (to_number u)) (from_received (to_received vs)))
      (bearer_is (fields.component (codes "bearer") ∷ p) b h.0.0)
      ∙ ap (λ (v : Value). four_components b v (from_number (to_number u)) (from_received (to_received vs))) (word_is (fields.component (codes "dlNext") ∷ p) d h.0.1.0)
      ∙ ap (λ (v : Value). four_components b d v (from_received (to_received vs))) (word_is (fields.component (codes "ulFirst") ∷ p) u h.0.1.1.0)
      ∙ ap (four_components b d u) (received_is p vs h.0.1.1.1)
  status_is (components no_options more) h = absurd h.0
  status_is (components (absent vs) more) h = absurd (differ h.0.0)
  status_is (components (present b no_options) more) h = absurd h.0.1
  status_is (components (present b (absent vs)) more) h = absurd (differ h.0.1.0)
  status_is (components (present b (present d no_options)) more) h = absurd h.0.1.1
  status_is (components (present b (present d (absent vs))) more) h = absurd (differ h.0.1.1.0)
  status_is v h = absurd h

each_is : {A : Type 0} → (p : Path) (t : Tree) (from : A → Value) (to : Value → A)
    → ((q : Path) (v : Value) → Has q t v → from (to v) ≡ known t v)
    → (i : ℕ) (vs : Values) → EachFrom (λ i v. Has (fields.member i ∷ p) t v) i vs
    → from_each from (to_each to vs) ≡ each_value (λ v. known t v) vs
each_is p t from to one i no_values h = refl
each_is p t from to one i (value v vs) h = ap (λ (w : Value). value w (from_each from (to_each to vs))) (one (fields.member i ∷ p) v h.0)
    ∙ ap (value (known t v)) (each_is p t from to one (suc i) vs h.1)

as_list : Values → Value
as_list vs = list vs

module _ (p : Path) where
  pub tunnels_is : (v : Value) → Has p (tree compounds.tunnels) v → from_tunnels (to_tunnels v) ≡ known (tree compounds.tunnels) v
  unfolding tree known Has as_list
  tunnels_is (list vs) h = ap as_list (each_is p (tree compounds.tunnel) from_tunnel to_tunnel tunnel_is 0 vs h.1)
  tunnels_is v h = absurd h

  pub statuses_is : (v : Value) → Has p (tree compounds.statuses) v → from_statuses (to_statuses v) ≡ known (tree compounds.statuses) v
  unfolding tree known Has as_list
  statuses_is (list vs) h = ap as_list (each_is p (tree compounds.status) from_status to_status status_is 0 vs h.1)
  statuses_is v h = absurd h

-- What fields are read of, by their components and members.
use Rattle.std.proofs.Common.{◌≡◌, ℕ, zero, suc, ◌+◌, ◌<◌, ◌≤◌, ◌^◌, ◌==◌, ◌||◌, ◌∷◌, [], ◌++◌, List, length, get_or, drop, Bool, true, false, cond, Option, Some, None, option_map, refl, ap, sym, ◌∙◌, arith, append_assoc}
use Rattle.std.specs.Prelude.{map, slice_get, ltb}
use Rattle.std.proofs.lemmas.Bool.Decides.{nat_tests}
use Rattle.std.proofs.lemmas.List.{drop_more}
use Rattle.aper_values.specs.declared.value.Value.{Value as CodeValue}
use Rattle.aper_values.specs.Views.{view, values_of, values_view, options_view}
use Rattle.gnb_types.specs.declared.names.Gnb.TheVariants.{A}
use Rattle.gnb_types.specs.declared.plans.Peer.{Peer}
use Rattle.gnb_types.specs.declared.plans.Tunnel.{Tunnel}
use Rattle.gnb_types.specs.declared.plans.SnStatus.{SnStatus}
use Rattle.aper_defs.specs.Values.{Value, Values, truth, number, enumeral, bits, octets, text, components, chosen, list, elements, message, raw, no_values, value, no_options, absent, present}
use Rattle.message_defs.specs.Fields.{gnb_at, to_index, to_number, to_peer, to_tunnel, to_status, to_tunnels, to_statuses, to_each, from_each}
use Rattle.message_values.specs.Parts.{option_at, part_at, members_in}
use Rattle.message_values.specs.Fitting.{limit_of}

abbrev pub peer_of : Option Value → Option Value → Peer
peer_of (Some gnb) (Some up) = record { gnb = gnb_at (to_index gnb); up = to_number up }
peer_of gnb up = record { gnb = A; up = 0 }

pub peer_parts : (v : Value) → to_peer v ≡ peer_of (part_at 0 v) (part_at 1 v)
peer_parts (components (present g (present u vs)) more) = refl
peer_parts (components (present g (absent vs)) more) = refl
peer_parts (components (present g no_options) more) = refl
peer_parts (components (absent vs) more) = refl
peer_parts (components no_options more) = refl
peer_parts v = refl

abbrev pub tunnel_of : Option Value → Option Value → Tunnel
tunnel_of (Some bearer) (Some teid) = record { bearer = record { 0 = to_number bearer }; teid = to_number teid }
tunnel_of bearer teid = record { bearer = record { 0 = 0 }; teid = 0 }

pub tunnel_parts : (v : Value) → to_tunnel v ≡ tunnel_of (part_at 0 v) (part_at 1 v)
tunnel_parts (components (present b (present t vs)) more) = refl
tunnel_parts (components (present b (absent vs)) more) = refl
tunnel_parts (components (present b no_options) more) = refl
tunnel_parts (components (absent vs) more) = refl
tunnel_parts (components no_options more) = refl
tunnel_parts v = refl

pub tunnels_members : (v : Value) → to_tunnels v ≡ to_each to_tunnel (members_in v)
tunnels_members (list vs) = refl
tunnels_members v = refl

pub statuses_members : (v : Value) → to_statuses v ≡ to_each to_status (members_in v)
statuses_members (list vs) = refl
statuses_members v = refl

-- ---- one by one
pub member_next : (xs : List CodeValue) (i : ℕ) (x : CodeValue) → i < length xs → x ≡ get_or xs i x
    → values_view (drop i xs) ≡ value (view x) (values_view (drop (i + 1) xs))
member_next xs i x h e = ap values_view (drop_more xs i x h ∙ ap (λ (y : CodeValue). y ∷ drop (i + 1) xs) (sym e))

pub read_next : {T : Type 0} (old new : List T) (t u : T) (rest all : List T) → new ≡ old ++ t ∷ [] → t ≡ u → old ++ (u ∷ rest) ≡ all
    → new ++ rest ≡ all
read_next old new t u rest all e f h = ap (λ xs. xs ++ rest) e ∙ append_assoc old (t ∷ []) rest ∙ ap (λ x. old ++ (x ∷ rest)) f ∙ h

pub each_written : {T : Type 0} (f : T → Value) (xs : List T) → from_each f xs ≡ values_of (map f xs)
each_written f [] = refl
each_written f (x ∷ xs) = ap (value (f x)) (each_written f xs)

-- a component that is there
abbrev pub joined : Option (Option CodeValue) → Option CodeValue
joined (Some x) = x
joined None = None

pub option_there : (n : ℕ) (xs : List (Option CodeValue)) → option_at n (options_view xs) ≡ option_map view (joined (slice_get xs n))
option_there n [] = refl
option_there zero (None ∷ xs) = refl
option_there zero (Some v ∷ xs) = refl
option_there (suc n) (None ∷ xs) = option_there n xs
option_there (suc n) (Some v ∷ xs) = option_there n xs

pub option_is : (n : ℕ) (xs : List (Option CodeValue)) (x r : Option CodeValue) → Some x ≡ slice_get xs n → r ≡ x
    → option_map view r ≡ option_at n (options_view xs)
option_is n xs x r h e = ap (option_map view) e ∙ ap (λ (y : Option (Option CodeValue)). option_map view (joined y)) h ∙ sym (option_there n xs)

pub option_none : (n : ℕ) (xs : List (Option CodeValue)) → None ≡ slice_get xs n → None ≡ option_at n (options_view xs)
option_none n xs h = ap (λ (y : Option (Option CodeValue)). option_map view (joined y)) h ∙ sym (option_there n xs)

lt_of : (i n : ℕ) → true ≡ ltb i n → i < n
lt_of i n h = grind (arith, nat_tests)

ge_of : (i n : ℕ) → false ≡ ltb i n → n ≤ i
ge_of i n h = grind (arith, nat_tests)

some_in : {T : Type 0} (xs : List T) (i : ℕ) (x : T) → i < length xs → x ≡ get_or xs i x → Some x ≡ slice_get xs i
some_in [] i x h e = absurd (omega arith)
some_in (y ∷ ys) zero x h e = ap Some e
some_in (y ∷ ys) (suc i) x h e = some_in ys i x (omega arith) e

none_in : {T : Type 0} (xs : List T) (i : ℕ) → length xs ≤ i → (let x : Option T = None in x) ≡ slice_get xs i
none_in [] i h = refl
none_in (y ∷ ys) zero h = absurd (omega arith)
none_in (y ∷ ys) (suc i) h = none_in ys i (omega arith)

pub some_at : {T : Type 0} (xs : List T) (i : ℕ) (x : T) → true ≡ ltb i (length xs) → x ≡ get_or xs i x → Some x ≡ slice_get xs i
some_at xs i x h e = some_in xs i x (lt_of i (length xs) h) e

pub none_at : {T : Type 0} (xs : List T) (i : ℕ) → false ≡ ltb i (length xs) → (let x : Option T = None in x) ≡ slice_get xs i
none_at xs i h = none_in xs i (ge_of i (length xs) h)

-- ---- the widest numbers
widest : (a b : Bool) → cond a (2 ^ 8) (cond b (2 ^ 16) (2 ^ 32)) ≤ 2 ^ 32
widest true b = omega arith
widest false true = omega arith
widest false false = omega arith

pub limit_most : (id : ℕ) → limit_of id ≤ 2 ^ 32
limit_most id = widest (id == 1 || (id == 4 || id == 19)) (id == 10)

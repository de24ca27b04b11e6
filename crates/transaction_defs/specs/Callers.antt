-- What an initiator keeps of its requests (the class 1 procedures of TS 38.473, 37.483 and 38.423, 8.1): for each peer and
-- terminal the last instance that it gave, and the request that is open. What stands for a request is a parameter.
use Rattle.std.specs.Prelude.{◌==◌, ℕ, ◌+◌, ◌-◌, ◌^◌, Bool, false, not, nat_le, if◌then◌else◌, List, [], ◌∷◌, map, filter, Option, Some, None, is_some}
use Rattle.std.specs.List.{flat_map, list_any}
use Rattle.gnb_types.specs.declared.keys.Channel.{Channel}
use Rattle.gnb_types.specs.Orders.{channel_cmp}
use Rattle.tables.specs.Tables.{find, put, without, at}

-- the last instance that is ever given on a channel
abbrev pub last_instance : ℕ
last_instance = 2 ^ 32 - 1

-- an open request: its instance, at which of the coming ticks it expires if it does, and what is put again at a tick
pub record Opened (M : Type 0) : Type 0 where
  pub instance : ℕ
  pub deadline : Option ℕ
  pub request : Option M

pub record Caller (M : Type 0) : Type 0 where
  pub last : List (Channel × ℕ)
  pub opened : List (Channel × Opened M)

abbrev pub no_requests : {M : Type 0} → Caller M
no_requests = record { last = []; opened = [] }

unfoldable pub opened_at : {M : Type 0} → Caller M → Channel → Option (Opened M)
opened_at r c = find channel_cmp r.opened c

unfoldable pub is_open : {M : Type 0} → Caller M → Channel → Bool
is_open r c = is_some (opened_at r c)

-- ---- a request is begun: it gets the next instance

pub data Begin (M : Type 0) : Type 0 where
  begun : (instance : ℕ) (after : Caller M) → Begin M
  running : Begin M
  spent : Begin M

abbrev pub begun_with : {M : Type 0} → Caller M → Channel → Option ℕ → ℕ → Begin M
begun_with r c deadline instance = begun instance (record {
  last = put channel_cmp r.last c instance;
  opened = put channel_cmp r.opened c (record { instance = instance; deadline = deadline; request = None });
})

abbrev pub begin_after : {M : Type 0} → Caller M → Channel → Option ℕ → Option (Opened M) → ℕ → Begin M
begin_after r c deadline (Some request) last = running
begin_after r c deadline None last = if last == last_instance then spent else begun_with r c deadline (last + 1)

unfoldable pub begin : {M : Type 0} → Caller M → Channel → Option ℕ → Begin M
begin r c deadline = begin_after r c deadline (opened_at r c) (at channel_cmp 0 r.last c)

-- what is put again at each tick is kept beside the open request
abbrev pub with_request : {M : Type 0} → Caller M → Channel → M → Option (Opened M) → Caller M
with_request r c request None = r
with_request r c request (Some opened) = record r { opened = put channel_cmp r.opened c (record opened { request = Some request }) }

unfoldable pub keep_request : {M : Type 0} → Caller M → Channel → M → Caller M
keep_request r c request = with_request r c request (opened_at r c)

-- ---- a reply: it is taken where the open request has its instance

abbrev pub has_instance : {M : Type 0} → Option (Opened M) → ℕ → Bool
has_instance None instance = false
has_instance (Some opened) instance = opened.instance == instance

unfoldable pub is_awaited : {M : Type 0} → Caller M → Channel → ℕ → Bool
is_awaited r c instance = has_instance (opened_at r c) instance

unfoldable pub close : {M : Type 0} → Caller M → Channel → Caller M
close r c = record r { opened = without channel_cmp r.opened c }

-- ---- a tick: each open request is due once, in the order of terminal and peer; it is put again, or expires and is closed

pub data Due (M : Type 0) : Type 0 where
  repeats : (channel : Channel) (request : M) → Due M
  expires : (channel : Channel) → Due M

-- this tick is the deadline's last
abbrev pub is_last : Option ℕ → Bool
is_last None = false
is_last (Some ticks) = nat_le ticks 1

abbrev pub one_less : Option ℕ → Option ℕ
one_less None = None
one_less (Some ticks) = Some (ticks - 1)

abbrev pub repeated : {M : Type 0} → Channel → Option M → List (Due M)
repeated c None = []
repeated c (Some request) = repeats c request ∷ []

abbrev pub due_of : {M : Type 0} → Channel × Opened M → List (Due M)
due_of e = if is_last e.1.deadline then expires e.0 ∷ [] else repeated e.0 e.1.request

abbrev pub aged : {M : Type 0} → Channel × Opened M → Channel × Opened M
aged e = (e.0, record e.1 { deadline = one_less e.1.deadline })

unfoldable pub due : {M : Type 0} → Caller M → List (Due M)
due r = flat_map due_of r.opened

unfoldable pub after_tick : {M : Type 0} → Caller M → Caller M
after_tick r = record r { opened = map aged (filter (λ e. not (is_last e.1.deadline)) r.opened) }

-- no request of the terminal is open
unfoldable pub rests : {M : Type 0} → Caller M → ℕ → Bool
rests r ue = not (list_any (λ e. e.0.ue == ue) r.opened)

-- The least and the greatest lists of tunnels and of statuses that the rows use.
use Rattle.std.specs.Prelude.{ℕ, List, [], ◌∷◌, Bool, true, false, Option, Some, None}
use Rattle.gnb_types.specs.declared.plans.SnStatus.{SnStatus}
use Rattle.gnb_types.specs.declared.plans.Tunnel.{Tunnel}
use Rattle.law_messages.specs.message_rows.Rows.{tunnel}

abbrev pub least_tunnels : List Tunnel
least_tunnels = tunnel 1 0 ∷ []

abbrev pub tunnels_of_all : List Tunnel
tunnels_of_all = tunnel 1 4294967288 ∷ tunnel 2 4294967289 ∷ tunnel 3 4294967290 ∷ tunnel 4 4294967291 ∷ tunnel 5 4294967292 ∷ tunnel 6 4294967293 ∷ tunnel 7 4294967294 ∷ tunnel 8 4294967295 ∷ []

abbrev pub status : ℕ → ℕ → ℕ → Option (List Bool) → SnStatus
status bearer dl_next ul_first received =
    record { bearer = record { 0 = bearer }; dl_next = dl_next; ul_first = ul_first; ul_received = received }

abbrev pub least_statuses : List SnStatus
least_statuses = status 1 0 0 None ∷ []

abbrev pub greatest_statuses : List SnStatus
greatest_statuses =
    status 1 0 0 (Some (false ∷ []))
    ∷ status 8 4294967295 4294967295 (Some (true ∷ true ∷ true ∷ true ∷ true ∷ true ∷ true ∷ true ∷ true ∷ true ∷ true ∷ true ∷ true ∷ true ∷ true ∷ true ∷ true ∷ [])) ∷ []

abbrev pub sixteen : List ℕ
sixteen = 0xff ∷ 0xff ∷ 0xff ∷ 0xff ∷ 0xff ∷ 0xff ∷ 0xff ∷ 0xff ∷ 0xff ∷ 0xff ∷ 0xff ∷ 0xff ∷ 0xff ∷ 0xff ∷ 0xff ∷ 0xff ∷ []

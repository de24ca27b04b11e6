-- Tallies: by bearer and direction how many items there are, and how many of them show each COUNT.
use Rattle.std.specs.Prelude.{◌≡◌, ◌==◌, ◌<◌, ◌≤◌, ℕ, ◌+◌, ◌-◌, if◌then◌else◌, List, [], ◌∷◌, Option, Some, None}
use Rattle.std.specs.Ordering.{nat_cmp}
use Rattle.gnb_types.specs.declared.keys.EntityKey.{EntityKey}
use Rattle.gnb_types.specs.Orders.{entity_cmp}
use Rattle.tables.specs.Tables.{find, put, without, at, first_entry}
use Rattle.transport_defs.specs.declared.Item.{Item}
use Rattle.links.specs.declared.link_tallies.tallies.Tally.{Tally}

-- ---- one bearer and direction

abbrev pub no_items : Tally
no_items = record { items = 0; shown = [] }

-- one more item shows the COUNT c
unfoldable pub shown_more : List (ℕ × ℕ) → ℕ → List (ℕ × ℕ)
shown_more m c = put nat_cmp m c (at nat_cmp 0 m c + 1)

-- one fewer does; a COUNT that no item shows has no entry
abbrev pub with_times : List (ℕ × ℕ) → ℕ → ℕ → List (ℕ × ℕ)
with_times m c times = if times == 0 then without nat_cmp m c else put nat_cmp m c times

unfoldable pub shown_less : List (ℕ × ℕ) → ℕ → List (ℕ × ℕ)
shown_less m c = with_times m c (at nat_cmp 0 m c - 1)

-- an item comes, or goes, with the COUNT that it shows
abbrev pub entered_by : Tally → Option ℕ → Tally
entered_by tally None = record tally { items = tally.items + 1 }
entered_by tally (Some c) = record { items = tally.items + 1; shown = shown_more tally.shown c }

abbrev pub left_by : Tally → Option ℕ → Tally
left_by tally None = record tally { items = tally.items - 1 }
left_by tally (Some c) = record { items = tally.items - 1; shown = shown_less tally.shown c }

-- ---- all of them

abbrev pub Tallies : Type 0
Tallies = List (EntityKey × Tally)

unfoldable pub entered : Tallies → EntityKey → Option ℕ → Tallies
entered t key count = put entity_cmp t key (entered_by (at entity_cmp no_items t key) count)

abbrev pub left_at : Tallies → EntityKey → Option ℕ → Option Tally → Tallies
left_at t key count None = t
left_at t key count (Some tally) = put entity_cmp t key (left_by tally count)

unfoldable pub left : Tallies → EntityKey → Option ℕ → Tallies
left t key count = left_at t key count (find entity_cmp t key)

unfoldable pub all_left : {X : Type 0} → Tallies → List (Item X) → Tallies
all_left t [] = t
all_left t (item ∷ items) = all_left (left t item.key item.count) items

-- how many items there are of a bearer and direction, and how many of them show a COUNT
unfoldable pub number : Tallies → EntityKey → ℕ
number t key = (at entity_cmp no_items t key).items

unfoldable pub times : Tallies → EntityKey → ℕ → ℕ
times t key c = at nat_cmp 0 (at entity_cmp no_items t key).shown c

abbrev pub key_in : Option (ℕ × ℕ) → Option ℕ
key_in None = None
key_in (Some e) = Some e.0

-- the least COUNT that has an entry
unfoldable pub least_shown : Tallies → EntityKey → Option ℕ
least_shown t key = key_in (first_entry (at entity_cmp no_items t key).shown)

-- it is the least number at which f isn't 0
abbrev pub IsLeast : (ℕ → ℕ) → Option ℕ → Type 0
IsLeast f None = (c : ℕ) → f c ≡ 0
IsLeast f (Some c) = (0 < f c) × ((n : ℕ) → 0 < f n → c ≤ n)

-- Internal: beside the messages stand those in flight, each with its terminal, and how many there are of each terminal.
use Rattle.std.specs.Prelude.{◌≡◌, ◌==◌, ◌≤◌, ℕ, ◌+◌, ◌-◌, List, [], ◌∷◌, length, Option, Some, None, sum_by}
use Rattle.std.specs.Option.{option_map}
use Rattle.std.specs.List.{AllByRecursion}
use Rattle.std.specs.Map.{values_of}
use Rattle.std.specs.Ordering.{nat_cmp}
use Rattle.tables.specs.Tables.{find, put, at, IsSorted}
use Rattle.transport_defs.specs.declared.ControlMessage.{ControlMessage}
use Rattle.transport_defs.specs.Links.{most_control_messages}
use Rattle.links.specs.link_tallies.Tied.{one_if}

-- values under the numbers from k on
abbrev pub numbered : {X : Type 0} → ℕ → List X → List (ℕ × X)
numbered k [] = []
numbered k (x ∷ xs) = (k, x) ∷ numbered (k + 1) xs

-- the terminal of message n
abbrev pub terminal_of : {M : Type 0} → List (ControlMessage M) → ℕ → Option ℕ
terminal_of control_messages n = option_map (λ l. l.ue) (find nat_cmp (numbered 1 control_messages) n)

abbrev pub is_terminal : ℕ → ℕ → ℕ
is_terminal ue other = one_if (other == ue)

pub record BagIsKept {M : Type 0} (control_messages : List (ControlMessage M)) (flight counts : List (ℕ × ℕ)) : Type 0 where
  pub sorted : IsSorted nat_cmp flight
  pub terminals : AllByRecursion (λ e. terminal_of control_messages e.0 ≡ Some e.1) flight
  pub counted : (ue : ℕ) → at nat_cmp 0 counts ue ≡ sum_by (is_terminal ue) (values_of flight)
  pub fewer : length flight ≤ length control_messages
  pub few : length control_messages ≤ most_control_messages

-- one fewer is counted
abbrev pub fewer_of : List (ℕ × ℕ) → ℕ → Option ℕ → List (ℕ × ℕ)
fewer_of counts ue None = counts
fewer_of counts ue (Some count) = put nat_cmp counts ue (count - 1)

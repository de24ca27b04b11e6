-- Worked transcripts: the first packet of a static terminal, on its way from the core to the terminal; and for each rule a short text that
-- breaks it.
use Rattle.std.specs.Prelude.{ℕ, List, [], ◌∷◌, codes}

-- sound
unfoldable pub first_packet : List (List ℕ)
first_packet =
    codes "> static u1 A 1 1 12 1 64"
    ∷ codes "> offer u1 b1 dl 45"
    ∷ codes "put A.up1/1 u1 b1 dl - 30FF00010000000145"
    ∷ codes "> get A.up1/1"
    ∷ codes "got A.up1/1 u1 b1 dl - 30FF00010000000145"
    ∷ codes "put A.du1/1 u1 b1 dl 0 34FF000F00000001000000840200000000000000800045"
    ∷ codes "> get A.du1/1"
    ∷ codes "got A.du1/1 u1 b1 dl 0 34FF000F00000001000000840200000000000000800045"
    ∷ codes "put r/u1/b1/dl/1 u1 b1 dl 0 800045"
    ∷ codes "> air u1 b1 dl"
    ∷ codes "got r/u1/b1/dl/1 u1 b1 dl 0 800045"
    ∷ codes "deliver u1 b1 dl 0 45"
    ∷ codes "end 5"
    ∷ []

-- `end` has the number of the events before it
unfoldable pub counts_no_event : List (List ℕ)
counts_no_event =
    codes "end 1"
    ∷ []

-- nothing stands on the tunnel
unfoldable pub takes_nothing : List (List ℕ)
takes_nothing =
    codes "> tick"
    ∷ codes "got A.du1/1 u1 b1 dl - 00"
    ∷ []

-- the terminal was never set
unfoldable pub puts_for_nobody : List (List ℕ)
puts_for_nobody =
    codes "> tick"
    ∷ codes "put A.du1/1 u1 b1 dl - 00"
    ∷ []

-- nothing was offered
unfoldable pub delivers_no_offer : List (List ℕ)
delivers_no_offer =
    codes "> tick"
    ∷ codes "deliver u1 b1 dl 0 45"
    ∷ []

-- nothing was offered, so nothing was delivered
unfoldable pub is_quiet_without_offers : List (List ℕ)
is_quiet_without_offers =
    codes "> tick"
    ∷ codes "quiet u1 b1 1 0"
    ∷ []

-- the packet was offered, and the terminal received nothing
unfoldable pub delivers_unseen : List (List ℕ)
delivers_unseen =
    codes "> static u1 A 1 1 12 1 64"
    ∷ codes "> offer u1 b1 dl 45"
    ∷ codes "deliver u1 b1 dl 0 45"
    ∷ []

-- an octet that spells no control message
unfoldable pub spells_nothing : List (List ℕ)
spells_nothing =
    codes "> tick"
    ∷ codes "put #1 A.cp core u0 00"
    ∷ []

-- neither `end` nor `stop`
unfoldable pub ends_early : List (List ℕ)
ends_early =
    codes "> tick"
    ∷ []

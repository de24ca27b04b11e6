use Rattle.std.proofs.Common.{◌≡◌, ℕ, ◌==◌, false, List, [], ◌∷◌, ◌++◌, length, sym, ◌∙◌, append_assoc}
use Rattle.std.specs.List.{flat_map}
use Rattle.nr_user_plane.specs.Frames.{range_octets, lost_octets}
use Rattle.nr_user_plane.proofs.frames.push_ranges.Goals as goal

ranges_pushed : (old pushed new : List ℕ) (lost slice : List (ℕ × ℕ)) (len : ℕ) → (length lost == 0) ≡ false → len ≡ length lost
    → slice ≡ lost
    → pushed ≡ old ++ len ∷ [] → new ≡ pushed ++ flat_map range_octets slice → new ≡ old ++ lost_octets lost
ranges_pushed old pushed new [] slice len some len_is slice_is push push_more = absurd (cc)
ranges_pushed old pushed new (range ∷ ranges) slice len some len_is slice_is push push_more =
    rw (push_more, push, len_is, slice_is) (append_assoc old (length (range ∷ ranges) ∷ []) (flat_map range_octets (range ∷ ranges)))

pub returns : goal.returns
returns c =
    ranges_pushed _ _ _ _ _ _ (sym c.is_empty.ensures ∙ c.if-is_empty.false) c.len.ensures c.as_slice.ensures c.in_ok-push.ensures.ok c.in_ok-push_pairs.ensures

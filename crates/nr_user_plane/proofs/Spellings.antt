-- The octets of a frame are those that are written for it, up to padding, and what is written is the frame.
use Rattle.std.proofs.Common.{◌≡◌, ℕ, ◌+◌, ◌-◌, ◌*◌, ◌/◌, ◌%◌, ◌^◌, ◌<◌, ◌≤◌, Option, Some, None, is_some, IfSome, Bool, List, [], ◌∷◌, ◌++◌, length, replicate, refl, sym, ◌∙◌, ap, arith, append_assoc, length-append, subst, lit≤}
use Rattle.std.specs.List.{flat_map}
use Rattle.std.proofs.lemmas.List.{length-replicate}
use Rattle.gnb_types.specs.Numbers.{be24, be32}
use Rattle.nr_user_plane.specs.declared.frames.Frame.{Frame}
use Rattle.nr_user_plane.specs.declared.frames.Frame.TheVariants.{Data, Status}
use Rattle.nr_user_plane.specs.Frames.{Nru, IsPadding, HasEnd, HasRanges, HasLost, AreOctets, AreApart, FitsFrame, HasRoom, number24, number32, flag, is_lost, range_octets, lost_octets, delivered_octets, field_octets, filled, nru_octets}

-- three octets and their number
pub be24-number24 : (a b c : ℕ) → a < 256 → b < 256 → c < 256 → be24 (number24 a b c) ≡ a ∷ b ∷ c ∷ []
be24-number24 a b c x y z =
    let high : number24 a b c / 65536 % 256 ≡ a = omega arith in
    let middle : number24 a b c / 256 % 256 ≡ b = omega arith in
    let low : number24 a b c % 256 ≡ c = omega arith in
    rw (high, middle, low) refl

pub be32-number32 : (a b c d : ℕ) → a < 256 → b < 256 → c < 256 → d < 256 → be32 (number32 a b c d) ≡ a ∷ b ∷ c ∷ d ∷ []
be32-number32 a b c d x y z w =
    let highest : number32 a b c d / 16777216 % 256 ≡ a = omega arith in
    let high : number32 a b c d / 65536 % 256 ≡ b = omega arith in
    let middle : number32 a b c d / 256 % 256 ≡ c = omega arith in
    let low : number32 a b c d % 256 ≡ d = omega arith in
    rw (highest, high, middle, low) refl

-- octets are those of the fields, and padding after them
pub record IsSpelled (fields octets : List ℕ) : Type 0 where
  pub padding : List ℕ
  pub parts : octets ≡ fields ++ padding
  pub is_padding : IsPadding padding

pub end_spelled : (delivered : Option ℕ) (octets : List ℕ) → AreOctets octets → HasEnd delivered octets
    → IsSpelled (delivered_octets delivered) octets
end_spelled None octets small h = record { padding = octets; parts = refl; is_padding = h }
end_spelled (Some number) [] small h = absurd h
end_spelled (Some number) (a ∷ []) small h = absurd h
end_spelled (Some number) (a ∷ b ∷ []) small h = absurd h
end_spelled (Some number) (a ∷ b ∷ c ∷ octets) small h = record {
  padding = octets;
  parts = ap (λ (xs : List ℕ). xs ++ octets) (sym (ap be24 h.0 ∙ be24-number24 a b c small.0 small.1.0 small.1.1.0));
  is_padding = h.1;
}

pub ranges_spelled : (least : ℕ) (ranges : List (ℕ × ℕ)) (delivered : Option ℕ) (octets : List ℕ) → AreOctets octets
    → HasRanges least ranges delivered octets
    → IsSpelled (flat_map range_octets ranges ++ delivered_octets delivered) octets
ranges_spelled least [] delivered octets small h = end_spelled delivered octets small h
ranges_spelled least (range ∷ ranges) delivered [] small h = absurd h
ranges_spelled least (range ∷ ranges) delivered (a ∷ []) small h = absurd h
ranges_spelled least (range ∷ ranges) delivered (a ∷ b ∷ []) small h = absurd h
ranges_spelled least (range ∷ ranges) delivered (a ∷ b ∷ c ∷ []) small h = absurd h
ranges_spelled least (range ∷ ranges) delivered (a ∷ b ∷ c ∷ d ∷ []) small h = absurd h
ranges_spelled least (range ∷ ranges) delivered (a ∷ b ∷ c ∷ d ∷ e ∷ []) small h = absurd h
ranges_spelled least (range ∷ ranges) delivered (a ∷ b ∷ c ∷ d ∷ e ∷ f ∷ octets) small h =
    let rest = ranges_spelled (range.1 + 1) ranges delivered octets small.1.1.1.1.1.1 h.3 in
    let pair : range_octets (number24 a b c, number24 d e f) ≡ a ∷ b ∷ c ∷ d ∷ e ∷ f ∷ [] =
    ap (λ (xs : List ℕ). xs ++ be24 (number24 d e f)) (be24-number24 a b c small.0 small.1.0 small.1.1.0)
    ∙ ap (λ (xs : List ℕ). a ∷ b ∷ c ∷ xs) (be24-number24 d e f small.1.1.1.0 small.1.1.1.1.0 small.1.1.1.1.1.0) in
    record {
      padding = rest.padding;
      parts = ap (λ (xs : List ℕ). a ∷ b ∷ c ∷ d ∷ e ∷ f ∷ xs) rest.parts
          ∙ ap (λ (xs : List ℕ). xs ++ ((flat_map range_octets ranges ++ delivered_octets delivered) ++ rest.padding)) (sym (ap range_octets h.0 ∙ pair));
      is_padding = rest.is_padding;
    }

pub lost_spelled : (lost : List (ℕ × ℕ)) (delivered : Option ℕ) (octets : List ℕ) → AreOctets octets → HasLost lost delivered octets
    → IsSpelled (lost_octets lost ++ delivered_octets delivered) octets
lost_spelled [] delivered octets small h = end_spelled delivered octets small h
lost_spelled (range ∷ ranges) delivered [] small h = absurd h
lost_spelled (range ∷ ranges) delivered (count ∷ octets) small h =
    let rest = ranges_spelled 0 (range ∷ ranges) delivered octets small.1 h.2 in
    record {
      padding = rest.padding;
      parts = rw h.0 (ap (λ (xs : List ℕ). length (range ∷ ranges) ∷ xs) rest.parts);
      is_padding = rest.is_padding;
    }

pub frame_spelled : (frame : Frame) (octets : List ℕ) → AreOctets octets → Nru frame octets → IsSpelled (field_octets frame) octets
frame_spelled (Data poll restart sn) [] small h = absurd h
frame_spelled (Data poll restart sn) (first ∷ []) small h = absurd h
frame_spelled (Data poll restart sn) (first ∷ second ∷ []) small h = absurd h
frame_spelled (Data poll restart sn) (first ∷ second ∷ a ∷ []) small h = absurd h
frame_spelled (Data poll restart sn) (first ∷ second ∷ a ∷ b ∷ []) small h = absurd h
frame_spelled (Data poll restart sn) (first ∷ second ∷ a ∷ b ∷ c ∷ padding) small h = record {
  padding = padding;
  parts = rw (h.0, h.1) (ap (λ (xs : List ℕ). flag poll ∷ flag restart ∷ xs ++ padding)
      (sym (ap be24 h.2 ∙ be24-number24 a b c small.1.1.0 small.1.1.1.0 small.1.1.1.1.0)));
  is_padding = h.3;
}
frame_spelled (Status room lost delivered) [] small h = absurd h
frame_spelled (Status room lost delivered) (first ∷ []) small h = absurd h
frame_spelled (Status room lost delivered) (first ∷ second ∷ []) small h = absurd h
frame_spelled (Status room lost delivered) (first ∷ second ∷ a ∷ []) small h = absurd h
frame_spelled (Status room lost delivered) (first ∷ second ∷ a ∷ b ∷ []) small h = absurd h
frame_spelled (Status room lost delivered) (first ∷ second ∷ a ∷ b ∷ c ∷ []) small h = absurd h
frame_spelled (Status room lost delivered) (first ∷ second ∷ a ∷ b ∷ c ∷ d ∷ octets) small h =
    let s = small.1.1 in
    let rest = lost_spelled lost delivered octets s.1.1.1.1 h.3 in
    record {
      padding = rest.padding;
      parts = rw (h.0, h.1) (
          ap (λ (xs : List ℕ). (16 + 4 * flag (is_some delivered) + flag (is_lost lost)) ∷ 0 ∷ a ∷ b ∷ c ∷ d ∷ xs) rest.parts
          ∙ ap (λ (xs : List ℕ). (16 + 4 * flag (is_some delivered) + flag (is_lost lost)) ∷ 0 ∷ xs ++ ((lost_octets lost ++ delivered_octets delivered) ++ rest.padding))
          (sym (ap be32 h.2 ∙ be32-number32 a b c d s.0 s.1.0 s.1.1.0 s.1.1.1.0)));
      is_padding = rest.is_padding;
    }

-- of 4n - 2 octets they are those that are written
pub spelled_once : (fields octets : List ℕ) → length octets % 4 ≡ 2 → IsSpelled fields octets → octets ≡ filled fields
unfolding filled
spelled_once fields octets even s =
    let len : length octets ≡ length fields + length s.padding = ap length s.parts ∙ length-append fields s.padding in
    let short = s.is_padding.0 in
    let missing : length s.padding ≡ (6 - length fields % 4) % 4 = omega arith in
    s.parts ∙ ap (λ (xs : List ℕ). fields ++ xs) (s.is_padding.1 ∙ ap (λ n. replicate n 0) missing)

pub one_spelling : (frame : Frame) (one other : List ℕ) → AreOctets one → AreOctets other → length one % 4 ≡ 2 → length other % 4 ≡ 2
    → Nru frame one → Nru frame other → one ≡ other
one_spelling frame one other small small' even even' h h' =
    spelled_once (field_octets frame) one even (frame_spelled frame one small h)
    ∙ sym (spelled_once (field_octets frame) other even' (frame_spelled frame other small' h'))

-- What is written is read.
number24-be24 : (n : ℕ) → n < 2 ^ 24 → n ≡ number24 (n / 65536 % 256) (n / 256 % 256) (n % 256)
number24-be24 n small = omega arith

number32-be32 : (n : ℕ) → n < 2 ^ 32 → n ≡ number32 (n / 16777216 % 256) (n / 65536 % 256) (n / 256 % 256) (n % 256)
number32-be32 n small = omega arith

pub end_written : (delivered : Option ℕ) (padding : List ℕ) → IfSome delivered (λ number. number < 2 ^ 24) → IsPadding padding
    → HasEnd delivered (delivered_octets delivered ++ padding)
end_written None padding fits h = h
end_written (Some number) padding fits h = (number24-be24 number fits, h)

pub ranges_written : (least : ℕ) (ranges : List (ℕ × ℕ)) (delivered : Option ℕ) (octets : List ℕ) → AreApart least ranges
    → HasEnd delivered octets
    → HasRanges least ranges delivered (flat_map range_octets ranges ++ octets)
ranges_written least [] delivered octets apart h = h
ranges_written least (range ∷ ranges) delivered octets apart h =
    let end : range.1 < 2 ^ 24 = apart.2 in
    let order : range.0 ≤ range.1 = apart.1 in
    let start : range.0 < 2 ^ 24 = omega arith in (
      ap (λ n. (n, range.1)) (number24-be24 range.0 start)
          ∙ ap (λ n. (number24 (range.0 / 65536 % 256) (range.0 / 256 % 256) (range.0 % 256), n)) (number24-be24 range.1 end),
      apart.0,
      order,
      ranges_written (range.1 + 1) ranges delivered octets apart.3 h,
    )

pub lost_written : (lost : List (ℕ × ℕ)) (delivered : Option ℕ) (octets : List ℕ) → length lost ≤ 7 → AreApart 0 lost
    → HasEnd delivered octets
    → HasLost lost delivered (lost_octets lost ++ octets)
lost_written [] delivered octets few apart h = h
lost_written (range ∷ ranges) delivered octets few apart h = (refl, few, ranges_written 0 (range ∷ ranges) delivered octets apart h)

padding_of : (n : ℕ) → n ≤ 3 → IsPadding (replicate n 0)
padding_of n few = let len = length-replicate {A = ℕ} n 0 in (rw len few, rw len refl)

pub frame_written : (frame : Frame) → FitsFrame frame → HasRoom frame → Nru frame (nru_octets frame)
unfolding filled
frame_written (Data poll restart sn) fits room = (refl, refl, number24-be24 sn fits, padding_of 1 (lit≤ tt))
frame_written (Status size lost delivered) fits room =
    let fields = lost_octets lost ++ delivered_octets delivered in
    let zeros : List ℕ = replicate ((6 - length (field_octets (Status size lost delivered)) % 4) % 4) 0 in
    let end = end_written delivered zeros fits.2 (padding_of ((6 - length (field_octets (Status size lost delivered)) % 4) % 4) (omega arith)) in
    let H : List ℕ → Type 0 = HasLost lost delivered in
    (refl, refl, number32-be32 size room, subst H (sym (append_assoc (lost_octets lost) (delivered_octets delivered) zeros)) (lost_written lost delivered _ fits.0 fits.1 end))

pub length-nru_octets : (frame : Frame) → length (nru_octets frame) % 4 ≡ 2
unfolding filled
length-nru_octets frame =
    let zeros = (6 - length (field_octets frame) % 4) % 4 in
    let len = length-append (field_octets frame) (replicate zeros 0) in
    let len' = length-replicate {A = ℕ} zeros 0 in
    omega (arith, len, len')

-- the frames that the units write, octet by octet
pub nru_octets-data : (poll restart : Bool) (sn : ℕ) → nru_octets (Data poll restart sn) ≡ flag poll ∷ flag restart ∷ be24 sn ++ 0 ∷ []
unfolding filled
nru_octets-data poll restart sn = refl

pub nru_octets-delivered : (room number : ℕ) → nru_octets (Status room [] (Some number)) ≡ 20 ∷ 0 ∷ be32 room ++ be24 number ++ 0 ∷ []
unfolding filled
nru_octets-delivered room number = refl

pub nru_octets-nothing : (room : ℕ) → nru_octets (Status room [] None) ≡ 16 ∷ 0 ∷ be32 room
unfolding filled
nru_octets-nothing room = refl

pub nru_octets-lost : (room start end : ℕ)
    → nru_octets (Status room ((start, end) ∷ []) None) ≡ 17 ∷ 0 ∷ be32 room ++ 1 ∷ be24 start ++ be24 end ++ 0 ∷ []
unfolding filled
nru_octets-lost room start end = refl

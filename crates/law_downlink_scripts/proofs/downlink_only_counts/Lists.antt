-- Packets that are numbered on from a COUNT, as places in a list.
use Rattle.std.proofs.Common.{◌≡◌, ℕ, ◌+◌, false, List, [], ◌∷◌, ◌++◌, length, map, Some, slice_get, refl, sym, ap, ◌∙◌, subst, arith, append_assoc, length-append}
use Rattle.std.specs.List.{AllByRecursion}
use Rattle.unit_defs.specs.Ways.{Pdu, packet_pdu, Load, frame}
use Rattle.law_downlink_scripts.specs.downlink_only_counts.Placed.{LoadHas, IsPlaced}
use Rattle.law_downlink_scripts.proofs.downlink_only_facts.Views.{OnTunnel, OnRadio, load_of, pdu_of, pdus_from, frames_from}

slice_at : (before : List (List ℕ)) (p : List ℕ) (more : List (List ℕ)) → slice_get (before ++ (p ∷ more)) (length before) ≡ Some p
slice_at [] p more = refl
slice_at (b ∷ before) p more = slice_at before p more

pub at_place : (before : List (List ℕ)) (p : List ℕ) (more : List (List ℕ)) (count : ℕ) → count ≡ length before → slice_get (before ++ (p ∷ more)) count ≡ Some p
at_place before p more count e = ap (slice_get (before ++ (p ∷ more))) e ∙ slice_at before p more

abbrev RadioPlaced : List (List ℕ) → List OnRadio → Type 0
RadioPlaced offered items = AllByRecursion (λ (item : OnRadio). IsPlaced offered (λ count packet. item.content.says ≡ packet_pdu count packet)) items

abbrev FramesPlaced : List (List ℕ) → List OnTunnel → Type 0
FramesPlaced offered items = AllByRecursion (λ (item : OnTunnel). IsPlaced offered (LoadHas item.content.says)) items

longer : (before : List (List ℕ)) (p : List ℕ) (count : ℕ) → count ≡ length before → count + 1 ≡ length (before ++ p ∷ [])
longer before p count e = omega (arith, e, length-append before (p ∷ []))

pub radio_placed : (ps : List (List ℕ)) (items : List OnRadio) (count : ℕ) (before rest : List (List ℕ)) → count ≡ length before
    → map pdu_of items ≡ pdus_from count ps → RadioPlaced (before ++ (ps ++ rest)) items
radio_placed ps [] count before rest e is = tt
radio_placed [] (item ∷ items) count before rest e is = absurd cc
radio_placed (p ∷ ps) (item ∷ items) count before rest e is =
    let says : item.content.says ≡ packet_pdu count p = cc in
    let others : map pdu_of items ≡ pdus_from (count + 1) ps = cc in (
      λ c q has. let same : packet_pdu count p ≡ packet_pdu c q = sym says ∙ has in first c q same,
      subst (λ (xs : List (List ℕ)). RadioPlaced xs items) (append_assoc before (p ∷ []) (ps ++ rest))
          (radio_placed ps items (count + 1) (before ++ p ∷ []) rest (longer before p count e) others),
    )
  where
    first : (c : ℕ) (q : List ℕ) → packet_pdu count p ≡ packet_pdu c q → slice_get (before ++ ((p ∷ ps) ++ rest)) c ≡ Some q
    first c q same =
        let counts : count ≡ c = cc in
        let packets : p ≡ q = cc in
        ap (slice_get (before ++ (p ∷ (ps ++ rest)))) (sym counts) ∙ at_place before p (ps ++ rest) count e ∙ ap Some packets

pub frames_placed : (ps : List (List ℕ)) (items : List OnTunnel) (number count : ℕ) (before rest : List (List ℕ)) → count ≡ length before
    → map load_of items ≡ frames_from number count ps → FramesPlaced (before ++ (ps ++ rest)) items
frames_placed ps [] number count before rest e is = tt
frames_placed [] (item ∷ items) number count before rest e is = absurd cc
frames_placed (p ∷ ps) (item ∷ items) number count before rest e is =
    let says : item.content.says ≡ frame false false number (Some (packet_pdu count p)) = cc in
    let others : map load_of items ≡ frames_from (number + 1) (count + 1) ps = cc in (
      λ c q has. first c q (subst (λ (l : Load Pdu). LoadHas l c q) says has),
      subst (λ (xs : List (List ℕ)). FramesPlaced xs items) (append_assoc before (p ∷ []) (ps ++ rest))
          (frames_placed ps items (number + 1) (count + 1) (before ++ p ∷ []) rest (longer before p count e) others),
    )
  where
    first : (c : ℕ) (q : List ℕ) → Some (packet_pdu count p) ≡ Some (packet_pdu c q) → slice_get (before ++ ((p ∷ ps) ++ rest)) c ≡ Some q
    first c q same =
        let counts : count ≡ c = cc in
        let packets : p ≡ q = cc in
        ap (slice_get (before ++ (p ∷ (ps ++ rest)))) (sym counts) ∙ at_place before p (ps ++ rest) count e ∙ ap Some packets

-- two ways to cut a list at one length are the same
pub same_rest : {X : Type 0} (a b c d : List X) → a ++ b ≡ c ++ d → length a ≡ length c → b ≡ d
same_rest [] b [] d e n = e
same_rest [] b (x ∷ c) d e n = absurd (omega (arith, n))
same_rest (x ∷ a) b [] d e n = absurd (omega (arith, n))
same_rest (x ∷ a) b (y ∷ c) d e n =
    let rests : a ++ b ≡ c ++ d = cc in
    let lengths : length a ≡ length c = omega (arith, n) in same_rest a b c d rests lengths

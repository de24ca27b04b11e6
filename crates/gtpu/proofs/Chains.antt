-- Chains of extension headers: one header more at the end, and that octets are one chain and no other.
use Rattle.std.proofs.Common.{◌≡◌, ℕ, ◌-◌, ◌<◌, ◌==◌, Bool, true, false, cond, List, [], ◌∷◌, ◌++◌, length, take, find, Some, None, option_map, refl, sym, ap, subst, ◌∙◌, inl, inr, true≢false, append_assoc, append-nil, length-append, arith, take_at, eq-eqb}
use Rattle.std.specs.List.{AllByRecursion}
use Rattle.gtpu.specs.declared.GtpuError.{GtpuError}
use Rattle.gtpu.specs.Headers.{ExtensionHeader, IsHeader, units, may_have, is_required, header_octets, first_type, chain_octets, Begins, AreHeaders, IsChain, SplitsOff, content_of}
use Rattle.gnb_types.specs.Refusals.{IsFirst}
use Rattle.gtpu.specs.Refusals.{HasWrongLength, IsRequired, Meets, faults_at, header_refusals}

-- ---- one header more at the end

first_type-push : (hs : List ExtensionHeader) (h : ExtensionHeader) (next : ℕ) → first_type (hs ++ h ∷ []) next ≡ first_type hs h.code
first_type-push [] h next = refl
first_type-push (k ∷ hs) h next = refl

chain_octets-push : (hs : List ExtensionHeader) (h : ExtensionHeader) (next : ℕ)
    → chain_octets (hs ++ h ∷ []) next ≡ chain_octets hs h.code ++ header_octets h next
chain_octets-push [] h next = append-nil (header_octets h next)
chain_octets-push (k ∷ hs) h next =
    ap (λ (x : ℕ). header_octets k x ++ chain_octets (hs ++ h ∷ []) next) (first_type-push hs h next)
    ∙ ap (λ (x : List ℕ). header_octets k (first_type hs h.code) ++ x) (chain_octets-push hs h next)
    ∙ sym (append_assoc (header_octets k (first_type hs h.code)) (chain_octets hs h.code) (header_octets h next))

each-push : (hs : List ExtensionHeader) (h : ExtensionHeader) → AllByRecursion IsHeader hs → IsHeader h
    → AllByRecursion IsHeader (hs ++ h ∷ [])
each-push [] h each one = (one, tt)
each-push (k ∷ hs) h each one = (each.0, each-push hs h each.1 one)

-- headers were passed up to here
pub record Passes (first : ℕ) (octets : List ℕ) (code : ℕ) (rest : List ℕ) : Type 0 where
  pub hs : List ExtensionHeader
  pub begins : Begins first octets hs code rest

pub passes_none : (first : ℕ) (octets : List ℕ) → Passes first octets first octets
passes_none first octets = record { hs = []; begins = record { each = tt; first_is = refl; octets_are = refl } }

pub passes_more : (first : ℕ) (octets : List ℕ) (code : ℕ) (rest content : List ℕ) (next : ℕ) (after : List ℕ)
    → Passes first octets code rest → SplitsOff code rest content next after → Passes first octets next after
passes_more first octets code rest content next after p s =
    let h : ExtensionHeader = record { code = code; content = content } in
    let b = p.begins in
    record {
      hs = p.hs ++ h ∷ [];
      begins = record {
        each = each-push p.hs h b.each s.0;
        first_is = b.first_is ∙ sym (first_type-push p.hs h next);
        octets_are = b.octets_are ∙ ap (λ (x : List ℕ). chain_octets p.hs code ++ x) s.1
            ∙ sym (append_assoc (chain_octets p.hs code) (header_octets h next) after)
            ∙ ap (λ (x : List ℕ). x ++ after) (sym (chain_octets-push p.hs h next));
      };
    }

pub split_shorter : (code : ℕ) (rest content : List ℕ) (next : ℕ) (after : List ℕ) → SplitsOff code rest content next after
    → length after < length rest
split_shorter code rest content next after s = omega (arith, ap length s.1, length-append (content ++ next ∷ []) after)

-- at the end the octets passed are a chain
pub passes_all : (first : ℕ) (octets : List ℕ) (code : ℕ) (rest : List ℕ) → code ≡ 0 → Passes first octets code rest
    → IsChain first (take (length octets - length rest) octets)
passes_all first octets code rest none p =
    let e : octets ≡ chain_octets p.hs 0 ++ rest = subst (λ (c : ℕ). octets ≡ chain_octets p.hs c ++ rest) none p.begins.octets_are in
    let count : length (chain_octets p.hs 0) ≡ length octets - length rest = omega (arith, ap length e, length-append (chain_octets p.hs 0) rest) in
    let front : take (length octets - length rest) octets ≡ chain_octets p.hs 0 = ap (take (length octets - length rest)) e
    ∙ take_at (chain_octets p.hs 0) rest (length octets - length rest) count in
    (p.hs, record { each = p.begins.each; first_is = subst (λ (c : ℕ). first ≡ first_type p.hs c) none p.begins.first_is; octets_are = front ∙ sym (append-nil (chain_octets p.hs 0)) })

-- ---- octets begin with one header and no other

same_parts : (a b x y : List ℕ) → length a ≡ length b → a ++ x ≡ b ++ y → (a ≡ b) × (x ≡ y)
same_parts [] [] x y l e = (refl, e)
same_parts [] (m ∷ b) x y l e = absurd (omega arith)
same_parts (n ∷ a) [] x y l e = absurd (omega arith)
same_parts (n ∷ a) (m ∷ b) x y l e =
    let tails : a ++ x ≡ b ++ y = cc in
    let heads : n ≡ m = cc in
    let more = same_parts a b x y (omega arith) tails in
    (λ i. heads i ∷ more.0 i, more.1)

pub same_header : (h k : ExtensionHeader) (n m : ℕ) (x y : List ℕ) → IsHeader h → IsHeader k → h.code ≡ k.code
    → header_octets h n ++ x ≡ header_octets k m ++ y → (h ≡ k) × (n ≡ m) × (x ≡ y)
same_header h k n m x y p q codes e =
    let counts : units h ≡ units k = cc in
    let lengths : length h.content ≡ length k.content = omega (arith, p.whole, q.whole) in
    let tails : (h.content ++ n ∷ []) ++ x ≡ (k.content ++ m ∷ []) ++ y = cc in
    let parts = same_parts h.content k.content (n ∷ x) (m ∷ y) lengths (sym (append_assoc h.content (n ∷ []) x) ∙ tails ∙ append_assoc k.content (m ∷ []) y) in
    let after : n ∷ x ≡ m ∷ y = parts.1 in
    let nexts : n ≡ m = cc in
    let rests : x ≡ y = cc in
    (λ i. record { code = codes i; content = parts.0 i }, nexts, rests)

-- no header of this type stands at the front
abbrev pub IsStuck : ℕ → List ℕ → Type 0
IsStuck code rest = (h : ExtensionHeader) (next : ℕ) (after : List ℕ) → IsHeader h → code ≡ h.code → rest ≡ header_octets h next ++ after
    → ⊥

pub stuck_none : (rest : List ℕ) → IsStuck 0 rest
stuck_none rest h next after p code e = omega (arith, p.some, code)

pub stuck_required : (code : ℕ) (rest : List ℕ) → is_required code ≡ true → IsStuck code rest
stuck_required code rest required h next after p is e = true≢false (sym required ∙ ap is_required is ∙ p.passed)

pub stuck_wrong : (code : ℕ) (rest : List ℕ) → HasWrongLength code rest → IsStuck code rest
stuck_wrong code [] wrong h next after p is e = absurd cc
stuck_wrong code (n ∷ rest) (inl wrong) h next after p is e =
    let count : n ≡ units h = cc in
    true≢false (sym p.size ∙ ap (may_have h.code) (sym count) ∙ ap (λ (c : ℕ). may_have c n) (sym is) ∙ wrong)
stuck_wrong code (n ∷ rest) (inr long) h next after p is e =
    let count : n ≡ units h = cc in
    let tail : rest ≡ (h.content ++ next ∷ []) ++ after = cc in
    omega (arith, p.whole, long, ap length tail, length-append (h.content ++ next ∷ []) after, length-append h.content (next ∷ []))

-- Where two readings of the same octets both end, they are one.
pub same_end : (first : ℕ) (octets : List ℕ) (hs ks : List ExtensionHeader) (c d : ℕ) (r s : List ℕ) → Begins first octets hs c r
    → IsStuck c r → Begins first octets ks d s → IsStuck d s → (hs ≡ ks) × (c ≡ d) × (r ≡ s)
same_end first octets [] [] c d r s p stop q halt = (refl, sym p.first_is ∙ q.first_is, sym p.octets_are ∙ q.octets_are)
same_end first octets [] (k ∷ ks) c d r s p stop q halt =
    absurd (stop k (first_type ks d) (chain_octets ks d ++ s) q.each.0 (sym p.first_is ∙ q.first_is) (sym p.octets_are ∙ q.octets_are ∙ append_assoc (header_octets k (first_type ks d)) (chain_octets ks d) s))
same_end first octets (h ∷ hs) [] c d r s p stop q halt =
    absurd (halt h (first_type hs c) (chain_octets hs c ++ r) p.each.0 (sym q.first_is ∙ p.first_is) (sym q.octets_are ∙ p.octets_are ∙ append_assoc (header_octets h (first_type hs c)) (chain_octets hs c) r))
same_end first octets (h ∷ hs) (k ∷ ks) c d r s p stop q halt =
    let e = sym (append_assoc (header_octets h (first_type hs c)) (chain_octets hs c) r) ∙ sym p.octets_are ∙ q.octets_are
    ∙ append_assoc (header_octets k (first_type ks d)) (chain_octets ks d) s in
    let one = same_header h k (first_type hs c) (first_type ks d) (chain_octets hs c ++ r) (chain_octets ks d ++ s) p.each.0 q.each.0 (sym p.first_is ∙ q.first_is) e in
    let more = same_end (first_type hs c) (chain_octets hs c ++ r) hs ks c d r s
    (record { each = p.each.1; first_is = refl; octets_are = refl }) stop
    (record { each = q.each.1; first_is = one.1; octets_are = one.2 }) halt in
    (λ i. one.0 i ∷ more.0 i, more.1, more.2)

-- the headers of a chain are determined
pub one_chain : (first : ℕ) (octets : List ℕ) (hs ks : List ExtensionHeader) → AreHeaders hs first octets → AreHeaders ks first octets
    → hs ≡ ks
one_chain first octets hs ks p q = (same_end first octets hs ks 0 0 [] [] p (stuck_none []) q (stuck_none [])).0

-- ---- faults

-- the fault of a header is the one of all octets
pub fault_then : (first : ℕ) (octets : List ℕ) (code : ℕ) (rest : List ℕ) (e : GtpuError) → 0 < code → Passes first octets code rest
    → IsFirst (faults_at code rest) e → IsFirst (header_refusals first octets) e
fault_then first octets code rest e some p (inl x) = inl (record { before = p.hs; code = code; rest = rest; begins = p.begins; some = some; wrong = x.0 }, x.1)
fault_then first octets code rest e some p (inr (not_required, inl x)) =
    let none : Meets IsRequired first octets → ⊥ = λ m.
    let same = same_end first octets p.hs m.before code m.code rest m.rest p.begins (stuck_wrong code rest x.0) m.begins (stuck_required m.code m.rest m.wrong) in
    not_required (ap is_required same.1 ∙ m.wrong) in
    inr (none, inl (record { before = p.hs; code = code; rest = rest; begins = p.begins; some = some; wrong = x.0 }, x.1))
fault_then first octets code rest e some p (inr (_, inr (_, x))) = absurd x

-- a header that has a fault isn't there
pub stuck_fault : (code : ℕ) (rest : List ℕ) (e : GtpuError) → IsFirst (faults_at code rest) e → IsStuck code rest
stuck_fault code rest e (inl x) = stuck_required code rest x.0
stuck_fault code rest e (inr (_, inl x)) = stuck_wrong code rest x.0
stuck_fault code rest e (inr (_, inr (_, x))) = absurd x

-- ---- a search

-- what is left of a chain, and that the first header of the type is there
pub record Leaves (code first : ℕ) (octets : List ℕ) (next : ℕ) (rest : List ℕ) : Type 0 where
  pub left : List ExtensionHeader
  pub are : AreHeaders left next rest
  pub same : (hs : List ExtensionHeader) → AreHeaders hs first octets → content_of code hs ≡ content_of code left

pub leaves_all : (code first : ℕ) (octets : List ℕ) → IsChain first octets → Leaves code first octets first octets
leaves_all code first octets chain = record { left = chain.0; are = chain.1; same = λ hs p. ap (content_of code) (one_chain first octets hs chain.0 p chain.1) }

-- the header that was split off is the first that is left
first_left : (left : List ExtensionHeader) (next : ℕ) (rest content : List ℕ) (after_type : ℕ) (after : List ℕ) → AreHeaders left next rest
    → SplitsOff next rest content after_type after
    → (more : List ExtensionHeader) × (left ≡ record { code = next; content = content } ∷ more) × AreHeaders more after_type after
first_left [] next rest content after_type after p s = absurd (omega (arith, s.0.some, p.first_is))
first_left (k ∷ more) next rest content after_type after p s =
    let h : ExtensionHeader = record { code = next; content = content } in
    let whole : header_octets k (first_type more 0) ++ (chain_octets more 0 ++ []) ≡ header_octets h after_type ++ after =
    sym (append_assoc (header_octets k (first_type more 0)) (chain_octets more 0) []) ∙ sym p.octets_are ∙ s.1 in
    let same = same_header k h (first_type more 0) after_type (chain_octets more 0 ++ []) after p.each.0 s.0 (sym p.first_is) whole in
    (more, ap (λ (x : ExtensionHeader). x ∷ more) same.0, record { each = p.each.1; first_is = sym same.1; octets_are = sym same.2 })

pub leaves_found : (code first : ℕ) (octets : List ℕ) (next : ℕ) (rest content : List ℕ) (after_type : ℕ) (after : List ℕ)
    → Leaves code first octets next rest → SplitsOff next rest content after_type after → next ≡ code
    → (hs : List ExtensionHeader) → AreHeaders hs first octets → Some content ≡ content_of code hs
leaves_found code first octets next rest content after_type after l s is hs p =
    let f = first_left l.left next rest content after_type after l.are s in
    let h : ExtensionHeader = record { code = next; content = content } in
    let here : content_of code (h ∷ f.0) ≡ Some content = ap (λ (b : Bool). option_map (λ (x : ExtensionHeader). x.content) (cond b (Some h) (find (λ (x : ExtensionHeader). x.code == code) f.0))) (eq-eqb next code is) in
    sym here ∙ sym (ap (content_of code) f.1) ∙ sym (l.same hs p)

pub leaves_more : (code first : ℕ) (octets : List ℕ) (next : ℕ) (rest content : List ℕ) (after_type : ℕ) (after : List ℕ)
    → Leaves code first octets next rest → SplitsOff next rest content after_type after → (next == code) ≡ false
    → Leaves code first octets after_type after
leaves_more code first octets next rest content after_type after l s other =
    let f = first_left l.left next rest content after_type after l.are s in
    let h : ExtensionHeader = record { code = next; content = content } in
    let past : content_of code (h ∷ f.0) ≡ content_of code f.0 = ap (λ (b : Bool). option_map (λ (x : ExtensionHeader). x.content) (cond b (Some h) (find (λ (x : ExtensionHeader). x.code == code) f.0))) other in
    record { left = f.0; are = f.2; same = λ hs p. l.same hs p ∙ ap (content_of code) f.1 ∙ past }

no_header : (left : List ExtensionHeader) (code : ℕ) (rest : List ℕ) → AreHeaders left 0 rest → content_of code left ≡ None
no_header [] code rest p = refl
no_header (k ∷ left) code rest p = absurd (omega (arith, p.each.0.some, p.first_is))

pub leaves_none : (code first : ℕ) (octets : List ℕ) (next : ℕ) (rest : List ℕ) → Leaves code first octets next rest → next ≡ 0
    → (hs : List ExtensionHeader) → AreHeaders hs first octets → None ≡ content_of code hs
leaves_none code first octets next rest l none hs p = sym (l.same hs p ∙ no_header l.left code rest (subst (λ (c : ℕ). AreHeaders l.left c rest) none l.are))

-- a header that is left has no fault
stuck_ends : (left : List ExtensionHeader) (next : ℕ) (rest : List ℕ) → 0 < next → AreHeaders left next rest → IsStuck next rest → ⊥
stuck_ends [] next rest some p stuck = omega (arith, p.first_is, some)
stuck_ends (k ∷ left) next rest some p stuck = stuck k (first_type left 0) (chain_octets left 0 ++ []) p.each.0 p.first_is (p.octets_are ∙ append_assoc (header_octets k (first_type left 0)) (chain_octets left 0) [])

pub leaves_no_fault : (code first : ℕ) (octets : List ℕ) (next : ℕ) (rest : List ℕ) (e : GtpuError) → 0 < next
    → Leaves code first octets next rest → IsFirst (faults_at next rest) e → ⊥
leaves_no_fault code first octets next rest e some l fault = stuck_ends l.left next rest some l.are (stuck_fault next rest e fault)

-- ---- chains that are written: none, and one header

pub are_one_header : (h : ExtensionHeader) → IsHeader h → AreHeaders (h ∷ []) h.code (header_octets h 0)
are_one_header h p = record { each = (p, tt); first_is = refl; octets_are = sym (append-nil (header_octets h 0 ++ []) ∙ append-nil (header_octets h 0)) }

pub one_header : (h : ExtensionHeader) → IsHeader h → IsChain h.code (header_octets h 0)
one_header h p = (h ∷ [], are_one_header h p)

pub no_headers : IsChain 0 []
no_headers = ([], record { each = tt; first_is = refl; octets_are = refl })

-- Steps that are among others.
use Rattle.std.proofs.Common.{◌≡◌, ℕ, zero, suc, ◌+◌, ◌<◌, ◌≤◌, List, [], ◌∷◌, ◌++◌, length, take, drop, get_or, refl, sym, subst, inl, inr, arith}
use Rattle.std.proofs.lemmas.List.{take_all}
use Rattle.asn1_defs.specs.declared.graph.Edge.{Edge}
use Rattle.asn1_defs.specs.Paths.{IsAmong}
use Rattle.asn1_module.specs.graph.Walks.{AreAmong}

pub among_at : (es : List Edge) (k : ℕ) (d : Edge) → k < length es → IsAmong (get_or es k d) es
among_at [] k d lt = absurd (omega arith)
among_at (e ∷ es) zero d lt = inl refl
among_at (e ∷ es) (suc k) d lt = inr (among_at es k d (omega arith))

pub take_among : (n : ℕ) (es : List Edge) → AreAmong (take n es) es
take_among zero es e among = elim among [ ]
take_among (suc n) [] e among = elim among [ ]
take_among (suc n) (f ∷ es) e (inl is) = inl is
take_among (suc n) (f ∷ es) e (inr among) = inr (take_among n es e among)

pub drop_among : (n : ℕ) (es : List Edge) → AreAmong (drop n es) es
drop_among zero es e among = among
drop_among (suc n) [] e among = elim among [ ]
drop_among (suc n) (f ∷ es) e among = inr (drop_among n es e among)

pub range_among : (n k : ℕ) (es : List Edge) → AreAmong (take n (drop k es)) es
range_among n k es e among = drop_among k es e (take_among n (drop k es) e among)

pub append_among : (xs ys es : List Edge) → AreAmong xs es → AreAmong ys es → AreAmong (xs ++ ys) es
append_among [] ys es left right e among = right e among
append_among (x ∷ xs) ys es left right e (inl is) = left e (inl is)
append_among (x ∷ xs) ys es left right e (inr among) = append_among xs ys es (λ f here. left f (inr here)) right e among

each_suc : (P : Edge → Type 0) (es : List Edge) (i : ℕ) (d : Edge) → i < length es → ((e : Edge) → IsAmong e (take i es) → P e) → P (get_or es i d) → (e : Edge) → IsAmong e (take (suc i) es) → P e
each_suc P [] i d lt so_far here e among = absurd (omega arith)
each_suc P (f ∷ es) zero d lt so_far here e (inl is) = subst P is here
each_suc P (f ∷ es) zero d lt so_far here e (inr among) = elim among [ ]
each_suc P (f ∷ es) (suc i) d lt so_far here e (inl is) = so_far e (inl is)
each_suc P (f ∷ es) (suc i) d lt so_far here e (inr among) =
    each_suc P es i d (omega arith) (λ g early. so_far g (inr early)) here e among

-- what is so of the steps before an index, and of the one there, is so of those before the next index
pub each_more : (P : Edge → Type 0) (es : List Edge) (i : ℕ) (d : Edge) → i < length es → ((e : Edge) → IsAmong e (take i es) → P e) → P (get_or es i d) → (e : Edge) → IsAmong e (take (i + 1) es) → P e
each_more P es i d lt so_far here e among =
    let next : i + 1 ≡ suc i = omega arith in
    each_suc P es i d lt so_far here e (subst (λ (n : ℕ). IsAmong e (take n es)) next among)

-- what is so of the steps before an index at the end, is so of all
pub each_of_all : (P : Edge → Type 0) (es : List Edge) (i : ℕ) → length es ≤ i → ((e : Edge) → IsAmong e (take i es) → P e) → (e : Edge) → IsAmong e es → P e
each_of_all P es i past so_far e among = so_far e (subst (λ (xs : List Edge). IsAmong e xs) (sym (take_all i es past)) among)

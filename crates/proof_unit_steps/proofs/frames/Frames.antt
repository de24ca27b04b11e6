-- Frames that go on, one after another.
use Rattle.std.proofs.Common.{◌≡◌, ℕ, zero, suc, ◌+◌, List, [], ◌∷◌, ◌++◌, length, Option, Some, None, refl, sym, ap, ◌∙◌, subst, arith}
use Rattle.std.proofs.lemmas.List.{length-append}
use Rattle.gnb_types.specs.declared.names.NodeId.{NodeId}
use Rattle.unit_defs.specs.CuUpRecords.{DownlinkTunnel}
use Rattle.proof_unit_steps.specs.frames.Numbered.{Frame, frames_from, GoOn}

frames_both : (du : NodeId) (teid a number b : ℕ) → frames_from du teid number a ++ frames_from du teid (number + a) b ≡ frames_from du teid number (a + b)
frames_both du teid zero number b =
    let from : number + 0 ≡ number = omega arith in
    let many : b ≡ 0 + b = omega arith in
    λ i. frames_from du teid (from i) (many i)
frames_both du teid (suc a) number b =
    let from : number + suc a ≡ number + 1 + a = omega arith in
    let many : suc (a + b) ≡ suc a + b = omega arith in
    ap (λ (n : ℕ). record { to = du; teid = teid; number = number } ∷ (frames_from du teid (number + 1) a ++ frames_from du teid n b)) from
    ∙ ap (λ (fs : List Frame). record { to = du; teid = teid; number = number } ∷ fs) (frames_both du teid a (number + 1) b)
    ∙ ap (frames_from du teid number) many

pub stay : (d : Option DownlinkTunnel) → GoOn d [] d
stay None = (refl, refl)
stay (Some d) = let same : d.next ≡ d.next + 0 = omega arith in (refl, λ i. Some (record d { next = same i }))

pub on_with : (d e : Option DownlinkTunnel) (fs : List Frame) → fs ≡ [] → e ≡ d → GoOn d fs e
on_with d e fs none same =
    subst (λ (x : Option DownlinkTunnel). GoOn d fs x) (sym same) (subst (λ (gs : List Frame). GoOn d gs d) (sym none) (stay d))

pub on_then : (a b c : Option DownlinkTunnel) (fs gs : List Frame) → GoOn a fs b → GoOn b gs c → GoOn a (fs ++ gs) c
on_then None b c fs gs p q =
    let rest = subst (λ (x : Option DownlinkTunnel). GoOn x gs c) p.1 q in ((λ i. p.0 i ++ rest.0 i), rest.1)
on_then (Some d) b c fs gs p q =
    let rest = subst (λ (x : Option DownlinkTunnel). GoOn x gs c) p.1 q in
    let long : length fs + length gs ≡ length (fs ++ gs) = sym (length-append fs gs) in
    let far : d.next + length fs + length gs ≡ d.next + length (fs ++ gs) = omega (arith, long) in (
      (λ i. p.0 i ++ rest.0 i) ∙ frames_both d.du d.teid (length fs) d.next (length gs) ∙ ap (frames_from d.du d.teid d.next) long,
      rest.1 ∙ (λ i. Some (record d { next = far i })),
    )

-- Numbers that go on, one after another; and those of a bearer's frames on one tunnel.
use Rattle.std.proofs.Common.{◌≡◌, ℕ, zero, suc, ◌+◌, Bool, true, false, List, [], ◌∷◌, ◌++◌, length, Option, Some, None, refl, sym, ap, ◌∙◌, subst, arith}
use Rattle.std.specs.Prelude.{if◌then◌else◌}
use Rattle.gnb_types.specs.declared.names.NodeId.{NodeId}
use Rattle.gnb_types.specs.declared.keys.TunnelEnd.{TunnelEnd}
use Rattle.unit_defs.specs.CuUpRecords.{DownlinkTunnel}
use Rattle.proof_unit_steps.specs.frames.Numbered.{Frame, frames_from, GoOn}
use Rattle.proof_unit_steps.specs.tunnel_frames.OneTunnel.{is_tunnel, numbers_on, CountTo, Leads, NextIs}

pub count_then : (a : ℕ) (xs : List ℕ) (b : ℕ) (ys : List ℕ) (c : ℕ) → CountTo a xs b → CountTo b ys c → CountTo a (xs ++ ys) c
count_then a [] b ys c p q = subst (λ (k : ℕ). CountTo k ys c) p q
count_then a (x ∷ xs) b ys c p q = (p.0, count_then (a + 1) xs b ys c p.1 q)

pub not_both : (t : Bool) → t ≡ true → t ≡ false → ⊥
not_both true p q = absurd cc
not_both false p q = absurd cc

module _ (end : TunnelEnd) where
  on_none : (du : NodeId) (teid number n : ℕ) → is_tunnel end du teid ≡ false → numbers_on end (frames_from du teid number n) ≡ []
  on_none du teid number zero off = refl
  on_none du teid number (suc n) off =
      ap (λ (t : Bool). (if t then number ∷ [] else []) ++ numbers_on end (frames_from du teid (number + 1) n)) off ∙ on_none du teid (number + 1) n off

  on_all : (du : NodeId) (teid number n : ℕ) → is_tunnel end du teid ≡ true → CountTo number (numbers_on end (frames_from du teid number n)) (number + n)
  on_all du teid number zero on = omega arith
  on_all du teid number (suc n) on =
      let far : number + 1 + n ≡ number + suc n = omega arith in
      subst (λ (t : Bool). CountTo number ((if t then number ∷ [] else []) ++ numbers_on end (frames_from du teid (number + 1) n)) (number + suc n)) (sym on)
      (refl, subst (λ (m : ℕ). CountTo (number + 1) (numbers_on end (frames_from du teid (number + 1) n)) m) far (on_all du teid (number + 1) n on))

  -- the frames of a bearer whose downlink was this one, and is that one then
  abbrev pub Went : ℕ → Option DownlinkTunnel → List Frame → Option DownlinkTunnel → Type 0
  Went count d frames after =
      (more : ℕ) × CountTo count (numbers_on end frames) more × (Leads end after → NextIs more after × Leads end d) × ((Leads end d → ⊥) → more ≡ count)

  pub went : (count : ℕ) (d : Option DownlinkTunnel) (frames : List Frame) (after : Option DownlinkTunnel) → GoOn d frames after → (Leads end d → NextIs count d)
      → Went count d frames after
  went count None frames after p is = (
    count,
    subst (λ (fs : List Frame). CountTo count (numbers_on end fs) count) (sym p.0) refl,
    λ l. absurd (subst (Leads end) p.1 l),
    λ off. refl,
  )
  went count (Some d) frames after p is = by (is_tunnel end d.du d.teid) refl
    where
      n : ℕ
      n = length frames

      back : Leads end after → is_tunnel end d.du d.teid ≡ true
      back l = subst (Leads end) p.1 l

      by : (t : Bool) → is_tunnel end d.du d.teid ≡ t → Went count (Some d) frames after
      by true on =
          let start : d.next ≡ count = is on in (
            count + n,
            subst (λ (fs : List Frame). CountTo count (numbers_on end fs) (count + n)) (sym p.0)
                (subst (λ (m : ℕ). CountTo count (numbers_on end (frames_from d.du d.teid m n)) (count + n)) (sym start) (on_all d.du d.teid count n on)),
            λ l. (subst (NextIs (count + n)) (sym p.1) (ap (λ (m : ℕ). m + n) start), on),
            λ off. absurd (off on),
          )
      by false off = (
        count,
        subst (λ (ns : List ℕ). CountTo count ns count) (sym (ap (numbers_on end) p.0 ∙ on_none d.du d.teid d.next n off)) refl,
        λ l. absurd (not_both (is_tunnel end d.du d.teid) (back l) off),
        λ h. refl,
      )
